use mathlib.Core.Path.{refl}
use Rattle.questions.specs.Ask.{ask_n}
use Rattle.checking.specs.Checks.{layout_by}
use Rattle.header_facts.proofs.HeadLaws.{number_told}
use Rattle.header_facts.proofs.rows.Goals as goal

pub returns : goal.returns
returns c = number_told (layout_by c.args.l) ask_n _ refl (λ e o f. refl) _ c.number_if.ensures
