use mathlib.Core.Path.{refl}
use Rattle.questions.specs.Ask.{ask_k}
use Rattle.checking.specs.Checks.{layout_by}
use Rattle.header_facts.proofs.HeadLaws.{number_told}
use Rattle.header_facts.proofs.variables.Goals as goal

pub returns : goal.returns
returns c = number_told (layout_by c.args.l) ask_k _ refl (λ e o f. refl) _ c.number_if.ensures
