use mathlib.Core.Path.{ap, ◌∙◌}
use Prim.Native.Nat.{ℕ}
use mathlib.Core.List.{List, ◌++◌}
use lib.ListN.{drop}
use Rattle.asking.specs.declared.Answer.{Answer}
use Rattle.asking.specs.Asking.{answer_by}
use Rattle.coded.specs.Coded.{numbers_of}
use Rattle.cell_runs.proofs.put_said.Goals as goal

pub returns : goal.returns
returns c =
    let y = c.answer_numbers.ensures ∙ ap (λ (x : Answer). numbers_of (answer_by x)) c.by_cell.ensures in
    c.put_four.ensures ∙ ap (λ (x : List ℕ). x ++ drop 4 c.args.out.now) y
