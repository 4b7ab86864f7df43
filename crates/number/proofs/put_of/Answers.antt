use mathlib.Core.Path.{ap, ◌∙◌}
use mathlib.Core.List.{List, ◌++◌}
use lib.ListN.{drop}
use Rattle.format.specs.Slot.{Slot, fill}
use Rattle.number.proofs.SwapLaws.{slots_ordered}
use Rattle.number.proofs.put_of.Goals as goal

pub returns : goal.returns
returns g c =
    c.put_little.ensures
    ∙ ap (λ (P : List Slot). fill P ++ drop g.row.W c.args.out.now) (slots_ordered c.args.msf g.row.W c.args.n _ c.ordered.ensures)
