use mathlib.Core.Path.{sym, ap, ◌∙◌}
use Rattle.format.specs.Number.{order_by}
use Rattle.editions.specs.Editions.{numbers_of}
use Rattle.checking.specs.Checks.{layout_by}
use Rattle.walks.specs.Answers as Walks
use Rattle.cell.specs.declared.Cell.{Cell}
use Rattle.cell.specs.Cells.{says}
use Rattle.long_strings.specs.Longs.{long_said}
use Rattle.long_strings.proofs.LongLaws.{long_none}
use Rattle.long_strings.proofs.long_by.Goals as goal

pub returns-in_default : goal.returns-in_default
returns-in_default c = let a = c.args in long_none (numbers_of a.e) (order_by a.msf) a.f.now (layout_by a.l) a.c c.in_default.not-Reference

pub returns-in-Reference : goal.returns-in-Reference
returns-in-Reference c =
    let a = c.args in
    c.reference_long.ensures ∙ ap (λ (k : Cell). Walks.long_by (long_said (numbers_of a.e) (order_by a.msf) a.f.now (layout_by a.l) (says k))) (sym c.in-Reference.is)
