use mathlib.Core.Path.{◌≡◌, ◌∙◌}
use native.Mathlib.Omega.{arith}
use Rattle.std.specs.Prelude.{None, Some, Err}
use Rattle.refusal.specs.declared.Refusal.TheVariants.{NotReadable}
use Rattle.reading.proofs.ReadLaws.{read_none, read_got}
use Rattle.cells.specs.Cells.{cell_said}
use Rattle.format.specs.Variables.{text_type}
use Rattle.cells.proofs.CellLaws.{said_none, said_cell, text_said_none, text_said}
use Rattle.cells.proofs.read_text.Goals as goal

pub returns-in_err-n : goal.returns-in_err-n
returns-in_err-n c =
    let a = c.args in
    let z : None ≡ c.text_in.result = grind arith in
    let r : c.from_residual.result ≡ Err NotReadable = grind arith in
    λ e o. said_none (cell_said e o a.f.now (text_type a.width) a.p) 17 _ r (text_said_none e o a.f.now a.width a.p (read_none _ (z ∙ c.text_in.ensures)))

pub returns : goal.returns
returns c =
    let a = c.args in
    let z : Some c.in_ok-n.n ≡ c.text_in.result = grind arith in
    λ e o. said_cell (cell_said e o a.f.now (text_type a.width) a.p) _ (text_said e o a.f.now a.width a.p _ (read_got _ _ (z ∙ c.text_in.ensures)))
