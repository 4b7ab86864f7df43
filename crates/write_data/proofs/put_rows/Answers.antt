use mathlib.Core.Path.{sym, ◌∙◌}
use native.Mathlib.Omega.{arith}
use Rattle.write_data.specs.Rows.{forms, Eights}
use Rattle.write_data.proofs.RowLaws.{one_size, one_puts, rows_puts}
use Rattle.write_data.proofs.put_rows.Goals as goal

pub put_run-requires : goal.put_run-requires
put_run-requires c =
    let a = c.args in
    let F = c.requires.0 in
    let h = forms a.g a.tomsf a.tov a.too in
    let E : Eights h = record { before = F.eight; after = c.requires.2 } in
    let s = one_size a.f.now a.g h F E _ _ c.plan-r.ensures (sym c.one_run.ensures ∙ c.if-one_run.true) in
    (omega (arith, F.inside), omega arith, E)

pub returns-then-one_run : goal.returns-then-one_run
returns-then-one_run c =
    let a = c.args in
    let f = a.f.now in
    let F = c.requires.0 in
    let h = forms a.g a.tomsf a.tov a.too in
    let E : Eights h = record { before = F.eight; after = c.requires.2 } in
    let w = c.row_width-w.ensures in
    rows_puts f a.g h F E _ w a.out.now _ (one_puts f a.g h F E _ _ c.plan-r.ensures (sym c.one_run.ensures ∙ c.if-one_run.true) _ w a.out.now _ c.put_run.ensures)
