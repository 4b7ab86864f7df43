use mathlib.Core.Path.{◌≡◌}
use native.Mathlib.Omega.{arith}
use Rattle.std.specs.Prelude.{Some}
use Rattle.format.specs.Number.{order_by}
use Rattle.walks.specs.Walks.{BlockGot}
use Rattle.set_tables.proofs.PassLaws.{going_starts, going_turn}
use Rattle.set_tables.proofs.pass.Goals as goal

pub loop-p-init : goal.loop-p-init
loop-p-init c = going_starts _ _ _ _ _ _ _ _ _ c.requires.3 c.requires.1

pub loop-p-preserved : goal.loop-p-preserved
loop-p-preserved c =
    let a = c.args in
    let p = c.loop-p in
    let b = c.in_ok-b.b in
    let z : c.block_at.result ≡ Some b = grind arith in
    let g : BlockGot a.o.e.tagged a.o.e.name_width (order_by a.o.msf) a.f.now a.end p.p b.table b.name = rw z at c.block_at.ensures in
    going_turn _ _ _ _ _ _ _ _ _ _ _ p.invariant c.loop-p-test.true _ _ g _ _ c.open_size.ensures.0 c.close_size.ensures.0 _ c.mark.ensures
