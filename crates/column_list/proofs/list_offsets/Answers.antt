use native.Mathlib.Omega.{arith}
use Rattle.checking.specs.Checks.{layout_by}
use Rattle.column_list.proofs.ListLaws.{told_opens, listed_cleared, listed_start, listed_all, turn_inside, turn}
use Rattle.column_list.proofs.list_offsets.Goals as goal

pub returns-in-Err : goal.returns-in-Err
returns-in-Err c =
    let a = c.args in
    listed_cleared a.f.now (layout_by a.l) a.t.now c.requires _ c.in-Err.ensures c.least-n.result c.least-n.ensures _ c.put_zeros.ensures

pub returns-in_err-o : goal.returns-in_err-o
returns-in_err-o c = absurd (told_opens c.args.f.now (layout_by c.args.l) 1 c.in-Ok.c c.in-Ok.ensures _ c.in_err-o.ensures)

pub loop-v-init : goal.loop-v-init
loop-v-init c =
    let a = c.args in
    listed_start a.f.now (layout_by a.l) c.in-Ok.c c.in-Ok.ensures a.t.now c.requires c.least-n.result c.least-n.ensures

pub column_after-c-requires : goal.column_after-c-requires
column_after-c-requires c =
    let a = c.args in
    turn_inside a.f.now (layout_by a.l) c.in_ok-o.o c.in_ok-o.ensures (omega (arith, c.well_formed)) _ c.types_of-types.ensures c.loop-v.invariant c.loop-v-test.true

pub loop-v-preserved : goal.loop-v-preserved
loop-v-preserved c =
    let a = c.args in
    turn a.f.now (layout_by a.l) c.in_ok-o.o c.in_ok-o.ensures (omega (arith, c.well_formed)) _ c.types_of-types.ensures c.loop-v.invariant c.loop-v-test.true _ c.column_after-c.ensures

pub returns : goal.returns
returns c = listed_all c.args.t.now c.in-Ok.c.offset c.loop-v.invariant c.loop-v-test.false c.in-Ok.c c.in-Ok.ensures
