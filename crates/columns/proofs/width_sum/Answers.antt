use mathlib.Core.Path.{ap, ◌∙◌}
use Prim.Native.Nat.{◌+◌, ◌*◌, ◌≤◌}
use native.Mathlib.Omega.{arith}
use lib.ListN.{length}
use Rattle.reading.specs.Reads.{read_by}
use Rattle.format.specs.Number.{order_by}
use Rattle.format.specs.Edition.{code_width}
use Rattle.data.proofs.PlaceLaws.{row_in_lem}
use Rattle.columns.proofs.ColumnLaws.{capped_min, sum_start, sum_end, sum_none, sum_on}
use Rattle.columns.proofs.width_sum.Goals as goal

pub loop-j-init : goal.loop-j-init
loop-j-init c =
    let a = c.args in
    sum_start a.tagged (order_by a.msf) a.f.now a.n a.p

pub returns-then-x-eq0 : goal.returns-then-x-eq0
returns-then-x-eq0 c =
    let a = c.args in
    let l = c.loop-j in
    let b = c.loop-j-test.true in
    let h : a.p + l.j * code_width a.tagged + code_width a.tagged ≤ length a.f.now = omega (arith, row_in_lem l.j a.n (code_width a.tagged) b, c.requires) in
    ap read_by (sum_none a.tagged (order_by a.msf) a.f.now a.n a.p l.sum l.j l.invariant b h _ c.field_at-x.ensures c.if-x-eq0.true)

pub loop-j-preserved : goal.loop-j-preserved
loop-j-preserved c =
    let a = c.args in
    let l = c.loop-j in
    let b = c.loop-j-test.true in
    let h : a.p + l.j * code_width a.tagged + code_width a.tagged ≤ length a.f.now = omega (arith, row_in_lem l.j a.n (code_width a.tagged) b, c.requires) in
    sum_on a.tagged (order_by a.msf) a.f.now a.n a.p l.sum l.j l.invariant b h _ c.field_at-x.ensures c.if-x-eq0.false _
    (c.saturating_add-sum.ensures ∙ capped_min (l.sum + c.field_at-x.result.width))

pub returns : goal.returns
returns c =
    let a = c.args in
    let l = c.loop-j in
    ap read_by (sum_end a.tagged (order_by a.msf) a.f.now a.n a.p l.sum l.j l.invariant c.loop-j-test.false)
