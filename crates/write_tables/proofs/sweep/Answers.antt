use mathlib.Core.Path.{◌≡◌, ◌∙◌}
use mathlib.Core.Bool.{cond, not, ◌||◌}
use Prim.Native.Nat.{◌+◌}
use lib.ListN.{get_or}
use lib.Dec.{eqb}
use native.Mathlib.Omega.{arith}
use borrow.Author.Tests.{eq-eqb, ne_eqb}
use Rattle.write_tables.proofs.MarkLaws.{sweep_turn}
use Rattle.write_tables.proofs.sweep.Goals.{then-out-j-ne0, else-out-j-ne0, then-live, else-live}
use Rattle.write_tables.proofs.sweep.Goals as goal

pub loop-j-preserved : goal.loop-j-preserved
loop-j-preserved c =
    let a = c.args in
    let l = c.loop-j in
    let live : c.if-out-j-ne0.live ≡ (not (eqb (get_or l.out l.j 0) 0) || l.on) =
    elim c.if-out-j-ne0.branch [ then-out-j-ne0 w ↦ w.live-is ∙ rw (ne_eqb (get_or l.out l.j 0) 0 w.if-out-j-ne0.true) | else-out-j-ne0 w ↦ rw (eq-eqb _ 0 w.if-out-j-ne0.false) w.live-is ] in
    let x : c.if-live.x ≡ cond c.if-out-j-ne0.live (get_or a.f.now (a.t + l.j) 0) 0 =
    elim c.if-live.branch [ then-live w ↦ rw w.if-live.true w.x-is | else-live w ↦ rw w.if-live.false w.x-is ] in
    sweep_turn a.out.now a.f.now a.t l.j l.on l.invariant.0 l.invariant.1 (omega arith) c.if-out-j-ne0.live live c.if-live.x x
