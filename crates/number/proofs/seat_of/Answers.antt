use mathlib.Core.Path.{◌≡◌, sym}
use Prim.Native.Nat.{ℕ, suc, ◌-◌}
use native.Mathlib.Omega.{arith}
use native.Mathlib.Numerals.{add-one}
use borrow.Author.Rules.{rules}
use mathlib.Core.Bool.{Bool, true, false}
use Rattle.format.specs.Number.{order_by, seat}
use Rattle.number.proofs.seat_of.Goals as goal

seat_msf : (t : Bool) (w k : ℕ) → t ≡ true → seat (order_by t) w k ≡ k
seat_msf t w k h = rw h

seat_lsf : (t : Bool) (w k : ℕ) → t ≡ false → seat (order_by t) w k ≡ w - suc k
seat_lsf t w k h = rw h

pub returns-then-msf : goal.returns-then-msf
returns-then-msf c = (sym (seat_msf _ _ _ c.if-msf.true), search rules)

pub returns-else-msf : goal.returns-else-msf
returns-else-msf c = (rw add-one (sym (seat_lsf _ _ _ c.if-msf.false)), omega arith)
