use Prim.Native.Nat.{◌+◌, ◌-◌}
use mathlib.Core.Path.{◌≡◌}
use lib.ListN.{length}
use Rattle.format.specs.Grammar.{text_at}
use Rattle.text.proofs.text_len.Given as goal

abbrev pub invariant-loop-n : goal.invariant-loop-n
invariant-loop-n l = l.n + length (text_at (l.w - l.n) l.f (l.p + l.n)) ≡ length (text_at l.w l.f l.p)
