use Prim.Native.Nat.{◌-◌}
use native.Mathlib.Omega.{arith}
use Rattle.text.proofs.TextLaws.{last_is}
use Rattle.text.proofs.zero_last.Goals as goal

pub returns : goal.returns
returns c =
    let a = c.args in
    last_is a.f.now a.p a.n (a.n - 1) (omega arith) c.zero_in-z.result c.zero_in-z.ensures
