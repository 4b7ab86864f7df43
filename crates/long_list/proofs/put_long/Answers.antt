use Prim.Native.Nat.{◌+◌}
use mathlib.Core.List.{[], ◌∷◌}
use native.Mathlib.Omega.{arith}
use lib.Seq.{lt-length-sets}
use Rattle.long_list.proofs.TellLaws.{puts_stores}
use Rattle.long_list.proofs.put_long.Goals as goal

pub bounds-out-1 : goal.bounds-out-1
bounds-out-1 c = lt-length-sets c.args.out.now 0 (c.number-v.result ∷ []) (omega arith)

pub bounds-out-2 : goal.bounds-out-2
bounds-out-2 c = lt-length-sets c.args.out.now 0 (c.number-v.result ∷ c.number-o.result ∷ []) (omega arith)

pub bounds-out-3 : goal.bounds-out-3
bounds-out-3 c = lt-length-sets c.args.out.now 0 (c.number-v.result ∷ c.number-o.result ∷ c.number-kind.result ∷ []) (omega arith)

pub returns : goal.returns
returns c =
    let k = c.number-kind in
    let o = c.number-o in
    let v = c.number-v in
    let a = c.args in
    puts_stores (v.result ∷ o.result ∷ k.result ∷ (a.p + (12 + a.ow)) ∷ a.n ∷ []) a.out.now (rw (v.ensures.is, o.ensures.is, k.ensures.is)) (omega arith)
