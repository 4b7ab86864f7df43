use mathlib.Core.Path.{◌≡◌, ap, ◌∙◌}
use Prim.Native.Nat.{◌+◌}
use Rattle.std.specs.Prelude.{Some}
use Rattle.questions.specs.Ask.{record_head}
use Rattle.walks.specs.Walks.{length_at}
use native.Mathlib.Omega.{arith}
use Rattle.format.specs.Number.{order_by}
use Rattle.walks.proofs.RecordLaws.{size_out, size_past, size_in, length_is}
use Rattle.walks.proofs.record_size.Goals.{then-end-q-2-via-then-end-q-2, then-end-q-2-via-else-end-q-2+then-f-q}
use Rattle.walks.proofs.record_size.Goals as goal

pub returns-then-f-p : goal.returns-then-f-p
returns-then-f-p c = let a = c.args in record { is = size_out a.w (order_by a.msf) a.f.now a.end a.p (omega arith); inside = tt }

pub returns-then-end-q : goal.returns-then-end-q
returns-then-end-q c = let a = c.args in record { is = size_past a.w (order_by a.msf) a.f.now a.end a.p (omega arith); inside = tt }

pub returns-then-end-q-2 : goal.returns-then-end-q-2
returns-then-end-q-2 c =
    let a = c.args in
    let f = a.f.now in
    let w = a.w in
    let o = order_by a.msf in
    let n = length_is w o f a.p c.number-n.result c.number-n.ensures.is in
    record {
      is = elim c.then-end-q-2.branch [
        | then-end-q-2-via-then-end-q-2 x ↦ size_past w o f a.end a.p (omega (arith, n))
        | then-end-q-2-via-else-end-q-2+then-f-q x ↦ size_out w o f a.end a.p (omega (arith, n))
      ];
      inside = tt;
    }

pub returns : goal.returns
returns c =
    let a = c.args in
    let f = a.f.now in
    let w = a.w in
    let o = order_by a.msf in
    let n = length_is w o f a.p c.number-n.result c.number-n.ensures.is in
    let h : 12 + w + c.number-n.result ≡ record_head w + length_at w o f a.p = omega (arith, n) in
    record { is = ap Some h ∙ size_in w o f a.end a.p (omega (arith, n)) (omega (arith, n)); inside = (omega arith, omega (arith, n)) }
