use Prim.Native.Nat.{◌≤◌, ◌+◌, ◌-◌}
use mathlib.Core.Path.{◌≡◌}
use native.Mathlib.Omega.{arith}
use lib.ListN.{length, take, drop, replicate, length-replicate, length-drop}
use lib.Seq.{length-take-le}
use Rattle.text.proofs.Lay.{laid_first, laid_part, laid_as}
use Rattle.text.proofs.TextLaws.{text_put}
use Rattle.text.proofs.put_text.Goals as goal

pub returns : goal.returns
returns c =
    let a = c.args in
    let m = c.text_len-m.result in
    let part = drop a.p a.f.now in
    let inside : m ≤ length part = simp length-drop (omega arith) in
    let ends : m + (a.n - m) ≡ a.n = omega arith in
    let first = laid_first (take m part) a.out.now c.put_bytes.new.out m c.put_bytes.ensures (length-take-le m part inside) (omega arith) in
    let both = laid_part first (replicate (a.n - m) 0) c.put_zeros.new.out (a.n - m) (length-replicate _ 0) (omega arith) c.put_zeros.ensures in
    (laid_as both (text_put a.f.now a.w a.p m a.n (omega arith) c.text_len-m.ensures.is (omega arith)) ends).is
