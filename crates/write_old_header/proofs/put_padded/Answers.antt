use mathlib.Core.Path.{◌≡◌, refl, ap, ◌∙◌}
use mathlib.Core.List.{List, ◌++◌}
use Prim.Native.Nat.{ℕ, ◌+◌, ◌-◌}
use native.Mathlib.Omega.{arith}
use lib.ListN.{length, drop, replicate, length-replicate}
use lib.Seq.{take_all}
use Rattle.text.proofs.Lay.{laid_first, laid_part, laid_as}
use Rattle.writing.proofs.Chain.{puts_of}
use Rattle.write_old_header.proofs.OldLaws.{padded_as}
use Rattle.write_old_header.proofs.put_padded.Goals as goal

pub returns : goal.returns
returns c =
    let a = c.args in
    let t = a.t.now in
    let n = length t in
    let b = c.put_bytes in
    let z = c.put_zeros in
    let put : b.new.out ≡ t ++ drop n a.out.now = b.ensures ∙ ap (λ (x : List ℕ). x ++ drop n a.out.now) (take_all n t (omega arith)) in
    let ends : n + (a.w - n) ≡ a.w = omega arith in
    let one = laid_first t a.out.now b.new.out n put refl (omega arith) in
    let two = laid_part one (replicate (a.w - n) 0) z.new.out (a.w - n) (length-replicate _ 0) (omega arith) z.ensures in
    (refl, puts_of (laid_as two (padded_as a.w n t refl (omega arith)) ends))
