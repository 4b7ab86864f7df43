use mathlib.Core.Path.{◌≡◌, refl, ap, ◌∙◌}
use mathlib.Core.List.{List, ◌++◌}
use Prim.Native.Nat.{ℕ, ◌-◌}
use native.Mathlib.Omega.{arith}
use lib.ListN.{length, take, drop}
use lib.Seq.{take_all}
use Rattle.format.specs.Number.{order_by}
use Rattle.text.proofs.Lay.{laid_first, laid_part}
use Rattle.writing.proofs.Chain.{puts_of}
use Rattle.write_new_header.specs.Parts.{num_bytes}
use Rattle.write_new_header.proofs.NewLaws.{num_length}
use Rattle.write_new_header.proofs.put_counted.Goals as goal

pub returns : goal.returns
returns c =
    let a = c.args in
    let h = c.put_number in
    let b = c.put_bytes in
    let t = a.t.now in
    let n = length t in
    let digits = num_bytes (order_by a.msf) a.w n in
    let tail = take (length h.new.out - a.w) (drop a.w h.new.out) in
    let put : b.new.out ≡ t ++ drop n tail = b.ensures ∙ ap (λ (x : List ℕ). x ++ drop n tail) (take_all n t (omega arith)) in
    let one = laid_first digits a.out.now h.new.out a.w h.ensures (num_length (order_by a.msf) a.w n) (omega arith) in
    let two = laid_part one t b.new.out n refl (omega arith) put in
    (refl, puts_of two)
