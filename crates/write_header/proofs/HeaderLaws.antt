-- The header by whether the edition is tagged: how long it is, and that it is written.
use mathlib.Core.Path.{◌≡◌, sym, ap, subst}
use Prim.Native.Nat.{ℕ, ◌+◌}
use native.Mathlib.Omega.{arith}
use mathlib.Core.List.{List}
use mathlib.Core.Bool.{Bool, true, false}
use Rattle.format.specs.Slot.{fill}
use Rattle.format.specs.Number.{Order}
use Rattle.format.specs.Grammar.{Sect}
use Rattle.format.specs.Edition as Format
use Rattle.format.specs.Header.{Head, old_header, new_header, header_by, header}
use Rattle.writing.specs.Writes.{Puts}
use Rattle.editions.specs.declared.Edition.{Edition}
use Rattle.editions.specs.Editions.{numbers_of}
use Rattle.write_old_header.proofs.OldLaws.{old_size}
use Rattle.write_new_header.proofs.NewLaws.{new_size}
use Rattle.write_header.specs.Parts.{HeaderSize}

-- by whether the edition is tagged
header_new : (t : Bool) (e : Format.Edition) (o : Order) → t ≡ true → header_by t e o ≡ new_header e.number o e.n_width e.label_length e.label_max
header_new t e o h = rw h

header_old : (t : Bool) (e : Format.Edition) (o : Order) → t ≡ false → header_by t e o ≡ old_header e.number o e.n_width e.label_max
header_old t e o h = rw h

module _ (e : Edition) (label stamp : ℕ) where
  pub new_sized : e.tagged ≡ true → HeaderSize e label stamp (131 + (e.n_width + (e.label_length + (label + stamp))))
  new_sized h =
      record {
        is = λ o k n l s p q.
            (let z = new_size e.number o e.n_width e.label_length e.label_max k n l s in
            let y = ap (λ (S : Sect Head). S.size (k, (n, (l, s)))) (header_new e.tagged (numbers_of e) o h) in
            omega (arith, y, z, p, q));
      }

  pub old_sized : e.tagged ≡ false → HeaderSize e label stamp (25 + (e.n_width + e.label_max))
  old_sized h =
      record {
        is = λ o k n l s p q.
            (let z = old_size e.number o e.n_width e.label_max k n l s in
            let y = ap (λ (S : Sect Head). S.size (k, (n, (l, s)))) (header_old e.tagged (numbers_of e) o h) in
            omega (arith, y, z));
      }

module _ (e : Edition) (o : Order) (v : Head) (d w : List ℕ) (r : ℕ) where
  pub new_put : e.tagged ≡ true → Puts (fill ((new_header e.number o e.n_width e.label_length e.label_max).slots v)) d w r
      → Puts (fill ((header (numbers_of e) o).slots v)) d w r
  new_put h p = subst (λ (S : Sect Head). Puts (fill (S.slots v)) d w r) (sym (header_new e.tagged (numbers_of e) o h)) p

  pub old_put : e.tagged ≡ false → Puts (fill ((old_header e.number o e.n_width e.label_max).slots v)) d w r
      → Puts (fill ((header (numbers_of e) o).slots v)) d w r
  old_put h p = subst (λ (S : Sect Head). Puts (fill (S.slots v)) d w r) (sym (header_old e.tagged (numbers_of e) o h)) p
