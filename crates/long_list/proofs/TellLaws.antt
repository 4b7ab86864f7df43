-- A loop over sections that stand one after another and are told as numbers: those that are counted, or put, and those that are left.
use mathlib.Core.Path.{◌≡◌, refl, sym, ap, ◌∙◌, subst}
use Prim.Native.Nat.{ℕ, ◌+◌, ◌-◌, ◌≤◌, ◌<◌}
use native.Mathlib.Omega.{arith}
use mathlib.Core.List.{List, [], ◌∷◌, ◌++◌, append_assoc, append-nil}
use borrow.Rule.Slice.PartMut.{put_mid}
use lib.ListN.{length, take, drop, length-append}
use lib.Seq.{sets, sets-eq}
use Rattle.format.specs.Grammar.{Sect, all_slots, sizes}
use Rattle.format.proofs.SlotLaws.{fits_bound}
use Rattle.format.proofs.Good.{Good, all_sized}
use Rattle.text.proofs.Lay.{Laid, laid_none}
use Rattle.writing.specs.Writes.{Puts, Stand}
use Rattle.writing.proofs.Chain.{puts_part, puts_of}
use Rattle.writing.proofs.StandLaws.{Next, stand_next, stand_end, stand_same}
use Rattle.long_list.specs.Told.{ToldRoom, ToldCount, ToldPut}

-- numbers stored one after another from the front
pub puts_stores : {t : List ℕ} (v d : List ℕ) → v ≡ t → length v ≤ length d → Puts t d (sets d 0 v) (length v)
puts_stores v d e h =
    let z : 0 + length v ≡ length v = omega arith in
    record { is = sets-eq v d 0 (omega arith) ∙ rw (z, e); long = ap length e }

-- sections E that are told by F, each by its numbers N, which are no more than its bytes
pub record Teller (A : Type 0) : Type 1 where
  pub E : Sect A
  pub G : Good 0 ◌≤◌ E
  pub some : (a : A) → 0 < E.size a
  pub F : ℕ → List A → List ℕ
  pub N : ℕ → A → List ℕ
  pub none : (p : ℕ) → F p [] ≡ []
  pub more : (p : ℕ) (a : A) (l : List A) → F p (a ∷ l) ≡ N p a ++ F (p + E.size a) l
  pub small : (p : ℕ) (a : A) → length (N p a) ≤ E.size a

module _ {A : Type 0} (T : Teller A) (f : List ℕ) (p q : ℕ) where
  -- those before `at` are n numbers; all are at most m
  pub record TellCounted (m at n : ℕ) : Type 0 where
    pub list : List A
    pub stand : Stand T.E f p q list
    pub room : length (T.F p list) ≤ m
    pub left : List A
    pub rest : Stand T.E f at q left
    pub count : n + length (T.F at left) ≡ length (T.F p list)

  -- those before `at` are put over d, as n numbers
  pub record TellDone (d w : List ℕ) (at n : ℕ) : Type 0 where
    pub counted : TellCounted (length d) at n
    pub told : List ℕ
    pub whole : told ++ T.F at counted.left ≡ T.F p counted.list
    pub laid : Laid told n d w

-- they are no more numbers than the file has bytes
module _ {A : Type 0} (T : Teller A) where
  told_small : (p : ℕ) (l : List A) → length (T.F p l) ≤ sizes T.E l
  told_small p [] = omega (arith, ap length (T.none p))
  told_small p (a ∷ l) =
      let n = length-append (T.N p a) (T.F (p + T.E.size a) l) in
      omega (arith, ap length (T.more p a l), n, T.small p a, told_small (p + T.E.size a) l)

  pub told_room : {f : List ℕ} {p q : ℕ} {l : List A} → Stand T.E f p q l → ToldRoom T.E T.F f p q (length f)
  told_room {f} {p} {q} {l} s =
      record { list = l; stand = s; room = omega (arith, told_small p l, fits_bound f p (all_slots T.E l) s.fits, all_sized T.E T.G l) }

module _ {A : Type 0} {T : Teller A} {f : List ℕ} {p q : ℕ} where
  pub tell_counted : {m : ℕ} → ToldRoom T.E T.F f p q m → TellCounted T f p q m p 0
  tell_counted r = record { list = r.list; stand = r.stand; room = r.room; left = r.list; rest = r.stand; count = omega arith }

  pub tell_done : {d : List ℕ} → ToldRoom T.E T.F f p q (length d) → TellDone T f p q d d p 0
  unfolding tell_counted
  tell_done {d} r = record { counted = tell_counted r; told = []; whole = refl; laid = laid_none d }

  -- the next
  module _ {m at n : ℕ} (h : TellCounted T f p q m at n) (b : at < q) where
    pub next_of : Next T.E T.G T.some f at q h.left
    next_of = stand_next T.E T.G T.some f at q h.left h.rest b

    next_told : T.F at h.left ≡ T.N at next_of.first ++ T.F (at + T.E.size next_of.first) next_of.others
    next_told = ap (T.F at) next_of.is ∙ T.more at next_of.first next_of.others

    next_count : length (T.F at h.left) ≡ length (T.N at next_of.first) + length (T.F (at + T.E.size next_of.first) next_of.others)
    next_count = ap length next_told ∙ length-append (T.N at next_of.first) (T.F (at + T.E.size next_of.first) next_of.others)

    pub next_room : n + length (T.N at next_of.first) ≤ m
    next_room = omega (arith, next_count, h.count, h.room)

    pub counted_on : (at' k : ℕ) → at' ≡ at + T.E.size next_of.first → k ≡ length (T.N at next_of.first) → TellCounted T f p q m at' (n + k)
    counted_on at' k e z =
        record {
          list = h.list;
          stand = h.stand;
          room = h.room;
          left = next_of.others;
          rest = subst (λ (y : ℕ). Stand T.E f y q next_of.others) (sym e) next_of.rest;
          count = omega (arith, next_count, h.count, z, ap (λ (y : ℕ). length (T.F y next_of.others)) e);
        }

  pub done_on : {d w : List ℕ} {at n : ℕ} (h : TellDone T f p q d w at n) (b : at < q) (t : List ℕ) (at' k : ℕ) → at' ≡ at + T.E.size (next_of h.counted b).first
      → Puts (T.N at (next_of h.counted b).first) (take (length w - n) (drop n w)) t k → TellDone T f p q d (put_mid n (length w - n) w t) at' (n + k)
  unfolding counted_on
  done_on {d} {w} {at} {n} h b t at' k e y =
      let x = next_of h.counted b in
      let first = T.N at x.first in
      record {
        counted = counted_on h.counted b at' k e y.long;
        told = h.told ++ first;
        whole =
            append_assoc h.told first (T.F at' x.others)
            ∙ ap (λ (u : ℕ). h.told ++ (first ++ T.F u x.others)) e
            ∙ ap (λ (u : List ℕ). h.told ++ u) (sym (next_told h.counted b))
            ∙ h.whole;
        laid = puts_part h.laid first t k y (omega (arith, next_room h.counted b, y.long));
      }

  -- the end
  module _ {m at n : ℕ} (h : TellCounted T f p q m at n) (b : q ≤ at) where
    none_left : T.F at h.left ≡ []
    none_left = ap (T.F at) (stand_end T.E T.G T.some f at q h.left h.rest (omega (arith, h.rest.ends))) ∙ T.none at

    same : (l : List A) → Stand T.E f p q l → T.F p h.list ≡ T.F p l
    same l s = ap (T.F p) (stand_same T.E T.G T.some f p q h.list l h.stand s)

    pub counted_all : ToldCount T.E T.F f p q n
    counted_all = record { all = λ l s. omega (arith, h.count, ap length none_left, ap length (same l s)) }

  pub done_all : {d w : List ℕ} {at n : ℕ} → TellDone T f p q d w at n → q ≤ at → ToldPut T.E T.F f p q d w n
  done_all {d} {w} {at} {n} h b =
      record {
        all = λ l s.
            (let e : h.told ≡ T.F p l =
            sym (append-nil h.told)
            ∙ ap (λ (u : List ℕ). h.told ++ u) (sym (none_left h.counted b))
            ∙ h.whole
            ∙ same h.counted b l s in
            subst (λ (t : List ℕ). Puts t d w n) e (puts_of h.laid));
      }
