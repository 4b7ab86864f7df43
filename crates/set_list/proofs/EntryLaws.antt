-- The entries of a table that stands at a place: what is read of one, and those that are put.
use mathlib.Core.Path.{◌≡◌, refl, sym, ap, subst}
use Prim.Native.Nat.{ℕ, zero, suc, ◌+◌, ◌-◌, ◌*◌, ◌≤◌, ◌<◌}
use native.Mathlib.Numerals.{add-one}
use native.Mathlib.Omega.{arith}
use mathlib.Core.List.{List}
use borrow.Rule.Slice.PartMut.{put_mid}
use mathlib.Core.Bool.{◌&&◌}
use lib.Dec.{eqb, leb}
use borrow.Author.Tests.{leb-true}
use lib.ListN.{length, get_or, take, drop, length-append}
use Rattle.format.specs.Number.{Order, num}
use Rattle.format.specs.Grammar.{text_at}
use Rattle.format.specs.Labels.{Table, table_head, table_body, table, table_size}
use Rattle.format.proofs.Good.{and_right}
use Rattle.questions.specs.Fact.{label_at}
use Rattle.questions.proofs.ReadLaws.{text_in_lem}
use Rattle.questions.proofs.TableLaws.{table_facts, labelled}
use Rattle.text.proofs.Lay.{Laid, laid_none, laid_as}
use Rattle.writing.specs.Writes.{Puts}
use Rattle.writing.proofs.Chain.{puts_part, puts_of}
use Rattle.write_tables.specs.Tables.{TableAt, TableRoom}
use Rattle.write_tables.proofs.TableLaws.{table_read}
use Rattle.set_list.specs.Sets.{entry_numbers, entries_to}
use Rattle.set_list.specs.Reads.{entry_read, PutsOf}

-- what is put is told in another way
pub puts_as : {t u d w : List ℕ} {r : ℕ} → t ≡ u → Puts t d w r → Puts u d w r
puts_as {d = d} {w = w} {r = r} = subst (λ (x : List ℕ). Puts x d w r)

-- three for each
pub entries_long : (t : Table) (p n : ℕ) → length (entries_to t p n) ≡ n * 3
entries_long t p zero = refl
entries_long t p (suc n) = omega (arith, length-append (entries_to t p n) (entry_numbers t p n), entries_long t p n)

module _ (o : Order) (f : List ℕ) (p n x : ℕ) where
  -- what is read of entry m
  pub record EntryRead (t : Table) (m : ℕ) : Type 0 where
    pub value : num o 4 f (p + 8 + n * 4 + m * 4) ≡ get_or t.values m 0
    pub offset : num o 4 f (p + 8 + m * 4) ≡ get_or t.offsets m 0
    pub below : get_or t.offsets m 0 ≤ x
    pub label : text_at (x - get_or t.offsets m 0) f (p + 8 + n * 4 + n * 4 + get_or t.offsets m 0) ≡ label_at t m

  pub entry_read_lem : (t : Table) → TableAt o f p n x t → (m : ℕ) → m < n → EntryRead t m
  entry_read_lem t T m b =
      let y = get_or t.offsets m 0 in
      let k = length t.offsets in
      let h = (table_read o f p n x t T).inside in
      let c : m < k = omega (arith, T.entries) in
      let F = table_facts o (table_size t) f p t T.right T.fits in
      let L = labelled o f p t F m c in
      let i = text_in_lem (length t.texts - y) f (p + 8 + k * 4 + k * 4 + y) (omega (arith, T.entries, T.chars, L.below)) in
      rw (T.entries, T.chars)
      (record { value = (F.read_value m c).is; offset = (F.read_offset m c).is; below = omega (arith, L.below); label = cc (i, L.reads) })

  -- what is put for it
  pub entry_is : {t : Table} {m : ℕ} → EntryRead t m → entry_read o f (p + 8 + n * 4 + m * 4) (p + 8 + m * 4) (p + 8 + n * 4 + n * 4) x ≡ entry_numbers t (p + 8 + n * 4 + n * 4) m
  entry_is E = rw (E.value, E.offset, E.label)

  -- m of them are put over d
  pub record Entered (d w : List ℕ) (m : ℕ) : Type 0 where
    pub some : TableRoom o f p n x (length f)
    pub inside : p + 8 + n * 4 + n * 4 + x ≤ length f
    pub low : m ≤ n
    pub laid : (t : Table) → TableAt o f p n x t → Laid (entries_to t (p + 8 + n * 4 + n * 4) m) (m * 3) d w
    pub whole : length w ≡ length d

  -- the table is in the file
  pub room_in : {r : ℕ} → TableRoom o f p n x r → p + 8 + n * 4 + n * 4 + x ≤ length f
  room_in R = omega (arith, (table_read o f p n x R.this R.stands).inside)

  -- its text is not too long
  pub room_small : {r : ℕ} → TableRoom o f p n x r → x ≤ 5308416
  unfolding table table_head table_body
  room_small R =
      let t = R.this in
      let h = and_right (eqb (table_size t) (8 + (8 * length t.offsets + length t.texts))) (leb (length t.offsets) 65536 && leb (length t.texts) 5308416) R.stands.right.1.0.1 in
      omega (arith, leb-true (length t.texts) 5308416 (and_right (leb (length t.offsets) 65536) (leb (length t.texts) 5308416) h), R.stands.chars)

  module _ {d : List ℕ} where
    pub entered_none : TableRoom o f p n x (length f) → Entered d d 0
    entered_none R =
        record {
          some = R;
          inside = room_in R;
          low = omega arith;
          laid = λ t T. laid_none d;
          whole = refl;
        }

    module _ {w : List ℕ} {m : ℕ} (H : Entered d w m) where
      -- the offset of the next is in the text
      pub entered_low : m < n → num o 4 f (p + 8 + m * 4) ≤ x
      entered_low b = let E = entry_read_lem H.some.this H.some.stands m b in omega (arith, E.offset, E.below)

      -- the next
      pub entered_on : (g : List ℕ) → m < n → n * 3 ≤ length d
          → Puts (entry_read o f (p + 8 + n * 4 + m * 4) (p + 8 + m * 4) (p + 8 + n * 4 + n * 4) x) (take (length w - m * 3) (drop (m * 3) w)) g 3
          → Entered d (put_mid (m * 3) (length w - m * 3) w g) (m + 1)
      entered_on g b room P =
          let laid : (t : Table) → TableAt o f p n x t → Laid (entries_to t (p + 8 + n * 4 + n * 4) (m + 1)) ((m + 1) * 3) d (put_mid (m * 3) (length w - m * 3) w g) =
          λ t T.
          (let a = p + 8 + n * 4 + n * 4 in
          let q = puts_as (entry_is (entry_read_lem t T m b)) P in
          laid_as (puts_part (H.laid t T) (entry_numbers t a m) g 3 q (omega arith)) (ap (λ (k : ℕ). entries_to t a k) (sym (add-one m))) (omega arith)) in
          record { some = H.some; inside = H.inside; low = omega arith; laid = laid; whole = (laid H.some.this H.some.stands).whole }

      pub entered_all : n ≤ m → PutsOf o f p n x (λ (t : Table). entries_to t (p + 8 + n * 4 + n * 4) n) d w (n * 3)
      entered_all b =
          let e : m ≡ n = omega (arith, H.low) in
          record { all = λ t T. puts_of (laid_as (H.laid t T) (ap (entries_to t (p + 8 + n * 4 + n * 4)) e) (ap (λ (k : ℕ). k * 3) e)) }
