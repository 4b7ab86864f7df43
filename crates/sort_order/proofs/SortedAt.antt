-- The sort list of a file that is opened.
use mathlib.Core.Path.{◌≡◌, refl, ap, ◌∙◌, subst}
use Prim.Native.Nat.{ℕ, ◌+◌, ◌*◌, ◌≤◌, ◌<◌}
use native.Mathlib.Numerals.{add-one}
use native.Mathlib.Omega.{arith}
use mathlib.Core.List.{List}
use lib.ListN.{length}
use Rattle.format.specs.Slot.{Bytes}
use Rattle.format.specs.Number.{Order, order_by}
use Rattle.format.specs.Grammar.{number, read_times, ended_at}
use Rattle.format.specs.Dta.{verdict}
use Rattle.writing.specs.Writes.{Puts}
use Rattle.sources.proofs.PartReads.{few, sort_of, sort_room}
use Rattle.std.specs.Prelude.{Ok, Err}
use Rattle.sources.specs.declared.Source.{Source}
use Rattle.sources.specs.Sources.{Sourced}
use Rattle.long_list.specs.declared.Untold.TheVariants.{NoRoom}
use Rattle.long_list.specs.Lists.{Lists}
use Rattle.long_list.proofs.ListsLaws.{lists_short, lists_done}
use Rattle.sort_order.specs.Sorted.{sorted_of}
use Rattle.sort_order.proofs.SortLaws.{ended_first}

-- n entries of the byte order o, at p of the accepted file f
pub record SortedAt (f : List ℕ) (o : Order) (n p : ℕ) : Type 0 where
  pub accepted : verdict f ≡ 0
  pub few : n ≤ 32768
  pub inside : p + n * 2 ≤ length f
  pub reads : ended_at o 2 n f p ≡ sorted_of f

pub sorted_at : {f : List ℕ} {s : Source} → Bytes f → Sourced f s → SortedAt f (order_by s.msf) (s.k + 1) s.sort
unfolding sorted_of
sorted_at {f} {s} u S =
    let o = S.opened in
    rw (add-one s.k)
    (record {
      accepted = o.accepted;
      few = omega (arith, few f u s.edition s.msf o s S);
      inside = sort_room f u s.edition s.msf o s S;
      reads = sort_of f u s.edition s.msf o s S;
    })

-- those before the first zero are m
module _ {f : List ℕ} {o : Order} {n p m : ℕ} (S : SortedAt f o n p) (c : m ≡ length (ended_at o 2 n f p)) where
  pub sorted_inside : p + m * 2 ≤ length f
  sorted_inside = omega (arith, S.inside, (ended_first o f n p).few)

  count : m ≡ length (sorted_of f)
  count = c ∙ ap length S.reads

  are : read_times (number o 2) m f p ≡ sorted_of f
  are = ap (λ (k : ℕ). read_times (number o 2) k f p) c ∙ (ended_first o f n p).are ∙ S.reads

  pub sorted_short : {d : List ℕ} → length d < m → Lists f (sorted_of f) d d (Err (NoRoom m))
  sorted_short h = lists_short S.accepted count (omega (arith, count))

  pub sorted_done : {d w : List ℕ} → m ≤ length d → Puts (read_times (number o 2) m f p) d w m → Lists f (sorted_of f) d w (Ok m)
  sorted_done {d} {w} h x = lists_done S.accepted count (omega (arith, count)) (subst (λ (t : List ℕ). Puts t d w m) are x)
