-- The answer of a rewrite, case by case.
use mathlib.Core.Path.{◌≡◌, refl, sym, ap, ◌∙◌, subst}
use Prim.Native.Nat.{ℕ, zero, suc, ◌+◌, ◌≤◌, ◌<◌}
use native.Mathlib.Omega.{arith}
use mathlib.Core.List.{List, [], ◌++◌}
use mathlib.Core.Bool.{Bool, true, false, cond, ◌&&◌, ◌||◌}
use lib.ListN.{length, get_or, drop}
use lib.Dec.{eqb, leb}
use borrow.Author.Tests.{eqb-true, eqb-false, eq-eqb, ne_eqb, leb-true, leb-false, le-leb, lt-leb}
use Rattle.format.specs.Slot.{Bytes}
use Rattle.format.specs.Number.{Order, msf, lsf, order_by}
use Rattle.format.specs.Grammar.{Sect, also, unless}
use Rattle.format.specs.Edition.{Edition, edition, is_release, release_by, order_mark}
use Rattle.format.specs.Dta as Format
use Rattle.format.specs.Dta.{Dataset, file, verdict, release_of, edition_of, order_of, contents, dataset_of, layout_of, positions, part_sizes, written, holds, all_types, all_shorter, block_names, length_max}
use Rattle.format.proofs.FileLaws.{layout_is, itself, written_length}
use Rattle.format.proofs.PartLaws.{size_total}
use Rattle.format.proofs.EditionLaws.{number_back}
use Rattle.editions.specs.Editions.{numbers_of}
use Rattle.editions.specs.declared.Edition as Code
use Rattle.std.specs.Prelude.{Ok, Err}
use Rattle.refusal.specs.declared.Refusal.{Refusal}
use Rattle.refusal.specs.declared.Refusal.TheVariants.{NoRoom, NotHeld}
use Rattle.refusal.specs.Refusals.{number_of}
use Rattle.section.proofs.StepLaws.{some_number}
use Rattle.writing.specs.Writes.{Puts}
use Rattle.sources.specs.Sources.{Own, Opened, Known, Holding}
use Rattle.plans.specs.Plans.{Planned}
use Rattle.rewriting.specs.Held.{held_in}
use Rattle.rewriting.specs.Rewriting.{offered, edition_to, order_to, held, rewritten, rewrite_code, output_of, length_of, Rewrites}

-- ---- the number, by its three tests

abbrev code_by : ℕ → Bool → Bool → ℕ
code_by v h r = also v (also (unless h 15) (unless r 14))

module _ (f : List ℕ) (e o : ℕ) (d : List ℕ) where
  -- a refusal leaves the output as it came
  refusal : {x : Refusal} → number_of x ≡ rewrite_code f e o (length d) → Rewrites f e o d d (Err x)
  unfolding length_of output_of
  refusal {x} q =
      let z : eqb (rewrite_code f e o (length d)) 0 ≡ false = ne_eqb _ 0 (λ h. some_number x (q ∙ h)) in
      record { code = q; len = rw z; out = rw z }

  pub refused_file : {x : Refusal} → number_of x ≡ verdict f → Rewrites f e o d d (Err x)
  unfolding rewrite_code
  refused_file {x} q = refusal (go (number_of x) q (some_number x))
    where
      go : (c : ℕ) → c ≡ verdict f → (c ≡ 0 → ⊥) → c ≡ also (verdict f) (also (unless (held f e o) 15) (unless (leb (length (rewritten f e o)) (length d)) 14))
      go zero p m = absurd (m refl)
      go (suc c) p m = rw (sym p)

  pub refused_15 : verdict f ≡ 0 → held f e o ≡ false → Rewrites f e o d d (Err NotHeld)
  unfolding rewrite_code
  refused_15 v h = refusal (rw (v, h))

  pub refused_14 : verdict f ≡ 0 → held f e o ≡ true → leb (length (rewritten f e o)) (length d) ≡ false → Rewrites f e o d d (Err NoRoom)
  unfolding rewrite_code
  refused_14 v h l = refusal (rw (v, h, l))

  pub result : verdict f ≡ 0 → held f e o ≡ true → length (rewritten f e o) ≤ length d → (w : List ℕ) (m : ℕ) → Puts (rewritten f e o) d w m → Rewrites f e o d w (Ok m)
  unfolding rewrite_code length_of output_of
  result v h l w m p =
      let b = le-leb (length (rewritten f e o)) (length d) l in
      record { code = rw (v, h, b); len = rw (v, h, b) p.long; out = rw (v, h, b) (p.is ∙ ap (λ (x : ℕ). rewritten f e o ++ drop x d) p.long) }

-- ---- the target

-- four tests before a fifth
and_four : (a b c d e : Bool) → (a && (b && (c && (d && e)))) ≡ ((a && (b && (c && d))) && e)
and_four false b c d e = refl
and_four true false c d e = refl
and_four true true false d e = refl
and_four true true true d e = refl

-- the last position is the result's size
last_place : (e : Edition) (o : Order) (w : Dataset × Format.Extras) → get_or (positions e o w) 13 0 ≡ (file e o).size w
unfolding part_sizes
last_place e o w = omega (arith, size_total e o w)

module _ (f : List ℕ) (u : Bytes f) (v : verdict f ≡ 0) (e o : ℕ) (to : Code.Edition) (T : numbers_of to ≡ edition_to e) (p : List ℕ) (P : Planned f to p) where
  size_here : (file (numbers_of to) (order_to o)).size (dataset_of f, []) ≡ get_or p 13 0
  size_here = sym (ap (λ (x : List ℕ). get_or x 13 0) (P.is (order_to o)) ∙ last_place (numbers_of to) (order_to o) (dataset_of f, []))

  pub size_is : get_or p 13 0 ≡ (file (edition_to e) (order_to o)).size (dataset_of f, [])
  size_is =
      sym size_here
      ∙ ap (λ (x : Edition). (file x (order_to o)).size (dataset_of f, [])) T

  pub length_is : get_or p 13 0 ≡ length (rewritten f e o)
  length_is = size_is ∙ sym (written_length (release_by e) (order_to o) (dataset_of f))

  -- what code tests is whether the target holds the dataset
  pub held_is : (b : Bool) → b ≡ held_in (numbers_of to) (dataset_of f) (get_or p 13 0) → holds (edition_to e) (order_to o) (dataset_of f) ≡ b
  unfolding holds
  held_is b h =
      let d = dataset_of f in
      let x = numbers_of to in
      ap (λ (y : Edition). holds y (order_to o) d) (sym T)
      ∙ (λ i. all_types x.tagged d.var_types && (leb (length d.label) x.label_max
      && (all_shorter x.name_width d.var_names && (all_shorter x.format_width d.display_formats && (all_shorter x.name_width d.label_sets && (all_shorter x.var_label_width d.variable_labels
      && (all_shorter x.name_width (block_names d.label_blocks) && leb (size_here i) length_max)))))))
      ∙ ap (λ (y : Bool). all_types x.tagged d.var_types && (leb (length d.label) x.label_max && y))
      (and_four (all_shorter x.name_width d.var_names) (all_shorter x.format_width d.display_formats) (all_shorter x.name_width d.label_sets) (all_shorter x.var_label_width d.variable_labels) _)
      ∙ sym h

  pub not_held : offered e o ≡ true → (b : Bool) → holds (edition_to e) (order_to o) (dataset_of f) ≡ b → held f e o ≡ b
  not_held w b h = rw w h

  pub holding : holds (edition_to e) (order_to o) (dataset_of f) ≡ true → Holding f to (order_to o)
  holding h = record { known = record { release = release_by e; is = T }; held = ap (λ (x : Edition). holds x (order_to o) (dataset_of f)) T ∙ h }

  pub places_is : p ≡ positions (numbers_of to) (order_to o) (dataset_of f, [])
  places_is = P.is (order_to o)

  pub written_is : written (numbers_of to) (order_to o) (dataset_of f) ≡ rewritten f e o
  written_is = ap (λ (x : Edition). written x (order_to o) (dataset_of f)) T

pub not_offered : (f : List ℕ) (e o : ℕ) → offered e o ≡ false → held f e o ≡ false
not_offered f e o h = rw h

-- ---- tests

-- a chain of tests: one that fails ends it, after one that holds it goes on
pub held_no : (a b : Bool) (x : Bool) → a ≡ x → a ≡ false → false ≡ (x && b)
held_no a b x h q = rw (sym h, q)

pub held_on : (a b x z : Bool) → a ≡ x → a ≡ true → z ≡ b → z ≡ (x && b)
held_on a b x z h q w = rw (sym h, q) w

-- ---- the stages of a rewrite

-- the file f is accepted; the target n, o is offered, and to has its numbers
pub record Begun (f : List ℕ) (n o : ℕ) (to : Code.Edition) : Type 0 where
  pub bytes : Bytes f
  pub accepted : verdict f ≡ 0
  pub offers : offered n o ≡ true
  pub aims : numbers_of to ≡ edition_to n

-- .. and p are the result's positions, and b tells whether the target can hold the dataset
pub record Ready (f : List ℕ) (n o : ℕ) (to : Code.Edition) (p : List ℕ) (b : Bool) : Type 0 where
  pub begun : Begun f n o to
  pub plan : Planned f to p
  pub tests : b ≡ held_in (numbers_of to) (dataset_of f) (get_or p 13 0)

pub known_target : (n : ℕ) {to : Code.Edition} → numbers_of to ≡ edition_to n → Known to
known_target n e = record { release = release_by n; is = e }

module _ {f : List ℕ} {n o : ℕ} {to : Code.Edition} {p : List ℕ} {b : Bool} (R : Ready f n o to p b) (d : List ℕ) where
  A : verdict f ≡ 0
  A = R.begun.accepted

  holds_is : holds (edition_to n) (order_to o) (dataset_of f) ≡ b
  holds_is = held_is f R.begun.bytes A n o to R.begun.aims p R.plan b R.tests

  -- whether it is held is b
  is : (x : Bool) → b ≡ x → held f n o ≡ x
  is x h = not_held f R.begun.bytes A n o to R.begun.aims p R.plan R.begun.offers x (holds_is ∙ h)

  long : get_or p 13 0 ≡ length (rewritten f n o)
  long = length_is f R.begun.bytes A n o to R.begun.aims p R.plan

  same : written (numbers_of to) (order_to o) (dataset_of f) ≡ rewritten f n o
  same = written_is f R.begun.bytes A n o to R.begun.aims p R.plan

  -- 15, 14, and what is asked for and given where there is room
  pub ready_15 : b ≡ false → Rewrites f n o d d (Err NotHeld)
  ready_15 h = refused_15 f n o d A (is false h)

  pub ready_14 : b ≡ true → length d < get_or p 13 0 → Rewrites f n o d d (Err NoRoom)
  ready_14 h l = refused_14 f n o d A (is true h) (lt-leb (length (rewritten f n o)) (length d) (omega (arith, long)))

  pub ready_holding : b ≡ true → Holding f to (order_to o)
  ready_holding h = holding f R.begun.bytes A n o to R.begun.aims p R.plan (holds_is ∙ h)

  pub ready_places : p ≡ positions (numbers_of to) (order_to o) (dataset_of f, [])
  ready_places = places_is f R.begun.bytes A n o to R.begun.aims p R.plan

  pub ready_room : get_or p 13 0 ≤ length d → length (written (numbers_of to) (order_to o) (dataset_of f)) ≤ length d
  ready_room l = subst (λ (x : List ℕ). length x ≤ length d) (sym same) (omega (arith, long))

  pub ready_done : b ≡ true → get_or p 13 0 ≤ length d → (w : List ℕ) (k : ℕ) → Puts (written (numbers_of to) (order_to o) (dataset_of f)) d w k
      → Rewrites f n o d w (Ok k)
  ready_done h l w k q =
      result f n o d A (is true h) (omega (arith, long)) w k (subst (λ (x : List ℕ). Puts x d w k) same q)
