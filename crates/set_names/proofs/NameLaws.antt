-- The label-set name of a variable, by place and length.
use mathlib.Core.Path.{◌≡◌, refl, sym, subst}
use Prim.Native.Nat.{ℕ, ◌+◌, ◌≤◌}
use native.Mathlib.Omega.{arith}
use mathlib.Core.List.{List}
use mathlib.Core.Bool.{Bool, true, false}
use lib.ListN.{length}
use Rattle.format.specs.Number.{Order}
use Rattle.format.specs.Edition.{Release, edition, n_value_label_names}
use Rattle.format.specs.Dta.{Layout}
use Rattle.questions.specs.Readings.{Try, none, got, bind, text_in}
use Rattle.questions.specs.Ask.{Answer, part, ask_set, slice, shown, release_in, order_in, field_place, in_range, text_part, or_refused, answer_of}
use Rattle.questions.proofs.EachLaws.{each_asked}
use Rattle.reading.proofs.ReadLaws.{text_there}
use Rattle.answers.specs.declared.Part.{Part}
use Rattle.answers.specs.Answers.{part_by}
use Rattle.set_names.specs.Names.{name_of, name_by, IsName}

module _ (f : List ℕ) where
  -- the part of an answer is in the file
  abbrev InFile : Answer → Type 0
  InFile a = (name_by (part_by a)).at + (name_by (part_by a)).len ≤ length f

  text_inside : (w p : ℕ) → InFile (or_refused (text_part w f p))
  text_inside w p = go (text_in w f p) refl
    where
      go : (t : Try (List ℕ)) → text_in w f p ≡ t → InFile (or_refused (bind t λ t. got (part p (length t))))
      go none e = omega arith
      go (got t) e = (text_there w f p t e).0

  read_inside : (a : Try Release) (b : Try Order) (w p : Release → ℕ) → InFile (or_refused (bind a λ r. bind b λ o. text_part (w r) f (p r)))
  read_inside none b w p = omega arith
  read_inside (got r) none w p = omega arith
  read_inside (got r) (got o) w p = text_inside (w r) (p r)

  module _ (l : Layout) (i : ℕ) where
    set_inside : InFile (answer_of f l (ask_set i))
    unfolding answer_of
    set_inside = go (in_range l (ask_set i)) refl
      where
        go : (t : Bool) → in_range l (ask_set i) ≡ t → InFile (answer_of f l (ask_set i))
        go true e = rw e (read_inside (release_in l.release) (order_in l.order) (λ r. (edition r).name_width) λ r. field_place (edition r).tagged l 6 n_value_label_names (edition r).name_width i)
        go false e = rw e (omega arith)

    set_shown : slice f (name_by (part_by (answer_of f l (ask_set i)))).at (name_by (part_by (answer_of f l (ask_set i)))).len ≡ shown f (answer_of f l (ask_set i))
    set_shown = each_asked (λ (a : Answer). slice f (name_by (part_by a)).at (name_by (part_by a)).len ≡ shown f a) f l (ask_set i) refl refl (λ p n. refl)

    pub set_named : (p : Part) → p ≡ name_by (part_by (answer_of f l (ask_set i))) → IsName f l i p
    unfolding name_of
    set_named p e = subst (λ (p : Part). IsName f l i p) (sym e) (record { place = refl; is = set_shown; inside = set_inside })
