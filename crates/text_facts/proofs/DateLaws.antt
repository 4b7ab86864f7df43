-- The date mark.
use mathlib.Core.Path.{◌≡◌, refl, sym, ap, ◌∙◌}
use Prim.Native.Nat.{ℕ, suc, ◌+◌, ◌≤◌}
use mathlib.Core.List.{List}
use mathlib.Core.Bool.{Bool, true, false, false≢true}
use lib.ListN.{length}
use borrow.Author.Tests.{le-leb}
use Rattle.std.specs.Prelude.{Ok, Err}
use Rattle.refusal.specs.declared.Refusal.{Refusal}
use Rattle.refusal.specs.Refusals.{refusal_by}
use Rattle.format.specs.Edition.{Release, edition, n_formats}
use Rattle.format.specs.Number.{Order}
use Rattle.format.specs.Dta.{Layout}
use Rattle.questions.specs.Readings.{Try, none, got, bind, text_in}
use Rattle.questions.specs.Ask.{Answer, refused, mark, part, slice, answer_of, or_refused, release_in, order_in, among, text_part, is_date, ask_format, ask_date, field_place}
use Rattle.reading.proofs.ReadLaws.{text_there}
use Rattle.answers.specs.declared.Part.{Part}
use Rattle.answers.specs.Answers.{part_by, part_in}
use Rattle.text_facts.specs.Marks.{mark_by}

-- the answers about a format and its mark go together
pub data Dated (f : List ℕ) (a d : Answer) : Type 0 where
  no : (c : ℕ) → (c ≡ 0 → ⊥) → a ≡ refused c → d ≡ refused c → Dated f a d
  yes : (p n : ℕ) → a ≡ part p n → p + n ≤ length f → d ≡ mark (is_date (slice f p n)) → Dated f a d

-- a refusal has a number
some : {n : ℕ} → suc n ≡ 0 → ⊥
some q = absurd (false≢true (cc q))

dated_text : (f : List ℕ) (w p : ℕ) → Dated f (or_refused (text_part w f p)) (or_refused (bind (text_in w f p) λ t. got (mark (is_date t))))
dated_text f w p = go (text_in w f p) refl
  where
    go : (x : Try (List ℕ)) → text_in w f p ≡ x → Dated f (or_refused (text_part w f p)) (or_refused (bind (text_in w f p) λ t. got (mark (is_date t))))
    go none e = no 17 some (rw e) (rw e)
    go (got t) e =
        let s = text_there w f p t e in
        yes p (length t) (rw e) s.0 (rw (e, s.1))

pub dated : (f : List ℕ) (l : Layout) (i : ℕ) → Dated f (answer_of f l (ask_format i)) (answer_of f l (ask_date i))
unfolding answer_of
dated f l i = go (among i l.variables) refl (release_in l.release) refl (order_in l.order) refl
  where
    go : (b : Bool) → among i l.variables ≡ b → (r : Try Release) → release_in l.release ≡ r → (o : Try Order) → order_in l.order ≡ o → Dated f (answer_of f l (ask_format i)) (answer_of f l (ask_date i))
    go false h r u o v = no 16 some (rw h) (rw h)
    go true h none u o v = no 17 some (rw (h, u)) (rw (h, u))
    go true h (got r) u none v = no 17 some (rw (h, u, v)) (rw (h, u, v))
    go true h (got r) u (got o) v = rw (h, u, v) (dated_text f (edition r).format_width (field_place (edition r).tagged l 5 n_formats (edition r).format_width i))

-- answers that are refused with one number, which may be any
pub date_alike : {a d : Answer} (c : ℕ) → a ≡ refused c → d ≡ refused c → (e : Refusal) → Err e ≡ part_by a → Err e ≡ mark_by d
date_alike c x y e P = let h : e ≡ refusal_by c = cc (P ∙ ap part_by x) in ap Err h ∙ ap mark_by (sym y)

-- the mark's answer, by that of the format
module _ {f : List ℕ} {a d : Answer} where
  pub date_refused : (e : Refusal) → Err e ≡ part_by a → Dated f a d → Err e ≡ mark_by d
  date_refused e P (no c z x y) = date_alike c x y e P
  date_refused e P (yes q m x i y) = absurd (false≢true (cc (P ∙ ap part_by x)))

  pub date_marked : (p : Part) → Ok p ≡ part_by a → Dated f a d → Ok (is_date (part_in {E = Refusal} f (Ok p))) ≡ mark_by d
  date_marked p P (no c z x y) = absurd (false≢true (cc (P ∙ ap part_by x)))
  date_marked p P (yes q m x i y) =
      let h : p ≡ record { at = q; len = m } = cc (P ∙ ap part_by x) in
      rw (h, le-leb (q + m) (length f) i) (ap mark_by (sym y))

  -- the format is in the file, and the mark is that of its text
  pub date_there : (p : Part) → Ok p ≡ part_by a → Dated f a d → (p.at + p.len ≤ length f) × (mark_by d ≡ Ok (is_date (slice f p.at p.len)))
  date_there p P (no c z x y) = absurd (false≢true (cc (P ∙ ap part_by x)))
  date_there p P (yes q m x i y) =
      let h : p ≡ record { at = q; len = m } = cc (P ∙ ap part_by x) in
      rw h (i, ap mark_by y)
