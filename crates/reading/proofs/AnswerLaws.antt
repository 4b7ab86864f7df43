-- An answer, by what a layout's edition and byte order say.
use mathlib.Core.Path.{◌≡◌, refl, sym, ap, ◌∙◌}
use Prim.Native.Nat.{ℕ}
use mathlib.Core.List.{List}
use mathlib.Core.Bool.{true, false, false≢true}
use Rattle.format.specs.Number.{Order, msf, lsf, order_by}
use Rattle.format.specs.Edition.{Edition, Release, edition}
use Rattle.format.specs.Dta.{Layout}
use Rattle.format.proofs.EditionLaws.{Widths}
use Rattle.editions.specs.Editions.{numbers_of, edition_by}
use Rattle.std.specs.Prelude.{Some, None}
use Rattle.std.proofs.lemmas.Option.{none-some, same_Some}
use Rattle.editions.proofs.WidthLaws.{code_widths}
use Rattle.questions.specs.Readings.{Try, none, got, bind}
use Rattle.questions.specs.Ask.{Question, refused, release_in, order_in, in_range, answer_in, or_refused, answer_of}
use Rattle.reading.specs.declared.Opened.{Opened}
use Rattle.reading.specs.Reads.{is_msf, opened_by, edition_in}

abbrev both : Try Release → Try Order → Try (Edition × Order)
both a b = bind a λ r. bind b λ o. got (edition r, o)

then_same : {A : Type 0} (a : Try Release) (b : Try Order) (k : Edition → Order → Try A)
    → bind a (λ r. bind b λ o. k (edition r) o) ≡ bind (both a b) λ y. k y.0 y.1
then_same none b k = refl
then_same (got r) none k = refl
then_same (got r) (got o) k = refl

abbrev first : Edition → Try (Edition × Order) → Edition
first d none = d
first d (got y) = y.0

some_edition : (a : Try Release) (b : Try Order) (e : Edition) (o : Order) → both a b ≡ got (e, o) → (x : Release) × (e ≡ edition x)
some_edition none b e o h = absurd (false≢true (cc h))
some_edition (got r) none e o h = absurd (false≢true (cc h))
some_edition (got r) (got p) e o h = (r, ap (first e) (sym h))

order_back : (o : Order) → order_by (is_msf o) ≡ o
order_back msf = refl
order_back lsf = refl

-- what is opened says what is read
says_got : (r : Opened) (t : Try (Edition × Order)) → Some r ≡ opened_by t → t ≡ got (numbers_of r.e, order_by r.msf)
says_got r none e = absurd (none-some r (sym e))
says_got r (got y) e = let q = same_Some r (record { msf = is_msf y.1; e = edition_by y.0 }) e in rw q (ap (λ (o : Order). got (y.0, o)) (sym (order_back y.1)))

says_none : (t : Try (Edition × Order)) → None ≡ opened_by t → t ≡ none
says_none none e = refl
says_none (got y) e = absurd (none-some (record { msf = is_msf y.1; e = edition_by y.0 }) e)

module _ (n x : ℕ) where
  pub edition_none : None ≡ opened_by (edition_in n x) → edition_in n x ≡ none
  edition_none e = says_none (edition_in n x) e

  module _ (r : Opened) (e : Some r ≡ opened_by (edition_in n x)) where
    pub edition_got : edition_in n x ≡ got (numbers_of r.e, order_by r.msf)
    edition_got = says_got r (edition_in n x) e

    -- the bounds of an edition that is read
    pub edition_widths : Widths (numbers_of r.e)
    edition_widths =
        let s = some_edition (release_in n) (order_in x) (numbers_of r.e) (order_by r.msf) edition_got in
        code_widths r.e s.0 s.1

module _ (f : List ℕ) (l : Layout) (q : Question) where
  -- 16 first
  pub answer_out : in_range l q ≡ false → answer_of f l q ≡ refused 16
  unfolding answer_of
  answer_out h = rw h

  pub answer_in_lem : in_range l q ≡ true → answer_of f l q ≡ or_refused (bind (edition_in l.release l.order) λ y. answer_in y.0 y.1 f l q)
  unfolding answer_of
  answer_in_lem h = rw h (ap or_refused (then_same (release_in l.release) (order_in l.order) (λ e o. answer_in e o f l q)))

  module _ (h : in_range l q ≡ true) where
    -- then 17 for an edition or an order that is not read
    pub answer_shut : None ≡ opened_by (edition_in l.release l.order) → answer_of f l q ≡ refused 17
    answer_shut e = answer_in_lem h ∙ ap (λ (t : Try (Edition × Order)). or_refused (bind t λ y. answer_in y.0 y.1 f l q)) (edition_none l.release l.order e)

    -- then the answer of the edition
    pub answer_open : (r : Opened) → Some r ≡ opened_by (edition_in l.release l.order)
        → answer_of f l q ≡ or_refused (answer_in (numbers_of r.e) (order_by r.msf) f l q)
    answer_open r e = answer_in_lem h ∙ ap (λ (t : Try (Edition × Order)). or_refused (bind t λ y. answer_in y.0 y.1 f l q)) (edition_got l.release l.order r e)
