-- What checking gives: an accepted file's layout opens as the file's own edition and byte order.
use mathlib.Core.Path.{◌≡◌, sym, ap, ◌∙◌}
use mathlib.Core.List.{List}
use Prim.Native.Nat.{ℕ}
use Rattle.std.specs.Prelude.{Option, Ok}
use Rattle.format.specs.Number.{Order}
use Rattle.format.specs.Edition.{Release, edition, order_mark}
use Rattle.format.specs.Dta as Format
use Rattle.format.specs.Dta.{release_of, edition_of, order_of, contents}
use Rattle.format.proofs.FileLaws.{layout_is, itself}
use Rattle.checking.specs.declared.Layout.{Layout}
use Rattle.checking.specs.Checks.{Checks, layout_by}
use Rattle.questions.specs.Readings.{Try, got, bind}
use Rattle.questions.specs.Ask.{order_in}
use Rattle.questions.proofs.ReadLaws.{release_in_lem, order_in_lem}
use Rattle.reading.specs.declared.Opened as Code
use Rattle.reading.specs.Reads.{opened_by, edition_in}

-- the marks of an edition and a byte order are read as those
marks_back : (r : Release) (o : Order) → edition_in (edition r).number (order_mark o) ≡ got (edition r, o)
marks_back r o =
    ap (λ (t : Try Release). bind t λ s. bind (order_in (order_mark o)) λ p. got (edition s, p)) (release_in_lem r)
    ∙ ap (λ (t : Try Order). bind t λ p. got (edition r, p)) (order_in_lem o)

module _ {f : List ℕ} {l : Layout} (C : Checks f (Ok l)) where
  layout : layout_by l ≡ Format.layout_by (edition_of f) (order_of f) (contents f)
  layout = C.layout ∙ layout_is (release_of f) (order_of f) f (contents f) (itself f (sym C.code))

  pub opened_is : (x : Option Code.Opened) → x ≡ opened_by (edition_in l.edition l.order) → x ≡ opened_by (got (edition_of f, order_of f))
  opened_is x h = h ∙ ap opened_by (ap (λ (y : Format.Layout). edition_in y.release y.order) layout ∙ marks_back (release_of f) (order_of f))
