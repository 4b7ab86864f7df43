use mathlib.Core.Path.{◌≡◌, refl, ◌∙◌}
use native.Mathlib.Omega.{arith}
use Rattle.std.specs.Prelude.{Some, None}
use Rattle.std.proofs.lemmas.Result.{err_from_is_err_and}
use Rattle.checking.specs.Checks.{layout_by}
use Rattle.cells.proofs.CellLaws.{said_lettered}
use Rattle.label_words.proofs.WordLaws.{words_refused, words_opened, words_are}
use Rattle.label_words.proofs.label_words.Goals as goal

pub returns-in_err-c : goal.returns-in_err-c
returns-in_err-c c =
    let a = c.args in
    let p = err_from_is_err_and c.from_residual.result c.from_residual.ensures.1 in
    rw (p.1, p.2) (words_refused a.f.now (layout_by a.l) a.i a.j _ refl _ c.in_err-c.ensures)

pub returns-in_err-o : goal.returns-in_err-o
returns-in_err-o c =
    let a = c.args in
    let z : None ≡ c.edition_in.result = grind arith in
    absurd (words_opened a.f.now (layout_by a.l) a.i a.j _ refl c.in_ok-c.c c.in_ok-c.ensures (z ∙ c.edition_in.ensures))

pub cell_words-requires : goal.cell_words-requires
cell_words-requires c =
    let a = c.args in said_lettered a.f.now (layout_by a.l) a.i a.j c.in_ok-c.ensures

pub returns : goal.returns
returns c =
    let a = c.args in
    let z : Some c.in_ok-o.o ≡ c.edition_in.result = grind arith in
    c.cell_words.ensures ∙ words_are a.f.now (layout_by a.l) a.i a.j c.set_of.result c.set_of.ensures c.in_ok-c.c c.in_ok-c.ensures c.in_ok-o.o (z ∙ c.edition_in.ensures)
