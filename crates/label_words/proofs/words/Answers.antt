use mathlib.Core.Path.{sym, ap, ◌∙◌}
use Rattle.std.specs.Prelude.{None, Some, Ok, Err}
use Rattle.checking.specs.Checks.{layout_by}
use Rattle.label_words.proofs.WordLaws.{words_lent}
use Rattle.label_words.proofs.ShownLaws.{words_shown}
use Rattle.label_words.proofs.words.Goals as goal

pub returns-in-Ok-Some : goal.returns-in-Ok-Some
returns-in-Ok-Some c =
    let a = c.args in
    c.part_at.ensures ∙ words_shown a.file.now a.plain.now (Ok (Some c.in-Ok-Some.part)) _ (words_lent a.file.now (layout_by a.l) a.i a.j _ (ap Ok (sym c.in-Ok-Some.field-0-is) ∙ c.in-Ok-Some.ensures) a.plain.now)

pub returns-in-Ok-None : goal.returns-in-Ok-None
returns-in-Ok-None c =
    let a = c.args in words_shown a.file.now a.plain.now (Ok None) _ (words_lent a.file.now (layout_by a.l) a.i a.j _ (ap Ok (sym c.in-Ok-None.field-0-is) ∙ c.in-Ok-None.ensures) a.plain.now)

pub returns-in-Err : goal.returns-in-Err
returns-in-Err c =
    let a = c.args in words_shown a.file.now a.plain.now (Err c.in-Err.field-0) _ (words_lent a.file.now (layout_by a.l) a.i a.j _ c.in-Err.ensures a.plain.now)
