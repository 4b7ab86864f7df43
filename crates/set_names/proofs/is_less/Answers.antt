use mathlib.Core.Path.{◌≡◌, ◌∙◌}
use Rattle.questions.specs.Ask.{slice}
use Rattle.set_names.proofs.CompareLaws.{before_less, part_whole}
use Rattle.set_names.proofs.is_less.Goals as goal

pub returns : goal.returns
returns c =
    let a = c.args in
    let x : c.part_of.result.now ≡ slice a.f.now a.a.at a.a.len = c.part_of.ensures ∙ part_whole a.f.now a.a c.requires.0 in
    let y : c.part_of-2.result.now ≡ slice a.f.now a.b.at a.b.len = c.part_of-2.ensures ∙ part_whole a.f.now a.b c.requires.1 in
    rw (x, y) at (before_less c.part_of.result.now c.part_of-2.result.now _ c.lt.ensures)
