use mathlib.Core.Path.{ap, ◌∙◌}
use Rattle.format.specs.Number.{order_by}
use Rattle.walks.specs.Walks.{all_told}
use Rattle.label_words.proofs.WordLaws.{cell_ended}
use Rattle.label_words.proofs.cell_words.Goals as goal

pub returns : goal.returns
returns g c =
    let a = c.args in
    let t = g.E.Told.told in
    c.ended.ensures ∙ ap (all_told t a.f.now) c.cell_place.ensures ∙ cell_ended t (order_by a.msf) a.f.now a.s a.c
