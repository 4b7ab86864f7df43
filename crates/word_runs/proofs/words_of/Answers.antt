use mathlib.Core.Path.{ap, ◌∙◌}
use Rattle.format.specs.Number.{order_by}
use Rattle.walks.specs.Walks.{all_ended}
use Rattle.label_words.proofs.WordLaws.{cell_ended}
use Rattle.word_runs.proofs.words_of.Goals as goal

pub returns : goal.returns
returns c =
    let a = c.args in
    c.ended_by.ensures ∙ ap (all_ended a.f.now) c.cell_place.ensures ∙ cell_ended (λ r. r) (order_by a.msf) a.f.now a.s a.c
