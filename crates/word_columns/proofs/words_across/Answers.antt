use Rattle.word_columns.proofs.AcrossLaws.{across_none}
use Rattle.word_columns.proofs.words_across.Goals as goal

pub returns-then-not-is_cell : goal.returns-then-not-is_cell
returns-then-not-is_cell c = across_none _ _ _ _ _ _ _ c.first_of.ensures _ c.is_cell.ensures c.if-not-is_cell.true
