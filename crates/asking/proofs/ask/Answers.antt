use mathlib.Core.Path.{refl}
use Rattle.answers.specs.Answers.{number_by, part_by}
use Rattle.text_facts.specs.Marks.{mark_by}
use Rattle.variable_facts.specs.Types.{typed_by}
use Rattle.cells.specs.Cells.{said_by}
use Rattle.walks.specs.Answers.{long_by, words_by}
use Rattle.checking.specs.Checks.{layout_by}
use Rattle.asking.specs.Asking.{by_number, by_part, by_mark, by_type, by_cell, by_long, by_words}
use Rattle.asking.proofs.AskLaws.{asked}
use Rattle.asking.proofs.ask.Goals as goal

pub returns-in-Edition : goal.returns-in-Edition
returns-in-Edition c =
    let a = c.args in
    asked a.f.now (layout_by a.l) number_by by_number c.in-Edition.is c.by_number.ensures (c.edition.ensures a.f.now) refl refl (λ n. refl)

pub returns-in-Order : goal.returns-in-Order
returns-in-Order c =
    let a = c.args in
    asked a.f.now (layout_by a.l) number_by by_number c.in-Order.is c.by_number-in-Order.ensures (c.order.ensures a.f.now) refl refl (λ n. refl)

pub returns-in-Variables : goal.returns-in-Variables
returns-in-Variables c =
    let a = c.args in
    asked a.f.now (layout_by a.l) number_by by_number c.in-Variables.is c.by_number-in-Variables.ensures (c.variables.ensures a.f.now) refl refl (λ n. refl)

pub returns-in-Rows : goal.returns-in-Rows
returns-in-Rows c =
    let a = c.args in
    asked a.f.now (layout_by a.l) number_by by_number c.in-Rows.is c.by_number-in-Rows.ensures (c.rows.ensures a.f.now) refl refl (λ n. refl)

pub returns-in-Label : goal.returns-in-Label
returns-in-Label c =
    let a = c.args in
    asked a.f.now (layout_by a.l) part_by by_part c.in-Label.is c.by_part.ensures c.label.ensures refl refl (λ p n. refl)

pub returns-in-Stamp : goal.returns-in-Stamp
returns-in-Stamp c =
    let a = c.args in
    asked a.f.now (layout_by a.l) part_by by_part c.in-Stamp.is c.by_part-in-Stamp.ensures c.stamp.ensures refl refl (λ p n. refl)

pub returns-in-Type : goal.returns-in-Type
returns-in-Type c =
    let a = c.args in
    asked a.f.now (layout_by a.l) typed_by by_type c.in-Type.is c.by_type.ensures c.var_type.ensures refl refl (λ t. refl)

pub returns-in-Name : goal.returns-in-Name
returns-in-Name c =
    let a = c.args in
    asked a.f.now (layout_by a.l) part_by by_part c.in-Name.is c.by_part-in-Name.ensures c.name.ensures refl refl (λ p n. refl)

pub returns-in-Format : goal.returns-in-Format
returns-in-Format c =
    let a = c.args in
    asked a.f.now (layout_by a.l) part_by by_part c.in-Format.is c.by_part-in-Format.ensures c.format.ensures refl refl (λ p n. refl)

pub returns-in-Set : goal.returns-in-Set
returns-in-Set c =
    let a = c.args in
    asked a.f.now (layout_by a.l) part_by by_part c.in-Set.is c.by_part-in-Set.ensures c.set_name.ensures refl refl (λ p n. refl)

pub returns-in-VarLabel : goal.returns-in-VarLabel
returns-in-VarLabel c =
    let a = c.args in
    asked a.f.now (layout_by a.l) part_by by_part c.in-VarLabel.is c.by_part-in-VarLabel.ensures c.var_label.ensures refl refl (λ p n. refl)

pub returns-in-Date : goal.returns-in-Date
returns-in-Date c =
    let a = c.args in
    asked a.f.now (layout_by a.l) mark_by by_mark c.in-Date.is c.by_mark.ensures c.date_mark.ensures refl refl (λ b. refl)

pub returns-in-Sort : goal.returns-in-Sort
returns-in-Sort c =
    let a = c.args in
    asked a.f.now (layout_by a.l) number_by by_number c.in-Sort.is c.by_number-in-Sort.ensures c.sort_place.ensures refl refl (λ n. refl)

pub returns-in-Content : goal.returns-in-Content
returns-in-Content c =
    let a = c.args in
    asked a.f.now (layout_by a.l) said_by by_cell c.in-Content.is c.by_cell.ensures c.cell_of.ensures refl refl (λ s. refl)

pub returns-in-LongString : goal.returns-in-LongString
returns-in-LongString c =
    let a = c.args in
    asked a.f.now (layout_by a.l) long_by by_long c.in-LongString.is c.by_long.ensures c.long_string.ensures refl refl (λ k p n. refl)

pub returns-in-LabelWords : goal.returns-in-LabelWords
returns-in-LabelWords c =
    let a = c.args in
    asked a.f.now (layout_by a.l) words_by by_words c.in-LabelWords.is c.by_words.ensures c.label_words.ensures refl refl ((λ p n. refl), refl)
