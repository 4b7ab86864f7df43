-- The questions and answers of the code, as the definitions have them.
use Rattle.std.specs.Prelude.{◌≡◌, List, [], ℕ, Bool, Option, Some, None, Result, Ok, Err}
use Rattle.refusal.specs.declared.Refusal.{Refusal}
use Rattle.refusal.specs.declared.Refusal.TheVariants.{NotReadable}
use Rattle.refusal.specs.Refusals.{number_of, refusal_by}
use Rattle.format.specs.Dta.{Layout}
use Rattle.codes.specs.Fields.{field_by, type_of}
use Rattle.cell.specs.Cells.{says, cell_by}
use Rattle.questions.specs.Ask as Spec
use Rattle.questions.specs.Ask.{answer_of}
use Rattle.answers.specs.declared.Part.{Part}
use Rattle.codes.specs.declared.Field.{Field}
use Rattle.cell.specs.declared.Cell.{Cell}
use Rattle.walks.specs.declared.Long.{Long}
use Rattle.asking.specs.declared.Question as Code
use Rattle.asking.specs.declared.Question.TheVariants as Q
use Rattle.asking.specs.declared.Answer as Told
use Rattle.asking.specs.declared.Answer.TheVariants as A

-- the question that is asked; label words are asked for without a plain text
abbrev pub question_by : Code.Question → Spec.Question
question_by Q.Edition = Spec.ask_edition
question_by Q.Order = Spec.ask_order
question_by Q.Variables = Spec.ask_k
question_by Q.Rows = Spec.ask_n
question_by Q.Label = Spec.ask_label
question_by Q.Stamp = Spec.ask_stamp
question_by (Q.Type i) = Spec.ask_type i
question_by (Q.Name i) = Spec.ask_name i
question_by (Q.Format i) = Spec.ask_format i
question_by (Q.Set i) = Spec.ask_set i
question_by (Q.VarLabel i) = Spec.ask_var_label i
question_by (Q.Date i) = Spec.ask_date i
question_by (Q.Sort i) = Spec.ask_sort i
question_by (Q.Content i j) = Spec.ask_cell i j
question_by (Q.LongString i j) = Spec.ask_long i j
question_by (Q.LabelWords i j) = Spec.ask_words i j []

-- the code's answer: a type by kind and width of its field; where a cell and where a label table stands is not asked here
abbrev pub told_by : Spec.Answer → Told.Answer
told_by (Spec.refused c) = A.Refused (refusal_by c)
told_by (Spec.count n) = A.Count n
told_by (Spec.mark b) = A.YesNo b
told_by (Spec.typed t) = A.Type (field_by t).kind (field_by t).width
told_by (Spec.part p n) = A.Part p n
told_by (Spec.column t p n) = A.Refused NotReadable
told_by (Spec.labels s) = A.Refused NotReadable
told_by (Spec.cell s) = A.Content (cell_by s)
told_by (Spec.plain t) = A.Plain
told_by (Spec.long k p n) = A.LongString k p n

-- r is the answer to the question q over the file f and the layout l
abbrev pub Asked : List ℕ → Layout → Code.Question → Told.Answer → Type 0
Asked f l q r = r ≡ told_by (answer_of f l (question_by q))

-- what the code's answer means, where no text is lent
abbrev pub answer_by : Told.Answer → Spec.Answer
answer_by (A.Refused e) = Spec.refused (number_of e)
answer_by (A.Count n) = Spec.count n
answer_by (A.YesNo b) = Spec.mark b
answer_by (A.Type k w) = Spec.typed (type_of k w)
answer_by (A.Part p n) = Spec.part p n
answer_by (A.Content c) = Spec.cell (says c)
answer_by A.Plain = Spec.plain []
answer_by (A.LongString k p n) = Spec.long k p n

-- ---- the answers of one question each, as the enum

abbrev pub by_number : Result ℕ Refusal → Told.Answer
by_number (Ok n) = A.Count n
by_number (Err e) = A.Refused e

abbrev pub by_part : Result Part Refusal → Told.Answer
by_part (Ok p) = A.Part p.at p.len
by_part (Err e) = A.Refused e

abbrev pub by_mark : Result Bool Refusal → Told.Answer
by_mark (Ok b) = A.YesNo b
by_mark (Err e) = A.Refused e

abbrev pub by_type : Result Field Refusal → Told.Answer
by_type (Ok t) = A.Type t.kind t.width
by_type (Err e) = A.Refused e

abbrev pub by_cell : Result Cell Refusal → Told.Answer
by_cell (Ok c) = A.Content c
by_cell (Err e) = A.Refused e

abbrev pub by_long : Result Long Refusal → Told.Answer
by_long (Ok s) = A.LongString s.kind s.at s.len
by_long (Err e) = A.Refused e

abbrev pub by_words : Result (Option Part) Refusal → Told.Answer
by_words (Ok (Some p)) = A.Part p.at p.len
by_words (Ok None) = A.Plain
by_words (Err e) = A.Refused e
