-- The type of an answer, as the code has it.
use Rattle.std.specs.Prelude.{Result, Ok, Err}
use Rattle.codes.specs.declared.Field.{Field}
use Rattle.codes.specs.Fields.{field_by}
use Rattle.refusal.specs.declared.Refusal.{Refusal}
use Rattle.refusal.specs.declared.Refusal.TheVariants.{NotReadable}
use Rattle.refusal.specs.Refusals.{refusal_by}
use Rattle.questions.specs.Ask.{Answer, refused, count, mark, typed, part, column, labels, cell, plain, long}

-- kind and width of its field
abbrev pub typed_by : Answer → Result Field Refusal
typed_by (refused c) = Err (refusal_by c)
typed_by (count n) = Err NotReadable
typed_by (mark b) = Err NotReadable
typed_by (typed t) = Ok (field_by t)
typed_by (part p n) = Err NotReadable
typed_by (column t p n) = Err NotReadable
typed_by (labels s) = Err NotReadable
typed_by (cell s) = Err NotReadable
typed_by (plain t) = Err NotReadable
typed_by (long k p n) = Err NotReadable
