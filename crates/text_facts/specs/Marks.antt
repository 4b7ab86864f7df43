-- The date mark of an answer, as the code has it.
use Rattle.std.specs.Prelude.{Bool, Result, Ok, Err}
use Rattle.questions.specs.Ask.{Answer, refused, count, mark, typed, part, column, labels, cell, plain, long}
use Rattle.refusal.specs.declared.Refusal.{Refusal}
use Rattle.refusal.specs.declared.Refusal.TheVariants.{NotReadable}
use Rattle.refusal.specs.Refusals.{refusal_by}

abbrev pub mark_by : Answer → Result Bool Refusal
mark_by (refused c) = Err (refusal_by c)
mark_by (count n) = Err NotReadable
mark_by (mark b) = Ok b
mark_by (typed t) = Err NotReadable
mark_by (part p n) = Err NotReadable
mark_by (column t p n) = Err NotReadable
mark_by (labels s) = Err NotReadable
mark_by (cell s) = Err NotReadable
mark_by (plain t) = Err NotReadable
mark_by (long k p n) = Err NotReadable
