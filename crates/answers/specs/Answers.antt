-- What the answers of questions about header and variables promise.
use Rattle.std.specs.Prelude.{ℕ, ◌+◌, List, [], Bool, cond, length, leb, Result, Ok, Err}
use Rattle.std.specs.Option.{ok_or}
use Rattle.format.specs.Number.{Order}
use Rattle.format.specs.Edition.{Edition}
use Rattle.questions.specs.Readings.{Try}
use Rattle.questions.specs.Ask.{Answer, refused, count, mark, typed, part, column, labels, cell, plain, long, slice}
use Rattle.refusal.specs.declared.Refusal.{Refusal}
use Rattle.refusal.specs.declared.Refusal.TheVariants.{NotThere, NotReadable}
use Rattle.refusal.specs.Refusals.{refusal_by}
use Rattle.reading.specs.declared.Opened.{Opened}
use Rattle.reading.specs.Reads.{opened_by}
use Rattle.answers.specs.declared.Part.{Part}

-- ---- an answer, as the code has it

-- a number
abbrev pub number_by : Answer → Result ℕ Refusal
number_by (refused c) = Err (refusal_by c)
number_by (count n) = Ok n
number_by (mark b) = Err NotReadable
number_by (typed t) = Err NotReadable
number_by (part p n) = Err NotReadable
number_by (column t p n) = Err NotReadable
number_by (labels s) = Err NotReadable
number_by (cell s) = Err NotReadable
number_by (plain t) = Err NotReadable
number_by (long k p n) = Err NotReadable

-- a part of the file
abbrev pub part_by : Answer → Result Part Refusal
part_by (refused c) = Err (refusal_by c)
part_by (count n) = Err NotReadable
part_by (mark b) = Err NotReadable
part_by (typed t) = Err NotReadable
part_by (part p n) = Ok (record { at = p; len = n })
part_by (column t p n) = Err NotReadable
part_by (labels s) = Err NotReadable
part_by (cell s) = Err NotReadable
part_by (plain t) = Err NotReadable
part_by (long k p n) = Err NotReadable

-- ---- inside a question

-- the edition and the order of a layout: 16 first, then 17 where they are not read
abbrev pub opened_if : Bool → Try (Edition × Order) → Result Opened Refusal
opened_if b t = let r = ok_or (opened_by t) NotReadable in cond b r (Err NotThere)

-- the bytes of a part of the file: none with a refusal, or where they are not in it
abbrev pub part_in : {E : Type 0} → List ℕ → Result Part E → List ℕ
part_in f (Ok p) = cond (leb (p.at + p.len) (length f)) (slice f p.at p.len) []
part_in f (Err e) = []
