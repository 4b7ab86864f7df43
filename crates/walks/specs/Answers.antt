-- The answers about a cell, as code has them.
use Rattle.std.specs.Prelude.{Option, None, Some, Result, Ok, Err}
use Rattle.questions.specs.Ask.{Labels, unlabelled, labelled, Answer, refused, count, mark, typed, part, column, labels, cell, plain, long}
use Rattle.refusal.specs.declared.Refusal.{Refusal}
use Rattle.refusal.specs.declared.Refusal.TheVariants.{NotReadable}
use Rattle.refusal.specs.Refusals.{refusal_by}
use Rattle.walks.specs.declared.Long.{Long}
use Rattle.walks.specs.declared.LabelSet.{LabelSet}
use Rattle.answers.specs.declared.Part.{Part}

-- the long string of an answer
abbrev pub long_by : Answer → Result Long Refusal
long_by (refused c) = Err (refusal_by c)
long_by (count n) = Err NotReadable
long_by (mark b) = Err NotReadable
long_by (typed t) = Err NotReadable
long_by (part p n) = Err NotReadable
long_by (column t p n) = Err NotReadable
long_by (labels s) = Err NotReadable
long_by (cell s) = Err NotReadable
long_by (plain t) = Err NotReadable
long_by (long k p n) = Ok (record { kind = k; at = p; len = n })

-- the label words of an answer: a part of the file, none where the plain text is shown, or the refusal, told as t says
abbrev pub words_told : {E : Type 0} → (Refusal → E) → Answer → Result (Option Part) E
words_told t (refused c) = Err (t (refusal_by c))
words_told t (count n) = Err (t NotReadable)
words_told t (mark b) = Err (t NotReadable)
words_told t (typed k) = Err (t NotReadable)
words_told t (part p n) = Ok (Some (record { at = p; len = n }))
words_told t (column k p n) = Err (t NotReadable)
words_told t (labels s) = Err (t NotReadable)
words_told t (cell s) = Err (t NotReadable)
words_told t (plain x) = Ok None
words_told t (long k p n) = Err (t NotReadable)

-- .. as it is
abbrev pub words_by : Answer → Result (Option Part) Refusal
words_by a = words_told (λ r. r) a

-- ---- label sets

-- the label table, where there is one
abbrev pub table_by : Labels → Option LabelSet
table_by unlabelled = None
table_by (labelled p n) = Some (record { at = p; len = n })

-- the label set of an answer
abbrev pub set_by : Answer → Result (Option LabelSet) Refusal
set_by (refused c) = Err (refusal_by c)
set_by (count n) = Err NotReadable
set_by (mark b) = Err NotReadable
set_by (typed t) = Err NotReadable
set_by (part p n) = Err NotReadable
set_by (column t p n) = Err NotReadable
set_by (labels s) = Ok (table_by s)
set_by (cell s) = Err NotReadable
set_by (plain t) = Err NotReadable
set_by (long k p n) = Err NotReadable

-- the set s with the length 0: where its table stands is all that words are found by
abbrev pub lenless : Result (Option LabelSet) Refusal → Result (Option LabelSet) Refusal
lenless (Ok (Some s)) = Ok (Some (record { at = s.at; len = 0 }))
lenless (Ok None) = Ok None
lenless (Err e) = Err e
