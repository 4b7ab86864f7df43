-- The bytes that label words show.
use mathlib.Core.Path.{◌≡◌, ap}
use Prim.Native.Nat.{ℕ}
use mathlib.Core.List.{List, []}
use Rattle.std.specs.Prelude.{Option, None, Some, Result, Ok, Err}
use Rattle.refusal.specs.declared.Refusal.{Refusal}
use Rattle.questions.specs.Ask.{Answer, slice, shown}
use Rattle.answers.specs.declared.Part.{Part}
use Rattle.label_words.proofs.WordLaws.{words_of}

-- the bytes of label words, with the lent text t
abbrev pub bytes_of : List ℕ → List ℕ → Result (Option Part) Refusal → List ℕ
bytes_of f t (Ok (Some r)) = slice f r.at r.len
bytes_of f t (Ok None) = t
bytes_of f t (Err e) = []

pub words_shown : (f t : List ℕ) (r : Result (Option Part) Refusal) (a : Answer) → words_of t r ≡ a → bytes_of f t r ≡ shown f a
words_shown f t (Ok (Some r)) a e = ap (shown f) e
words_shown f t (Ok None) a e = ap (shown f) e
words_shown f t (Err d) a e = ap (shown f) e
