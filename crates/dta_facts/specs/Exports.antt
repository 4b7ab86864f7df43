-- What the exported functions are given, and what they store.
use Rattle.std.specs.Prelude.{◌≡◌, ℕ, ◌*◌, List, [], ◌∷◌, ◌++◌, cond, length, get_or, take, drop, eqb, leb, Option, Some, None}
use Rattle.format.specs.Dta.{Layout, no_layout, verdict}
use Rattle.questions.specs.Ask.{Question, Answer, refused, ask_edition, ask_order, ask_k, ask_n, ask_label, ask_stamp, ask_type, ask_name, ask_format, ask_set, ask_var_label, ask_date, ask_sort, ask_cell, ask_long, ask_words, answer_of, shown}
use Rattle.refusal.specs.Refusals as Refusals
use Rattle.asking.specs.declared.Answer as Told
use Rattle.asking.specs.Asking.{answer_by}
use Rattle.coded.specs.Coded as Coded
use Rattle.coded.specs.Coded.{numbers_of, told, run_of}
use Rattle.word_columns.specs.Across.{words_across, rows_from}

-- the layout of eighteen numbers, edition, byte order, K, N and the fourteen positions; all zeros where there are fewer
abbrev pub layout_in : List ℕ → Layout
layout_in s =
    cond (leb 18 (length s))
    (record { release = get_or s 0 0; order = get_or s 1 0; variables = get_or s 2 0; rows = get_or s 3 0; places = take 14 (drop 4 s) })
    no_layout

-- the question of a number from 0 to 15, about variable i and observation j
abbrev pub question_of : ℕ → ℕ → ℕ → Question
question_of q i j =
    cond (eqb q 0) ask_edition
    (cond (eqb q 1) ask_order
    (cond (eqb q 2) ask_k
    (cond (eqb q 3) ask_n
    (cond (eqb q 4) ask_label
    (cond (eqb q 5) ask_stamp
    (cond (eqb q 6) (ask_type i)
    (cond (eqb q 7) (ask_name i)
    (cond (eqb q 8) (ask_format i)
    (cond (eqb q 9) (ask_set i)
    (cond (eqb q 10) (ask_var_label i)
    (cond (eqb q 11) (ask_date i)
    (cond (eqb q 12) (ask_sort i)
    (cond (eqb q 13) (ask_cell i j)
    (cond (eqb q 14) (ask_long i j)
    (ask_words i j [])))))))))))))))

-- a number that is no question's: 255, which is the boundary's own and stands in no table of document 01
abbrev pub no_question : Answer
no_question = refused 255

-- what the code's answer means, where none is that of a number that is no question's
abbrev pub given : Option Told.Answer → Answer
given None = no_question
given (Some x) = answer_by x

-- the answer to the question of a number by the layout l. The text that is lent with label words is none: where nothing is found the answer is that the caller's plain
-- text is shown
unfoldable pub asked_in : List ℕ → Layout → ℕ → ℕ → ℕ → Answer
asked_in f l q i j = cond (leb q 15) (answer_of f l (question_of q i j)) no_question

-- the same by the layout of eighteen numbers
abbrev pub asked_by : List ℕ → List ℕ → ℕ → ℕ → ℕ → Answer
asked_by f s q i j = asked_in f (layout_in s) q i j

-- the bytes that the answer to the question of a number shows, where t is the plain text that is lent with label words
abbrev pub shown_by : List ℕ → List ℕ → List ℕ → ℕ → ℕ → ℕ → List ℕ
shown_by f s t q i j = shown f (cond (eqb q 15) (answer_of f (layout_in s) (ask_words i j t)) (asked_by f s q i j))

-- the refusal number of an answer, 0 where it is none
abbrev pub code_of : Answer → ℕ
code_of a = cond (eqb (get_or (numbers_of a) 0 0) 0) (get_or (numbers_of a) 1 0) 0

-- the number of a file's question by its own layout: the refusal number of the file, or else that of the answer
abbrev pub file_code : List ℕ → Answer → ℕ
file_code f a = cond (eqb (verdict f) 0) (code_of a) (verdict f)

-- what a slice of bytes that held d holds after the bytes t were stored, where it has room for all of them
abbrev pub copied : List ℕ → List ℕ → List ℕ
copied t d = cond (leb (length t) (length d)) (t ++ drop (length t) d) d

-- what a slice of numbers that held d holds after an answer was stored, where it has room for one
abbrev pub answered : Answer → List ℕ → List ℕ
answered a d = cond (leb 4 (length d)) (numbers_of a ++ drop 4 d) d

-- what a slice of numbers that held d holds after n was stored in its first place, where it has one
abbrev pub stored : ℕ → List ℕ → List ℕ
stored n d = cond (leb 1 (length d)) (n ∷ drop 1 d) d

-- what a run of answers to q 0, q 1, .., n at most, from the cell of variable i and observation j on promises (`Tells`): r is its number, w is what the slice of answers
-- then holds, which was d, and v what the slice for their count holds, which was e
pub record Runs (f : List ℕ) (l : Layout) (i j : ℕ) (q : ℕ → Question) (n : ℕ) (d w e v : List ℕ) (r : ℕ) : Type 0 where
  pub code : r ≡ Refusals.code_of (run_of l i j n (length d))
  pub out : w ≡ (let m = Coded.stored (run_of l i j n (length d)) in told f l q m ++ drop (m * 4) d)
  pub count : v ≡ stored (Coded.stored (run_of l i j n (length d))) e

-- the same for the label words of the variables s in x observations from j on (`TellsAcross`)
abbrev pub RunsAcross : List ℕ → Layout → List ℕ → ℕ → ℕ → List ℕ → List ℕ → List ℕ → List ℕ → ℕ → Type 0
RunsAcross f l s j x d w e v r = Runs f l (get_or s 0 0) j (words_across s j (rows_from l j x)) (length s * rows_from l j x) d w e v r
