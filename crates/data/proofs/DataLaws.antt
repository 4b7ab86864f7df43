-- The data, from the answers for its first tag and room, and for its last tag.
use mathlib.Core.Path.{◌≡◌, refl, sym, ap, ◌∙◌, subst}
use Prim.Native.Nat.{ℕ, ◌+◌, ◌*◌, ◌≤◌}
use mathlib.Core.List.{List, []}
use mathlib.Core.Bool.{Bool, true, cond}
use lib.ListN.{length}
use Rattle.format.specs.Number.{Order}
use Rattle.format.specs.Grammar.{Sect, also, next, tag, times, judge_times, read_times, row, row_width, within}
use Rattle.format.specs.Edition.{opening, closing, n_data}
use Rattle.format.specs.Variables.{VarType, type_code}
use Rattle.format.specs.Data.{Cell, cell, cell_width, observations}
use Rattle.format.proofs.StepLaws.{between_judge, within_room}
use Rattle.format.proofs.Good.{also_left, also_right}
use Rattle.std.specs.Prelude.{Result, Ok, Err}
use Rattle.refusal.specs.declared.Refusal.{Refusal}
use Rattle.section.specs.Judged.{Judged}
use Rattle.section.specs.Parts.{Opened}
use Rattle.section.proofs.PartLaws.{open_refused, open_room, close_judged, part_by}
use Rattle.data.specs.Places.{off_at, DataJudged}
use Rattle.data.proofs.PlaceLaws.{width_is, rows_judge, rows_next}

module _ (t : Bool) (o : Order) (f : List ℕ) (tp k n p : ℕ) (right : judge_times (type_code t o) k f tp ≡ 0)
    {m : ℕ} (e : m ≡ n * off_at t o f tp k) where
  abbrev l : List VarType
  l = read_times (type_code t o) k f tp

  abbrev first : List ℕ
  first = cond t (opening true n_data) []

  abbrev last : List ℕ
  last = cond t (closing true n_data) []

  module _ (vw ow : ℕ) (eight : vw + ow ≡ 8) where
    size : m ≡ n * row_width (cell_width vw ow) l
    size = e ∙ ap (λ (w : ℕ). n * w) (sym (width_is t o f tp vw ow eight k right))

    abbrev rows : Sect (List (List Cell))
    rows = times (row (cell o vw ow) l) n

    opened : {r : Result ℕ Refusal} → Opened first m f p r → Opened first (n * row_width (cell_width vw ow) l) f p r
    opened {r} O = subst (λ (x : ℕ). Opened first x f p r) size O

    refused : (c : Refusal) → Opened first m f p (Err c) → Judged (observations t o vw ow l n) f p (Err c)
    unfolding observations
    refused c O = part_by t n_data (within (n * row_width (cell_width vw ow) l) rows) f p (Err c) (open_refused first last _ rows f p c (opened O))

    accepted : {a : ℕ} → Opened first m f p (Ok a) → (s : Result ℕ Refusal) → Judged (tag last 4) f (a + m) s → Judged (observations t o vw ow l n) f p s
    unfolding observations
    accepted {a} O s c =
        part_by t n_data (within (n * row_width (cell_width vw ow) l) rows) f p s
        (close_judged first last _ rows f p (opened O) (a + m) s (sym (rows_judge t o f tp vw ow eight l n a))
        (ap (λ (x : ℕ). a + x) size ∙ sym (rows_next t o f tp vw ow eight l n a)) c)

  -- the first tag or the room is refused; else the bytes are there, and the last tag decides
  pub data_refused : (c : Refusal) → Opened first m f p (Err c) → DataJudged t o f tp k n p (Err c)
  data_refused c O vw ow eight = refused vw ow eight c O

  module _ {a : ℕ} (O : Opened first m f p (Ok a)) where
    pub data_room : a + m ≤ length f
    data_room = open_room first last m (times (row (cell o 4 4) l) n) f p O

    pub data_accepted : (s : Result ℕ Refusal) → Judged (tag last 4) f (a + m) s → DataJudged t o f tp k n p s
    data_accepted s c vw ow eight = accepted vw ow eight O s c

-- after data that was judged right: the rows are there, after the first tag
pub data_there : (t : Bool) (o : Order) (f : List ℕ) (tp k n p : ℕ) → judge_times (type_code t o) k f tp ≡ 0 → {s : ℕ} → DataJudged t o f tp k n p (Ok s)
    → p + length (opening t n_data) + n * off_at t o f tp k ≤ length f
unfolding observations
data_there t o f tp k n p right J =
    let l = read_times (type_code t o) k f tp in
    let q = p + length (opening t n_data) in
    let R = within (n * row_width (cell_width 4 4) l) (times (row (cell o 4 4) l) n) in
    let e : also ((tag (opening t n_data) 4).judge f p) (also (R.judge f q) ((tag (closing t n_data) 4).judge f (next R f q))) ≡ 0 =
    sym ((J 4 4 refl).code ∙ between_judge (opening t n_data) (closing t n_data) R f p) in
    let g = also_left (R.judge f q) ((tag (closing t n_data) 4).judge f (next R f q)) (also_right ((tag (opening t n_data) 4).judge f p) (also (R.judge f q) ((tag (closing t n_data) 4).judge f (next R f q))) e) in
    subst (λ (w : ℕ). q + n * w ≤ length f) (width_is t o f tp 4 4 refl k right) (within_room (n * row_width (cell_width 4 4) l) (times (row (cell o 4 4) l) n) f q g)
