-- Runs: cells beside each other that are written in the same way. A run has a kind and a count; a table holds runs as count * 16 + kind.
use Rattle.std.specs.Prelude.{◌≡◌, ℕ, zero, suc, ◌+◌, ◌-◌, ◌*◌, ◌/◌, ◌%◌, ◌≤◌, List, [], ◌++◌, Bool, cond, not, ◌&&◌, length, get_or, take, drop, eqb}
use Rattle.format.specs.Slot.{fill}
use Rattle.format.specs.Number.{msf, lsf, num, num_slots}
use Rattle.format.specs.Grammar.{text_at, text_slots, number}
use Rattle.format.specs.Variables.{strl_type}
use Rattle.codes.specs.declared.Kind.{Kind}
use Rattle.codes.specs.declared.Kind.TheVariants.{Text, StrL, Byte, Int, Long, Float, Double, Unknown}
use Rattle.write_data.specs.declared.Source.{Source}
use Rattle.write_data.specs.declared.Forms.{Forms}
use Rattle.write_data.specs.Rows.{from, to, Eights, put_times, row_span, row_bytes}

-- numbers keep their byte order; references keep their form
abbrev pub same_order : Forms → Bool
same_order h = cond h.msf h.tomsf (not h.tomsf)

abbrev pub keeps : Forms → Bool
keeps h = same_order h && eqb h.v h.tov

-- v and o have 4 bytes before and after
abbrev pub halves : Forms → Bool
halves h = eqb h.v 4 && eqb h.tov 4

-- how cells of a kind are written: 0, a text; 1, copied; 2, 4, 8, numbers of so many bytes, turned; 3, references
abbrev pub run_kind : Forms → Kind → ℕ
run_kind h Text = 0
run_kind h StrL = cond (keeps h) 1 (cond (halves h) 4 3)
run_kind h Byte = 1
run_kind h Int = cond (same_order h) 1 2
run_kind h Long = cond (same_order h) 1 4
run_kind h Float = cond (same_order h) 1 4
run_kind h Double = cond (same_order h) 1 8
run_kind h Unknown = 0

-- the bytes that a count of 1 stands for, and those of a run
unfoldable pub run_step : ℕ → ℕ
run_step zero = 1
run_step (suc zero) = 1
run_step (suc (suc zero)) = 2
run_step (suc (suc (suc zero))) = 8
run_step (suc (suc (suc (suc zero)))) = 4
run_step (suc (suc (suc (suc (suc s))))) = 8

abbrev pub run_size : ℕ → ℕ → ℕ
run_size s c = c * run_step s

-- the number of w bytes at q, with its bytes in the other order
abbrev pub turned : ℕ → List ℕ → ℕ → List ℕ
turned w f q = fill (num_slots msf w (num lsf w f q))

-- what is put for the run at q: numbers have their bytes in the other order
unfoldable pub run_bytes : Forms → ℕ → ℕ → List ℕ → ℕ → List ℕ
run_bytes h zero c f q = fill (text_slots c (text_at c f q))
run_bytes h (suc zero) c f q = take c (drop q f)
run_bytes h (suc (suc zero)) c f q = put_times (number lsf 2) (number msf 2) c f q
run_bytes h (suc (suc (suc zero))) c f q = put_times (from h strl_type) (to h strl_type) c f q
run_bytes h (suc (suc (suc (suc zero)))) c f q = put_times (number lsf 4) (number msf 4) c f q
run_bytes h (suc (suc (suc (suc (suc s))))) c f q = put_times (number lsf 8) (number msf 8) c f q

module _ (t : List ℕ) where
  -- the kind and the count of run i
  abbrev pub kind_at : ℕ → ℕ
  kind_at i = get_or t i 0 % 16

  abbrev pub count_at : ℕ → ℕ
  count_at i = get_or t i 0 / 16

  -- the bytes of the first r runs
  abbrev pub runs_size : ℕ → ℕ
  runs_size zero = 0
  runs_size (suc r) = runs_size r + run_size (kind_at r) (count_at r)

  -- a run of kind s joins the last of r runs
  abbrev pub joins : ℕ → ℕ → Bool
  joins r s = not (eqb s 0) && (not (eqb r 0) && eqb (kind_at (r - 1)) s)

  -- a row of r runs is one run that joins the next row's
  abbrev pub one_run : ℕ → Bool
  one_run r = eqb r 1 && not (eqb (kind_at 0) 0)

  -- what is put for the r runs of a row at q
  abbrev pub runs_bytes : Forms → ℕ → List ℕ → ℕ → List ℕ
  runs_bytes h zero f q = []
  runs_bytes h (suc r) f q = runs_bytes h r f q ++ run_bytes h (kind_at r) (count_at r) f (q + runs_size r)

-- the x runs of u are the r runs of t, and one of kind s and count c
pub record Added (t : List ℕ) (r s c : ℕ) (u : List ℕ) (x : ℕ) : Type 0 where
  pub long : length u ≡ 32768
  pub few : x ≤ r + 1
  pub size : runs_size u x ≡ runs_size t r + run_size s c
  pub bytes : (h : Forms) → Eights h → (f : List ℕ) (q : ℕ) → runs_bytes u h x f q ≡ runs_bytes t h r f q ++ run_bytes h s c f (q + runs_size t r)

-- the r runs of t are the cells of a row: they have its width, and what is put for them is what is put for the row
pub record Planned (f : List ℕ) (g : Source) (h : Forms) (t : List ℕ) (r : ℕ) : Type 0 where
  pub few : r ≤ 32767
  pub size : runs_size t r ≡ row_span f g
  pub bytes : (q : ℕ) → q + row_span f g ≤ length f → runs_bytes t h r f q ≡ row_bytes f g h q
