-- Words that stand in a text area.
use mathlib.Core.Path.{◌≡◌, sym, ap, ◌∙◌}
use Prim.Native.Nat.{ℕ, ◌+◌, ◌-◌, ◌≤◌, ◌<◌}
use native.Mathlib.Omega.{arith}
use mathlib.Core.List.{List}
use lib.ListN.{length}
use Rattle.std.specs.Prelude.{Some, Ok, Err}
use Rattle.refusal.specs.declared.Refusal.TheVariants.{NotReadable}
use Rattle.format.specs.Grammar.{text_at}
use Rattle.text.specs.Texts.{IsTextLength}
use Rattle.questions.specs.Readings.{got, text_in}
use Rattle.questions.proofs.ReadLaws.{text_in_lem}
use Rattle.answers.specs.declared.Part.{Part}
use Rattle.walks.specs.Walks.{all_ended}
use Rattle.walks.proofs.EndedLaws.{ended_endless, ended_got}
use Rattle.word_runs.specs.declared.Area.{Area}
use Rattle.word_runs.specs.Areas.{InFile, StandsAt}

-- in an area of the file their text is read, and its length is what is looked up
module _ (f : List ℕ) (r : Area) (w : Part) (y n : ℕ) (i : InFile f r) (g : StandsAt r w y) (t : IsTextLength (r.len - y) f (r.at + y) n) where
  is_text : text_in w.len f w.at ≡ got (text_at w.len f w.at)
  is_text = text_in_lem w.len f w.at (omega (arith, i.inside, g.from, g.upto, g.rest))

  is_long : n ≡ length (text_at w.len f w.at)
  is_long = t.is ∙ ap (λ (k : ℕ). length (text_at k f (r.at + y))) (sym g.rest) ∙ ap (λ (k : ℕ). length (text_at w.len f k)) g.from

  pub looked_endless : w.len ≤ n → Err NotReadable ≡ all_ended f (Ok (Some w))
  looked_endless h = ended_endless f w.at w.len n is_text is_long h

  pub looked_got : n < w.len → Ok (Some (record { at = w.at; len = n })) ≡ all_ended f (Ok (Some w))
  looked_got h = ended_got f w.at w.len n is_text is_long h
