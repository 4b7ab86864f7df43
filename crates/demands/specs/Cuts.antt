-- Beginnings of an accepted file: none of a 117 or 118 file is accepted but the whole; one of a 113, 114 or 115 file is, exactly if it ends at the data's
-- end or a label block's end.
use Rattle.std.specs.Prelude.{◌≡◌, ℕ, ◌+◌, ◌≤◌, List, true, false, length, get_or, take, Result}
use Rattle.refusal.specs.declared.Refusal.{Refusal}
use Rattle.refusal.specs.Refusals.{code_of}
use Rattle.format.specs.Grammar.{sizes}
use Rattle.format.specs.Labels.{block}
use Rattle.format.specs.Dta.{edition_of, order_of, dataset_of, layout_of}
use Rattle.checking.specs.declared.Layout.{Layout}
use Rattle.demands.specs.Logic.{Iff}

-- where the first m label blocks of an accepted file end; with m = 0, where they start, which is the data's end in 113, 114 and 115
abbrev pub blocks_end : List ℕ → ℕ → ℕ
blocks_end f m = get_or (layout_of f).places 11 0 + sizes (block (edition_of f).tagged (order_of f) (edition_of f).name_width) (take m (dataset_of f).label_blocks)

-- the answer b for the first n bytes of an accepted file f
pub record CutGiven (f : List ℕ) (n : ℕ) (b : Result Layout Refusal) : Type 0 where
  -- 117 and 118: only the whole file is accepted
  pub tagged : (edition_of f).tagged ≡ true → Iff (code_of b ≡ 0) (n ≡ length f)
  -- 113, 114 and 115: what ends at the data's end or a label block's end is
  pub untagged : (edition_of f).tagged ≡ false → Iff (code_of b ≡ 0) ((m : ℕ) × (m ≤ length (dataset_of f).label_blocks) × (n ≡ blocks_end f m))
