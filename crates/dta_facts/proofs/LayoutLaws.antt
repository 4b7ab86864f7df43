-- A layout taken from numbers.
use mathlib.Core.Path.{◌≡◌, subst}
use Prim.Native.Nat.{ℕ, ◌≤◌, ◌<◌}
use mathlib.Core.List.{List}
use lib.ListN.{length, get_or, take, drop}
use borrow.Author.Tests.{le-leb, lt-leb}
use Rattle.format.specs.Dta.{Layout, no_layout}
use Rattle.questions.specs.Ask.{Question}
use Rattle.std.specs.Prelude.{Result}
use Rattle.refusal.specs.declared.Refusal.{Refusal}
use Rattle.coded.specs.Coded.{following, Tells}
use Rattle.word_columns.specs.Across.{TellsAcross}
use Rattle.dta_facts.specs.Exports.{layout_in}

-- fewer than eighteen numbers
pub layout_none : (s : List ℕ) → length s < 18 → no_layout ≡ layout_in s
layout_none s h = rw (lt-leb 18 (length s) h)

-- eighteen
pub layout_some : (s w : List ℕ) → 18 ≤ length s → w ≡ take 14 (drop 4 s) → record { release = get_or s 0 0; order = get_or s 1 0; variables = get_or s 2 0; rows = get_or s 3 0; places = w } ≡ layout_in s
layout_some s w h e = rw (le-leb 18 (length s) h, e)

-- answers by the layout l, of those from a up to what it has of a kind, are answers by the layout m
pub tells_by : (k : Layout → ℕ) (a : ℕ) {f d w : List ℕ} {l m : Layout} {i j : ℕ} {q : ℕ → Question} {r : Result ℕ Refusal} → l ≡ m → Tells f l i j q (following a (k l)) d w r → Tells f m i j q (following a (k m)) d w r
tells_by k a {f} {d} {w} {l} {m} {i} {j} {q} {r} e t = subst (λ (x : Layout). Tells f x i j q (following a (k x)) d w r) e t

-- the same of the words of several variables
pub across_by : (v : List ℕ) (j x : ℕ) {f d w : List ℕ} {l m : Layout} {r : Result ℕ Refusal} → l ≡ m → TellsAcross f l v j x d w r → TellsAcross f m v j x d w r
across_by v j x {f} {d} {w} {l} {m} {r} e t = subst (λ (y : Layout). TellsAcross f y v j x d w r) e t
