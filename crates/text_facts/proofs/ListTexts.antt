-- The text of a variable in a list.
use mathlib.Core.Path.{◌≡◌, refl}
use Prim.Native.Nat.{ℕ, ◌+◌, ◌-◌, ◌*◌}
use mathlib.Core.List.{List}
use lib.ListN.{length}
use Rattle.format.specs.Number.{Order}
use Rattle.format.specs.Edition.{Edition, opening}
use Rattle.format.specs.Dta.{Layout}
use Rattle.questions.specs.Ask.{text_part, place, answer_in, in_range, among}
use Rattle.text_facts.specs.declared.TextList.{TextList}
use Rattle.text_facts.specs.declared.TextList.TheVariants.{Names, Formats, SetNames, VarLabels}
use Rattle.text_facts.specs.Lists.{part_of, name_of, width_of, asked}

-- its question is about a variable
pub asked_of : (k : TextList) (l : Layout) (i : ℕ) → in_range l (asked k i) ≡ among i l.variables
asked_of Names l i = refl
asked_of Formats l i = refl
asked_of SetNames l i = refl
asked_of VarLabels l i = refl

-- it stands in its own part
pub text_asked : (k : TextList) (e : Edition) (o : Order) (f : List ℕ) (l : Layout) (i : ℕ) {w : ℕ}
    → w ≡ width_of k e
    → text_part w f (place l (part_of k) + length (opening e.tagged (name_of k)) + (i - 1) * w) ≡ answer_in e o f l (asked k i)
text_asked Names e o f l i h = rw h refl
text_asked Formats e o f l i h = rw h refl
text_asked SetNames e o f l i h = rw h refl
text_asked VarLabels e o f l i h = rw h refl
