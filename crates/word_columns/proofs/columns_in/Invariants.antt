use Rattle.checking.specs.Checks.{layout_by}
use Rattle.word_runs.specs.Words.{ListingFits}
use Rattle.word_columns.proofs.AcrossLaws.{Come}
use Rattle.word_columns.proofs.columns_in.Given as goal

-- what is stored; and what is listed of the last text area
abbrev pub invariant-loop-k : goal.invariant-loop-k
invariant-loop-k l = (Come l.f (layout_by l.l) l.v l.j l.h l.initial.out l.at l.k l.out) × (ListingFits l.f l.t l.x)
