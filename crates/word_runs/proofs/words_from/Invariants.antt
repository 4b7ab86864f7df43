use Rattle.checking.specs.Checks.{layout_by}
use Rattle.cell_runs.proofs.RunLaws.{Filled}
use Rattle.word_runs.specs.Words.{words_down, Listed}
use Rattle.word_runs.proofs.words_from.Given as goal

-- what is stored, and what is listed
abbrev pub invariant-loop-m : goal.invariant-loop-m
invariant-loop-m l = (Filled l.f (layout_by l.l) (words_down l.i l.j) l.initial.out l.m l.out) × Listed l.f l.t l.y
