use mathlib.Core.Path.{sym, ◌∙◌}
use Prim.Native.Nat.{◌-◌}
use native.Mathlib.Omega.{arith}
use Rattle.write_data.specs.Runs.{runs_size}
use Rattle.write_data.proofs.RunLaws.{count_small, entry_small, added_new, added_last, joins_some, joins_last, joins_kind}
use Rattle.write_data.proofs.add_run.Goals as goal

pub overflow_mul-t : goal.overflow_mul-t
overflow_mul-t c = let a = c.args in omega (arith, count_small a.s a.c (runs_size a.t.now a.r) c.requires.3)

pub overflow_add-t : goal.overflow_add-t
overflow_add-t c =
    let a = c.args in
    let b = joins_some a.t.now a.r a.s (sym c.joins_last.ensures ∙ c.if-joins_last.true) in
    omega (arith, entry_small a.t.now (a.r - 1) a.r a.s a.c (omega arith) c.requires.3)

pub returns-then-joins_last : goal.returns-then-joins_last
returns-then-joins_last c =
    let a = c.args in
    let p = c.requires in
    let j = sym c.joins_last.ensures ∙ c.if-joins_last.true in
    let b = joins_some a.t.now a.r a.s j in
    added_last a.t.now a.r a.s a.c p.2 p.0 p.1 (a.r - 1) (omega arith) (joins_last a.t.now a.r a.s j) (joins_kind a.t.now a.r a.s j)

pub overflow_mul-t-else-joins_last : goal.overflow_mul-t-else-joins_last
overflow_mul-t-else-joins_last c = let a = c.args in omega (arith, count_small a.s a.c (runs_size a.t.now a.r) c.requires.3)

pub overflow_add-t-else-joins_last : goal.overflow_add-t-else-joins_last
overflow_add-t-else-joins_last c = let a = c.args in omega (arith, count_small a.s a.c (runs_size a.t.now a.r) c.requires.3)

pub returns-else-joins_last : goal.returns-else-joins_last
returns-else-joins_last c = let a = c.args in let p = c.requires in added_new a.t.now a.r a.s a.c p.2 p.0 p.1
