use native.Mathlib.Omega.{arith}
use Rattle.std.proofs.lemmas.Grind.{common_steps}
use Rattle.strls.specs.Links.{self_at}
use Rattle.strls.proofs.TableLaws.{self_entry}
use Rattle.strls.proofs.Pass.names_itself.Goals as goal

pub returns-then-v-lt1 : goal.returns-then-v-lt1
unfolding self_at
returns-then-v-lt1 c =
    grind (arith, common_steps)

pub returns-then-o-lt1 : goal.returns-then-o-lt1
unfolding self_at
returns-then-o-lt1 c =
    grind (arith, common_steps)

pub place_of-requires : goal.place_of-requires
place_of-requires c =
    let p = c.args.self in
    (grind (arith, common_steps), grind (arith, common_steps), grind (arith, common_steps, self_entry p.f.now p.d p.tabled))

pub returns-then-self-i : goal.returns-then-self-i
unfolding self_at
returns-then-self-i c =
    let p = c.args.self in grind (arith, common_steps, self_entry p.f.now p.d p.tabled)

pub returns-else-self-i : goal.returns-else-self-i
unfolding self_at
returns-else-self-i c =
    let p = c.args.self in grind (arith, common_steps, self_entry p.f.now p.d p.tabled)
