use mathlib.Core.Path.{◌≡◌, ap, ◌∙◌, subst}
use Prim.Native.Nat.{ℕ, ◌+◌}
use native.Mathlib.Omega.{arith}
use Rattle.std.specs.Prelude.{Some}
use Rattle.format.specs.Number.{order_by}
use Rattle.questions.specs.Ask.{slice}
use Rattle.walks.specs.Walks.{close_size, name_at, table_at, BlockGot, same_name}
use Rattle.walks.proofs.BlockLaws.{Come, starts, come_here, come_on, name_is}
use Rattle.walks.proofs.find_block.Goals as goal

pub loop-p-init : goal.loop-p-init
loop-p-init c =
    let a = c.args in
    starts a.tagged a.w (order_by a.msf) a.f.now (slice a.f.now a.a a.m) a.end a.start

pub returns-then-same_name : goal.returns-then-same_name
returns-then-same_name c =
    let a = c.args in
    let l = c.loop-p in
    let b = c.in_ok-b.b in
    let z : c.block_at.result ≡ Some b = grind arith in
    let g : BlockGot a.tagged a.w (order_by a.msf) a.f.now a.end l.p b.table b.name = rw z at c.block_at.ensures in
    let e = c.if-same_name.ensures ∙ ap (λ (x : ℕ). same_name a.f.now (l.p + x + 4) b.name a.a a.m) c.open_size.ensures.0
    ∙ name_is a.f.now (name_at a.tagged l.p) b.name a.a a.m a.w g.name c.requires.0 in
    come_here a.tagged a.w (order_by a.msf) a.f.now (slice a.f.now a.a a.m) a.end a.start l.p l.invariant c.loop-p-test.true
    b.table b.name g e _ (omega (arith, c.open_size.ensures.0))

pub loop-p-preserved : goal.loop-p-preserved
loop-p-preserved c =
    let a = c.args in
    let l = c.loop-p in
    let b = c.in_ok-b.b in
    let z : c.block_at.result ≡ Some b = grind arith in
    let g : BlockGot a.tagged a.w (order_by a.msf) a.f.now a.end l.p b.table b.name = rw z at c.block_at.ensures in
    let e = c.if-same_name.ensures ∙ ap (λ (x : ℕ). same_name a.f.now (l.p + x + 4) b.name a.a a.m) c.open_size.ensures.0
    ∙ name_is a.f.now (name_at a.tagged l.p) b.name a.a a.m a.w g.name c.requires.0 in
    let q : table_at a.tagged a.w l.p + b.table + close_size a.tagged ≡ l.p + c.open_size.result + (7 + a.w) + b.table + c.close_size.result = omega (arith, c.open_size.ensures.0, c.close_size.ensures.0) in
    subst (λ (x : ℕ). Come a.tagged a.w (order_by a.msf) a.f.now (slice a.f.now a.a a.m) a.end a.start x) q
    (come_on a.tagged a.w (order_by a.msf) a.f.now (slice a.f.now a.a a.m) a.end a.start l.p l.invariant c.loop-p-test.true b.table b.name g e)
