use mathlib.Core.Path.{◌≡◌, refl, sym, ap, ◌∙◌}
use Prim.Native.Nat.{ℕ, ◌+◌, ◌*◌, ◌-◌, ◌≤◌}
use native.Mathlib.Omega.{arith}
use lib.ListN.{length}
use Rattle.std.specs.Prelude.{None, Some, Err}
use Rattle.refusal.specs.declared.Refusal.TheVariants.{NotReadable}
use Rattle.format.specs.Number.{order_by}
use Rattle.questions.specs.Ask.{refused, part}
use Rattle.reading.proofs.ReadLaws.{place_is, place_inside, place_past}
use Rattle.walks.specs.Walks.{entry_place}
use Rattle.walks.proofs.TableLaws.{words_as, entry_over, entry_past, entry_got}
use Rattle.walks.proofs.entry_place.Goals as goal

pub returns-then-x-y : goal.returns-then-x-y
returns-then-x-y c =
    let a = c.args in
    let f = a.f.now in
    let o = order_by a.msf in
    let i : a.p + 8 + a.m * 4 + 4 ≤ length f = omega (arith, c.requires.0, c.requires.1) in
    words_as _ (refused 17) (entry_place o f a.p a.n a.x a.m) refl (entry_over o f a.p a.n a.x a.m i _ c.number-y.ensures.is c.if-x-y.true)

pub returns-in_err-at : goal.returns-in_err-at
returns-in_err-at c =
    let a = c.args in
    let f = a.f.now in
    let o = order_by a.msf in
    let i : a.p + 8 + a.m * 4 + 4 ≤ length f = omega (arith, c.requires.0, c.requires.1) in
    let z : None ≡ c.place_in.result = grind arith in
    let r : c.from_residual.result ≡ Err NotReadable = grind arith in
    words_as _ (refused 17) (entry_place o f a.p a.n a.x a.m) r
    (entry_past o f a.p a.n a.x a.m i _ c.number-y.ensures.is c.if-x-y.false (place_past f _ (z ∙ c.place_in.ensures)))

pub returns : goal.returns
returns c =
    let a = c.args in
    let f = a.f.now in
    let o = order_by a.msf in
    let i : a.p + 8 + a.m * 4 + 4 ≤ length f = omega (arith, c.requires.0, c.requires.1) in
    let y = c.number-y in
    let at = c.in_ok-at.at in
    let z : Some at ≡ c.place_in.result = grind arith in
    let q = z ∙ c.place_in.ensures in
    let w : at ≡ a.p + 8 + a.n * 4 + a.n * 4 + y.result = omega (arith, place_is f _ at q) in
    words_as _ (part at (a.x - y.result)) (entry_place o f a.p a.n a.x a.m) refl
    (entry_got o f a.p a.n a.x a.m i _ y.ensures.is c.if-x-y.false (place_inside f _ at q) ∙ ap (λ (k : ℕ). part k (a.x - y.result)) (sym w))
