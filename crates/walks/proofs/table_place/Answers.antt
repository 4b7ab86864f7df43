use mathlib.Core.Path.{◌≡◌, ap, ◌∙◌}
use Prim.Native.Nat.{◌+◌}
use native.Mathlib.Omega.{arith}
use lib.IntN.{ℤ}
use mir.Syntax.{w32}
use mir.ValLaws.{to_z-of_z}
use Rattle.std.specs.Prelude.{None, Some, Err}
use Rattle.refusal.specs.declared.Refusal.TheVariants.{NotReadable}
use Rattle.format.specs.Number.{order_by}
use Rattle.questions.specs.Ask.{refused}
use Rattle.reading.proofs.ReadLaws.{read_none, read_got, place_past}
use Rattle.walks.specs.Answers.{words_by}
use Rattle.walks.specs.Walks.{slot_place, table_place}
use Rattle.walks.proofs.TextLaws.{number_inside}
use Rattle.walks.proofs.TableLaws.{words_as, table_no_count, table_no_size, table_is, table_past}
use Rattle.walks.proofs.table_place.Goals as goal

pub returns-in_err-n : goal.returns-in_err-n
returns-in_err-n c =
    let a = c.args in
    let f = a.f.now in
    let o = order_by a.msf in
    let z : None ≡ c.number_in.result = grind arith in
    let r : c.from_residual.result ≡ Err NotReadable = grind arith in
    words_as _ (refused 17) (table_place o f a.p a.q) r (table_no_count o f a.p a.q (read_none _ (z ∙ c.number_in.ensures.is)))

pub returns-in_err-x : goal.returns-in_err-x
returns-in_err-x c =
    let a = c.args in
    let f = a.f.now in
    let o = order_by a.msf in
    let y : Some c.in_ok-n.n ≡ c.number_in.result = grind arith in
    let z : None ≡ c.number_in-2.result = grind arith in
    let r : c.from_residual-in_err-x.result ≡ Err NotReadable = grind arith in
    words_as _ (refused 17) (table_place o f a.p a.q) r
    (table_no_size o f a.p a.q _ (read_got _ _ (y ∙ c.number_in.ensures.is)) (read_none _ (z ∙ c.number_in-2.ensures.is)))

pub returns-in_err-v : goal.returns-in_err-v
returns-in_err-v c =
    let a = c.args in
    let f = a.f.now in
    let o = order_by a.msf in
    let x : Some c.in_ok-n.n ≡ c.number_in.result = grind arith in
    let y : Some c.in_ok-x.x ≡ c.number_in-2.result = grind arith in
    let z : None ≡ c.place_in.result = grind arith in
    let r : c.from_residual-in_err-v.result ≡ Err NotReadable = grind arith in
    let b = read_got _ _ (y ∙ c.number_in-2.ensures.is) in
    words_as _ (refused 17) (table_place o f a.p a.q) r
    (table_past o f a.p a.q _ (read_got _ _ (x ∙ c.number_in.ensures.is)) _ b (omega (arith, number_inside o 4 f (a.p + 4) _ b)) (place_past f _ (z ∙ c.place_in.ensures)))

pub returns : goal.returns
returns c =
    let a = c.args in
    let f = a.f.now in
    let o = order_by a.msf in
    let n = c.in_ok-n.n in
    let x = c.in_ok-x.x in
    let g : Some n ≡ c.number_in.result = grind arith in
    let h : Some x ≡ c.number_in-2.result = grind arith in
    let z = to_z-of_z w32 a.q c.ranges.q in
    words_as _ (slot_place o f a.p n x a.q) (table_place o f a.p a.q) (c.slot_place.ensures ∙ ap (λ (k : ℤ). words_by (slot_place o f a.p n x k)) z)
    (table_is o f a.p a.q n (read_got _ _ (g ∙ c.number_in.ensures.is)) x (read_got _ _ (h ∙ c.number_in-2.ensures.is)))
