use mathlib.Core.Path.{ap, ◌∙◌}
use mathlib.Core.Bool.{Bool}
use native.Mathlib.Omega.{arith}
use Rattle.format.specs.Number.{order_by}
use Rattle.format.specs.Grammar.{unless}
use Rattle.format.specs.Edition.{code_width}
use Rattle.format.specs.Variables.{type_code}
use Rattle.section.proofs.TimesLaws.{list_rest, list_stop, list_turn}
use Rattle.variables.proofs.TypeLaws.{code_size, code_judge}
use Rattle.variables.proofs.type_codes.Goals as goal

pub returns-then-not-known_code : goal.returns-then-not-known_code
returns-then-not-known_code c =
    let a = c.args in
    let f = a.f.now in
    let o = order_by a.msf in
    let l = c.loop in
    let w = c.code_width-w in
    let x = c.number-c in
    let j = code_judge a.tagged o f l.q _ c.known_code.result (rw w.ensures at x.ensures.is) c.known_code.ensures in
    list_stop a.k l.counter (omega arith) (type_code a.tagged o) f l.q (j ∙ ap (λ (b : Bool). unless b 6) c.if-not-known_code.true) ∙ l.invariant.1

pub loop-preserved : goal.loop-preserved
loop-preserved c =
    let a = c.args in
    let f = a.f.now in
    let o = order_by a.msf in
    let l = c.loop in
    let w = c.code_width-w in
    let x = c.number-c in
    let j = code_judge a.tagged o f l.q _ c.known_code.result (rw w.ensures at x.ensures.is) c.known_code.ensures in (
      omega (arith, w.ensures, list_rest a.k l.counter (omega arith) (code_width a.tagged)),
      rw w.ensures (list_turn a.k l.counter (omega arith) (type_code a.tagged o) f l.q (code_width a.tagged) (code_size a.tagged o) (j ∙ ap (λ (b : Bool). unless b 6) c.if-not-known_code.false)) ∙ l.invariant.1,
    )
