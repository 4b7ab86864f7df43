use native.Mathlib.Omega.{arith}
use mathlib.Core.Path.{◌≡◌, sym, ap, ◌∙◌}
use Rattle.std.specs.Prelude.{None, Some, Ok, Err}
use Rattle.reading.proofs.ReadLaws.{read_none, read_got}
use Rattle.walks.specs.Walks.{all_told}
use Rattle.walks.proofs.TextLaws.{text_got}
use Rattle.walks.proofs.EndedLaws.{told_plain, told_none, told_endless, told_got}
use Rattle.walks.proofs.ended.Goals as goal

pub returns-in_default : goal.returns-in_default
returns-in_default g c =
    let e : Ok None ≡ c.args.w = grind arith in
    told_plain _ c.args.f.now ∙ ap (all_told _ c.args.f.now) e

pub returns-in_default-text_in : goal.returns-in_default-text_in
returns-in_default-text_in g c =
    let t = g.E.Told.told in
    let f = c.args.f.now in
    let w = c.in-Some.field-0 in
    let e : Ok (Some w) ≡ c.args.w = grind arith in
    ap Err c.tell.ensures ∙ told_none t f w.at w.len (read_none _ (sym c.in_default-text_in.is ∙ c.text_in.ensures)) ∙ ap (all_told t f) e

pub returns-then-left-len : goal.returns-then-left-len
returns-then-left-len g c =
    let t = g.E.Told.told in
    let f = c.args.f.now in
    let w = c.in-Some.field-0 in
    let n = c.in-Some-text_in.len in
    let e : Ok (Some w) ≡ c.args.w = grind arith in
    let r = text_got w.len f w.at n (read_got n _ (sym c.in-Some-text_in.is ∙ c.text_in.ensures)) in
    ap Err c.tell-then-left-len.ensures ∙ told_endless t f w.at w.len n r.is r.long c.if-left-len.true ∙ ap (all_told t f) e

pub returns : goal.returns
returns g c =
    let t = g.E.Told.told in
    let f = c.args.f.now in
    let w = c.in-Some.field-0 in
    let n = c.in-Some-text_in.len in
    let e : Ok (Some w) ≡ c.args.w = grind arith in
    let r = text_got w.len f w.at n (read_got n _ (sym c.in-Some-text_in.is ∙ c.text_in.ensures)) in
    told_got t f w.at w.len n r.is r.long c.if-left-len.false ∙ ap (all_told t f) e
