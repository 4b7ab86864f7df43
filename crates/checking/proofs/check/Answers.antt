use mathlib.Core.Path.{refl}
use Prim.Native.Nat.{◌≤◌}
use native.Mathlib.Omega.{arith}
use lib.ListN.{length}
use Rattle.std.proofs.lemmas.Result.{err_from_is_err_and}
use Rattle.refusal.specs.declared.Refusal.TheVariants.{TooLong}
use Rattle.format.specs.Dta.{length_max}
use Rattle.checking.proofs.CheckLaws.{refused, too_long, unknown, begins_as, begun, narrow, wide, sections_refused, map_room, map_count, map_refused, file_checked}
use Rattle.checking.proofs.check.Goals as goal

pub returns-then-f-length_max : goal.returns-then-f-length_max
returns-then-f-length_max c =
    refused c.args.f.now TooLong (too_long c.args.f.now (omega (arith, c.length_max.ensures)))

pub returns-in_err-release : goal.returns-in_err-release
returns-in_err-release c =
    let f = c.args.f.now in
    let s : length f ≤ length_max = omega (arith, c.length_max.ensures) in
    let p = err_from_is_err_and c.from_residual.result c.from_residual.ensures.1 in
    rw (p.1, p.2) (unknown f s c.of.ensures c.in_err-release.ensures.ok_part c.in_err-release.ensures.value)

pub sections-requires : goal.sections-requires
sections-requires c =
    let f = c.args.f.now in
    let s : length f ≤ length_max = omega (arith, c.length_max.ensures) in
    let r = c.in_ok-release.release in
    let k = begins_as f s c.of.ensures c.in_ok-release.ensures.ok_part in
    let e = c.numbers-e.result in
    let q = c.numbers-e.ensures in
    (begun f s r k e q, narrow f s r k e q, wide f s r k e q)

pub returns-in_err-s : goal.returns-in_err-s
returns-in_err-s c =
    let f = c.args.f.now in
    let s : length f ≤ length_max = omega (arith, c.length_max.ensures) in
    let k = begins_as f s c.of.ensures c.in_ok-release.ensures.ok_part in
    let p = err_from_is_err_and c.from_residual-in_err-s.result c.from_residual-in_err-s.ensures.1 in
    rw (p.1, p.2) (sections_refused f s c.in_ok-release.release k c.numbers-e.result c.numbers-e.ensures c.is_msf-msf.result c.is_msf-msf.ensures c.in_err-s.ensures)

pub map_right-requires : goal.map_right-requires
map_right-requires c =
    let f = c.args.f.now in
    let s : length f ≤ length_max = omega (arith, c.length_max.ensures) in
    let r = c.in_ok-release.release in
    let k = begins_as f s c.of.ensures c.in_ok-release.ensures.ok_part in
    let m = c.is_msf-msf.result in
    let e = c.numbers-e.result in (
      map_room f s r k e c.numbers-e.ensures m c.is_msf-msf.ensures c.in_ok-s.ensures,
      map_count f s r k e c.numbers-e.ensures m c.is_msf-msf.ensures c.in_ok-s.ensures,
    )

pub returns-then-not-map_right : goal.returns-then-not-map_right
returns-then-not-map_right c =
    let f = c.args.f.now in
    let s : length f ≤ length_max = omega (arith, c.length_max.ensures) in
    let k = begins_as f s c.of.ensures c.in_ok-release.ensures.ok_part in
    map_refused f s c.in_ok-release.release k c.numbers-e.result c.numbers-e.ensures c.is_msf-msf.result c.is_msf-msf.ensures c.in_ok-s.ensures c.map_right.result
    c.map_right.ensures c.if-not-map_right.true

pub returns : goal.returns
returns c =
    let f = c.args.f.now in
    let s : length f ≤ length_max = omega (arith, c.length_max.ensures) in
    let k = begins_as f s c.of.ensures c.in_ok-release.ensures.ok_part in
    file_checked f s c.in_ok-release.release k c.numbers-e.result c.numbers-e.ensures c.is_msf-msf.result c.is_msf-msf.ensures c.in_ok-s.ensures c.map_right.result
    c.map_right.ensures c.if-not-map_right.false _ _ refl c.order_mark.ensures
