use mathlib.Core.Path.{refl}
use native.Mathlib.Omega.{arith}
use lib.ListN.{length}
use Rattle.format.specs.Number.{order_by}
use Rattle.write_header.proofs.HeaderLaws.{new_sized, old_sized, new_put, old_put}
use Rattle.write_header.proofs.put_header.Goals as goal

pub put_new-requires : goal.put_new-requires
put_new-requires c =
    let a = c.args in
    let p = c.requires in
    let label = a.label.now in
    let stamp = a.stamp.now in
    let size = (new_sized a.e (length label) (length stamp) c.if-e.true).is (order_by a.msf) a.k a.n label stamp refl refl in
    (p.2, p.3, omega (arith, size, p.5))

pub returns-then-e : goal.returns-then-e
returns-then-e c =
    new_put c.args.e _ _ _ _ _ c.if-e.true c.put_new.ensures

pub put_old-requires : goal.put_old-requires
put_old-requires c =
    let a = c.args in
    let p = c.requires in
    let label = a.label.now in
    let stamp = a.stamp.now in
    let size = (old_sized a.e (length label) (length stamp) c.if-e.false).is (order_by a.msf) a.k a.n label stamp refl refl in
    (p.0, p.1, p.2, omega (arith, size, p.5))

pub returns : goal.returns
returns c =
    old_put c.args.e _ _ _ _ _ c.if-e.false c.put_old.ensures
