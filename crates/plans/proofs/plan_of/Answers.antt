use native.Mathlib.Omega.{arith}
use Rattle.format.specs.Slot.{Bytes}
use Rattle.sources.proofs.PartReads.{few}
use Rattle.plans.proofs.PlanLaws.{places_are}
use Rattle.plans.proofs.plan_of.Goals as goal

pub places_of-requires : goal.places_of-requires
places_of-requires c =
    let a = c.args in
    let f = a.f.now in
    let u : Bytes f = (λ i. omega (arith, c.shared_slice_known-1.given i)) in
    let e = a.s.edition in
    let m = a.s.msf in
    let s = a.s in
    let op = c.requires.0.opened in
    let S = c.requires.0 in
    let K = c.requires.1 in
    (K, few f u e m op s S, c.sizes_of-z.ensures.1)

pub returns : goal.returns
returns c =
    let a = c.args in
    let f = a.f.now in
    let u : Bytes f = (λ i. omega (arith, c.shared_slice_known-1.given i)) in
    let s = a.s in
    let op = c.requires.0.opened in
    let S = c.requires.0 in
    let to = a.to in
    record { is = λ o. places_are f u op.accepted to c.sizes_of-z.result c.sizes_of-z.ensures.0 o s.k _ S.variables c.places_of.ensures }
