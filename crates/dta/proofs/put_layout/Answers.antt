use mathlib.Core.Path.{◌≡◌, ap, ◌∙◌}
use Prim.Native.Nat.{ℕ, suc, ◌≤◌}
use native.Mathlib.Omega.{arith}
use mathlib.Core.List.{[], ◌∷◌}
use lib.ListN.{length, take}
use lib.Seq.{sets, lt-length-sets}
use Rattle.dta.specs.Exports.{numbers}
use Rattle.checking.specs.Checks.{layout_by}
use Rattle.dta.proofs.StoreLaws.{sets_more, sets_all, sets_front, sets_long}
use Rattle.dta.proofs.put_layout.Goals as goal

pub bounds-out-1 : goal.bounds-out-1
bounds-out-1 c =
    let a = c.args in
    let d = a.out.now in
    let v = a.l in
    let n : 18 ≤ length d = c.requires.0 in
    lt-length-sets d 0 (v.edition ∷ []) (omega arith)

pub bounds-out-2 : goal.bounds-out-2
bounds-out-2 c =
    let a = c.args in
    let d = a.out.now in
    let v = a.l in
    let n : 18 ≤ length d = c.requires.0 in
    lt-length-sets d 0 (v.edition ∷ v.order ∷ []) (omega arith)

pub bounds-out-3 : goal.bounds-out-3
bounds-out-3 c =
    let a = c.args in
    let d = a.out.now in
    let v = a.l in
    let n : 18 ≤ length d = c.requires.0 in
    lt-length-sets d 0 (v.edition ∷ v.order ∷ v.k ∷ []) (omega arith)

pub bounds-out-i : goal.bounds-out-i
bounds-out-i c =
    let a = c.args in
    let d = a.out.now in
    let v = a.l in
    let n : 18 ≤ length d = c.requires.0 in
    let l = c.loop-i in
    let u = v.edition ∷ v.order ∷ v.k ∷ v.n ∷ [] in
    let m = sets_long u (take l.i v.places) d l.out 0 4 l.invariant in
    let g : length v.places ≡ 14 = c.requires.1 in
    omega arith

pub loop-i-preserved : goal.loop-i-preserved
loop-i-preserved c =
    let a = c.args in
    let d = a.out.now in
    let v = a.l in
    let n : 18 ≤ length d = c.requires.0 in
    let l = c.loop-i in
    let u = v.edition ∷ v.order ∷ v.k ∷ v.n ∷ [] in
    let m = sets_long u (take l.i v.places) d l.out 0 4 l.invariant in
    let g : length v.places ≡ 14 = c.requires.1 in
    sets_more v.places (sets d 0 u) l.out 4 l.i (omega arith) l.invariant

pub shape_of-out : goal.shape_of-out
shape_of-out c =
    let a = c.args in
    let d = a.out.now in
    let v = a.l in
    let n : 18 ≤ length d = c.requires.0 in
    let l = c.loop-i in
    let u = v.edition ∷ v.order ∷ v.k ∷ v.n ∷ [] in
    let m = sets_long u (take l.i v.places) d l.out 0 4 l.invariant in
    let g : length v.places ≡ 14 = c.requires.1 in
    m

pub returns : goal.returns
returns c =
    let a = c.args in
    let d = a.out.now in
    let v = a.l in
    let n : 18 ≤ length d = c.requires.0 in
    let l = c.loop-i in
    let u = v.edition ∷ v.order ∷ v.k ∷ v.n ∷ [] in
    let m = sets_long u (take l.i v.places) d l.out 0 4 l.invariant in
    let g : length v.places ≡ 14 = c.requires.1 in
    sets_all v.places (sets d 0 u) l.out 4 l.i (omega arith) l.invariant ∙ sets_front (numbers (layout_by v)) d 18 (ap (λ (x : ℕ). suc (suc (suc (suc x)))) g) n
