use Prim.Native.Nat.{ℕ}
use mathlib.Core.Path.{ap}
use mathlib.Core.List.{List, [], ◌++◌, append-nil}
use lib.ListN.{length}
use Rattle.format.specs.Number.{order_by}
use Rattle.format.specs.Dta.{dataset_of}
use Rattle.editions.specs.Editions.{numbers_of}
use Rattle.sources.specs.Parts.{longs_to, blocks_to}
use Rattle.write_parts.proofs.EnclosedLaws.{two_put}
use Rattle.write_lists.proofs.ListLaws.{room_as}
use Rattle.write_all.proofs.put_third.Goals as goal

pub returns : goal.returns
returns c =
    let a = c.args in
    let f = a.f.now in
    let to = a.to in
    let z = a.tomsf in
    let E = numbers_of to in
    let d = dataset_of f in
    let L = longs_to E (order_by z) d in
    let G = blocks_to E (order_by z) d in
    let room = room_as (L ++ (G ++ [])) (L ++ G) (length a.out.now) (ap (λ (x : List ℕ). L ++ x) (append-nil G)) c.requires.2 in
    two_put L G [] a.out.now room c.strl_part-a.ensures c.label_part.ensures
