use Prim.Native.Nat.{◌+◌, ◌/◌}
use native.Mathlib.Omega.{arith}
use borrow.Author.Rules.{rules}
use Rattle.text_ends.proofs.EndLaws.{ends_low, ends_is, ends_length}
use Rattle.text_ends.proofs.length_from.Goals as goal

pub overflow_cast-t : goal.overflow_cast-t
overflow_cast-t c =
    let k = ends_low c.requires.0 (c.args.y / 256 + 1) (omega (arith, c.if-x-z.false)) in
    omega arith

pub overflow_sub-result : goal.overflow_sub-result
overflow_sub-result c =
    let k = ends_is c.requires.0 (c.args.y / 256 + 1) (omega (arith, c.if-x-z.false)) c.end_from.ensures in
    search rules

pub returns : goal.returns
returns c =
    ends_length c.requires.0 (c.args.y / 256 + 1) (omega (arith, c.if-x-z.false)) c.end_from.ensures c.requires.3
