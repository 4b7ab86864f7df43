use native.Mathlib.Omega.{arith}
use lib.ListN.{length}
use Rattle.writing.proofs.Chain.{tag_room, tag_put}
use Rattle.writing.proofs.put_tag.Goals as goal

pub put_bytes-requires : goal.put_bytes-requires
put_bytes-requires c =
    (omega arith, tag_room c.args.there c.args.t.now (length c.args.out.now) c.if-not-there.false c.requires)

pub returns : goal.returns
returns c =
    let a = c.args in
    tag_put a.there a.t.now a.out.now c.put_bytes.new.out c.if-not-there.false c.put_bytes.ensures
