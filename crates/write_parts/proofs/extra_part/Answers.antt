use mathlib.Core.Path.{refl}
use mathlib.Core.Bool.{true, false}
use lib.ListN.{length}
use Rattle.write_parts.proofs.EnclosedLaws.{extra_room, extra_put}
use Rattle.write_parts.proofs.extra_part.Goals as goal

pub put_tag-requires : goal.put_tag-requires
put_tag-requires c = extra_room c.args.there true (length c.args.out.now) c.if-there.true c.requires

pub returns-then-there : goal.returns-then-there
returns-then-there c = extra_put c.args.there true c.args.out.now c.put_tag.new.out c.put_tag.result c.if-there.true c.put_tag.ensures

pub put_zeros-requires : goal.put_zeros-requires
put_zeros-requires c = extra_room c.args.there false (length c.args.out.now) c.if-there.false c.requires

pub returns : goal.returns
returns c = extra_put c.args.there false c.args.out.now c.put_zeros.new.out 5 c.if-there.false (record { is = c.put_zeros.ensures; long = refl })
