use Rattle.write_header.proofs.HeaderLaws.{new_sized, old_sized}
use Rattle.write_header.proofs.header_size.Goals as goal

pub returns-then-e : goal.returns-then-e
returns-then-e c =
    new_sized c.args.e c.args.llen c.args.slen c.if-e.true

pub returns : goal.returns
returns c =
    old_sized c.args.e c.args.llen c.args.slen c.if-e.false
