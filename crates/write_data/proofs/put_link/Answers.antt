use Rattle.write_data.proofs.RunLaws.{link_put}
use Rattle.write_data.proofs.put_link.Goals as goal

pub returns : goal.returns
returns c = let a = c.args in
    link_put a.h c.requires.2 a.f.now a.q _ _ a.out.now _ _ c.number-x.ensures.is c.number-y.ensures.is c.requires.1 c.put_number.ensures c.put_number-2.ensures
