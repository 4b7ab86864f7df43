use Rattle.dta_facts.proofs.StoreLaws.{listed_stored}
use Rattle.dta_facts.proofs.dta_long_list.Goals as goal

pub returns : goal.returns
returns c =
    listed_stored c.args.count.now c.long_list-longs.ensures c.list_code.ensures c.list_count.ensures c.put_first.ensures
