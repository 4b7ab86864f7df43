use Rattle.dta_facts.proofs.StoreLaws.{listed_stored}
use Rattle.dta_facts.proofs.dta_sort_order.Goals as goal

pub returns : goal.returns
returns c =
    listed_stored c.args.count.now c.sort_order-sorted.ensures c.list_code.ensures c.list_count.ensures c.put_first.ensures
