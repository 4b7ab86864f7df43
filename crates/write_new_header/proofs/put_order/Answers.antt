use Rattle.write_new_header.proofs.NewLaws.{order_msf, order_lsf}
use Rattle.write_new_header.proofs.put_order.Goals as goal

pub returns-then-msf : goal.returns-then-msf
returns-then-msf c =
    order_msf c.args.msf _ _ _ c.if-msf.true c.put_tag.ensures

pub returns : goal.returns
returns c =
    order_lsf c.args.msf _ _ _ c.if-msf.false c.put_tag-2.ensures
