use Rattle.format.specs.Number.{order_by}
use Rattle.format.specs.Grammar.{read_times, number}
use Rattle.write_tables.proofs.MarkLaws.{area_done}
use Rattle.write_tables.proofs.put_area.Goals as goal

pub returns : goal.returns
returns c =
    let z = c.put_zeros in
    let k = c.put_marks in
    let s = c.sweep in
    let a = c.args in
    let offs = read_times (number (order_by a.msf) 4) a.n a.f.now a.p in
    area_done a.out.now z.new.out k.new.out s.new.out a.f.now offs a.t a.m z.ensures k.ensures s.ensures
