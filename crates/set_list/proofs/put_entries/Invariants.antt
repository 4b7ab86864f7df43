use Rattle.format.specs.Number.{order_by}
use Rattle.set_list.proofs.EntryLaws.{Entered}
use Rattle.set_list.proofs.put_entries.Given as goal

abbrev pub invariant-loop-m : goal.invariant-loop-m
invariant-loop-m l = Entered (order_by l.msf) l.f l.p l.n l.x l.initial.out l.out l.m
