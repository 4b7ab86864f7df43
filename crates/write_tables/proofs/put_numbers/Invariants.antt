use Prim.Native.Nat.{◌*◌}
use Rattle.format.specs.Number.{order_by}
use Rattle.text.proofs.Lay.{Laid}
use Rattle.write_tables.proofs.MarkLaws.{numbers_fill}
use Rattle.write_tables.proofs.put_numbers.Given as goal

abbrev pub invariant-loop-i : goal.invariant-loop-i
invariant-loop-i l = Laid (numbers_fill (order_by l.msf) (order_by l.to) l.f l.i l.p) (l.i * 4) l.initial.out l.out
