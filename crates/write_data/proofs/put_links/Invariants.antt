use Prim.Native.Nat.{◌*◌}
use Rattle.format.specs.Variables.{strl_type}
use Rattle.text.proofs.Lay.{Laid}
use Rattle.write_data.specs.Rows.{from, to, put_times}
use Rattle.write_data.proofs.put_links.Given as goal

abbrev pub invariant-loop-i : goal.invariant-loop-i
invariant-loop-i l = Laid (put_times (from l.h strl_type) (to l.h strl_type) l.i l.f l.q) (l.i * 8) l.initial.out l.out
