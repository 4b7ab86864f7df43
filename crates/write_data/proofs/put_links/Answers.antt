use native.Mathlib.Omega.{arith}
use Rattle.format.specs.Variables.{strl_type}
use Rattle.write_data.specs.Rows.{from, to}
use Rattle.write_data.proofs.PutLaws.{laid_times}
use Rattle.write_data.proofs.RunLaws.{link_long}
use Rattle.write_data.proofs.put_links.Goals as goal

pub loop-i-preserved : goal.loop-i-preserved
loop-i-preserved c =
    let a = c.args in
    laid_times (from a.h strl_type) (to a.h strl_type) 8 a.f.now (λ p. c.requires.2.before) (link_long a.h c.requires.2 a.f.now) a.q c.loop-i.i c.loop-i.invariant _ c.put_link.ensures (omega arith)
