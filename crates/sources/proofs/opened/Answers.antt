use Rattle.sources.proofs.HeadParts.{own_of}
use Rattle.sources.proofs.opened.Goals as goal

pub source_of-requires : goal.source_of-requires
source_of-requires c = own_of c.in_ok-l.ensures

pub returns : goal.returns
returns c = record { code = c.in_ok-l.ensures.code; parts = c.source_of.ensures }
