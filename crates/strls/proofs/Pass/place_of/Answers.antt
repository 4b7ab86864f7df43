use Rattle.strls.proofs.TableLaws.{place_is, place_in_lem}
use Rattle.strls.proofs.Pass.place_of.Goals as goal

pub returns : goal.returns
returns c =
    let p = c.args.self in (
      place_is p.f.now p.d p.tabled c.args.i c.args.j c.requires.0 c.requires.1,
      place_in_lem p.f.now p.d p.tabled c.args.i c.args.j c.requires.0 c.requires.1 c.requires.2,
    )
