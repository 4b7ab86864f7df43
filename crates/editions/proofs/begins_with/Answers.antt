use mathlib.Core.Path.{◌∙◌}
use Rattle.editions.proofs.StartLaws.{tags_begin}
use Rattle.editions.proofs.begins_with.Goals as goal

pub returns : goal.returns
returns c =
    c.is_ok.ensures.value ∙ tags_begin c.args.t.now c.args.f.now _ c.tag_or.ensures c.requires
