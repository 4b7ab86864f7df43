use mathlib.Core.Path.{ap, ◌∙◌}
use Rattle.set_names.specs.Names.{name_by}
use Rattle.set_names.proofs.NameLaws.{set_named}
use Rattle.set_names.proofs.name_of.Goals as goal

pub returns : goal.returns
returns c = set_named _ _ _ _ (c.unwrap_or.ensures ∙ ap name_by c.set_name.ensures)
