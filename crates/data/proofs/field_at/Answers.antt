use mathlib.Core.Path.{◌∙◌}
use Rattle.format.specs.Number.{order_by}
use Rattle.data.proofs.PlaceLaws.{field_is}
use Rattle.data.proofs.field_at.Goals as goal

pub returns : goal.returns
returns c =
    let a = c.args in
    c.field_of.ensures ∙ field_is a.tagged (order_by a.msf) a.f.now a.types a.i _ _ c.code_width-w.ensures c.number-c.ensures.is
