use Rattle.format.specs.Number.{order_by}
use Rattle.data.specs.Places.{field_at}
use Rattle.cell_runs.proofs.NextLaws.{after_is}
use Rattle.cell_runs.proofs.column_after.Goals as goal

pub returns : goal.returns
returns c =
    let a = c.args in
    after_is (field_at a.tagged (order_by a.msf) a.f.now a.types a.i) a.c _ c.field_at.ensures _ c.saturating_add.ensures
