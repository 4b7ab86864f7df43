use mathlib.Core.Path.{◌≡◌, ap, ◌∙◌, sym}
use Prim.Native.Nat.{◌+◌, ◌≤◌}
use native.Mathlib.Omega.{arith}
use Rattle.format.specs.Number.{order_by}
use Rattle.questions.specs.Readings.{got, number_in}
use Rattle.reading.proofs.ReadLaws.{read_got}
use Rattle.walks.specs.Walks.{open_size, close_size, table_at, is_sized}
use Rattle.walks.proofs.BlockLaws.{block_past, block_unsized, block_got}
use Rattle.walks.proofs.block_at.Goals.{then-end-p-2-via-then-end-p-2, then-end-p-2-via-else-end-p-2+then-not-is_sized}
use Rattle.walks.proofs.block_at.Goals as goal

pub returns-then-end-p-2 : goal.returns-then-end-p-2
returns-then-end-p-2 c =
    let a = c.args in
    let o = order_by a.msf in
    let s = c.open_size-a.ensures.0 in
    let h : table_at a.tagged a.w a.p ≤ a.end = omega (arith, s) in
    let n = c.in_ok-table.table in
    let k : number_in o 4 a.f.now (a.p + open_size a.tagged) ≡ got n = read_got _ _ (rw s at c.in_ok-table.ensures.is) in
    elim c.then-end-p-2.branch [
      | then-end-p-2-via-then-end-p-2 x ↦ block_past a.tagged a.w o a.f.now a.end a.p h n k (omega (arith, s, c.close_size.ensures.0))
      | then-end-p-2-via-else-end-p-2+then-not-is_sized x ↦
          (let e : a.p + (c.open_size-a.result + (7 + a.w)) ≡ table_at a.tagged a.w a.p = omega (arith, s) in
          let b : table_at a.tagged a.w a.p + n + close_size a.tagged ≤ a.end = omega (arith, s, c.close_size.ensures.0) in
          block_unsized a.tagged a.w o a.f.now a.end a.p h n k b (sym (x.if-not-is_sized.ensures ∙ ap (is_sized o a.f.now n) e)))
    ]

pub returns : goal.returns
returns c =
    let a = c.args in
    let o = order_by a.msf in
    let s = c.open_size-a.ensures.0 in
    let h : table_at a.tagged a.w a.p ≤ a.end = omega (arith, s) in
    let n = c.in_ok-table.table in
    let k : number_in o 4 a.f.now (a.p + open_size a.tagged) ≡ got n = read_got _ _ (rw s at c.in_ok-table.ensures.is) in
    let e : a.p + (c.open_size-a.result + (7 + a.w)) ≡ table_at a.tagged a.w a.p = omega (arith, s) in
    let b : table_at a.tagged a.w a.p + n + close_size a.tagged ≤ a.end = omega (arith, s, c.close_size.ensures.0) in
    block_got a.tagged a.w o a.f.now a.end a.p h n k b (sym (c.if-not-is_sized.ensures ∙ ap (is_sized o a.f.now n) e)) c.in_ok-name.name (read_got _ _ (rw s at c.in_ok-name.ensures))
