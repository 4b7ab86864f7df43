use mathlib.Core.Path.{refl}
use mathlib.Core.Bool.{true}
use native.Mathlib.Omega.{arith}
use Rattle.format.specs.Number.{order_by}
use Rattle.format.specs.Edition.{opening, closing, n_k, n_n}
use Rattle.text.proofs.Lay.{laid_as}
use Rattle.writing.proofs.Chain.{puts_first, puts_part, puts_of}
use Rattle.write_new_header.specs.Parts.{num_bytes, tagged}
use Rattle.write_new_header.proofs.NewLaws.{counts_as}
use Rattle.write_new_header.proofs.put_counts.Goals as goal

pub returns : goal.returns
returns c =
    let a = c.args in
    let x = c.put_number_part-a in
    let y = c.put_number_part in
    let o = order_by a.msf in
    let first = tagged (opening true n_k) (closing true n_k) (num_bytes o 2 a.k) in
    let one = puts_first {g = first} x.ensures.1 (omega arith) in
    let two = puts_part {t = first} one (tagged (opening true n_n) (closing true n_n) (num_bytes o a.w a.n)) y.new.out y.result y.ensures.1 (omega arith) in
    (omega arith, puts_of (laid_as two (counts_as o a.w a.k a.n) refl))
