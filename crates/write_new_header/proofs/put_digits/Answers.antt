use native.Mathlib.Omega.{arith}
use lib.ListN.{length-set}
use mathlib.Core.Path.{refl}
use Rattle.text.proofs.Lay.{laid_none, laid_byte}
use Rattle.writing.proofs.Chain.{puts_of}
use Rattle.write_new_header.proofs.put_digits.Goals as goal

pub bounds-out-1 : goal.bounds-out-1
bounds-out-1 c =
    simp length-set (omega arith)

pub returns : goal.returns
returns c =
    let d = c.args.out.now in
    (refl, puts_of (laid_byte (laid_byte (laid_byte (laid_none d) _ (omega arith)) _ (omega arith)) _ (omega arith)))
