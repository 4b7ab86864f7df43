use mathlib.Core.Path.{refl}
use mathlib.Core.List.{[], ◌∷◌}
use native.Mathlib.Omega.{arith}
use lib.ListN.{length-set}
use Rattle.long_list.proofs.TellLaws.{puts_stores}
use Rattle.set_list.proofs.put_three.Goals as goal

pub bounds-out-1 : goal.bounds-out-1
bounds-out-1 c = simp length-set (omega arith)

pub returns : goal.returns
returns c = let a = c.args in puts_stores (a.a ∷ a.b ∷ a.c ∷ []) a.out.now refl c.requires
