-- The types and the sort list are sections between tags.
use Prim.Native.Nat.{ℕ, suc, ◌*◌}
use mathlib.Core.List.{List, []}
use mathlib.Core.Bool.{Bool, true, cond}
use Rattle.format.specs.Number.{Order}
use Rattle.format.specs.Grammar.{within, ruled, ended, times, between}
use Rattle.format.specs.Edition.{code_width, opening, closing, n_variable_types, n_sortlist}
use Rattle.format.specs.Variables.{type_code, types, fresh, sort_list}
use Rattle.std.specs.Prelude.{Result}
use Rattle.refusal.specs.declared.Refusal.{Refusal}
use Rattle.section.specs.Judged.{Judged}
use Rattle.section.proofs.PartLaws.{part_by}

module _ (t : Bool) (o : Order) (k : ℕ) (f : List ℕ) (p : ℕ) (r : Result ℕ Refusal) where
  pub types_judged : Judged (between (cond t (opening true n_variable_types) []) (cond t (closing true n_variable_types) []) (within (k * code_width t) (times (type_code t o) k))) f p r
      → Judged (types t o k) f p r
  unfolding types
  types_judged j = part_by t n_variable_types _ f p r j

  pub sort_judged : Judged (between (cond t (opening true n_sortlist) []) (cond t (closing true n_sortlist) []) (within (suc k * 2) (ruled (ended o 2 (suc k) 8) (fresh k []) 8))) f p r
      → Judged (sort_list t o k) f p r
  unfolding sort_list
  sort_judged j = part_by t n_sortlist _ f p r j
