-- The verdict's numbers, one by one.
use mathlib.Core.Path.{◌≡◌, refl, sym, ◌∙◌}
use Prim.Native.Nat.{ℕ}
use mathlib.Core.List.{List}
use Rattle.format.specs.Dta.{verdict}
use Rattle.std.specs.Prelude.{Result, Ok, Err, IfOk}
use Rattle.refusal.specs.declared.Refusal.{Refusal}
use Rattle.refusal.specs.Refusals.{code_of}
use Rattle.checking.specs.declared.Layout.{Layout}
use Rattle.checking.specs.Checks.{Checks}
use Rattle.demands.specs.Logic.{Iff}
use Rattle.demands.specs.Demands.{CheckGiven}
use Rattle.demands.proofs.ReasonLaws.{type_unknown, sort_broken}
use Rattle.demands.proofs.EndLaws.{bytes_left}
use Rattle.demands.proofs.MapLaws.{map_wrong}
use Rattle.demands.proofs.TableLaws.{table_broken}
use Rattle.demands.proofs.LinkLaws.{link_broken}
use Rattle.demands.proofs.ExpansionLaws.{length_of_none}
use Rattle.demands.proofs.TextLaws.{text_broken}
use Rattle.demands.proofs.HeaderLaws.{header_broken}
use Rattle.demands.proofs.ComesLaws.{cut_short, tag_differs}
use Rattle.demands.proofs.VerdictLaws.{verdict_number, long_verdict, unknown_verdict, first_verdict, is_long, is_unknown, no_layout_lem}

-- the answer's number is the verdict
of_code {ℓ} : (f : List ℕ) (r : Result Layout Refusal) → Checks f r → (c : ℕ) {X : Type ℓ} → Iff (verdict f ≡ c) X → Iff (code_of r ≡ c) X
of_code f r h c i = (λ q. i.0 (sym h.code ∙ q), λ x. h.code ∙ i.1 x)

-- an answer that is refused has no layout
none_given : (r : Result Layout Refusal) → (code_of r ≡ 0 → ⊥) → IfOk r (λ l. ⊥)
none_given (Ok l) n = n refl
none_given (Err e) n = tt

pub check_given : (f : List ℕ) (r : Result Layout Refusal) → Checks f r → CheckGiven f r
check_given f r h =
    record {
      number = rw h.code (verdict_number f);
      too_long = (λ q. is_long f (sym h.code ∙ q), λ b. h.code ∙ long_verdict f b);
      unknown = (λ q. is_unknown f (sym h.code ∙ q), λ b. h.code ∙ unknown_verdict f b.0 b.1);
      first = λ b k. h.code ∙ first_verdict f b k;
      cut_short = of_code f r h 3 (cut_short f);
      tag_differs = of_code f r h 4 (tag_differs f);
      header_broken = of_code f r h 5 (header_broken f);
      type_unknown = of_code f r h 6 (type_unknown f);
      text_broken = of_code f r h 7 (text_broken f);
      sort_broken = of_code f r h 8 (sort_broken f);
      length_of_none = of_code f r h 9 (length_of_none f);
      map_wrong = of_code f r h 10 (map_wrong f);
      link_broken = of_code f r h 11 (link_broken f);
      table_broken = of_code f r h 12 (table_broken f);
      bytes_left = of_code f r h 13 (bytes_left f);
      bare = λ n. (none_given r n, no_layout_lem f (λ q. n (h.code ∙ q)));
    }
