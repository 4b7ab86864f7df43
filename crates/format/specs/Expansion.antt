-- Expansion blocks of the untagged editions, and characteristics of the tagged ones. Neither is part of the dataset.
use Rattle.std.specs.Prelude.{ℕ, zero, suc, ◌+◌, List, [], ◌∷◌, Bool, true, false, not, ◌||◌, get_or, eqb}
use Rattle.format.specs.Number.{Order, msf}
use Rattle.format.specs.Grammar.{Sect, within, idle, number, ruled, seq, walk, told, tag, same_at}
use Rattle.format.specs.Edition.{kind_width, blocks_end, opening, closing, n_characteristics, n_ch}

-- the type of an expansion block (0 for a characteristic), and the length of its contents
abbrev pub Expansion : Type 0
Expansion = ℕ × ℕ

-- whether one is next: <ch>, or a type that is not 0
abbrev pub expansion_next : Bool → List ℕ → ℕ → Bool
expansion_next true f p = same_at (opening true n_ch) f p
expansion_next false f p = not (eqb (get_or f p 0) 0)

-- type and length; a block of type 0 is none (the end of the blocks is judged elsewhere)
unfoldable pub expansion_head : Bool → Order → Sect Expansion
expansion_head t o = within (kind_width t + 4) (ruled (seq (number msf (kind_width t)) λ c. number o 4) (λ h. t || not (eqb h.0 0)) 9)

-- the contents, n bytes: dead
unfoldable pub expansion_body : ℕ → Sect (Unit {0})
expansion_body n = within n (idle n 0)

-- an expansion block or a characteristic
unfoldable pub expansion : Bool → Order → Sect Expansion
expansion t o =
    told (λ v. v.1.0) (λ h. (tt, (h, (tt, tt))))
    (seq (tag (opening t n_ch) 4) λ a. seq (expansion_head t o) λ h. seq (expansion_body h.1) λ c. tag (closing t n_ch) 4)

-- all of them, up to their end: type 0 with length 0 (9 where it has another), or the closing tag
unfoldable pub expansions : Bool → Order → Sect (List Expansion)
expansions t o =
    told (λ v. v.1.0) (λ l. (tt, (l, (tt, tt))))
    (seq (tag (opening t n_characteristics) 4) λ a.
    walk (expansion_next t) (expansion t o) λ l. seq (tag (blocks_end t) 9) λ b. tag (closing t n_characteristics) 4)
