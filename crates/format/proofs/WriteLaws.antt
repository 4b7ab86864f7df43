-- Laws for code that writes a file section by section: what is put for each primitive, and that the parts written one after another
-- are the whole.
use mathlib.Core.Path.{◌≡◌, refl, sym, ap, ◌∙◌}
use Prim.Native.Nat.{ℕ, zero, suc, ◌+◌, ◌-◌, ◌*◌, ◌≤◌, ◌<◌}
use native.Mathlib.Nat.{not-suc-le-zero, suc_inj}
use native.Mathlib.Omega.{arith}
use mathlib.Core.List.{List, [], ◌∷◌, ◌++◌, map, append_assoc}
use mathlib.Core.Bool.{Bool, true, false, cond}
use lib.ListN.{length, get_or, replicate}
use lib.Seq.{ext_get_or}
use Rattle.format.specs.Slot.{Slot, byte, spare, put, fill}
use Rattle.format.specs.Number.{Order, tab, digit, seat, num_slots}
use Rattle.format.specs.Grammar.{Sect, text_slots, ended_slots, live, AreaRight, area, all_slots, tag, between, done}
use Rattle.format.specs.Edition.{Edition}
use Rattle.format.specs.Header.{header}
use Rattle.format.specs.Variables.{file_map, types, names, sort_list, formats, set_names, var_labels}
use Rattle.format.specs.Expansion.{expansions}
use Rattle.format.specs.Data.{observations, strls}
use Rattle.format.specs.Labels.{blocks}
use Rattle.format.specs.Dta.{Dataset, head_of, map_of, from_strls, from_data, from_expansions, from_var_labels, from_set_names, from_formats, from_sort_list, from_names, from_types, from_map, sections, file_to, file, written}
use Rattle.format.proofs.SlotLaws.{length_fill, length_tab, get_d_tab}
use Rattle.format.proofs.Good.{Good}

-- ---- primitives

pub fill_append : (P Q : List Slot) → fill (P ++ Q) ≡ fill P ++ fill Q
fill_append [] Q = refl
fill_append (s ∷ P) Q = ap (λ (l : List ℕ). put s ∷ l) (fill_append P Q)

pub fill_bytes : (l : List ℕ) → fill (map byte l) ≡ l
fill_bytes [] = refl
fill_bytes (x ∷ l) = ap (λ (k : List ℕ). x ∷ k) (fill_bytes l)

pub fill_idle : (n v : ℕ) → fill (replicate n (spare v)) ≡ replicate n v
fill_idle zero v = refl
fill_idle (suc n) v = ap (λ (l : List ℕ). v ∷ l) (fill_idle n v)

pub fill_tab : (n : ℕ) (s : ℕ → Slot) → fill (tab n s) ≡ tab n (λ i. put (s i))
fill_tab zero s = refl
fill_tab (suc n) s = ap (λ (l : List ℕ). put (s zero) ∷ l) (fill_tab n (λ i. s (suc i)))

-- a number: its digits
pub fill_number : (o : Order) (w n : ℕ) → fill (num_slots o w n) ≡ tab w (λ i. digit w n (seat o w i))
fill_number o w n = fill_tab w (λ i. byte (digit w n (seat o w i)))

-- a text: its bytes, then zeros
pub fill_text : (w : ℕ) (t : List ℕ) → length t ≤ w → fill (text_slots w t) ≡ t ++ replicate (w - length t) 0
fill_text zero [] b = refl
fill_text zero (c ∷ t) b = absurd (not-suc-le-zero b)
fill_text (suc w) [] b = let e : suc w - 0 ≡ suc w = omega arith in rw e (ap (λ (l : List ℕ). 0 ∷ l) (fill_idle w 0))
fill_text (suc w) (c ∷ t) b =
    let e : suc w - suc (length t) ≡ w - length t = omega arith in
    rw e (ap (λ (l : List ℕ). c ∷ l) (fill_text w t (omega arith)))

-- an area of texts: what it says, with zeros at its dead places
pub fill_area : (offs : List ℕ) (n c : ℕ) (a : List ℕ) → AreaRight offs n a → fill ((area offs n c).slots a) ≡ a
fill_area offs n c a r =
    fill_tab n _
    ∙ ext_get_or 0 _ a (length_tab n _ ∙ sym r.long)
    λ i b. (let d : i < n = omega (arith, length_tab n (λ j. put (cond (live offs (λ k. get_or a k 0) j) (byte (get_or a j 0)) (spare 0)))) in
    get_d_tab n (λ j. put (cond (live offs (λ k. get_or a k 0) j) (byte (get_or a j 0)) (spare 0))) 0 i d ∙ pick (live offs (λ k. get_or a k 0) i) (get_or a i 0) (r.clear i d))
  where
    pick : (t : Bool) (x : ℕ) → (t ≡ false → x ≡ 0) → put (cond t (byte x) (spare 0)) ≡ x
    pick true x h = refl
    pick false x h = sym (h refl)

-- ---- sections

-- as many bytes are put as the section's size
pub fill_length : {A : Type 0} {n : ℕ} {R : ℕ → ℕ → Type 0} (S : Sect A) (G : Good n R S) (a : A) → length (fill (S.slots a)) ≡ S.size a
fill_length S G a = length_fill (S.slots a) ∙ G.sized a

pub fill_between : {A : Type 0} (l r : List ℕ) (S : Sect A) (a : A) → fill ((between l r S).slots a) ≡ l ++ (fill (S.slots a) ++ r)
unfolding between tag
fill_between l r S a =
    fill_append (map byte l) (S.slots a ++ map byte r)
    ∙ ap (λ (k : List ℕ). k ++ fill (S.slots a ++ map byte r)) (fill_bytes l)
    ∙ ap (λ (k : List ℕ). l ++ k) (fill_append (S.slots a) (map byte r) ∙ ap (λ (k : List ℕ). fill (S.slots a) ++ k) (fill_bytes r))

pub fill_all : {A : Type 0} (S : Sect A) (a : A) (l : List A) → fill (all_slots S (a ∷ l)) ≡ fill (S.slots a) ++ fill (all_slots S l)
fill_all S a l = fill_append (S.slots a) (all_slots S l)

-- ---- the file

-- what is written is what is put for each section, one after another
pub written_parts : (e : Edition) (o : Order) (d : Dataset) → written e o d
    ≡ fill ((header e o).slots (head_of d))
    ++ (fill ((file_map e.tagged o).slots (map_of e o (d, [])))
    ++ (fill ((types e.tagged o d.k).slots d.var_types)
    ++ (fill ((names e.tagged e.name_width d.k).slots d.var_names)
    ++ (fill ((sort_list e.tagged o d.k).slots d.sorted)
    ++ (fill ((formats e.tagged e.format_width d.k).slots d.display_formats)
    ++ (fill ((set_names e.tagged e.name_width d.k).slots d.label_sets)
    ++ (fill ((var_labels e.tagged e.var_label_width d.k).slots d.variable_labels)
    ++ (fill ((expansions e.tagged o).slots [])
    ++ (fill ((observations e.tagged o e.v_width e.o_width d.var_types d.n).slots d.cells)
    ++ (fill ((strls e.tagged o e.record_width d.cells).slots d.long_strings)
    ++ fill ((blocks e.tagged o e.name_width (done 13)).slots d.label_blocks)))))))))))
unfolding written file_to sections from_map from_types from_names from_sort_list from_formats from_set_names from_var_labels from_expansions from_data from_strls
written_parts e o d = simp fill_append
