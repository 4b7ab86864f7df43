-- The verdict and the layout of a file, from the answers for its length, its start, its sections and its map.
use mathlib.Core.Path.{◌≡◌, sym, ap, ◌∙◌, subst}
use Prim.Native.Nat.{ℕ, ◌≤◌, ◌<◌}
use native.Mathlib.Omega.{arith}
use mathlib.Core.List.{List, []}
use mathlib.Core.Bool.{Bool, true, false, cond}
use lib.ListN.{length}
use borrow.Author.Tests.{eq-eqb, le-leb, lt-leb, ne_eqb}
use Rattle.format.specs.Number.{Order, order_by}
use Rattle.format.specs.Grammar.{also, unless, next, done, same_at}
use Rattle.format.specs.Edition.{Edition, edition, start, order_mark}
use Rattle.format.specs.Variables.{file_map}
use Rattle.format.specs.Dta.{Parts, part_sizes, map_rule, same_list, from_map, sections, file_to, known, release_of, edition_of, is_msf, order_of, length_max, verdict, contents, layout_of, no_layout}
use Rattle.editions.specs.declared.Edition as Code
use Rattle.editions.specs.Editions.{numbers_of, release_as, read_as}
use Rattle.format.proofs.EditionLaws.{Widths}
use Rattle.editions.specs.declared.Release.{Release}
use Rattle.editions.proofs.StartLaws.{Known, release_known, none_known}
use Rattle.editions.proofs.WidthLaws.{code_widths}
use Rattle.std.specs.Prelude.{Option, Some, None, Result, Ok, Err, ok_or}
use Rattle.refusal.specs.declared.Refusal.{Refusal}
use Rattle.refusal.specs.declared.Refusal.TheVariants.{UnknownBeginning, WrongMap}
use Rattle.refusal.specs.Refusals.{number_of}
use Rattle.section.proofs.StepLaws.{some_number}
use Rattle.section.proofs.SeqLaws.{also_first}
use Rattle.header.specs.Heads.{Begun}
use Rattle.lists.specs.Walks.{Narrow}
use Rattle.checking.specs.declared.Walk.{Walk}
use Rattle.checking.specs.Walks.{Wide, Sectioned}
use Rattle.checking.specs.Checks.{Checks}

-- a file that is refused has no layout
bare : (f : List ℕ) (e : Refusal) → number_of e ≡ verdict f → no_layout ≡ layout_of f
unfolding layout_of
bare f e h = rw (ne_eqb (verdict f) 0 (λ z. some_number e (h ∙ z)))

module _ (f : List ℕ) where
  -- ---- refusals

  pub refused : (e : Refusal) → number_of e ≡ verdict f → Checks f (Err e)
  refused e h = record { code = h; layout = bare f e h }

  pub too_long : length_max < length f → 1 ≡ verdict f
  unfolding verdict
  too_long h = rw (lt-leb (length f) length_max h)

  module _ (short : length f ≤ length_max) where
    pub not_known : known f ≡ false → 2 ≡ verdict f
    unfolding verdict
    not_known h = rw (le-leb (length f) length_max short, h)

    -- its edition, as it was asked for
    module _ {o : Option Release} (h : read_as o ≡ cond (known f) (Some (release_of f)) None) where
      pub unknown : {x : Refusal} → o ≡ None → ◌≡◌ {A = Result Release Refusal} (Err x) (ok_or o UnknownBeginning) → Checks f (Err x)
      unknown {x} n e =
          let g : read_as None ≡ cond (known f) (Some (release_of f)) None = ap read_as (sym n) ∙ h in
          let b : ◌≡◌ {A = Result Release Refusal} (Err x) (Err UnknownBeginning) = e ∙ ap (λ (y : Option Release). ok_or y UnknownBeginning) n in
          let i : x ≡ UnknownBeginning = cc in
          refused x (ap number_of i ∙ not_known (none_known f g))

    pub begins_as : {o : Option Release} {r : Release} → read_as o ≡ cond (known f) (Some (release_of f)) None → o ≡ Some r → Known f r
    begins_as {o} {r} h e = release_known f r (ap read_as (sym e) ∙ h)

    -- ---- a file that begins as an edition does

    module _ (r : Release) (k : Known f r) where
      abbrev E : Edition
      E = edition_of f

      abbrev O : Order
      O = order_of f

      abbrev said : Parts
      said = (sections E O (done 13)).read f 0

      judged : verdict f ≡ also ((sections E O (done 13)).judge f 0) (unless (map_rule E O said) 10)
      unfolding verdict file_to
      judged = rw (le-leb (length f) length_max short, k.known)

      -- its numbers, as code has them
      module _ (e : Code.Edition) (same : numbers_of e ≡ edition (release_as r)) where
        pub numbers : numbers_of e ≡ E
        numbers = same ∙ ap edition k.release

        small : Widths (numbers_of e)
        small = code_widths e (release_as r) same

        pub begun : Begun f e
        begun =
            record {
              n_small = small.n_most;
              length_small = omega (arith, small.length_most);
              label_small = omega (arith, small.label_most);
              starts = subst (λ (x : Edition). same_at (start x) f 0 ≡ true) (sym numbers) k.starts;
              room = subst (λ (x : Edition). length (start x) ≤ length f) (sym numbers) k.room;
            }

        pub narrow : Narrow e
        narrow = record { names = omega (arith, small.name_most); formats = omega (arith, small.format_most); labels = omega (arith, small.var_label_most) }

        pub wide : Wide e
        wide = record { eight = small.eight; record_small = small.record_most }

        -- ---- its sections, in its byte order

        module _ (m : Bool) (ordered : m ≡ is_msf e.tagged f) where
          order : order_by m ≡ O
          order = ap order_by (ordered ∙ ap (λ (x : Edition). is_msf x.tagged f) numbers)

          sectioned : {s : Result Walk Refusal} → Sectioned (numbers_of e) (order_by m) f s → Sectioned E O f s
          sectioned {s} S = subst (λ (x : Edition). Sectioned x O f s) numbers (subst (λ (x : Order). Sectioned (numbers_of e) x f s) order S)

          pub sections_refused : {c : Refusal} → Sectioned (numbers_of e) (order_by m) f (Err c) → Checks f (Err c)
          sections_refused {c} S =
              refused c
              (also_first (number_of c) ((sections E O (done 13)).judge f 0) (unless (map_rule E O said) 10) (sectioned S).code (some_number c) ∙ sym judged)

          module _ {s : Walk} (S' : Sectioned (numbers_of e) (order_by m) f (Ok s)) where
            S : Sectioned E O f (Ok s)
            S = sectioned S'

            on_map : verdict f ≡ unless (map_rule E O said) 10
            on_map = judged ∙ rw (sym S.code)

            -- what map_right asks
            pub map_room : next (file_map e.tagged (order_by m)) f s.map ≤ length f
            map_room = S'.met.map_inside

            pub map_count : length s.places ≡ 14
            unfolding part_sizes
            map_count = ap length S.met.places

            map_said : (file_map E.tagged O).read f s.map ≡ said.1.0
            unfolding sections from_map
            map_said = rw S.met.map_ends

            -- the map's rule, by the answer b of map_right
            module _ (b : Bool) (h : b ≡ same_list ((file_map e.tagged (order_by m)).read f s.map) (cond e.tagged s.places [])) where
              rule : b ≡ map_rule E O said
              rule =
                  h
                  ∙ ap (λ (x : Edition). same_list ((file_map x.tagged (order_by m)).read f s.map) (cond x.tagged s.places [])) numbers
                  ∙ ap (λ (x : Order). same_list ((file_map E.tagged x).read f s.map) (cond E.tagged s.places [])) order
                  ∙ ap (λ (x : List ℕ). same_list x (cond E.tagged s.places [])) map_said
                  ∙ ap (λ (x : List ℕ). same_list said.1.0 (cond E.tagged x [])) S.met.places

              decided : verdict f ≡ unless b 10
              decided = on_map ∙ ap (λ (x : Bool). unless x 10) (sym rule)

              pub map_refused : b ≡ false → Checks f (Err WrongMap)
              map_refused y = refused WrongMap (sym (decided ∙ ap (λ (x : Bool). unless x 10) y))

              -- the layout
              pub file_checked : b ≡ true → (i j : ℕ) → i ≡ e.number → j ≡ order_mark (order_by m)
                  → Checks f (Ok (record { edition = i; order = j; k = s.k; n = s.n; places = s.places }))
              unfolding layout_of contents file_to
              file_checked y i j ie je =
                  let z : verdict f ≡ 0 = decided ∙ ap (λ (x : Bool). unless x 10) y in
                  record {
                    code = sym z;
                    layout =
                        let w = S.met in
                        let a : i ≡ E.number = ie ∙ ap (λ (x : Edition). x.number) numbers in
                        let c : j ≡ order_mark O = je ∙ ap order_mark order in
                        rw (eq-eqb (verdict f) 0 z) (λ x. record { release = a x; order = c x; variables = w.variables x; rows = w.rows x; places = w.places x });
                  }
