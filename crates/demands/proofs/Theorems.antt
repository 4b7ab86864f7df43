-- The three demands hold.
use mathlib.Core.Path.{◌≡◌, refl, sym, ap, ◌∙◌, subst}
use Prim.Native.Nat.{ℕ, zero, suc, ◌*◌, ◌≤◌, ◌<◌}
use mathlib.Core.List.{List, [], ◌++◌}
use mathlib.Core.Bool.{true, false, ◌&&◌, true≢false}
use lib.ListN.{length, get_or, take, drop}
use lib.Dec.{leb}
use Rattle.format.specs.Slot.{Bytes}
use Rattle.format.specs.Number.{Order}
use Rattle.format.specs.Edition.{Release, edition, release_by, AsWide, order_mark}
use Rattle.format.specs.Dta.{Dataset, Extras, Layout, verdict, release_of, edition_of, order_of, contents, dataset_of, length_max, dead_in, written, holds, all_types, all_shorter, block_names}
use Rattle.format.proofs.Theorems.{sound, complete, round_trip, SameButDead, dead_bytes, dead_places}
use Rattle.format.proofs.FileLaws.{itself, layout_is, written_length}
use Rattle.format.proofs.HoldsLaws.{holds_wide}
use Rattle.std.specs.Prelude.{Result, Ok, Err, IsOkAnd}
use Rattle.refusal.specs.declared.Refusal.{Refusal}
use Rattle.refusal.specs.Refusals.{number_of, code_of}
use Rattle.section.proofs.StepLaws.{some_number}
use Rattle.checking.specs.declared.Layout as Checking
use Rattle.checking.specs.Checks.{Checks, layout_by}
use Rattle.questions.specs.Ask.{Question, ask_long, ask_words, Answer, refused, shown, in_range, answer_of}
use Rattle.questions.specs.Fact.{fact_of, bytes_of}
use Rattle.questions.proofs.Theorems.{own_answer, own_bytes, own_some, same_answer, same_shown, label_exact, label_found}
use Rattle.asking.specs.declared.Question as Code
use Rattle.asking.specs.declared.Answer as Told
use Rattle.asking.specs.Asking.{question_by, told_by, answer_by, Asked}
use Rattle.asking.proofs.AskLaws.{asked_means}
use Rattle.view.specs.Words.{words_of}
use Rattle.coded.specs.Coded.{numbers_of, told, stored, Tells}
use Rattle.rewriting.specs.Rewriting.{offered, edition_to, order_to, rewritten, len_of, Rewrites}
use Rattle.demands.specs.Demands.{Demand1, WellFormed, Accepted, Says, FactGiven, WordsGiven, ReadsBack, facts_to, Demand2, DifferInDead, SameAnswer, SameView, Demand3}
use Rattle.demands.proofs.CheckLaws.{check_given}
use Rattle.demands.proofs.CutLaws.{cut_given}
use Rattle.demands.proofs.AskLaws.{ask_given, told_given}
use Rattle.demands.proofs.RunLaws.{told_same, run_given}
use Rattle.demands.proofs.LabelLaws.{words_given}
use Rattle.demands.proofs.RewriteLaws.{rewrite_given, done_take, offered_edition, offered_order, all_offered, same_rewrite}
use Rattle.demands.proofs.ListLaws.{list_given, lists_given, same_long_list, same_set_list, same_sort_order}

pub demand_1 : Demand1
demand_1 = record { checked = check_given; asked = ask_given; told = told_given; rewrote = rewrite_given; ran = run_given; listed = list_given }

-- ---- 2

-- an answer for a file that is right is a layout
taken : {g : List ℕ} (b : Result Checking.Layout Refusal) → Checks g b → Bytes g → verdict g ≡ 0 → IsOkAnd b (Accepted g)
taken (Ok l) C u z = record { is_file = u; answer = C }
taken (Err e) C u z = some_number e (C.code ∙ z)

module _ (f : List ℕ) (c : Checking.Layout) (A : Accepted f c) where
  ok : verdict f ≡ 0
  ok = sym A.answer.code

  well_formed : WellFormed f (release_of f) (order_of f) (dataset_of f) (contents f).1
  well_formed = let s = sound f A.is_file ok in record { short = s.short; rules = s.right; bytes = s.fits; whole = s.whole }

  -- the answer over the file's own layout
  abbrev own : Question → Answer
  own q = answer_of f (layout_by c) q

  fact : (q : Question) → own q ≡ fact_of (edition_of f) (order_of f) (contents f) q
  fact q = ap (λ (l : Layout). answer_of f l q) A.answer.layout ∙ own_answer f A.is_file ok q

  bytes : (q : Question) → shown f (own q) ≡ bytes_of (edition_of f) (order_of f) (contents f) q
  bytes q = ap (λ (l : Layout). shown f (answer_of f l q)) A.answer.layout ∙ own_bytes f A.is_file ok q

  never : (q : Question) → in_range (layout_by c) q ≡ true → (n : ℕ) → own q ≡ refused n → ⊥
  never q h n e =
      (own_some f A.is_file ok q (subst (λ (l : Layout). in_range l q ≡ true) A.answer.layout h)).never n
      (subst (λ (l : Layout). answer_of f l q ≡ refused n) A.answer.layout e)

  facts : (q : Code.Question) (r : Told.Answer) → Asked f (layout_by c) q r → FactGiven f (layout_by c) q r
  facts q r h =
      record {
        fact = h ∙ ap told_by (fact (question_by q));
        bytes = bytes (question_by q);
        answered = λ i n e. never (question_by q) i (number_of n) (sym (asked_means f (layout_by c) q) ∙ ap answer_by (sym h ∙ e));
      }

  words : (i j : ℕ) (lent : List ℕ) → in_range (layout_by c) (ask_words i j lent) ≡ true
      → WordsGiven (dataset_of f) i j lent (words_of f lent (layout_by c) i j)
  unfolding bytes_of
  words i j lent h =
      let itself-is = A.answer.layout ∙ layout_is (release_of f) (order_of f) f (contents f) (itself f ok) in
      let there = subst (λ (l : Layout). in_range l (ask_words i j lent) ≡ true) itself-is h in
      subst (λ (t : List ℕ). WordsGiven (dataset_of f) i j lent t) (sym (bytes (ask_words i j lent) ∙ rw there refl))
      (words_given (dataset_of f) i j lent (label_found f A.is_file ok _))

  can_hold : (r : Release) (o : Order) → let d = dataset_of f in let e = edition r in holds e o d
      ≡ (all_types e.tagged d.var_types
      && (leb (length d.label) e.label_max
      && (all_shorter e.name_width d.var_names
      && (all_shorter e.format_width d.display_formats
      && (all_shorter e.name_width d.label_sets
      && (all_shorter e.var_label_width d.variable_labels
      && (all_shorter e.name_width (block_names d.label_blocks) && leb (length (written e o d)) length_max)))))))
  unfolding holds
  can_hold r o = rw (written_length r o (dataset_of f))

  as_wide : (r : Release) (o : Order) → AsWide (edition_of f) (edition r) → holds (edition r) o (dataset_of f)
      ≡ (all_types (edition r).tagged (dataset_of f).var_types && leb (length (written (edition r) o (dataset_of f))) length_max)
  as_wide r o w = holds_wide f A.is_file ok o r w ∙ ap (λ (n : ℕ). all_types (edition r).tagged (dataset_of f).var_types && leb n length_max) (sym (written_length r o (dataset_of f)))

  facts_told : (q : ℕ → Question) (n : ℕ) → told f (layout_by c) q n ≡ facts_to f q n
  unfolding told
  facts_told q zero = refl
  facts_told q (suc n) = ap (λ (t : List ℕ). t ++ numbers_of (own (q n))) (facts_told q n) ∙ ap (λ (a : Answer). facts_to f q n ++ numbers_of a) (fact (q n))

  reads_back : (e o : ℕ) → offered e o ≡ true → holds (edition_to e) (order_to o) (dataset_of f) ≡ true → ReadsBack f e o (rewritten f e o)
  reads_back e o h k =
      let t = round_trip f (release_by e) (order_to o) A.is_file ok k in
      record {
        accepted = λ b C. taken b C t.bytes t.accepted;
        release = ap (λ (r : Release). (edition r).number) t.release ∙ offered_edition e o h;
        order = ap order_mark t.order ∙ offered_order e o h;
        dataset = t.dataset;
      }

  back : (e o : ℕ) → offered e o ≡ true → holds (edition_to e) (order_to o) (dataset_of f) ≡ true → (d w : List ℕ) (r : Result ℕ Refusal) → Rewrites f e o d w r
      → length (rewritten f e o) ≤ length d → (code_of r ≡ 0) × (ReadsBack f e o (take (len_of r) w))
  back e o h k d w r R b =
      let z : code_of r ≡ 0 = (rewrite_given f e o d w r R).room.1 (ok, rw (h, k) refl, b) in
      (z, subst (λ (g : List ℕ). ReadsBack f e o g) (sym (done_take f e o d w r R z)) (reads_back e o h k))

says : (f : List ℕ) (r : Release) (o : Order) (d : Dataset) (x : Extras) → WellFormed f r o d x → (c : Result Checking.Layout Refusal) → Checks f c → (code_of c ≡ 0) × (Says f r o d x)
says f r o d x W c C =
    let a = complete r o f d x W.short W.rules W.bytes W.whole in
    (C.code ∙ a.accepted, record { release = a.release; order = a.order; dataset = a.dataset; extras = a.extras })

pub demand_2 : Demand2
demand_2 =
    record {
      only = well_formed;
      if = says;
      cut = λ f c A. cut_given f A.is_file (ok f c A);
      facts = facts;
      told = λ by f c A q r h. h ∙ ap by (fact f c A q);
      words = words;
      exact = label_exact;
      found_by = λ f c A. label_found f A.is_file (ok f c A) _;
      ran = λ f c A i j q n d w r T. T.out ∙ ap (λ (t : List ℕ). t ++ drop (stored r * 4) d) (facts_told f c A q (stored r));
      listed = λ f c A. lists_given f A.is_file (ok f c A);
      offers = all_offered;
      can_hold = can_hold;
      as_wide = as_wide;
      back = back;
    }

-- ---- 3

module _ (f g : List ℕ) (c : Checking.Layout) (A : Accepted f c) (D : DifferInDead f g) where
  -- the grammar's dead places are document 01's
  same : (i : ℕ) → i < length f → dead_in f i ≡ false → get_or g i 0 ≡ get_or f i 0
  same i b n = D.same i b (λ p. true≢false (sym ((dead_places f i A.is_file (ok f c A)).from p) ∙ n))

  alike : SameButDead f g
  alike = dead_bytes f g A.is_file (ok f c A) D.long same

  same_check : (b : Result Checking.Layout Refusal) → Checks g b → b ≡ Ok c
  same_check (Ok m) B =
      let e : layout_by m ≡ layout_by c = B.layout ∙ alike.layout ∙ sym A.answer.layout in
      λ i. Ok (record { edition = (e i).release; order = (e i).order; k = (e i).variables; n = (e i).rows; places = (e i).places })
  same_check (Err x) B = absurd (some_number x (B.code ∙ alike.accepted))

  same_asked : (q : Question) → answer_of g (layout_by c) q ≡ answer_of f (layout_by c) q
  same_asked q =
      subst (λ (l : Layout). answer_of g l q ≡ answer_of f l q) (sym A.answer.layout) (same_answer f A.is_file (ok f c A) g D.long same q)

  same_bytes : (q : Question) → shown g (answer_of g (layout_by c) q) ≡ shown f (answer_of f (layout_by c) q)
  same_bytes q =
      subst (λ (l : Layout). shown g (answer_of g l q) ≡ shown f (answer_of f l q)) (sym A.answer.layout) (same_shown f A.is_file (ok f c A) g D.long same q)

same_told : {R : Type 0} (by : Answer → R) (f g : List ℕ) (c : Checking.Layout) → Accepted f c → DifferInDead f g → (q : Question) → SameAnswer by f g (layout_by c) q
same_told by f g c A D q = record { answer = λ r s x y. y ∙ ap by (same_asked f g c A D q) ∙ sym x; bytes = same_bytes f g c A D q }

same_view : (f g : List ℕ) (c : Checking.Layout) → Accepted f c → DifferInDead f g → SameView f g (layout_by c)
same_view f g c A D =
    record {
      answer = λ q a b x y. y ∙ ap told_by (same_asked f g c A D (question_by q)) ∙ sym x;
      text = λ q. same_bytes f g c A D (question_by q);
      long = λ i j. same_bytes f g c A D (ask_long i j);
      words = λ t i j. same_bytes f g c A D (ask_words i j t);
    }

same_run : (f g : List ℕ) (c : Checking.Layout) → Accepted f c → DifferInDead f g → (i j : ℕ) (q : ℕ → Question) (n : ℕ) (d v w : List ℕ) (a b : Result ℕ Refusal)
    → Tells f (layout_by c) i j q n d v a → Tells g (layout_by c) i j q n d w b → (b ≡ a) × (w ≡ v)
same_run f g c A D i j q n d v w a b T U =
    let l = layout_by c in
    let e : b ≡ a = U.answer ∙ sym T.answer in (
      e,
      U.out
          ∙ ap (λ (t : List ℕ). t ++ drop (stored b * 4) d) (told_same f g l q (λ m. same_asked f g c A D (q m)) (stored b))
          ∙ ap (λ (x : Result ℕ Refusal). told f l q (stored x) ++ drop (stored x * 4) d) e
          ∙ sym T.out,
    )

pub demand_3 : Demand3
demand_3 =
    record {
      checked = same_check;
      dataset = λ f g c A D. (alike f g c A D).dataset;
      told = same_told;
      viewed = same_view;
      ran = same_run;
      longs = λ f g c A D. same_long_list f A.is_file (ok f c A) g D.long (same f g c A D);
      sets = λ f g c A D. same_set_list f A.is_file (ok f c A) g D.long (same f g c A D);
      sorted = λ f g c A D. same_sort_order f A.is_file (ok f c A) g D.long (same f g c A D);
      rewrote = λ f g c A D e o. same_rewrite f g ((alike f g c A D).accepted ∙ sym (ok f c A)) (alike f g c A D).dataset e o;
    }
