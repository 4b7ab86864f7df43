-- The pass over the data's strL cells: variables that are not strL leave it as it is.
use mathlib.Core.Path.{◌≡◌, refl, sym, ap, ◌∙◌}
use Prim.Native.Nat.{ℕ, zero, suc, ◌+◌, ◌-◌, ◌≤◌, ◌<◌}
use native.Mathlib.Nat.{sub-zero}
use native.Mathlib.Omega.{arith}
use native.Mathlib.Numerals.{add-one}
use mathlib.Core.List.{List}
use mathlib.Core.Bool.{Bool, true, false, cond}
use lib.ListN.{length, get_or}
use Rattle.format.specs.Data.{long_next}
use Rattle.std.specs.Prelude.{Ok, Err}
use Rattle.refusal.specs.declared.Refusal.{Refusal}
use Rattle.strls.specs.declared.Frame.{Frame}
use Rattle.strls.specs.Links.{Turn, is_long, next_long, broken, followed, cell_step, row_run, data_run, rule11, Tabled, Ran}
use Rattle.strls.proofs.LinkLaws.{step_other}
use Rattle.strls.proofs.TableLaws.{next_least, next_most, next_long_lem}

module _ (f : List ℕ) (d : Frame) where
  abbrev run : ℕ → ℕ → ℕ → ℕ → Turn
  run = row_run f d

  -- ---- rows

  skips : (m i j q : ℕ) → run m i j q ≡ run (i + m - next_long f d m i) (next_long f d m i) j q
  skips zero i j q = let e : i + 0 - i ≡ 0 = omega arith in rw e
  skips (suc m) i j q = go (is_long f d i) refl (skips m (suc i) j q)
    where
      go : (b : Bool) → is_long f d i ≡ b → run m (suc i) j q ≡ run (suc i + m - next_long f d m (suc i)) (next_long f d m (suc i)) j q
          → run (suc m) i j q ≡ run (i + suc m - cond (is_long f d i) i (next_long f d m (suc i))) (cond (is_long f d i) i (next_long f d m (suc i))) j q
      go true e ih = let g : i + suc m - i ≡ suc m = omega arith in rw (e, g)
      go false e ih =
          let n = next_long f d m (suc i) in
          let g : i + suc m - n ≡ suc i + m - n = omega arith in
          rw (e, g) (ap (λ (s : Turn). followed s (run m (suc i) j)) (sym (step_other f d i j q e)) ∙ ih)

  -- from i on to the next strL variable n
  skip : (i n j q : ℕ) → i ≤ d.k → n ≡ next_long f d (d.k - i) i → run (d.k - n) n j q ≡ run (d.k - i) i j q
  skip i n j q b e =
      let g : i + (d.k - i) ≡ d.k = omega arith in
      rw e (sym (skips (d.k - i) i j q ∙ ap (λ (x : ℕ). run (x - next_long f d (d.k - i) i) (next_long f d (d.k - i) i) j q) g))

  -- the loop over observation j stands at the strL variable i, or past the last, with the record at q due
  pub record Running (j start i q : ℕ) : Type 0 where
    pub most : i ≤ d.k
    pub long : i < d.k → is_long f d i ≡ true
    pub here : q ≤ length f
    pub same : run (d.k - i) i j q ≡ run d.k 0 j start

  module _ {t s : List ℕ} (T : Tabled f d t s) where
    -- the entry n of variable i
    lands : (i j start q : ℕ) → i ≤ d.k → q ≤ length f → run (d.k - i) i j q ≡ run d.k 0 j start → Running j start (get_or s i 0) q
    lands i j start q b h e =
        let n = get_or s i 0 in
        let g : n ≡ next_long f d (d.k - i) i = T.nexts i (omega arith) b in
        record {
          most = omega (arith, g, next_most f d (d.k - i) i);
          long = λ l. rw g (next_long_lem f d (d.k - i) i (omega (arith, g)));
          here = h;
          same = skip i n j q b g ∙ e;
        }

    pub run_starts : (j start : ℕ) → start ≤ length f → Running j start (get_or s 0 0) start
    run_starts j start h = lands 0 j start start (omega arith) h (rw sub-zero)

    module _ {j start i q : ℕ} (R : Running j start i q) (b : i < d.k) where
      left : d.k - i ≡ suc (d.k - (i + 1))
      left = omega arith

      pub run_stops : (e : Refusal) → Ran f (cell_step f d i j q) (Err e) → Ran f (run d.k 0 j start) (Err e)
      run_stops e C =
          let h : Err e ≡ run (d.k - i) i j q = rw (left, ← C.is) in
          record { is = h ∙ R.same; inside = tt }

      pub run_turns : {p : ℕ} → Ran f (cell_step f d i j q) (Ok p) → Running j start (get_or s (i + 1) 0) p
      run_turns {p} C =
          let h : run (d.k - (i + 1)) (i + 1) j p ≡ run (d.k - i) i j q = rw (left, ← C.is, add-one i) in
          lands (i + 1) j start p (omega arith) C.inside (h ∙ R.same)

      pub run_less : i < get_or s (i + 1) 0
      run_less = omega (arith, T.nexts (i + 1) (omega arith) (omega arith), next_least f d (d.k - (i + 1)) (i + 1))

    pub run_ends : {j start i q : ℕ} → Running j start i q → d.k ≤ i → Ran f (run d.k 0 j start) (Ok q)
    run_ends {i = i} R b = let e : d.k - i ≡ 0 = omega arith in record { is = rw e at R.same; inside = R.here }

  -- ---- the data

  -- no variable is strL: no row need be read
  module _ (e : next_long f d d.k 0 ≡ d.k) where
    still : (j q : ℕ) → run d.k 0 j q ≡ Ok q
    still j q = let z : 0 + d.k - d.k ≡ 0 = omega arith in skips d.k 0 j q ∙ rw (e, z)

    pub stays : (m j q : ℕ) → data_run f d m j q ≡ Ok q
    stays zero j q = refl
    stays (suc m) j q = rw (still j q) (stays m (suc j) q)

  pub pass_still : {t s : List ℕ} → Tabled f d t s → get_or s 0 0 ≡ d.k → (start : ℕ) → start ≤ length f → Ran f (data_run f d d.n 0 start) (Ok start)
  pass_still {s = s} T e start h =
      let g : next_long f d d.k 0 ≡ d.k = ap (λ (m : ℕ). next_long f d m 0) (sym (sub-zero d.k)) ∙ sym (T.nexts 0 (omega arith) (omega arith)) ∙ e in
      record { is = sym (stays g d.n 0 start); inside = h }

  -- the loop over the observations stands at j, with the record at q due
  pub record Passing (start j q : ℕ) : Type 0 where
    pub most : j ≤ d.n
    pub here : q ≤ length f
    pub same : data_run f d (d.n - j) j q ≡ data_run f d d.n 0 start

  pub pass_starts : (start : ℕ) → start ≤ length f → Passing start 0 start
  pass_starts start h = record { most = omega arith; here = h; same = rw sub-zero }

  module _ {start j q : ℕ} (P : Passing start j q) where
    module _ (b : j < d.n) where
      rest : d.n - j ≡ suc (d.n - (j + 1))
      rest = omega arith

      pub pass_stops : (e : Refusal) → Ran f (run d.k 0 j q) (Err e) → Ran f (data_run f d d.n 0 start) (Err e)
      pass_stops e C =
          let h : Err e ≡ data_run f d (d.n - j) j q = rw (rest, ← C.is) in
          record { is = h ∙ P.same; inside = tt }

      pub pass_turns : {p : ℕ} → Ran f (run d.k 0 j q) (Ok p) → Passing start (j + 1) p
      pass_turns {p} C =
          let h : data_run f d (d.n - (j + 1)) (j + 1) p ≡ data_run f d (d.n - j) j q = rw (rest, ← C.is, add-one j) in
          record { most = omega arith; here = C.inside; same = h ∙ P.same }

    pub pass_ends : d.n ≤ j → Ran f (data_run f d d.n 0 start) (Ok q)
    pass_ends b = let e : d.n - j ≡ 0 = omega arith in record { is = rw e at P.same; inside = P.here }

  -- ---- the end

  pub end_refused : (q : ℕ) (e : Refusal) → Err e ≡ data_run f d d.n 0 q → Err e ≡ rule11 f d q
  unfolding rule11
  end_refused q e h = rw (← h)

  pub end_at : (q p : ℕ) → Ok p ≡ data_run f d d.n 0 q → (b : Bool) → b ≡ long_next d.tagged f p → cond b broken (Ok p) ≡ rule11 f d q
  unfolding rule11
  end_at q p h b g = rw (← h, ← g)
