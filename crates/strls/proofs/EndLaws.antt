-- Where the pass ends, the records end: it takes each in turn.
use mathlib.Core.Path.{◌≡◌, refl}
use Prim.Native.Nat.{ℕ, zero, suc, ◌+◌, ◌≤◌}
use native.Mathlib.Omega.{arith}
use mathlib.Core.List.{List}
use mathlib.Core.Bool.{Bool, true, false, cond, ◌&&◌}
use lib.ListN.{length}
use lib.Dec.{leb}
use borrow.Author.Tests.{leb-true}
use Rattle.format.specs.Data.{long_next}
use Rattle.format.proofs.Good.{and_left, and_right}
use Rattle.std.specs.Prelude.{Ok, Err, IfOk}
use Rattle.section.specs.Judged.{Judged}
use Rattle.strls.specs.declared.Frame.{Frame}
use Rattle.strls.specs.Records.{order_of, longs, kind_ok, head_size, kind_at, len_at, pair_at, record_ok}
use Rattle.strls.specs.Links.{Turn, place_of, is_long, link_at, link_ok, broken, followed, record_step, cell_step, row_run, data_run, ended, rule11}
use Rattle.strls.proofs.RecordLaws.{long_whole}
use Rattle.strls.proofs.WalkLaws.{Walking, walk_starts, walk_goes, walk_ends}

module _ (f : List ℕ) (d : Frame) where
  -- a right record is next, and whole
  record_whole : (q v x : ℕ) → record_ok f d q v x ≡ true → (long_next d.tagged f q ≡ true) × (q + head_size d + len_at f d q ≤ length f)
  unfolding record_ok
  record_whole q v x e =
      let a = leb (q + head_size d) (length f) in
      let g = long_next d.tagged f q in
      let n = pair_at (order_of d) 4 d.rwidth f (q + 3) v x in
      let l = leb (q + head_size d + len_at f d q) (length f) in
      let k = kind_ok f (q + head_size d) (kind_at f d q) (len_at f d q) in
      let r = and_right a (g && (n && (l && k))) e in
      (and_left g (n && (l && k)) r, leb-true (q + head_size d + len_at f d q) (length f) (and_left l k (and_right n (l && k) (and_right g (n && (l && k)) r))))

  module _ (start : ℕ) where
    -- after a step that goes on, the walk over the records goes on from its place
    abbrev On : Turn → Type 0
    On s = IfOk s (λ q. Walking f d start q)

    turn : (s : Turn) (k : ℕ → Turn) → On s → ((q : ℕ) → Walking f d start q → On (k q)) → On (followed s k)
    turn (Ok q) k h g = g q h
    turn (Err e) k h g = tt

    record_on : (q v x : ℕ) → Walking f d start q → On (record_step f d q v x)
    record_on q v x w = go (record_ok f d q v x) refl
      where
        go : (t : Bool) → record_ok f d q v x ≡ t → On (cond t (Ok (q + (head_size d + len_at f d q))) broken)
        go true e = let r = record_whole q v x e in walk_goes f d w r.0 (long_whole f d q r.0 w.inside (omega (arith, r.1)) (len_at f d q) refl r.1)
        go false e = tt

    cell_on : (i j q : ℕ) → Walking f d start q → On (cell_step f d i j q)
    unfolding cell_step
    cell_on i j q w = go (is_long f d i) (link_ok f d i j) (link_at f d (place_of f d i j) (suc i) (suc j))
      where
        go : (a b c : Bool) → On (cond a (cond b (cond c (record_step f d q (suc i) (suc j)) (Ok q)) broken) (Ok q))
        go false b c = w
        go true false c = tt
        go true true false = w
        go true true true = record_on q (suc i) (suc j) w

    row_on : (m i j q : ℕ) → Walking f d start q → On (row_run f d m i j q)
    row_on zero i j q w = w
    row_on (suc m) i j q w = turn (cell_step f d i j q) (row_run f d m (suc i) j) (cell_on i j q w) (row_on m (suc i) j)

    data_on : (m j q : ℕ) → Walking f d start q → On (data_run f d m j q)
    data_on zero j q w = w
    data_on (suc m) j q w = turn (row_run f d d.k 0 j q) (data_run f d m (suc j)) (row_on d.k 0 j q w) (data_on m (suc j))

    pub rule_ends : start ≤ length f → IfOk (rule11 f d start) (λ q. Judged (longs d) f start (Ok q))
    unfolding rule11
    rule_ends b = last (data_run f d d.n 0 start) (data_on d.n 0 start (walk_starts f d start b))
      where
        last : (s : Turn) → On s → IfOk (followed s (ended f d)) (λ q. Judged (longs d) f start (Ok q))
        last (Err e) w = tt
        last (Ok q) w = go (long_next d.tagged f q) refl
          where
            go : (t : Bool) → long_next d.tagged f q ≡ t → IfOk (cond t broken (Ok q)) (λ q. Judged (longs d) f start (Ok q))
            go true g = tt
            go false g = walk_ends f d w g
