-- Refusals; tags and bytes that are there, or are not.
use mathlib.Core.Path.{◌≡◌, sym}
use Prim.Native.Nat.{ℕ, ◌+◌, ◌≤◌, ◌<◌}
use borrow.Author.Tests.{lt-leb, ne_eqb}
use native.Mathlib.Omega.{arith}
use mathlib.Core.List.{List}
use lib.ListN.{length}
use Rattle.format.specs.Grammar.{Sect, unless, need, next, tag, same_at}
use Rattle.format.proofs.Good.{also_left, need_room, need_fits}
use Rattle.std.specs.Prelude.{Result, Ok, Err}
use Rattle.std.specs.Result.{IsErrAnd}
use Rattle.std.proofs.lemmas.Result.{err_from_is_err_and}
use Rattle.refusal.specs.declared.Refusal.{Refusal}
use Rattle.refusal.specs.Refusals.{number_of}
use Rattle.section.specs.Judged.{Judged, Numbered}

-- a refusal
pub refused : {A : Type 0} (S : Sect A) (f : List ℕ) (p : ℕ) (e : Refusal) → number_of e ≡ S.judge f p → Judged S f p (Err e)
refused S f p e h = record { code = h; ends = tt; inside = tt }

-- what the exit of a `?` returns, from its refusal
pub exit_judged : {A : Type 0} {S : Sect A} {f : List ℕ} {p : ℕ} {e : Refusal} (r : Result ℕ Refusal) → IsErrAnd r (λ y. y ≡ e) → Judged S f p (Err e) → Judged S f p r
exit_judged r h j = let x = err_from_is_err_and r h in rw (x.1, x.2) j

-- no refusal has the number 0
pub some_number : (e : Refusal) → number_of e ≡ 0 → ⊥
some_number e h = grind arith

-- answers whose refusal is a number
pub numbered_right : {A : Type 0} (S : Sect A) (f : List ℕ) (p q : ℕ) → Judged S f p (Ok q) → Numbered S f p (Ok q)
numbered_right S f p q j =
    let z : S.judge f p ≡ 0 = sym j.code in
    let e : q ≡ next S f p = j.ends in
    record { code = rw (z, e); inside = j.inside }

pub numbered_wrong : {A : Type 0} (S : Sect A) (f : List ℕ) (p n : ℕ) → n ≡ S.judge f p → (n ≡ 0 → ⊥) → Numbered S f p (Err n)
numbered_wrong S f p n e h = record { code = rw (sym e, ne_eqb n 0 h); inside = tt }

-- a tag that is right is in the file
pub tag_room : (l : List ℕ) (c : ℕ) (f : List ℕ) (p : ℕ) → (tag l c).judge f p ≡ 0 → p + length l ≤ length f
unfolding tag
tag_room l c f p h = need_room (length l) f p (also_left (need (length l) f p) (unless (same_at l f p) c) h)

-- n bytes are not there, or are
pub need_short : (n : ℕ) (f : List ℕ) (p : ℕ) → length f < p + n → need n f p ≡ 3
need_short n f p h = rw (lt-leb (p + n) (length f) h)

pub need_there : (n : ℕ) (f : List ℕ) (p : ℕ) → p + n ≤ length f → need n f p ≡ 0
need_there n f p h = need_fits n f p h
