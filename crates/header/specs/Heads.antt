-- What reading a header asks and promises.
use Rattle.std.specs.Prelude.{◌≡◌, List, true, ℕ, ◌≤◌, length, Result, IfOk}
use Rattle.format.specs.Grammar.{Sect, next, same_at}
use Rattle.format.specs.Edition.{start}
use Rattle.format.specs.Header as Format
use Rattle.refusal.specs.declared.Refusal.{Refusal}
use Rattle.refusal.specs.Refusals.{code_of}
use Rattle.editions.specs.declared.Edition.{Edition}
use Rattle.editions.specs.Editions.{numbers_of}
use Rattle.header.specs.declared.Head.{Head}

-- the file f begins as the edition e does, whose numbers are small
pub record Begun (f : List ℕ) (e : Edition) : Type 0 where
  pub n_small : e.n_width ≤ 8
  pub length_small : e.label_length ≤ 8
  pub label_small : e.label_max ≤ 65535
  pub starts : same_at (start (numbers_of e)) f 0 ≡ true
  pub room : length (start (numbers_of e)) ≤ length f

-- h is what the header S of f says, which is right
pub record Says (S : Sect Format.Head) (f : List ℕ) (h : Head) : Type 0 where
  pub ends : h.at ≡ next S f 0
  pub inside : h.at ≤ length f
  pub count : h.k ≡ (S.read f 0).0
  pub rows : h.n ≡ (S.read f 0).1.0
  pub few : h.k ≤ 32767
  pub bounded : h.n ≤ 2147483647

-- r is the answer for the header S of f: its refusal; where it is right, what it says
pub record Headed (S : Sect Format.Head) (f : List ℕ) (r : Result Head Refusal) : Type 0 where
  pub code : code_of r ≡ S.judge f 0
  pub says : IfOk r (Says S f)
