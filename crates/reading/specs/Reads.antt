-- What readings at any place promise.
use Rattle.std.specs.Prelude.{◌≡◌, ℕ, ◌<◌, ◌^◌, List, Bool, true, false, cond, length, leb, Option, Some, None, IfSome}
use Rattle.format.specs.Number.{Order, msf, lsf}
use Rattle.format.specs.Edition.{Edition, edition}
use Rattle.questions.specs.Readings.{Try, none, got, bind, number_in, text_in}
use Rattle.questions.specs.Ask.{release_in, order_in}
use Rattle.editions.specs.Editions.{edition_by}
use Rattle.reading.specs.declared.Opened.{Opened}

-- a reading, as the code has it
abbrev pub read_by : Try ℕ → Option ℕ
read_by none = None
read_by (got n) = Some n

-- r is the reading of the number of w bytes at p, and fits them
pub record NumberRead (o : Order) (w : ℕ) (f : List ℕ) (p : ℕ) (r : Option ℕ) : Type 0 where
  pub is : r ≡ read_by (number_in o w f p)
  pub small : IfSome r (λ n. n < 256 ^ w)

-- the length of the text in the field of w bytes at p
abbrev pub length_in : ℕ → List ℕ → ℕ → Try ℕ
length_in w f p = bind (text_in w f p) λ t. got (length t)

-- the place p, where it is not past the end of the file
abbrev pub place_in : List ℕ → ℕ → Try ℕ
place_in f p = cond (leb p (length f)) (got p) none

-- the numbers of the edition n and the byte order x of a layout, where both are read
abbrev pub edition_in : ℕ → ℕ → Try (Edition × Order)
edition_in n x = bind (release_in n) λ r. bind (order_in x) λ o. got (edition r, o)

-- the byte order is most significant byte first
abbrev pub is_msf : Order → Bool
is_msf msf = true
is_msf lsf = false

-- .. as the code has it
abbrev pub msf_by : Try Order → Option Bool
msf_by none = None
msf_by (got o) = Some (is_msf o)

-- an edition and a byte order, as the code has them
abbrev pub opened_by : Try (Edition × Order) → Option Opened
opened_by none = None
opened_by (got x) = Some (record { msf = is_msf x.1; e = edition_by x.0 })
