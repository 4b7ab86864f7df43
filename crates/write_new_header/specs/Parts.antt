-- The parts of a tagged header, as code writes them.
use Rattle.std.specs.Prelude.{List, ◌++◌, true, ℕ, length}
use Rattle.format.specs.Slot.{fill}
use Rattle.format.specs.Number.{Order, num_slots}
use Rattle.format.specs.Edition.{opening, closing, tagged_start, order_text, n_release, n_byteorder, n_k, n_n, n_label, n_timestamp, n_header}

-- the number n in w bytes
abbrev pub num_bytes : Order → ℕ → ℕ → List ℕ
num_bytes o w n = fill (num_slots o w n)

-- a length of w bytes, then the bytes
abbrev pub counted_bytes : Order → ℕ → List ℕ → List ℕ
counted_bytes o w l = num_bytes o w (length l) ++ l

-- b between the tags l and r
abbrev pub tagged : List ℕ → List ℕ → List ℕ → List ℕ
tagged l r b = l ++ (b ++ r)

-- the end of the edition's number, and the byte order between its tags
unfoldable pub order_bytes : Order → List ℕ
order_bytes o = closing true n_release ++ tagged (opening true n_byteorder) (closing true n_byteorder) (order_text o)

-- a tagged header up to the byte order: the tags of its start, the byte order between its tags
unfoldable pub start_bytes : ℕ → Order → List ℕ
start_bytes edition o = tagged_start edition ++ tagged (opening true n_byteorder) (closing true n_byteorder) (order_text o)

-- K and N of a tagged header
unfoldable pub count_bytes : Order → ℕ → ℕ → ℕ → List ℕ
count_bytes o n_width k n =
    tagged (opening true n_k) (closing true n_k) (num_bytes o 2 k) ++ tagged (opening true n_n) (closing true n_n) (num_bytes o n_width n)

-- a tagged header from the label on
unfoldable pub text_bytes : Order → ℕ → List ℕ → List ℕ → List ℕ
text_bytes o label_length label stamp =
    tagged (opening true n_label) (closing true n_label) (counted_bytes o label_length label)
    ++ (tagged (opening true n_timestamp) (closing true n_timestamp) (counted_bytes o 1 stamp) ++ closing true n_header)
