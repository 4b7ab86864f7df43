-- Blocks of rows: a run is put for all rows of a block before the next one is.
use Rattle.std.specs.Prelude.{ℕ, zero, suc, ◌+◌, ◌*◌, List, [], ◌++◌, length, take, drop}
use Rattle.write_data.specs.declared.Forms.{Forms}
use Rattle.write_data.specs.Runs.{runs_bytes}

-- x with g laid over it from a on
unfoldable pub over : ℕ → List ℕ → List ℕ → List ℕ
over a g x = take a x ++ (g ++ drop (a + length g) x)

-- x with B j laid over it at a of row j, for each of m rows of w bytes
unfoldable pub strewn : (ℕ → List ℕ) → ℕ → ℕ → ℕ → List ℕ → List ℕ
strewn B a w zero x = x
strewn B a w (suc m) x = over (m * w + a) (B m) (strewn B a w m x)

-- what is put for m rows of w bytes, the first at q, by the r runs of t
unfoldable pub block_bytes : List ℕ → Forms → ℕ → List ℕ → ℕ → ℕ → ℕ → List ℕ
block_bytes t h r f q w zero = []
block_bytes t h r f q w (suc m) = block_bytes t h r f q w m ++ runs_bytes t h r f (q + m * w)
