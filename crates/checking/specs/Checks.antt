-- What checking a file promises.
use Rattle.std.specs.Prelude.{◌≡◌, List, ℕ, Result, Ok, Err}
use Rattle.refusal.specs.declared.Refusal.{Refusal}
use Rattle.refusal.specs.Refusals.{code_of}
use Rattle.format.specs.Dta as Format
use Rattle.format.specs.Dta.{verdict, layout_of, no_layout}
use Rattle.checking.specs.declared.Layout.{Layout}

-- a layout of the code, as the format's definitions have it
abbrev pub layout_by : Layout → Format.Layout
layout_by l = record { release = l.edition; order = l.order; variables = l.k; rows = l.n; places = l.places }

-- the layout of an answer; none with a refusal
abbrev pub layout_given : Result Layout Refusal → Format.Layout
layout_given (Ok l) = layout_by l
layout_given (Err e) = no_layout

-- the answer for the file f: its refusal is the verdict, and its layout is the file's
pub record Checks (f : List ℕ) (r : Result Layout Refusal) : Type 0 where
  pub code : code_of r ≡ verdict f
  pub layout : layout_given r ≡ layout_of f
