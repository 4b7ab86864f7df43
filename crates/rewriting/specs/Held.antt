-- What the tests of number 15 promise.
use Rattle.std.specs.Prelude.{ℕ, Bool, ◌&&◌, length, leb}
use Rattle.format.specs.Edition.{Edition}
use Rattle.format.specs.Dta.{Dataset, length_max, all_shorter, all_types, block_names}

-- what `holds` asks of an edition e: that its fields hold the texts of the variables, ..
abbrev pub texts_held : Edition → Dataset → Bool
texts_held e d =
    all_shorter e.name_width d.var_names
    && (all_shorter e.format_width d.display_formats
    && (all_shorter e.name_width d.label_sets && all_shorter e.var_label_width d.variable_labels))

-- .. and all of it, in a result of n bytes
abbrev pub held_in : Edition → Dataset → ℕ → Bool
held_in e d n =
    all_types e.tagged d.var_types
    && (leb (length d.label) e.label_max
    && (texts_held e d && (all_shorter e.name_width (block_names d.label_blocks) && leb n length_max)))
