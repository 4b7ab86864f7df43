-- An edition's numbers, as code has them.
use Rattle.std.specs.Prelude.{Option, Some, None}
use Rattle.format.specs.Edition as Format
use Rattle.editions.specs.declared.Edition.{Edition}
use Rattle.editions.specs.declared.Release.{Release}
use Rattle.editions.specs.declared.Release.TheVariants.{R113, R114, R115, R117, R118}

-- the numbers, as the format's definitions have them
abbrev pub numbers_of : Edition → Format.Edition
numbers_of e =
    record {
      number = e.number;
      tagged = e.tagged;
      n_width = e.n_width;
      label_max = e.label_max;
      label_length = e.label_length;
      name_width = e.name_width;
      format_width = e.format_width;
      var_label_width = e.var_label_width;
      v_width = e.v_width;
      o_width = e.o_width;
      record_width = e.record_width;
    }

-- .. and back
abbrev pub edition_by : Format.Edition → Edition
edition_by e =
    record {
      number = e.number;
      tagged = e.tagged;
      n_width = e.n_width;
      label_max = e.label_max;
      label_length = e.label_length;
      name_width = e.name_width;
      format_width = e.format_width;
      var_label_width = e.var_label_width;
      v_width = e.v_width;
      o_width = e.o_width;
      record_width = e.record_width;
    }

-- the edition, as the format's definitions have it
abbrev pub release_as : Release → Format.Release
release_as R113 = Format.r113
release_as R114 = Format.r114
release_as R115 = Format.r115
release_as R117 = Format.r117
release_as R118 = Format.r118

-- .. where there is one
abbrev pub read_as : Option Release → Option Format.Release
read_as None = None
read_as (Some r) = Some (release_as r)
