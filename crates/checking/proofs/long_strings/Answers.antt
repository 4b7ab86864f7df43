use mathlib.Core.Path.{sym, ap, ◌∙◌}
use Prim.Native.Nat.{ℕ, ◌+◌}
use native.Mathlib.Omega.{arith}
use Rattle.format.specs.Number.{order_by}
use Rattle.format.specs.Grammar.{read_times}
use Rattle.format.specs.Variables.{type_code}
use Rattle.strls.specs.declared.Frame.{Frame}
use Rattle.checking.proofs.DataLaws.{data_tag, data_framed, data_longs, data_place}
use Rattle.checking.proofs.long_strings.Goals as goal

pub overflow_add-g : goal.overflow_add-g
overflow_add-g c =
    let a = c.args in
    let o = order_by a.msf in
    let t = read_times (type_code a.e.tagged o) a.k a.f.now a.types in
    omega (arith, c.tag_size.ensures, data_tag a.e.tagged, data_place a.e.tagged o _ _ a.n t a.f.now a.x (sym c.requires.2.code), c.well_formed.0.0)

pub strl_list-requires : goal.strl_list-requires
strl_list-requires c =
    let a = c.args in
    let w = c.requires.1 in
    let g : Frame = record { types = a.types; k = a.k; «data» = a.x + c.tag_size.result; n = a.n; tagged = a.e.tagged; msf = a.msf; vwidth = a.e.v_width; owidth = a.e.o_width; rwidth = a.e.record_width } in (
      data_framed a.f.now g a.x (ap (λ (y : ℕ). a.x + y) (c.tag_size.ensures ∙ data_tag a.e.tagged)) c.requires.0 w.eight (sym c.requires.2.code) w.record_small,
      c.requires.2.inside,
    )

pub returns : goal.returns
returns c =
    let a = c.args in
    let g : Frame = record { types = a.types; k = a.k; «data» = a.x + c.tag_size.result; n = a.n; tagged = a.e.tagged; msf = a.msf; vwidth = a.e.v_width; owidth = a.e.o_width; rwidth = a.e.record_width } in
    data_longs a.f.now g a.x (ap (λ (y : ℕ). a.x + y) (c.tag_size.ensures ∙ data_tag a.e.tagged)) c.requires.0 c.requires.1.eight _ _ c.strl_list.ensures
