-- Cases 1 to 25, by computation. Written by tools/cases.py.
use mathlib.Core.Path.{refl}
use Prim.Native.Nat.{ℕ}
use mathlib.Core.List.{List, [], ◌∷◌}
use Rattle.cases.specs.Line.{refused, bytes, Case, Agree}

c_empty : List ℕ
c_empty = []

c_one_byte_0 : List ℕ
c_one_byte_0 =
    bytes 1 (
    0x00
    ∷ []
    )

c_one_byte_114 : List ℕ
c_one_byte_114 =
    bytes 1 (
    0x72
    ∷ []
    )

c_one_byte_115 : List ℕ
c_one_byte_115 =
    bytes 1 (
    0x73
    ∷ []
    )

c_one_byte_116 : List ℕ
c_one_byte_116 =
    bytes 1 (
    0x74
    ∷ []
    )

c_one_byte_118 : List ℕ
c_one_byte_118 =
    bytes 1 (
    0x76
    ∷ []
    )

c_one_byte_255 : List ℕ
c_one_byte_255 =
    bytes 1 (
    0xff
    ∷ []
    )

c_one_byte_60 : List ℕ
c_one_byte_60 =
    bytes 1 (
    0x3c
    ∷ []
    )

c_114_msf_cut_20 : List ℕ
c_114_msf_cut_20 =
    bytes 20 (
    0x72010130_00020000_000200dd_79bae79b_6397b48e
    ∷ []
    )

c_114_msf_cut_31 : List ℕ
c_114_msf_cut_31 =
    bytes 31 (
    0x72010130_00020000_000200dd_79bae79b_6397b48e_fa6c20d5_e80a69f0_3a4d25
    ∷ []
    )

c_113_msf_cut_33 : List ℕ
c_113_msf_cut_33 =
    bytes 33 (
    0x71010173_00020000_000200d7_f92cae01_71e14b2b_9a0992c9_bbaf0ac6_7d844f34
    ∷ 0x45
    ∷ []
    )

c_117_msf_cut_37 : List ℕ
c_117_msf_cut_37 =
    bytes 37 (
    0x3c737461_74615f64_74613e3c_68656164_65723e3c_72656c65_6173653e_3131373c
    ∷ 0x2f72656c_65
    ∷ []
    )

c_117_lsf_cut_38 : List ℕ
c_117_lsf_cut_38 =
    bytes 38 (
    0x3c737461_74615f64_74613e3c_68656164_65723e3c_72656c65_6173653e_3131373c
    ∷ 0x2f72656c_6561
    ∷ []
    )

c_release_cut : List ℕ
c_release_cut =
    bytes 40 (
    0x3c737461_74615f64_74613e3c_68656164_65723e3c_72656c65_6173653e_3131373c
    ∷ 0x2f72656c_65617365
    ∷ []
    )

c_113_msf_cut_41 : List ℕ
c_113_msf_cut_41 =
    bytes 41 (
    0x71010173_00020000_000200d7_f92cae01_71e14b2b_9a0992c9_bbaf0ac6_7d844f34
    ∷ 0x45efeb80_d270b4f9_18
    ∷ []
    )

c_113_lsf_cut_44 : List ℕ
c_113_lsf_cut_44 =
    bytes 44 (
    0x710201b0_02000200_0000007f_37805593_ca9cea23_c15f672d_6cba5d16_69193ba4
    ∷ 0xec742069_c8b2424e_d307783f
    ∷ []
    )

c_117_lsf_cut_47 : List ℕ
c_117_lsf_cut_47 =
    bytes 47 (
    0x3c737461_74615f64_74613e3c_68656164_65723e3c_72656c65_6173653e_3131373c
    ∷ 0x2f72656c_65617365_3e3c6279_74656f
    ∷ []
    )

c_117_msf_cut_47 : List ℕ
c_117_msf_cut_47 =
    bytes 47 (
    0x3c737461_74615f64_74613e3c_68656164_65723e3c_72656c65_6173653e_3131373c
    ∷ 0x2f72656c_65617365_3e3c6279_74656f
    ∷ []
    )

c_117_lsf_cut_51 : List ℕ
c_117_lsf_cut_51 =
    bytes 51 (
    0x3c737461_74615f64_74613e3c_68656164_65723e3c_72656c65_6173653e_3131373c
    ∷ 0x2f72656c_65617365_3e3c6279_74656f72_646572
    ∷ []
    )

c_113_lsf_cut_56 : List ℕ
c_113_lsf_cut_56 =
    bytes 56 (
    0x710201b0_02000200_0000007f_37805593_ca9cea23_c15f672d_6cba5d16_69193ba4
    ∷ 0xec742069_c8b2424e_d307783f_ef19dff6_8a20eaad_63b8cbd1
    ∷ []
    )

c_114_lsf_cut_56 : List ℕ
c_114_lsf_cut_56 =
    bytes 56 (
    0x7202016f_02000200_00000046_fa7f5ef9_57cc1a37_c4c6c675_b3c18a8e_48a23f8a
    ∷ 0x55b06fec_476b7eb0_96e4f080_f90dcf91_831c00db_d5dbc560
    ∷ []
    )

c_117_lsf_cut_64 : List ℕ
c_117_lsf_cut_64 =
    bytes 64 (
    0x3c737461_74615f64_74613e3c_68656164_65723e3c_72656c65_6173653e_3131373c
    ∷ 0x2f72656c_65617365_3e3c6279_74656f72_6465723e_4c53463c_2f627974_656f7264
    ∷ []
    )

c_114_lsf_cut_68 : List ℕ
c_114_lsf_cut_68 =
    bytes 68 (
    0x7202016f_02000200_00000046_fa7f5ef9_57cc1a37_c4c6c675_b3c18a8e_48a23f8a
    ∷ 0x55b06fec_476b7eb0_96e4f080_f90dcf91_831c00db_d5dbc560_72b05913_087dc6b0
    ∷ 0x18aad22f
    ∷ []
    )

c_113_msf_cut_83 : List ℕ
c_113_msf_cut_83 =
    bytes 83 (
    0x71010173_00020000_000200d7_f92cae01_71e14b2b_9a0992c9_bbaf0ac6_7d844f34
    ∷ 0x45efeb80_d270b4f9_18df8113_efea7950_f663ba59_2b55eda4_162e59d2_bf0ab9f1
    ∷ 0x6a566f0f_14ac613c_3ebb4304_b3afae22_15b1be
    ∷ []
    )

c_114_msf_cut_97 : List ℕ
c_114_msf_cut_97 =
    bytes 97 (
    0x72010130_00020000_000200dd_79bae79b_6397b48e_fa6c20d5_e80a69f0_3a4d2504
    ∷ 0x67642b88_adf5bc0a_e791a874_0b1b3fe5_f1f4125f_625fbbd5_dddc503e_e502386b
    ∷ 0x767a4086_2690003e_4cb0b6f4_fabc94f8_16d83aa8_5bb66d3a_578ada31_30204a75
    ∷ 0x6c
    ∷ []
    )

table_1 : List Case
table_1 =
    (c_empty, refused 2)
    ∷ (c_one_byte_0, refused 2)
    ∷ (c_one_byte_114, refused 3)
    ∷ (c_one_byte_115, refused 3)
    ∷ (c_one_byte_116, refused 2)
    ∷ (c_one_byte_118, refused 2)
    ∷ (c_one_byte_255, refused 2)
    ∷ (c_one_byte_60, refused 2)
    ∷ (c_114_msf_cut_20, refused 3)
    ∷ (c_114_msf_cut_31, refused 3)
    ∷ (c_113_msf_cut_33, refused 3)
    ∷ (c_117_msf_cut_37, refused 2)
    ∷ (c_117_lsf_cut_38, refused 2)
    ∷ (c_release_cut, refused 2)
    ∷ (c_113_msf_cut_41, refused 3)
    ∷ (c_113_lsf_cut_44, refused 3)
    ∷ (c_117_lsf_cut_47, refused 3)
    ∷ (c_117_msf_cut_47, refused 3)
    ∷ (c_117_lsf_cut_51, refused 3)
    ∷ (c_113_lsf_cut_56, refused 3)
    ∷ (c_114_lsf_cut_56, refused 3)
    ∷ (c_117_lsf_cut_64, refused 3)
    ∷ (c_114_lsf_cut_68, refused 3)
    ∷ (c_113_msf_cut_83, refused 3)
    ∷ (c_114_msf_cut_97, refused 3)
    ∷ []

agree_1 : Agree table_1
unfolding Agree table_1 c_empty c_one_byte_0 c_one_byte_114 c_one_byte_115 c_one_byte_116 c_one_byte_118 c_one_byte_255 c_one_byte_60 c_114_msf_cut_20 c_114_msf_cut_31 c_113_msf_cut_33 c_117_msf_cut_37 c_117_lsf_cut_38 c_release_cut c_113_msf_cut_41 c_113_lsf_cut_44 c_117_lsf_cut_47 c_117_msf_cut_47 c_117_lsf_cut_51 c_113_lsf_cut_56 c_114_lsf_cut_56 c_117_lsf_cut_64 c_114_lsf_cut_68 c_113_msf_cut_83 c_114_msf_cut_97
agree_1 = refl
