use mathlib.Core.Path.{◌≡◌}
use Prim.Native.Nat.{◌+◌, ◌*◌, ◌≤◌}
use native.Mathlib.Omega.{arith}
use lib.ListN.{length}
use Rattle.format.specs.Edition.{opening, closing, n_lbl}
use Rattle.set_list.proofs.SetLaws.{open_long, close_long, here_starts, here_ends, here_reads}
use Rattle.set_list.proofs.block_at.Goals as goal

pub overflow_add-a : goal.overflow_add-a
overflow_add-a c =
    let tag : c.tag_size.result ≡ length (opening c.args.tagged n_lbl) = open_long c.args.tagged c.tag_size.ensures in
    let starts : c.args.p + c.tag_size.result + (4 + (c.args.w + 3)) + 8 ≤ length c.args.f.now = here_starts c.requires tag in
    let h = starts in record { fits = omega arith }

pub overflow_add-table : goal.overflow_add-table
overflow_add-table c =
    let tag : c.tag_size.result ≡ length (opening c.args.tagged n_lbl) = open_long c.args.tagged c.tag_size.ensures in
    let starts : c.args.p + c.tag_size.result + (4 + (c.args.w + 3)) + 8 ≤ length c.args.f.now = here_starts c.requires tag in
    let h = starts in record { fits = omega arith }

pub overflow_add-table-2 : goal.overflow_add-table-2
overflow_add-table-2 c =
    let tag : c.tag_size.result ≡ length (opening c.args.tagged n_lbl) = open_long c.args.tagged c.tag_size.ensures in
    let starts : c.args.p + c.tag_size.result + (4 + (c.args.w + 3)) + 8 ≤ length c.args.f.now = here_starts c.requires tag in
    let h = starts in record { fits = omega arith }

pub overflow_add-table-3 : goal.overflow_add-table-3
overflow_add-table-3 c =
    let tag : c.tag_size.result ≡ length (opening c.args.tagged n_lbl) = open_long c.args.tagged c.tag_size.ensures in
    let starts : c.args.p + c.tag_size.result + (4 + (c.args.w + 3)) + 8 ≤ length c.args.f.now = here_starts c.requires tag in
    let h = starts in record { fits = omega arith }

pub number-entries-requires : goal.number-entries-requires
number-entries-requires c =
    let tag : c.tag_size.result ≡ length (opening c.args.tagged n_lbl) = open_long c.args.tagged c.tag_size.ensures in
    let starts : c.args.p + c.tag_size.result + (4 + (c.args.w + 3)) + 8 ≤ length c.args.f.now = here_starts c.requires tag in
    let h = starts in (omega arith, omega arith)

pub overflow_add-table-4 : goal.overflow_add-table-4
overflow_add-table-4 c =
    let tag : c.tag_size.result ≡ length (opening c.args.tagged n_lbl) = open_long c.args.tagged c.tag_size.ensures in
    let starts : c.args.p + c.tag_size.result + (4 + (c.args.w + 3)) + 8 ≤ length c.args.f.now = here_starts c.requires tag in
    let h = starts in record { fits = omega arith }

pub number-chars-requires : goal.number-chars-requires
number-chars-requires c =
    let tag : c.tag_size.result ≡ length (opening c.args.tagged n_lbl) = open_long c.args.tagged c.tag_size.ensures in
    let starts : c.args.p + c.tag_size.result + (4 + (c.args.w + 3)) + 8 ≤ length c.args.f.now = here_starts c.requires tag in
    let h = starts in (omega arith, omega arith)

pub overflow_add-end-3 : goal.overflow_add-end-3
overflow_add-end-3 c =
    let tag : c.tag_size.result ≡ length (opening c.args.tagged n_lbl) = open_long c.args.tagged c.tag_size.ensures in
    let ends : c.args.p + c.tag_size.result + (4 + (c.args.w + 3)) + (8 + (8 * c.number-entries.result + c.number-chars.result)) + length (closing c.args.tagged n_lbl) ≤ length c.args.f.now = here_ends c.requires tag c.number-entries.ensures.is c.number-chars.ensures.is in
    let h = ends in record { fits = omega arith }

pub overflow_add-result : goal.overflow_add-result
overflow_add-result c =
    let tag : c.tag_size.result ≡ length (opening c.args.tagged n_lbl) = open_long c.args.tagged c.tag_size.ensures in
    let ends : c.args.p + c.tag_size.result + (4 + (c.args.w + 3)) + (8 + (8 * c.number-entries.result + c.number-chars.result)) + length (closing c.args.tagged n_lbl) ≤ length c.args.f.now = here_ends c.requires tag c.number-entries.ensures.is c.number-chars.ensures.is in
    let h = ends in record { fits = omega arith }

pub overflow_add-result-2 : goal.overflow_add-result-2
overflow_add-result-2 c =
    let tag : c.tag_size.result ≡ length (opening c.args.tagged n_lbl) = open_long c.args.tagged c.tag_size.ensures in
    let ends : c.args.p + c.tag_size.result + (4 + (c.args.w + 3)) + (8 + (8 * c.number-entries.result + c.number-chars.result)) + length (closing c.args.tagged n_lbl) ≤ length c.args.f.now = here_ends c.requires tag c.number-entries.ensures.is c.number-chars.ensures.is in
    let last : c.tag_size-2.result ≡ length (closing c.args.tagged n_lbl) = close_long c.args.tagged c.tag_size-2.ensures in
    let h = ends in let k = last in record { fits = omega arith }

pub returns : goal.returns
returns c =
    let tag : c.tag_size.result ≡ length (opening c.args.tagged n_lbl) = open_long c.args.tagged c.tag_size.ensures in
    let last : c.tag_size-2.result ≡ length (closing c.args.tagged n_lbl) = close_long c.args.tagged c.tag_size-2.ensures in
    here_reads c.requires tag c.number-entries.ensures.is c.number-chars.ensures.is last
