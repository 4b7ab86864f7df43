use native.Mathlib.Omega.{arith}
use Rattle.sort_order.proofs.SortedAt.{sorted_at, sorted_inside, sorted_short, sorted_done}
use Rattle.sort_order.proofs.sort_order.Goals as goal

pub overflow_add-s : goal.overflow_add-s
overflow_add-s c =
    let ready = sorted_at (λ i. omega (arith, c.shared_slice_known-1.given i)) c.in_ok-s.ensures.parts in
    omega (arith, ready.few)

pub sort_count-n-requires : goal.sort_count-n-requires
sort_count-n-requires c =
    let ready = sorted_at (λ i. omega (arith, c.shared_slice_known-1.given i)) c.in_ok-s.ensures.parts in
    ready.inside

pub returns-then-out-n : goal.returns-then-out-n
returns-then-out-n c =
    let ready = sorted_at (λ i. omega (arith, c.shared_slice_known-1.given i)) c.in_ok-s.ensures.parts in
    sorted_short ready c.sort_count-n.ensures (omega arith)

pub put_numbers-requires : goal.put_numbers-requires
put_numbers-requires c =
    let ready = sorted_at (λ i. omega (arith, c.shared_slice_known-1.given i)) c.in_ok-s.ensures.parts in
    (sorted_inside ready c.sort_count-n.ensures, omega (arith, c.if-out-n.false))

pub returns : goal.returns
returns c =
    let ready = sorted_at (λ i. omega (arith, c.shared_slice_known-1.given i)) c.in_ok-s.ensures.parts in
    sorted_done ready c.sort_count-n.ensures (omega (arith, c.if-out-n.false)) c.put_numbers.ensures
