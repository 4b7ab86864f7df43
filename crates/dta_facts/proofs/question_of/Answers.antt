use borrow.Author.Tests.{ne_eqb}
use Rattle.dta_facts.proofs.AskLaws.{question_case}
use Rattle.dta_facts.proofs.question_of.Goals as goal

pub returns-in-0 : goal.returns-in-0
returns-in-0 c = question_case c.args.i c.args.j c.in-0.is

pub returns-in-1 : goal.returns-in-1
returns-in-1 c = question_case c.args.i c.args.j c.in-1.is

pub returns-in-2 : goal.returns-in-2
returns-in-2 c = question_case c.args.i c.args.j c.in-2.is

pub returns-in-3 : goal.returns-in-3
returns-in-3 c = question_case c.args.i c.args.j c.in-3.is

pub returns-in-4 : goal.returns-in-4
returns-in-4 c = question_case c.args.i c.args.j c.in-4.is

pub returns-in-5 : goal.returns-in-5
returns-in-5 c = question_case c.args.i c.args.j c.in-5.is

pub returns-in-6 : goal.returns-in-6
returns-in-6 c = question_case c.args.i c.args.j c.in-6.is

pub returns-in-7 : goal.returns-in-7
returns-in-7 c = question_case c.args.i c.args.j c.in-7.is

pub returns-in-8 : goal.returns-in-8
returns-in-8 c = question_case c.args.i c.args.j c.in-8.is

pub returns-in-9 : goal.returns-in-9
returns-in-9 c = question_case c.args.i c.args.j c.in-9.is

pub returns-in-10 : goal.returns-in-10
returns-in-10 c = question_case c.args.i c.args.j c.in-10.is

pub returns-in-11 : goal.returns-in-11
returns-in-11 c = question_case c.args.i c.args.j c.in-11.is

pub returns-in-12 : goal.returns-in-12
returns-in-12 c = question_case c.args.i c.args.j c.in-12.is

pub returns-in-13 : goal.returns-in-13
returns-in-13 c = question_case c.args.i c.args.j c.in-13.is

pub returns-in-14 : goal.returns-in-14
returns-in-14 c = question_case c.args.i c.args.j c.in-14.is

pub returns-in_default : goal.returns-in_default
returns-in_default c =
    let q = c.args.q in
    let r = c.in_default.in_default-own.rest in
    rw (
      ne_eqb q 0 r.0.0.0.0.0.0.0.0.0.0.0.0.0.0.1,
      ne_eqb q 1 r.0.0.0.0.0.0.0.0.0.0.0.0.0.1,
      ne_eqb q 2 r.0.0.0.0.0.0.0.0.0.0.0.0.1,
      ne_eqb q 3 r.0.0.0.0.0.0.0.0.0.0.0.1,
      ne_eqb q 4 r.0.0.0.0.0.0.0.0.0.0.1,
      ne_eqb q 5 r.0.0.0.0.0.0.0.0.0.1,
      ne_eqb q 6 r.0.0.0.0.0.0.0.0.1,
      ne_eqb q 7 r.0.0.0.0.0.0.0.1,
      ne_eqb q 8 r.0.0.0.0.0.0.1,
      ne_eqb q 9 r.0.0.0.0.0.1,
      ne_eqb q 10 r.0.0.0.0.1,
      ne_eqb q 11 r.0.0.0.1,
      ne_eqb q 12 r.0.0.1,
      ne_eqb q 13 r.0.1,
      ne_eqb q 14 r.1,
    )
