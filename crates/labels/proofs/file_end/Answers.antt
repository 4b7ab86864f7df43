use Rattle.section.proofs.StepLaws.{exit_judged}
use Rattle.format.specs.Grammar.{seq, tag, done}
use Rattle.format.specs.Edition.{closing, n_value_labels, n_stata_dta}
use Rattle.section.proofs.SeqLaws.{seq_refused, seq_on}
use Rattle.section.proofs.TagLaws.{closing_by, tag_by}
use Rattle.labels.proofs.file_end.Goals as goal

pub returns-in_err-last : goal.returns-in_err-last
returns-in_err-last c =
    let a = c.args in
    let f = a.f.now in
    let t = a.tagged in
    let A = tag_by 4 f a.p _ (closing_by t n_value_labels) c.in_err-last.ensures in
    exit_judged _ c.from_residual.ensures.1 (seq_refused (tag (closing t n_value_labels) 4) (λ u. seq (tag (closing t n_stata_dta) 4) λ v. done 13) f a.p _ A)

pub returns-in_err-end : goal.returns-in_err-end
returns-in_err-end c =
    let a = c.args in
    let f = a.f.now in
    let t = a.tagged in
    let A = tag_by 4 f a.p _ (closing_by t n_value_labels) c.in_ok-last.ensures in
    let B = tag_by 4 f _ _ (closing_by t n_stata_dta) c.in_err-end.ensures in
    exit_judged _ c.from_residual-in_err-end.ensures.1 (seq_on (tag (closing t n_value_labels) 4) (λ u. seq (tag (closing t n_stata_dta) 4) λ v. done 13) f a.p _ A _
    (seq_refused (tag (closing t n_stata_dta) 4) (λ v. done 13) f _ _ B))
