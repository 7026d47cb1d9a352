use Rattle.std.proofs.Common.{◌≡◌, inr, refl, sym, ◌∙◌, true, false}
use Rattle.std.proofs.lemmas.Bool.{not-false, not-true}
use Rattle.timing_file.specs.Timing.{is_repeated}
use Rattle.timing_file.specs.inner.Views.{statement_seen}
use Rattle.timing_file.proofs.Steps.{stated_step, repeated, on_true}
use Rattle.timing_file.proofs.reader.take_in_range.Goals as goal

pub returns-then-not-branch : goal.returns-then-not-branch
returns-then-not-branch c before line read count is =
    let again : is_repeated before (statement_seen c.args.statement) ≡ true = repeated before c.args.reader.now c.subject.result (statement_seen c.args.statement) read c.subject.ensures true (not-false _ (sym c.in_ok-is_first.ensures.first ∙ c.if-not-branch.true)) in
    rw c.fault.ensures (inr (rw again refl, refl))

pub returns : goal.returns
returns c before line read count is =
    stated_step before line c.args.reader.now (record { is_empty = false; is_version_2 = c.args.reader.now.is_version_2; stated = c.add.new.self; seen = c.is_first.new.seen }) c.subject.result (statement_seen c.args.statement) c.args.number is read count c.subject.ensures
    (not-true _ (sym c.in_ok-is_first.ensures.first ∙ c.if-not-branch.false)) (on_true _ _ c.if-not-branch.false c.in_ok-is_first.ensures.added) c.in_ok-add.ensures.ok refl refl
