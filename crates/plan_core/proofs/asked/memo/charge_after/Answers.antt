use Rattle.std.proofs.Common.{◌≡◌, ◌+◌, ◌∷◌, [], take, sym, ap, ◌∙◌, arith}
use Rattle.std.proofs.lemmas.List.{take_all}
use Rattle.journal_meaning.specs.Answers.{fill_count}
use Rattle.design.proofs.Callers.{taken-at}
use Rattle.plan_core.proofs.Entries.{filled-append}
use Rattle.plan_core.proofs.asked.memo.charge_after.Goals as goal

pub loop-entry-preserved : goal.loop-entry-preserved
loop-entry-preserved c =
    let xs = c.args.entries.now in
    let n = c.loop-entry.entry-index in
    let q = c.args.query.number in
    let i = c.loop-entry.invariant in
    let r = c.charged_once-total.ensures in
    let e : fill_count (take (n + 1) xs) q ≡ fill_count (take n xs) q + fill_count (c.entry-item.result ∷ []) q = ap (λ l. fill_count l q) (sym (taken-at xs n c.entry-item.result c.loop-entry-test.true c.entry-item.is)) ∙ filled-append (take n xs) (c.entry-item.result ∷ []) q in
    omega arith

pub returns : goal.returns
returns c =
    let i = c.loop-entry.invariant in
    let e : fill_count (take c.loop-entry.entry-index c.args.entries.now) c.args.query.number ≡ fill_count c.args.entries.now c.args.query.number = ap (λ l. fill_count l c.args.query.number) (take_all c.loop-entry.entry-index c.args.entries.now (let t = c.loop-entry-test.false in omega arith)) in
    omega arith
