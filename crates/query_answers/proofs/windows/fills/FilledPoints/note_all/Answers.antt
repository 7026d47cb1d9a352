use Rattle.std.proofs.Common.{◌++◌, ◌∷◌, [], List, take, sym, ap, ◌∙◌, arith, append_assoc, append-nil}
use Rattle.std.specs.BTreeMap.{get}
use Rattle.std.specs.Ordering.{nat_cmp}
use Rattle.std.proofs.lemmas.List.{take_all}
use Rattle.valid_intervals.specs.declared.Point.{Point}
use Rattle.journal_meaning.specs.declared.Entry.{Entry}
use Rattle.plan_machine.specs.Settling.{fills_of}
use Rattle.design.proofs.Callers.{taken-at}
use Rattle.query_answers.specs.windows.inner.Fills.{points_in}
use Rattle.query_answers.proofs.Filled.{fills-append}
use Rattle.query_answers.proofs.windows.fills.FilledPoints.note_all.Goals as goal

pub loop-entry-init : goal.loop-entry-init
loop-entry-init c = λ n. sym (append-nil (points_in (get nat_cmp c.args.self.now.by_query n)))

pub loop-entry-preserved : goal.loop-entry-preserved
loop-entry-preserved c = λ n.
    let xs = c.args.entries.now in
    let i = c.loop-entry.entry-index in
    let e = c.entry-item.result in
    let old : List Point = points_in (get nat_cmp c.args.self.now.by_query n) in
    c.in_ok-note.ensures n ∙ ap (λ (l : List Point). l ++ fills_of (e ∷ []) n) (c.loop-entry.invariant n)
    ∙ append_assoc old (fills_of (take i xs) n) (fills_of (e ∷ []) n)
    ∙ ap (λ l. old ++ l) (sym (fills-append (take i xs) (e ∷ []) n) ∙ ap (λ (l : List Entry). fills_of l n) (taken-at xs i e c.loop-entry-test.true c.entry-item.is))

pub returns : goal.returns
returns c = λ n.
    let old : List Point = points_in (get nat_cmp c.args.self.now.by_query n) in
    c.loop-entry.invariant n ∙ ap (λ (l : List Entry). old ++ fills_of l n) (take_all c.loop-entry.entry-index c.args.entries.now (let t = c.loop-entry-test.false in omega arith))
