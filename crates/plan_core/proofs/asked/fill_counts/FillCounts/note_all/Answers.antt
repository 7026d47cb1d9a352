use Rattle.std.proofs.Common.{◌++◌, ◌∷◌, [], List, take, sym, ap, subst, ◌∙◌, arith, append_assoc, append-nil}
use Rattle.std.proofs.lemmas.List.{take_all}
use Rattle.journal_meaning.specs.declared.Entry.{Entry}
use Rattle.design.proofs.Callers.{taken-at}
use Rattle.plan_core.specs.asked.FillCounts.{HasCounted}
use Rattle.plan_core.proofs.asked.fill_counts.FillCounts.note_all.Goals as goal

pub loop-entry-init : goal.loop-entry-init
loop-entry-init c = λ es h. subst (λ (l : List Entry). HasCounted l c.args.self.now) (sym (append-nil es)) h

pub loop-entry-preserved : goal.loop-entry-preserved
loop-entry-preserved c = λ es h.
    let xs = c.args.entries.now in
    let i = c.loop-entry.entry-index in
    let e = c.entry-item.result in
    let more = append_assoc es (take i xs) (e ∷ []) ∙ ap (λ l. es ++ l) (taken-at xs i e c.loop-entry-test.true c.entry-item.is) in
    subst (λ (l : List Entry). HasCounted l c.note.new.self) more (c.in_ok-note.ensures (es ++ take i xs) (c.loop-entry.invariant es h))

pub returns : goal.returns
returns c = λ es h.
    subst (λ (l : List Entry). HasCounted (es ++ l) c.loop-entry.self) (take_all c.loop-entry.entry-index c.args.entries.now (let t = c.loop-entry-test.false in omega arith)) (c.loop-entry.invariant es h)
