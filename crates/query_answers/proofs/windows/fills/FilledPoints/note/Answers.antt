use Rattle.std.proofs.Common.{◌≡◌, ◌++◌, ◌∷◌, [], ℕ, List, OnOk, sym, ap, subst, ◌∙◌, append-nil}
use Rattle.std.specs.BTreeMap.{get}
use Rattle.std.specs.Ordering.{nat_cmp}
use Rattle.valid_intervals.specs.declared.Point.{Point}
use Rattle.journal_meaning.specs.declared.Entry.{Entry}
use Rattle.plan_machine.specs.Settling.{fills_of}
use Rattle.query_answers.specs.windows.inner.Fills.{points_in}
use Rattle.query_answers.proofs.Filled.{none-filled}
use Rattle.query_answers.proofs.windows.fills.FilledPoints.note.Goals as goal

pub returns-in-Some : goal.returns-in-Some
returns-in-Some c =
    let old = get nat_cmp c.args.self.now.by_query in
    let new = get nat_cmp c.push.new.self.by_query in
    subst (λ (e : Entry). OnOk c.push.result ((n : ℕ) → points_in (new n) ≡ points_in (old n) ++ fills_of (e ∷ []) n)) (sym c.in-Some.ensures.some) c.push.ensures

pub returns-in-None : goal.returns-in-None
returns-in-None c = λ n.
    let old : List Point = points_in (get nat_cmp c.args.self.now.by_query n) in
    sym (append-nil old) ∙ ap (λ (l : List Point). old ++ l) (sym (none-filled c.args.entry.now n c.in-None.ensures.none))
