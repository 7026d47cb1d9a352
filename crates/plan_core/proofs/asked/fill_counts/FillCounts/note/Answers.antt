use Rattle.std.proofs.Common.{◌++◌, ◌∷◌, [], sym, subst}
use Rattle.std.proofs.lemmas.Result.{on_ok_weaker}
use Rattle.plan_core.specs.asked.FillCounts.{HasCounted}
use Rattle.plan_core.proofs.Counted.{counted-filled, counted-other}
use Rattle.plan_core.proofs.asked.fill_counts.FillCounts.note.Goals as goal

pub returns-in-Some : goal.returns-in-Some
returns-in-Some c = λ es h.
    let old = c.args.self.now in
    let new = c.add.new.self in
    let q = c.in-Some.q in
    on_ok_weaker c.add.result (λ add. subst (λ e. HasCounted (es ++ e ∷ []) new) (sym c.in-Some.ensures.some) (counted-filled es q c.in-Some.field-0-1 c.in-Some.field-0-2 old new h add)) c.add.ensures

pub returns-in-None : goal.returns-in-None
returns-in-None c = λ es h. counted-other es c.args.entry.now c.args.self.now c.in-None.ensures.none h
