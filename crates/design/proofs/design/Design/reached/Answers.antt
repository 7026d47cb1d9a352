use Rattle.std.proofs.Common.{◌<◌, ◌∙◌, ap, sym, arith, subst, length, get_or, false, All}
use Rattle.std.specs.Prelude.{IsTrue, ◌↔◌}
use Rattle.std.specs.Arc.{arc_value}
use Rattle.circuit_meaning.specs.Circuit.{driver, read_by}
use Rattle.circuit_meaning.specs.Need.{IsInCone, Itself}
use Rattle.design.specs.inner.HeldSignals.{open_readers}
use Rattle.design.specs.inner.Walk.{has}
use Rattle.design.proofs.Walked.{walked-start, next-within, next-inside, on-inside, walked-step, walked-on, empty-list}
use Rattle.design.proofs.design.Design.reached.Goals as goal

pub signals-init : goal.signals-init
signals-init c =
    walked-start (λ x u. has (read_by (driver c.args.self.now.circuit u)) x) (λ x. IsInCone c.args.self.now.circuit x c.args.site) _ c.args.site c.signals-2.result c.in_ok-vec.field-0.items c.mark.new.self.marks.items c.new.result.items c.mark.new.self.ahead.items
    Itself (let e = c.signals-2.ensures in let l = c.requires in omega (arith, e, l)) (sym c.signals-2.ensures) (c.in_ok-vec.ensures.items_if_clones_equal (λ y e. e)) c.new.ensures.items c.in_ok-mark.ensures

pub find-requires : goal.find-requires
find-requires c =
    subst (λ n. c.in-Some.next < n) (sym c.in_ok-readers.ensures.long)
    (next-within _ (λ x u. has (read_by (driver c.args.self.now.circuit u)) x) (λ x. IsInCone c.args.self.now.circuit x c.args.site) c.args.site c.signals.walk.marks.items c.signals.walk.ahead.items c.pop.new.self.items c.in-Some.next c.signals.invariant c.in-Some.ensures.items)

pub mark_all-requires : goal.mark_all-requires
mark_all-requires c =
    let circuit = c.args.self.now.circuit in
    let within = next-within _ (λ x u. has (read_by (driver circuit u)) x) (λ x. IsInCone circuit x c.args.site) c.args.site c.signals.walk.marks.items c.signals.walk.ahead.items c.pop.new.self.items c.in-Some.next c.signals.invariant c.in-Some.ensures.items in
    subst (λ xs. All (λ x. x < length c.signals.walk.marks.items) xs) (sym (c.deref.ensures.value ∙ c.in_ok-find-in-Some.ensures))
    (subst (λ n. All (λ x. x < n) (open_readers (arc_value c.in_ok-readers.readers.all) c.in_ok-readers.readers.held.now c.in-Some.next)) (sym c.signals.invariant.long) (c.in_ok-readers.ensures.each c.in-Some.next within).within)

pub signals-preserved : goal.signals-preserved
signals-preserved c =
    let circuit = c.args.self.now.circuit in
    let within = next-within _ (λ x u. has (read_by (driver circuit u)) x) (λ x. IsInCone circuit x c.args.site) c.args.site c.signals.walk.marks.items c.signals.walk.ahead.items c.pop.new.self.items c.in-Some.next c.signals.invariant c.in-Some.ensures.items in
    let inside = next-inside _ (λ x u. has (read_by (driver circuit u)) x) (λ x. IsInCone circuit x c.args.site) c.args.site c.signals.walk.marks.items c.signals.walk.ahead.items c.pop.new.self.items c.in-Some.next c.signals.invariant c.in-Some.ensures.items in
    walked-step _ (λ x u. has (read_by (driver circuit u)) x) (λ x. IsInCone circuit x c.args.site) c.args.site c.signals.walk.marks.items c.signals.walk.ahead.items c.pop.new.self.items c.in-Some.next c.signals.invariant c.in-Some.ensures.items c.mark_all.new.self.marks.items c.mark_all.new.self.ahead.items c.deref.result.now
    (λ x. ap (λ xs. has xs x) (c.deref.ensures.value ∙ c.in_ok-find-in-Some.ensures) ∙ (c.in_ok-readers.ensures.each c.in-Some.next within).each x)
    (on-inside circuit c.args.site c.in-Some.next inside)
    c.in_ok-mark_all-in-Some.ensures

pub returns-clause-flags : goal.returns-clause-flags
returns-clause-flags c = λ x l.
    let circuit = c.args.self.now.circuit in
    let empty = empty-list c.signals.walk.ahead.items (λ l. absurd (cc (c.in-None.ensures.variant.1 (let k = c.signals.walk.ahead.ok in omega (arith, k, l))))) in
    subst (λ flags. IsTrue (get_or flags x false) ↔ IsInCone circuit x c.args.site) (sym c.from_vec.ensures)
    (walked-on circuit c.args.site c.signals.walk.marks.items c.signals.walk.ahead.items c.signals.invariant empty x)
