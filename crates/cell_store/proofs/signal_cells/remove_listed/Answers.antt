use Rattle.std.proofs.Common.{◌-◌, ℕ, List, IsSome, subst, ◌∙◌, arith, rules}
use Rattle.cell_store.specs.declared.index.Place.{Place}
use Rattle.cell_store.specs.inner.SignalCells.{kept_at, HaveBegun}
use Rattle.cell_store.proofs.Starts.{some_begun, without}
use Rattle.cell_store.proofs.signal_cells.remove_listed.Goals as goal

pub overflow_sub-begun : goal.overflow_sub-begun
overflow_sub-begun c =
    let some : IsSome (kept_at c.args.few.now.items c.args.start) = search rules in
    let have = subst (λ (es : List (ℕ × Place)). HaveBegun es c.args.start c.begun_by-begun.result) c.deref.ensures.value c.begun_by-begun.ensures in
    let less = some_begun c.args.few.now.items c.requires c.args.start c.begun_by-begun.result have some in
    omega (arith, less)

pub returns-then-is_some-clause-gone : goal.returns-then-is_some-clause-gone
returns-then-is_some-clause-gone c =
    let some : IsSome (kept_at c.args.few.now.items c.args.start) = search rules in
    let have = subst (λ (es : List (ℕ × Place)). HaveBegun es c.args.start c.begun_by-begun.result) c.deref.ensures.value c.begun_by-begun.ensures in
    let less = some_begun c.args.few.now.items c.requires c.args.start c.begun_by-begun.result have some in
    (without c.args.few.now.items c.give_room_back.new.few.items c.requires c.args.start c.begun_by-begun.result (c.begun_by-begun.result - 1) have (omega (arith, less)) some (c.give_room_back.ensures ∙ c.remove.ensures.items)).gone

pub returns-then-is_some-clause-order : goal.returns-then-is_some-clause-order
returns-then-is_some-clause-order c =
    let some : IsSome (kept_at c.args.few.now.items c.args.start) = search rules in
    let have = subst (λ (es : List (ℕ × Place)). HaveBegun es c.args.start c.begun_by-begun.result) c.deref.ensures.value c.begun_by-begun.ensures in
    let less = some_begun c.args.few.now.items c.requires c.args.start c.begun_by-begun.result have some in
    (without c.args.few.now.items c.give_room_back.new.few.items c.requires c.args.start c.begun_by-begun.result (c.begun_by-begun.result - 1) have (omega (arith, less)) some (c.give_room_back.ensures ∙ c.remove.ensures.items)).order
