use Rattle.std.proofs.Common.{Option, IfNone, IfSome, OnSome, List, subst, sym}
use Rattle.std.specs.BTreeMap.{get}
use Rattle.journal_meaning.specs.Listed.{IsRightEntry}
use Rattle.journal_meaning.specs.Index.{cells_said, IsFound, IsCellIndex}
use Rattle.journal_meaning.proofs.Callers.{Each}
use Rattle.valid_intervals.specs.Cells.{point_cmp}
use Rattle.plan_machine.specs.Sound.{IsFresh}
use Rattle.plan_machine.proofs.Callers.{right-of}
use Rattle.memo_shards.specs.KeptShards.{KeptShard}
use Rattle.plan_core.specs.Parts.{shards_in}
use Rattle.plan_core.specs.declared.asked.cells.SaidCells.{SaidCells}
use Rattle.plan_core.specs.asked.Memos.{entries_of}
use Rattle.plan_core.specs.asked.inner.Exact.{IsSaidFor}
use Rattle.plan_core.proofs.RunsAlone.{entries-right}
use Rattle.plan_core.proofs.Exact.{exact-right, exact-found}
use Rattle.plan_core.proofs.asked.memo.Memo.find.Goals as goal

pub returns-in-Some-clause-cell : goal.returns-in-Some-clause-cell
returns-in-Some-clause-cell g c =
    let b = g.B.BatchName.batch in
    let ms = c.self.inside.shards.items in
    let fresh : IsFresh b g.B.BatchName.opening (shards_in ms) = subst (λ (l : List KeptShard). IsFresh b g.B.BatchName.opening (shards_in l)) (sym c.self.view_is) c.requires.fresh in
    let said : IsSaidFor (entries_of ms) c.args.p c.in-Some.cell = subst (λ (l : List KeptShard). IsSaidFor (entries_of l) c.args.p c.in-Some.cell) c.deref.ensures.value c.in-Some.ensures in
    exact-right b c.requires.lawful ms (right-of b c.requires.lawful g.B.BatchName.opening (shards_in ms) fresh) c.args.p c.in-Some.cell said

pub returns-in-Some-clause-some : goal.returns-in-Some-clause-some
returns-in-Some-clause-some g c =
    let b = g.B.BatchName.batch in
    let ms = c.self.inside.shards.items in
    let fresh : IsFresh b g.B.BatchName.opening (shards_in ms) = subst (λ (l : List KeptShard). IsFresh b g.B.BatchName.opening (shards_in l)) (sym c.self.view_is) c.requires.fresh in
    let said : IsSaidFor (entries_of ms) c.args.p c.in-Some.cell = subst (λ (l : List KeptShard). IsSaidFor (entries_of l) c.args.p c.in-Some.cell) c.deref.ensures.value c.in-Some.ensures in
    subst (λ (l : List KeptShard). IsFound (cells_said (entries_of l)) c.args.p) c.self.view_is (exact-found b c.requires.lawful ms (right-of b c.requires.lawful g.B.BatchName.opening (shards_in ms) fresh) c.args.p c.in-Some.cell said)

pub invariant_of-self-2 : goal.invariant_of-self-2
invariant_of-self-2 g c =
    let b = g.B.BatchName.batch in
    let ms = c.self.inside.shards.items in
    let fresh : IsFresh b g.B.BatchName.opening (shards_in ms) = subst (λ (l : List KeptShard). IsFresh b g.B.BatchName.opening (shards_in l)) (sym c.self.view_is) c.requires.fresh in
    let index = get point_cmp c.in_ok-cells.cells.cells in
    subst (λ (l : List KeptShard). IsCellIndex b.circuit (cells_said (entries_of l)) index) c.deref-3.ensures.value
    (c.in_ok-cells.ensures b.circuit c.requires.lawful.circuit
    (subst (λ (l : List KeptShard). Each (IsRightEntry b.circuit) (entries_of l)) (sym c.deref-3.ensures.value) (entries-right b c.requires.lawful g.B.BatchName.opening ms fresh))
    (subst (λ (o : Option SaidCells). IfSome o (λ cells. IsCellIndex b.circuit (cells_said (entries_of c.deref-3.result.now)) (get point_cmp cells.cells))) (sym c.take.ensures.value)
    (subst (λ (l : List KeptShard). IfSome c.self.inside.cells (λ cells. IsCellIndex b.circuit (cells_said (entries_of l)) (get point_cmp cells.cells))) (sym c.deref-3.ensures.value) c.self.invariant)))

pub returns-clause-cell : goal.returns-clause-cell
returns-clause-cell g c = c.find-found.ensures.cell g.B.BatchName.batch.circuit (cells_said (entries_of c.self.inside.shards.items)) c.requires.lawful.circuit (invariant_of-self-2 g c)

pub returns-clause-some : goal.returns-clause-some
returns-clause-some g c =
    subst (λ (l : List KeptShard). OnSome c.find-found.result (IsFound (cells_said (entries_of l)) c.args.p)) c.self.view_is
    (c.find-found.ensures.some g.B.BatchName.batch.circuit (cells_said (entries_of c.self.inside.shards.items)) c.requires.lawful.circuit (invariant_of-self-2 g c))

pub returns-clause-none : goal.returns-clause-none
returns-clause-none g c =
    subst (λ (l : List KeptShard). IfNone c.find-found.result (IsFound (cells_said (entries_of l)) c.args.p → ⊥)) c.self.view_is
    (c.find-found.ensures.none g.B.BatchName.batch.circuit (cells_said (entries_of c.self.inside.shards.items)) c.requires.lawful.circuit (invariant_of-self-2 g c))
