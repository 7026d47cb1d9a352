use Rattle.std.proofs.Common.{◌≡◌, ◌≤◌, ◌<◌, ◌+◌, ◌++◌, min, ℕ, List, length, get_or, IfSome, sym, ap, ap₂, subst, ◌∙◌}
use Rattle.std.specs.BTreeMap.{get}
use Rattle.journal_meaning.specs.declared.Entry.{Entry}
use Rattle.journal_meaning.specs.Answers.{fill_count}
use Rattle.journal_meaning.specs.Listed.{IsRightEntry}
use Rattle.journal_meaning.specs.Index.{cells_said, IsCellIndex}
use Rattle.valid_intervals.specs.Cells.{point_cmp}
use Rattle.journal_meaning.proofs.Callers.{Each}
use Rattle.memo_shards.specs.KeptShards.{KeptShard}
use Rattle.plan_core.specs.asked.Memos.{IsChargedMemo, entries_of}
use Rattle.plan_core.specs.asked.inner.Tails.{lengths_of, tails}
use Rattle.plan_core.proofs.RunsAlone.{read-longer, read-count, index-on, charged-on, entries-right}
use Rattle.plan_core.proofs.asked.memo.ask.Goals as goal

pub read_new-requires-clause-count : goal.read_new-requires-clause-count
read_new-requires-clause-count g c =
    let k = c.in_ok-shards.ensures.asked in
    ap length (c.deref-4.ensures.value ∙ c.in_ok-read.ensures ∙ ap lengths_of c.deref-2.ensures.value)
    ∙ read-count g.B.BatchName.batch c.requires.lawful g.B.BatchName.opening c.shards.inside.shards.items c.in_ok-shards.shards.items k.added k.journals ∙ sym (ap length c.deref-3.ensures.value)

pub read_new-requires-clause-read : goal.read_new-requires-clause-read
read_new-requires-clause-read g c =
    let old = c.shards.inside.shards.items in
    let new = c.in_ok-shards.shards.items in
    let k = c.in_ok-shards.ensures.asked in
    let lens = c.deref-4.ensures.value ∙ c.in_ok-read.ensures ∙ ap lengths_of c.deref-2.ensures.value in
    let h : (i d : ℕ) (e : KeptShard) → i < length (lengths_of old) → get_or (lengths_of old) i d ≤ length (get_or new i e).shard.journal = read-longer g.B.BatchName.batch c.requires.lawful g.B.BatchName.opening old new k.added k.journals in
    subst (λ (ns : List ℕ). (i d : ℕ) (e : KeptShard) → i < length ns → get_or ns i d ≤ length (get_or c.deref-3.result.now i e).shard.journal) (sym lens)
    (subst (λ (ms : List KeptShard). (i d : ℕ) (e : KeptShard) → i < length (lengths_of old) → get_or (lengths_of old) i d ≤ length (get_or ms i e).shard.journal) (sym c.deref-3.ensures.value) h)

pub invariant_of-memo : goal.invariant_of-memo
invariant_of-memo g c =
    let b = g.B.BatchName.batch in
    let old = c.shards.inside.shards.items in
    let new = c.in_ok-shards.shards.items in
    let k = c.in_ok-shards.ensures.asked in
    let lens = c.deref-4.ensures.value ∙ c.in_ok-read.ensures ∙ ap lengths_of c.deref-2.ensures.value in
    let same : tails c.deref-4.result.now c.deref-3.result.now ≡ tails (lengths_of old) new = ap₂ tails lens c.deref-3.ensures.value in
    let opening = g.B.BatchName.opening in
    let is : old ≡ c.args.memo.now = c.shards.view_is ∙ c.replace.ensures.value in
    let asking : IsChargedMemo b opening old c.args.query c.args.charge.now = subst (λ (ms : List KeptShard). IsChargedMemo b opening ms c.args.query c.args.charge.now) (sym is) c.requires.asking in
    let before = get point_cmp c.in_ok-index.index.cells in
    let made : IsCellIndex b.circuit (cells_said (entries_of old)) before =
    subst (λ (l : List KeptShard). IsCellIndex b.circuit (cells_said (entries_of l)) before) c.deref.ensures.value
    (c.in_ok-index.ensures b.circuit c.requires.lawful.circuit
    (subst (λ (l : List KeptShard). Each (IsRightEntry b.circuit) (entries_of l)) (sym c.deref.ensures.value) (entries-right b c.requires.lawful opening old asking.kept.fresh))
    (subst (λ (l : List KeptShard). IfSome c.shards.inside.cells (λ cells. IsCellIndex b.circuit (cells_said (entries_of l)) (get point_cmp cells.cells))) (sym c.deref.ensures.value) c.shards.invariant)) in
    let after = get point_cmp c.read_new.new.cells.cells in
    let read = subst (λ (l : List Entry). (es : List Entry) → IsCellIndex b.circuit (cells_said es) before → Each (IsRightEntry b.circuit) l → IsCellIndex b.circuit (cells_said (es ++ l)) after) same
    (λ es i right. c.in_ok-read_new.ensures.indexed b.circuit es c.requires.lawful.circuit i right) in
    index-on b c.requires.lawful g.B.BatchName.opening old new k.added k.journals before after k.fresh made read

pub returns-clause-asking : goal.returns-clause-asking
returns-clause-asking g c =
    let b = g.B.BatchName.batch in
    let opening = g.B.BatchName.opening in
    let old = c.shards.inside.shards.items in
    let new = c.in_ok-shards.shards.items in
    let k = c.in_ok-shards.ensures.asked in
    let lens = c.deref-4.ensures.value ∙ c.in_ok-read.ensures ∙ ap lengths_of c.deref-2.ensures.value in
    let same : tails c.deref-4.result.now c.deref-3.result.now ≡ tails (lengths_of old) new = ap₂ tails lens c.deref-3.ensures.value in
    let is : old ≡ c.args.memo.now = c.shards.view_is ∙ c.replace.ensures.value in
    let asking : IsChargedMemo b opening old c.args.query c.args.charge.now = subst (λ (ms : List KeptShard). IsChargedMemo b opening ms c.args.query c.args.charge.now) (sym is) c.requires.asking in
    let counts = subst (λ (l : List Entry). c.read_new.new.charge ≡ min (c.args.charge.now + fill_count l c.args.query.number) c.args.query.budget) same c.in_ok-read_new.ensures.charge in
    charged-on b c.requires.lawful opening old new k.added k.journals c.args.query c.args.charge.now c.read_new.new.charge asking c.in_ok-shards.ensures.numbers k.fresh counts
