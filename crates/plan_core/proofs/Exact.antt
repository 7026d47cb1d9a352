-- What an entry says of the very point for which it was recorded is right, and found.
use Rattle.std.proofs.Common.{◌≡◌, ◌≤◌, ◌<◌, ℕ, zero, suc, List, [], ◌∷◌, length, get_or, Contains, Option, Some, None, IfSome, OnSome, sym, ap, subst, arith, refl}
use Rattle.std.proofs.lemmas.List.Elements.{Contains-append_left, Contains-append_right}
use Rattle.valid_intervals.specs.declared.Cell.{Cell}
use Rattle.valid_intervals.specs.declared.Point.{Point}
use Rattle.valid_intervals.specs.Spans.{Span, IsIn}
use Rattle.circuit_meaning.specs.Circuit.{Circuit}
use Rattle.circuit_meaning.specs.Cells.{span, cell_at}
use Rattle.circuit_meaning.proofs.Callers.{cell-covers}
use Rattle.journal_meaning.specs.declared.Entry.{Entry}
use Rattle.journal_meaning.specs.declared.Entry.TheVariants.{Told, Claimed, Filled, Evicted, Dropped, Spent}
use Rattle.journal_meaning.specs.Listed.{IsRightEntry}
use Rattle.journal_meaning.specs.Entries.{SaidCell, cell_said}
use Rattle.journal_meaning.specs.Index.{cells_said, IsFound}
use Rattle.journal_meaning.specs.Batches.{Batch}
use Rattle.journal_meaning.specs.Lawful.{IsLawful}
use Rattle.memo_shards.specs.KeptShards.{KeptShard}
use Rattle.plan_core.specs.asked.Memos.{entries_of}
use Rattle.plan_core.specs.asked.inner.Exact.{IsSaidFor}
use Rattle.plan_core.proofs.AskedIndex.{said-to}

-- an entry of one shard is one of the entries of all
pub entries-contain : (ms : List KeptShard) (k : ℕ) (d : KeptShard) (e : Entry) → k < length ms → Contains (get_or ms k d).shard.journal e → Contains (entries_of ms) e
entries-contain [] k d e low h = absurd (omega arith)
entries-contain (m ∷ ms) zero d e low h = Contains-append_left m.shard.journal (entries_of ms) e h
entries-contain (m ∷ ms) (suc k) d e low h = Contains-append_right m.shard.journal (entries_of ms) e (entries-contain ms k d e (omega arith) h)

-- what one shard's journal says for a point, the entries say
pub said-in-one : (ms : List KeptShard) (k : ℕ) (m : KeptShard) (p : Point) (x : Cell) → k < length ms → m ≡ get_or ms k m → IsSaidFor m.shard.journal p x → IsSaidFor (entries_of ms) p x
said-in-one ms k m p x low is (e, h, same) = (e, entries-contain ms k m e low (subst (λ (s : KeptShard). Contains s.shard.journal e) is h), same)

-- what follows from what is there
pub on-some : {A : Type 0} (o : Option A) (P : A → Type 0) (Q : Type 0) → ((x : A) → P x → Q) → IfSome o P → OnSome o Q
on-some None P Q f h = tt
on-some (Some x) P Q f h = f x h

-- the cell that a right entry says
pub right-cell : (c : Circuit) (e : Entry) (f : SaidCell) → cell_said e ≡ Some f → IsRightEntry c e → (f.point.time ≤ c.horizon) × (f.cell ≡ cell_at c f.point)
right-cell c (Told q p x) f same r = let is : record { point = p; cell = x } ≡ f = cc same in subst (λ (g : SaidCell). (g.point.time ≤ c.horizon) × (g.cell ≡ cell_at c g.point)) is r
right-cell c (Claimed q p) f same r = absurd (cc same)
right-cell c (Filled q p x) f same r = let is : record { point = p; cell = x } ≡ f = cc same in subst (λ (g : SaidCell). (g.point.time ≤ c.horizon) × (g.cell ≡ cell_at c g.point)) is r
right-cell c (Evicted s t) f same r = absurd (cc same)
right-cell c (Dropped q p) f same r = absurd (cc same)
right-cell c (Spent q p n) f same r = absurd (cc same)

module _ (b : Batch) (lawful : IsLawful b) (ms : List KeptShard) (rights : (e : Entry) → Contains (entries_of ms) e → IsRightEntry b.circuit e) (p : Point) (x : Cell) (h : IsSaidFor (entries_of ms) p x) where
  here : SaidCell
  here = record { point = p; cell = x }

  right : (p.time ≤ b.circuit.horizon) × (x ≡ cell_at b.circuit p)
  right = right-cell b.circuit h.0 (record { point = p; cell = x }) h.2 (rights h.0 h.1)

  -- it is the cell of the point
  pub exact-right : x ≡ cell_at b.circuit p
  exact-right = right.1

  inside : IsIn x.span p.time
  inside =
      let own : IsIn (span b.circuit p.signal p.time) p.time = (cell-covers b.circuit lawful.circuit p.time p.signal right.0).inside in
      let spans : x.span ≡ span b.circuit p.signal p.time = ap (λ (y : Cell). y.span) right.1 in
      subst (λ (s : Span). IsIn s p.time) (sym spans) own

  -- and found there
  pub exact-found : IsFound (cells_said (entries_of ms)) p
  exact-found = (record { point = p; cell = x }, said-to (entries_of ms) h.0 (record { point = p; cell = x }) h.1 h.2, record { signal = refl; time = inside })
