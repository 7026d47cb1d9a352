-- What the entries of the shards in hand name, possibly with claims.
use Rattle.std.proofs.Common.{◌≡◌, ◌<◌, ℕ, suc, List, [], ◌∷◌, length, get_or, All, Contains, Option, Some, None, refl, subst, arith, inl, inr}
use Rattle.std.proofs.lemmas.List.Elements.{Contains-append_cases}
use Rattle.valid_intervals.specs.declared.Cell.{Cell}
use Rattle.valid_intervals.specs.declared.Point.{Point}
use Rattle.valid_intervals.specs.declared.SignalCell.{SignalCell}
use Rattle.circuit_meaning.specs.Forced.{forced_circuit}
use Rattle.circuit_meaning.specs.Need.{HasChildren, IsEvaluable}
use Rattle.circuit_meaning.proofs.Callers.{free-alike}
use Rattle.journal_meaning.specs.declared.Entry.{Entry}
use Rattle.journal_meaning.specs.declared.Entry.TheVariants.{Filled}
use Rattle.journal_meaning.specs.States.{fresh}
use Rattle.journal_meaning.specs.Listed.{IsRightEntry}
use Rattle.journal_meaning.proofs.Callers.{right-entries, filled_needed}
use Rattle.journal_meaning.specs.declared.batch.Query.{Query}
use Rattle.journal_meaning.specs.Batches.{Batch, NeedOf, Site, window_of}
use Rattle.journal_meaning.specs.Lawful.{IsLawful}
use Rattle.memo_shards.specs.KeptShards.{KeptShard, IsKnownShard}
use Rattle.design.specs.PinWalks.{IsPoint}
use Rattle.plan_machine.proofs.Callers.{each-contains, evaluable-signal}
use Rattle.plan_core.specs.asked.Memos.{entries_of}
use Rattle.plan_core.proofs.Pins.{needed-evaluable}

-- the shard in whose journal an entry stands
record Home (ms : List KeptShard) (e : Entry) : Type 0 where
  place : ℕ
  shard : KeptShard
  low : place < length ms
  is : get_or ms place shard ≡ shard
  here : Contains shard.shard.journal e

home-of : (ms : List KeptShard) (e : Entry) → Contains (entries_of ms) e → Home ms e
home-of [] e h = let l = h.1 in absurd (omega arith)
home-of (m ∷ ms) e h = elim (Contains-append_cases m.shard.journal (entries_of ms) e h) [
  | inl k ↦ record { place = 0; shard = m; low = omega arith; is = refl; here = k }
  | inr k ↦ let o = home-of ms e k in record { place = suc o.place; shard = o.shard; low = (let l = o.low in omega arith); is = o.is; here = o.here }
]

module _ (b : Batch) (lawful : IsLawful b) (opening : ℕ → List SignalCell) (ms : List KeptShard) (known : All (IsKnownShard b opening) ms) where
  home-known : (e : Entry) → (o : Home ms e) → IsKnownShard b opening o.shard
  home-known e o = subst (IsKnownShard b opening) o.is (known o.place o.shard o.low)

  -- each entry is right
  pub known-right : (e : Entry) → Contains (entries_of ms) e → IsRightEntry b.circuit e
  known-right e h =
      let o = home-of ms e h in
      let k = home-known e o in
      each-contains (IsRightEntry b.circuit) o.shard.shard.journal e (right-entries b o.shard.number (fresh (opening o.shard.number)) o.shard.shard.journal k.shard.legal) o.here

  site-evaluable : (y : Query) (p : Point) (o : Option Site) → NeedOf b.circuit o y p → IsEvaluable b.circuit p.signal p.time
  site-evaluable y p None n = needed-evaluable b.circuit (window_of y) p.signal p.time n
  site-evaluable y p (Some site) n =
      let e = needed-evaluable (forced_circuit b.circuit site.signal site.value) (window_of y) p.signal p.time n.0 in
      subst (HasChildren p.time) (free-alike b.circuit site.signal site.value lawful.circuit p.signal p.time n.1).driver e

  -- an evaluated point has no base answer
  pub filled-evaluable : (q : ℕ) (p : Point) (x : Cell) → Contains (entries_of ms) (Filled q p x) → IsEvaluable b.circuit p.signal p.time
  filled-evaluable q p x h =
      let o = home-of ms (Filled q p x) h in
      let k = home-known (Filled q p x) o in
      let n = filled_needed b o.shard.number o.shard.shard.journal (fresh (opening o.shard.number)) tt k.shard.legal q p x o.here in
      site-evaluable n.0 p b.site n.3

  -- and is a point of the circuit
  pub filled-point : (q : ℕ) (p : Point) (x : Cell) → Contains (entries_of ms) (Filled q p x) → IsPoint b.circuit p
  filled-point q p x h = record { signal = evaluable-signal p.time b.circuit.drivers p.signal (filled-evaluable q p x h); time = (known-right (Filled q p x) h).0 }
