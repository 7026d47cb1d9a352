use Rattle.std.proofs.Common.{ℕ, refl, ◌+◌, List, [], ◌∷◌, ◌++◌, sym, subst, ◌∙◌, arith}
use Rattle.cell_store.specs.inner.Maps.{place_of}
use Rattle.cell_store.specs.declared.Key.{Key}
use Rattle.cell_store.specs.inner.Index.{IsFront, IsSoundStore}
use Rattle.cell_store.proofs.Trims.{IsTrimming, trim_begins, many_lost, trim_goes_on, trim_ends}
use Rattle.cell_store.proofs.store.CellStore.trim.Goals as goal

pub loop-slot-init : goal.loop-slot-init
loop-slot-init c =
    let lost = c.as_slice-slot-items.ensures.value ∙ c.in_ok-gone.ensures.gone in
    let many = many_lost c.args.n c.self.inside.cache.entries c.as_slice-slot-items.result.now lost in
    record {
      front = refl;
      trimming = subst (λ (l : List Key). IsTrimming (place_of c.self.inside.index) c.truncate.new.self c.reserve.new.self.items c.args.n c.as_slice-slot-items.result.now 0 l c.args.self.now) (sym c.in_ok-keys.ensures.items)
          (trim_begins (place_of c.self.inside.index) c.truncate.new.self c.self.inside.cache c.reserve.new.self.items c.args.n c.as_slice-slot-items.result.now c.args.self.now
          (subst (λ (l : List ℕ). IsSoundStore (place_of c.self.inside.index) c.self.inside.cache.entries l c.self.inside.cache.cap) (sym c.reserve.ensures.items) c.self.invariant.0) c.self.view_is c.in_ok-gone.ensures.left lost);
      room = omega (arith, many, c.len.ensures, c.saturating_sub-extra.ensures, c.in_ok-keys.ensures.len, c.in_ok-keys.ensures.capacity);
      places = omega (arith, many, c.len.ensures, c.saturating_sub-extra.ensures, c.in_ok-reserve.ensures.ok);
    }

pub loop-slot-preserved : goal.loop-slot-preserved
loop-slot-preserved c = record {
  front = c.loop-slot.invariant.front;
  trimming = subst (λ (l : List Key). IsTrimming (place_of c.remove.new.self) c.loop-slot.self-inside.cache c.push_reserved-in-loop-slot.new.self.items c.args.n c.as_slice-slot-items.result.now (c.loop-slot.slot-index + 1) l c.args.self.now) (sym c.push_reserved.ensures.items)
      (subst (λ (free : List ℕ). IsTrimming (place_of c.remove.new.self) c.loop-slot.self-inside.cache free c.args.n c.as_slice-slot-items.result.now (c.loop-slot.slot-index + 1) (c.loop-slot.keys.items ++ c.cell_key-old.result ∷ []) c.args.self.now) (sym c.push_reserved-in-loop-slot.ensures.items)
      (trim_goes_on (place_of c.loop-slot.self-inside.index) (place_of c.remove.new.self) c.loop-slot.self-inside.cache c.loop-slot.self-inside.free.items c.args.n c.as_slice-slot-items.result.now c.loop-slot.slot-index c.loop-slot.keys.items c.args.self.now
      c.loop-slot-item.result.0 c.loop-slot-item.result.1 c.cell_key-old.result c.loop-slot.invariant.trimming (omega (arith, c.loop-slot-test.true)) (sym c.loop-slot-item.is) c.cell_key-old.ensures.key c.remove.ensures));
  room = omega (arith, c.loop-slot.invariant.room, c.push_reserved.ensures.len, c.push_reserved.ensures.capacity, c.loop-slot-test.true);
  places = omega (arith, c.loop-slot.invariant.places, c.push_reserved-in-loop-slot.ensures.len, c.push_reserved-in-loop-slot.ensures.capacity, c.loop-slot-test.true);
}

pub invariant_of-self-in-loop-slot : goal.invariant_of-self-in-loop-slot
invariant_of-self-in-loop-slot c = (
  (trim_ends (place_of c.loop-slot.self-inside.index) c.loop-slot.self-inside.cache c.loop-slot.self-inside.free.items c.args.n c.as_slice-slot-items.result.now c.loop-slot.slot-index c.loop-slot.keys.items c.args.self.now c.loop-slot.invariant.trimming c.loop-slot-test.false).0,
  subst (λ o. IsFront o c.loop-slot.self-inside.cache.entries) (sym c.loop-slot.invariant.front) tt,
)

pub returns-clause-cells : goal.returns-clause-cells
returns-clause-cells c = (trim_ends (place_of c.loop-slot.self-inside.index) c.loop-slot.self-inside.cache c.loop-slot.self-inside.free.items c.args.n c.as_slice-slot-items.result.now c.loop-slot.slot-index c.loop-slot.keys.items c.args.self.now c.loop-slot.invariant.trimming c.loop-slot-test.false).1

pub returns-clause-keys : goal.returns-clause-keys
returns-clause-keys c = (trim_ends (place_of c.loop-slot.self-inside.index) c.loop-slot.self-inside.cache c.loop-slot.self-inside.free.items c.args.n c.as_slice-slot-items.result.now c.loop-slot.slot-index c.loop-slot.keys.items c.args.self.now c.loop-slot.invariant.trimming c.loop-slot-test.false).2
