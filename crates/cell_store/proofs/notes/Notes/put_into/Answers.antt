use Rattle.std.proofs.Common.{◌≡◌, ℕ, ◌≤◌, List, length, get_or, nat_eq, ap, ◌∙◌, arith}
use Rattle.std.proofs.lemmas.List.{get_or_default}
use Rattle.lru.specs.LruCache.{LruCache, lru_cache, put_entries}
use Rattle.cell_store.specs.inner.Notes.{NotedSlots, Slots, after_notes}
use Rattle.cell_store.proofs.Uses.{HasMade, has_made, made_more, is_noted, where_ok}
use Rattle.cell_store.proofs.notes.Notes.put_into.Goals as goal

pub loop-slot-preserved : goal.loop-slot-preserved
loop-slot-preserved c =
    let noted : List ℕ = c.deref-slot-items.result.now in
    let made : Slots = c.loop-slot.order.entries in
    let cap : ℕ = c.loop-slot.order.cap in
    let i : ℕ = c.loop-slot.slot-index in
    let s : ℕ = get_or noted i 0 in
    let at : s ≡ get_or noted i s = get_or_default noted i 0 s c.loop-slot-test.true in
    let within : length (after_notes made noted) ≤ cap =
    omega (
      arith,
      ap (λ (l : Slots). length l) c.loop-slot.invariant.same,
      ap (λ (l : List ℕ). length (after_notes c.args.order.now.entries l)) (c.deref-slot-items.ensures.value ∙ ap (λ (n : NotedSlots). n.noted) c.self.view_is),
      c.requires.within,
      c.loop-slot.invariant.cap,
    ) in
    let is : c.push.new.self ≡ lru_cache (put_entries nat_eq (lru_cache made cap) s tt) cap = where_ok c.push.result c.push.ensures.entries c.if-is_err.ensures.negation in
    let has : HasMade made c.push.new.self.entries noted s = has_made made cap s noted c.push.new.self (is_noted noted i s c.loop-slot-test.true at) within is in
    record {
      made = made_more c.args.order.now.entries made c.push.new.self.entries noted i s c.loop-slot-test.true at c.loop-slot.invariant.made has.is;
      same = has.after ∙ c.loop-slot.invariant.same;
      cap = ap (λ (l : LruCache ℕ (Unit {0})). l.cap) is ∙ c.loop-slot.invariant.cap;
    }
