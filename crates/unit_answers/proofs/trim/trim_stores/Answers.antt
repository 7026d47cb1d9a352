use Rattle.std.proofs.Common.{◌≡◌, ◌≤◌, length, map, refl, ap, ◌∙◌, arith}
use Rattle.unit_answers.specs.Stores.{setup_of}
use Rattle.unit_answers.specs.inner.Trims.{trimmed_store, entries_at}
use Rattle.unit_answers.proofs.Trimming.{trims-more, trims-stores, trims-entries, written-back}
use Rattle.unit_answers.proofs.Done.{trim-done}
use Rattle.unit_answers.proofs.trim.trim_stores.Goals as goal

pub loop-store-init : goal.loop-store-init
loop-store-init c = record { stores = refl; entries = c.new-lists.ensures.items }

pub loop-store-preserved : goal.loop-store-preserved
loop-store-preserved c =
    trims-more c.args.most c.loop-store.store-index c.deref_mut-store-items.result.now c.loop-store.store-items c.loop-store.lists.items c.push.new.self.items c.store-item.result c.trim_store.new.store c.in_ok-trim_store.field-0
    c.loop-store.invariant c.loop-store-test.true c.in_ok-trim_store.ensures.left c.in_ok-trim_store.ensures.entries c.in_ok-push.ensures.items

pub returns : goal.returns
returns c =
    let most = c.args.most in
    let old = c.args.stores.items in
    let now = c.loop-store.store-items in
    let value : c.deref_mut-store-items.result.now ≡ old = c.deref_mut-store-items.ensures.value in
    let same : length now ≡ length old = c.loop-store.auto.store-items ∙ ap length value in
    let whole = written-back old now c.args.stores.len c.args.stores.ok.0 same in
    let end : length c.deref_mut-store-items.result.now ≤ c.loop-store.store-index = omega (arith, c.loop-store-test.false) in
    let stores = trims-stores most c.loop-store.store-index c.deref_mut-store-items.result.now now c.loop-store.lists.items c.loop-store.invariant end in
    let entries = trims-entries most c.loop-store.store-index c.deref_mut-store-items.result.now now c.loop-store.lists.items c.loop-store.invariant end in
    trim-done (setup_of c.args.design.now c.args.sizes) most old c.requires.stores c.loop-store.lists.items _ (entries ∙ ap (map (entries_at most)) value) (whole ∙ stores ∙ ap (map (trimmed_store most)) value)
