use Rattle.std.proofs.Common.{◌≡◌, ◌<◌, ◌%◌, All, Bool, true, false, get_or, subst, arith, refl}
use Rattle.std.proofs.lemmas.Nat.{mod_below}
use Rattle.std.proofs.lemmas.Option.{slice_get_within}
use Rattle.plan_core.specs.asked.Memos.{entries_of}
use Rattle.worker_gate.proofs.Heard.{fills-heard}
use Rattle.plan_core.proofs.Callers.{lawful-known}
use Rattle.worker_gate.proofs.hearing.look_at_all.Goals as goal

pub looks-requires-clause-lawful : goal.looks-requires-clause-lawful
looks-requires-clause-lawful g c κs within = lawful-known g.B.BatchName.batch g.B.BatchName.opening c.args.shards.now c.know_all.ensures c.requires.shards

pub returns-clause-heard : goal.returns-clause-heard
returns-clause-heard g c = λ yes q p x contains.
    let b = g.B.BatchName.batch in
    let ms = c.args.shards.now in
    let t = c.threads_for-threads.result in
    let found = c.in_ok-found.found.items in
    let all : All (λ (one : Bool). one ≡ true) found = subst (All (λ (one : Bool). one ≡ true)) c.as_slice-2.ensures.value (c.are_all-heard.ensures.0 yes) in
    fills-heard b.circuit (entries_of ms) ms (λ k m at.
    let low : k % t < t = mod_below k t c.threads_for-threads.ensures in
    let one : get_or found (k % t) false ≡ true = all (k % t) false (let n = c.in_ok-found.ensures.count in omega arith) in
    c.in_ok-found.ensures.each (k % t) false low one k (slice_get_within ms k m at) refl m at) q p x contains
