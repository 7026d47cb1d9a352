use Rattle.std.proofs.Common.{List, All, subst}
use Rattle.plan_machine.specs.Settle.{AreShards}
use Rattle.memo_shards.specs.KeptShards.{KeptShard, IsKnownShard}
use Rattle.plan_core.specs.Parts.{shards_in}
use Rattle.plan_core.proofs.Freeing.{known-shards, shards-freed, freed-numbers, freed-fresh}
use Rattle.plan_core.proofs.asked.memo.begin_with.Goals as goal

pub returns-clause-shards : goal.returns-clause-shards
returns-clause-shards g c =
    let b = g.B.BatchName.batch in
    known-shards b g.B.BatchName.opening c.args.shards.items c.requires.count c.requires.numbers (subst (λ (ms : List KeptShard). All (IsKnownShard b g.B.BatchName.opening) ms) c.deref.ensures.value c.know_all.ensures)

pub returns-clause-freed : goal.returns-clause-freed
returns-clause-freed g c = shards-freed c.args.shards.items c.free_all.new.shards.items c.free_all.ensures.count c.free_all.ensures.freed

pub returns-clause-free : goal.returns-clause-free
returns-clause-free g c =
    let b = g.B.BatchName.batch in
    let opening = g.B.BatchName.opening in
    let old = c.args.shards.items in
    let new = c.free_all.new.shards.items in
    let are : AreShards b opening (shards_in old) = known-shards b opening old c.requires.count c.requires.numbers (subst (λ (ms : List KeptShard). All (IsKnownShard b opening) ms) c.deref.ensures.value c.know_all.ensures) in
    record {
      numbers = freed-numbers old new c.free_all.ensures.count c.free_all.ensures.freed c.requires.numbers;
      fresh = freed-fresh b c.requires.lawful opening old new are (shards-freed old new c.free_all.ensures.count c.free_all.ensures.freed);
    }
