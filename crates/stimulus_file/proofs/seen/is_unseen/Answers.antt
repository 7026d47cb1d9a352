use Rattle.std.proofs.Common.{subst}
use Rattle.stimulus_file.specs.inner.KeptSettings.{HasSeen}
use Rattle.stimulus_file.proofs.Finding.{seen_all, tells_more}
use Rattle.stimulus_file.proofs.seen.is_unseen.Goals as goal

pub returns-in_ok-insert-in-Some : goal.returns-in_ok-insert-in-Some
returns-in_ok-insert-in-Some c = λ has.
    tells_more c.in-Some.seen c.insert.new.self c.args.sets.now c.args.place c.args.time c.in_ok-insert-in-Some.field-0 (subst (λ o. HasSeen o c.args.sets.now) c.in-Some.is has)
    c.in_ok-insert-in-Some.ensures.added c.in_ok-insert-in-Some.ensures.updates.0

pub returns-in_ok-is_new-in-None : goal.returns-in_ok-is_new-in-None
returns-in_ok-is_new-in-None c = λ has.
    tells_more c.in_ok-all-in-None.all c.insert-in-None.new.self c.args.sets.now c.args.place c.args.time c.in_ok-is_new-in-None.is_new
    (seen_all c.in_ok-all-in-None.all c.args.sets.now c.in_ok-all-in-None.ensures) c.in_ok-is_new-in-None.ensures.added c.in_ok-is_new-in-None.ensures.updates.0
