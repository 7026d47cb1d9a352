use Rattle.std.proofs.Common.{false, List, All, Contains, refl, sym, ap, subst, ◌∙◌, arith}
use Rattle.valid_intervals.specs.declared.Point.{Point}
use Rattle.journal_meaning.specs.Batches.{IsNeededBy}
use Rattle.plan_machine.specs.Settle.{charge_of}
use Rattle.plan_machine.specs.Standings.{IsVisited}
use Rattle.plan_machine.proofs.Callers.{begins-query}
use Rattle.plan_core.specs.Parts.{shards_in}
use Rattle.plan_core.specs.asked.Memos.{entries_of}
use Rattle.query_answers.specs.asking.inner.AskedMemos.{AskedMemo}
use Rattle.query_answers.proofs.AskedOn.{turned-asking, asks-advance}
use Rattle.query_answers.proofs.Phases.{feeds}
use Rattle.query_answers.proofs.windows.answers.feed_one.Goals as goal

pub turn_to-requires : goal.turn_to-requires
turn_to-requires g c = let a = c.charge_at.ensures in let n = c.requires.counts in omega arith

pub settle_fills-requires-clause-known : goal.settle_fills-requires-clause-known
settle_fills-requires-clause-known g c = subst (λ (a : AskedMemo). Contains g.B.BatchName.batch.queries a.query) (sym c.turn_to.ensures.turned) c.requires.known

pub settle_fills-requires-clause-needed : goal.settle_fills-requires-clause-needed
settle_fills-requires-clause-needed g c = subst (λ (a : AskedMemo). All (IsNeededBy g.B.BatchName.batch a.query) c.args.points.now) (sym c.turn_to.ensures.turned) c.requires.needed

pub returns : goal.returns
returns g c =
    let b = g.B.BatchName.batch in
    let opening = g.B.BatchName.opening in
    let ms = c.args.asking.now.memo in
    let new = c.settle_fills.new.asking in
    let q = c.args.q in
    let refused = c.in_ok-refused.refused in
    let on = turned-asking b opening c.turn_to.new.self ms q c.turn_to.ensures.turned new refused refused refl c.in_ok-refused.ensures.asks in
    record {
      feeds = λ start o points.
          let s = begins-query b opening q start (shards_in ms) c.in_ok-turn_to.ensures.free.fresh o in
          feeds b c.facts.ensures.lawful opening q c.requires.known start ms new.memo (record { charge = c.charge.result; refused = refused })
          (asks-advance b c.facts.ensures.lawful opening q start (shards_in ms) (shards_in ms) false (shards_in new.memo) refused refl on.asks s)
          (λ e. subst (λ (xs : List Point). All (IsVisited b.circuit (entries_of new.memo)) xs) points (c.in_ok-refused.ensures.visited e))
          (c.charge.ensures ∙ ap (charge_of (entries_of new.memo)) on.query);
      asks = on.asks;
    }
