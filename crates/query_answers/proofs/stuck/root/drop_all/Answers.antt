use Rattle.std.proofs.Common.{◌∷◌, [], refl, sym, ap, ◌∙◌}
use Rattle.journal_meaning.specs.declared.Entry.TheVariants.{Dropped}
use Rattle.plan_machine.specs.Shards.{Shard}
use Rattle.plan_machine.proofs.Callers.{has-ended}
use Rattle.query_answers.proofs.Held.{held-lawful}
use Rattle.query_answers.specs.stuck.Asks.{RefusedBy}
use Rattle.query_answers.specs.stuck.inner.Both.{GivesUp, site_in}
use Rattle.query_answers.proofs.Steps.{of-drop, gives-same, chain-of, extends-none, extends-then}
use Rattle.query_answers.proofs.Resting.{drops-on, drops-leave, drops-end}
use Rattle.query_answers.proofs.stuck.root.drop_all.Goals as goal

pub claims-init : goal.claims-init
claims-init g c = record {
  gives_up = c.requires.gives_up;
  goes = λ who gives. gives;
  extends = extends-none c.args.memos.now.own.shard.journal;
  session = refl;
}

pub claims-preserved : goal.claims-preserved
claims-preserved g c =
    let b = g.B.BatchName.batch in
    let asked = c.requires.asked in
    let question = c.args.question in
    let old = c.claims.memos.own in
    let next = c.next_step.new.self in
    let new = c.step-came.new.self in
    let f = of-drop g.H.BatchName.batch old new c.in-Drop.p next c.step-came.new.strand c.step-came.result c.step-came.ensures in
    let more = Dropped next.strand.query.number c.in-Drop.p ∷ [] in
    let on : (who : RefusedBy) → GivesUp b question c.args.time c.claims.memos.session.memo old c.claims.strand who → GivesUp b question c.args.time c.claims.memos.session.memo new c.step-came.new.strand who =
    λ who gives.
    drops-on b g.B.BatchName.opening question c.args.time c.claims.memos.session.memo old next who
    (gives-same b question c.args.time c.claims.memos.session.memo old c.claims.strand next who c.next_step.ensures.steps gives) (held-lawful b asked.lawful question.query asked.queries (site_in question)).circuit
    (chain-of b g.H.BatchName.batch question c.args.design.now.circuit c.args.held.design.now.circuit asked c.claims.strand next c.args.time gives.to c.facts.ensures c.next_step.ensures.steps)
    new c.step-came.new.strand f.0 c.in-Drop.p (sym c.next_step.ensures.next ∙ c.in-Drop.is) f.1 in
    record {
      gives_up = (c.claims.invariant.gives_up.0, on c.claims.invariant.gives_up.0 c.claims.invariant.gives_up.1);
      goes = λ who gives. on who (c.claims.invariant.goes who gives);
      extends = extends-then c.args.memos.now.own.shard.journal old.shard.journal new.shard.journal c.claims.invariant.extends (more, ap (λ (z : Shard). z.journal) f.1.shard);
      session = c.claims.invariant.session;
    }

pub claims-preserved-in-Ok-Dropped-2 : goal.claims-preserved-in-Ok-Dropped-2
claims-preserved-in-Ok-Dropped-2 g c =
    let b = g.B.BatchName.batch in
    let asked = c.requires.asked in
    let question = c.args.question in
    let old = c.claims.memos.own in
    let next = c.next_step.new.self in
    let new = c.step-came.new.self in
    let f = of-drop g.H.BatchName.batch old new c.in-Drop.p next c.step-came.new.strand c.step-came.result c.step-came.ensures in
    let more = Dropped next.strand.query.number c.in-Drop.p ∷ [] in
    let on : (who : RefusedBy) → GivesUp b question c.args.time c.claims.memos.session.memo old c.claims.strand who → GivesUp b question c.args.time c.claims.memos.session.memo new c.step-came.new.strand who =
    λ who gives.
    drops-on b g.B.BatchName.opening question c.args.time c.claims.memos.session.memo old next who
    (gives-same b question c.args.time c.claims.memos.session.memo old c.claims.strand next who c.next_step.ensures.steps gives) (held-lawful b asked.lawful question.query asked.queries (site_in question)).circuit
    (chain-of b g.H.BatchName.batch question c.args.design.now.circuit c.args.held.design.now.circuit asked c.claims.strand next c.args.time gives.to c.facts.ensures c.next_step.ensures.steps)
    new c.step-came.new.strand f.0 c.in-Drop.p (sym c.next_step.ensures.next ∙ c.in-Drop.is) f.1 in
    record {
      gives_up = (c.claims.invariant.gives_up.0, on c.claims.invariant.gives_up.0 c.claims.invariant.gives_up.1);
      goes = λ who gives. on who (c.claims.invariant.goes who gives);
      extends = extends-then c.args.memos.now.own.shard.journal old.shard.journal new.shard.journal c.claims.invariant.extends (more, ap (λ (z : Shard). z.journal) f.1.shard);
      session = c.claims.invariant.session;
    }

pub returns-in-Done-clause-refused : goal.returns-in-Done-clause-refused
returns-in-Done-clause-refused g c =
    let b = g.B.BatchName.batch in
    let gives = c.claims.invariant.gives_up in
    drops-end b g.B.BatchName.opening c.args.question c.args.time c.claims.memos.session.memo c.claims.memos.own c.next_step.new.self gives.0
    (gives-same b c.args.question c.args.time c.claims.memos.session.memo c.claims.memos.own c.claims.strand c.next_step.new.self gives.0 c.next_step.ensures.steps gives.1)
    (has-ended c.next_step.new.self.strand (sym c.next_step.ensures.next ∙ c.in-Done.is)).empty

pub returns-in-Done-clause-leaves : goal.returns-in-Done-clause-leaves
returns-in-Done-clause-leaves g c = λ who gives.
    let b = g.B.BatchName.batch in
    drops-leave b g.B.BatchName.opening c.args.question c.args.time c.claims.memos.session.memo c.claims.memos.own c.next_step.new.self who
    (gives-same b c.args.question c.args.time c.claims.memos.session.memo c.claims.memos.own c.claims.strand c.next_step.new.self who c.next_step.ensures.steps (c.claims.invariant.goes who gives))
    (has-ended c.next_step.new.self.strand (sym c.next_step.ensures.next ∙ c.in-Done.is)).empty
