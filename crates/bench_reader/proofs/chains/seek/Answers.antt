use Rattle.std.proofs.Common.{◌-◌, refl, sym, ◌∙◌, arith}
use Rattle.bench_reader.proofs.Chained.{got, same, differs, followed-below, followed-next, followed-smaller, followed-last}
use Rattle.bench_reader.proofs.chains.seek.Goals as goal

pub get-requires : goal.get-requires
get-requires c = omega (arith, followed-below c.args.names.now c.args.earlier.now c.args.name.now c.loop-last.last c.loop-last.invariant)

pub bounds-earlier-number : goal.bounds-earlier-number
bounds-earlier-number c = omega (arith, c.requires.room, followed-below c.args.names.now c.args.earlier.now c.args.name.now c.loop-last.last c.loop-last.invariant)

pub returns-then-eq : goal.returns-then-eq
returns-then-eq c = record {
  within = omega (arith, followed-below c.args.names.now c.args.earlier.now c.args.name.now c.loop-last.last c.loop-last.invariant);
  there = got c.args.names.now (c.loop-last.last - 1) c.get.result.now c.get.ensures ∙ same c.args.name.now c.get.result.now c.eq.result c.eq.ensures c.if-eq.true;
}

pub loop-last-smaller : goal.loop-last-smaller
loop-last-smaller c = followed-smaller c.args.names.now c.args.earlier.now c.args.name.now c.loop-last.last (c.loop-last.last - 1) _ c.loop-last.invariant (omega arith) refl

pub loop-last-preserved : goal.loop-last-preserved
loop-last-preserved c = followed-next c.args.names.now c.args.earlier.now c.args.name.now c.loop-last.last (c.loop-last.last - 1) _ c.loop-last.invariant (omega arith)
    (λ e. differs c.args.name.now c.get.result.now c.eq.result c.eq.ensures c.if-eq.false (sym (got c.args.names.now (c.loop-last.last - 1) c.get.result.now c.get.ensures) ∙ e)) refl

pub returns : goal.returns
returns c = followed-last c.args.names.now c.args.earlier.now c.args.name.now c.loop-last.last c.loop-last.invariant (omega arith)
