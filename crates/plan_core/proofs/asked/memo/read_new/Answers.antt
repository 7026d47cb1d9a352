use Rattle.std.proofs.Common.{◌≡◌, ◌<◌, ◌+◌, ◌++◌, List, get_or, length, take, drop, sym, ap, ap₂, subst, ◌∙◌, arith, append_assoc, append-nil}
use Rattle.std.specs.BTreeMap.{get}
use Rattle.std.proofs.lemmas.List.{take_all}
use Rattle.journal_meaning.specs.declared.Entry.{Entry}
use Rattle.journal_meaning.specs.Answers.{fill_count}
use Rattle.journal_meaning.specs.Listed.{IsRightEntry}
use Rattle.journal_meaning.specs.Index.{cells_said, IsCellIndex}
use Rattle.valid_intervals.specs.Cells.{point_cmp}
use Rattle.plan_core.specs.asked.inner.Tails.{tails}
use Rattle.plan_core.proofs.Entries.{tails-item, tails-one, filled-append}
use Rattle.plan_core.proofs.asked.memo.read_new.Goals as goal

pub loop-k-init : goal.loop-k-init
loop-k-init g c = record {
  indexed = λ d es ok i right. subst (λ l. IsCellIndex d (cells_said l) (get point_cmp c.args.cells.now.cells)) (sym (append-nil es)) i;
  counts = let r = c.requires.charge in omega arith;
}

pub loop-k-preserved : goal.loop-k-preserved
loop-k-preserved g c =
    let ns = c.args.read.now in
    let ms = c.args.shards.now in
    let k = c.loop-k.k in
    let low = c.loop-k-test.true in
    let count = c.requires.count in
    let high : k < length ms = omega arith in
    let m = c.index-shards-k.result in
    let n = get_or ns k 0 in
    let es : List Entry = drop n m.shard.journal in
    let more : tails (take (k + 1) ns) (take (k + 1) ms) ≡ tails (take k ns) (take k ms) ++ es = tails-item ns ms k 0 m low high c.index-shards-k.is in
    record {
      indexed = λ d all ok i right.
          subst (λ l. IsCellIndex d (cells_said (all ++ l)) (get point_cmp c.read_tail.new.cells.cells)) (sym more)
          (subst (λ l. IsCellIndex d (cells_said l) (get point_cmp c.read_tail.new.cells.cells)) (append_assoc all (tails (take k ns) (take k ms)) es)
          (c.in_ok-read_tail.ensures.indexed d (all ++ tails (take k ns) (take k ms)) ok (c.loop-k.invariant.indexed d all ok i right) (tails-one (IsRightEntry d) ns ms k 0 m low high c.index-shards-k.is right)));
      counts =
          let a = c.loop-k.invariant.counts in
          let b = c.in_ok-read_tail.ensures.charge in
          let e : fill_count (tails (take (k + 1) ns) (take (k + 1) ms)) c.args.query.number ≡ fill_count (tails (take k ns) (take k ms)) c.args.query.number + fill_count es c.args.query.number = ap (λ l. fill_count l c.args.query.number) more ∙ filled-append (tails (take k ns) (take k ms)) es c.args.query.number in
          omega arith;
    }

pub returns-clause-indexed : goal.returns-clause-indexed
returns-clause-indexed g c = λ d es ok i right.
    let ns = c.args.read.now in
    let ms = c.args.shards.now in
    let k = c.loop-k.k in
    let count = c.requires.count in
    let t = c.loop-k-test.false in
    let all : tails (take k ns) (take k ms) ≡ tails ns ms = ap₂ tails (take_all k ns (omega arith)) (take_all k ms (omega arith)) in
    subst (λ l. IsCellIndex d (cells_said (es ++ l)) (get point_cmp c.loop-k.cells.cells)) all (c.loop-k.invariant.indexed d es ok i right)

pub returns-clause-charge : goal.returns-clause-charge
returns-clause-charge g c =
    let ns = c.args.read.now in
    let ms = c.args.shards.now in
    let k = c.loop-k.k in
    let count = c.requires.count in
    let t = c.loop-k-test.false in
    let a = c.loop-k.invariant.counts in
    let all : fill_count (tails (take k ns) (take k ms)) c.args.query.number ≡ fill_count (tails ns ms) c.args.query.number = ap (λ l. fill_count l c.args.query.number) (ap₂ tails (take_all k ns (omega arith)) (take_all k ms (omega arith))) in
    omega arith
