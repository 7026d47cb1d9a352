use Rattle.std.proofs.Common.{◌≡◌, drop, true, false, nat_eq, refl, sym, ap, ◌∙◌, arith}
use Rattle.std.proofs.lemmas.List.{length-set}
use Rattle.std.specs.List.{list_any}
use Rattle.cell_store.proofs.Uses.{thinning_begins, read, thinning_leaves_out, thinning_keeps, thinned, not_too_many, same_at_last, mark_goes, no_mark_left}
use Rattle.cell_store.proofs.notes.thin.Goals.{After-len-i-end}
use Rattle.cell_store.proofs.notes.thin.Goals as goal

pub loop-left-init : goal.loop-left-init
loop-left-init c = record {
  thinning = thinning_begins c.args.noted.now.items c.args.met.now.items c.len-len.result (c.len-len.ensures ∙ c.args.noted.now.ok.0) c.requires.below c.requires.clear;
  many = refl;
  capacity = refl;
}

pub loop-left-preserved : goal.loop-left-preserved
loop-left-preserved c = record {
  thinning = thinning_leaves_out c.args.noted.now.items c.loop-left.noted.items c.loop-left.met.items c.loop-left.left c.loop-left.kept c.index-slot.result.now c.loop-left.invariant.thinning c.loop-left-test.true c.index-slot.ensures
      (read c.args.noted.now.items c.loop-left.noted.items c.loop-left.met.items c.loop-left.left c.loop-left.kept c.index-slot.result.now c.loop-left.invariant.thinning c.loop-left-test.true c.index-slot.ensures c.index.result.now true c.index.ensures c.if-not-index.false);
  many = c.loop-left.invariant.many;
  capacity = c.loop-left.invariant.capacity;
}

pub loop-left-preserved-then-not-index : goal.loop-left-preserved-then-not-index
loop-left-preserved-then-not-index c = record {
  thinning = thinning_keeps c.args.noted.now.items c.loop-left.noted.items c.loop-left.met.items c.loop-left.left c.loop-left.kept c.index-slot.result.now c.loop-left.invariant.thinning c.loop-left-test.true c.index-slot.ensures
      (read c.args.noted.now.items c.loop-left.noted.items c.loop-left.met.items c.loop-left.left c.loop-left.kept c.index-slot.result.now c.loop-left.invariant.thinning c.loop-left-test.true c.index-slot.ensures c.index.result.now false c.index.ensures c.if-not-index.true);
  many = length-set c.loop-left.met.items c.index-slot.result.now true ∙ c.loop-left.invariant.many;
  capacity = c.loop-left.invariant.capacity;
}

-- what is kept
kept_notes : (c : After-len-i-end) → c.truncate.new.self.items ≡ drop c.loop-left.kept c.loop-left.noted.items
kept_notes c =
    thinned c.loop-left.noted.items c.copy_within.new.self.items c.truncate.new.self.items c.loop-left.kept c.len-len.result c.loop-left.noted.len c.loop-left.invariant.thinning.within
    (c.len-len.ensures ∙ c.args.noted.now.ok.0 ∙ sym c.loop-left.invariant.thinning.long) c.loop-left.noted.ok.0 c.copy_within.ensures.items c.truncate.ensures.items

pub loop-i-init : goal.loop-i-init
loop-i-init c = record {
  told = λ slot marked. ap (list_any (nat_eq slot)) (kept_notes c) ∙ c.loop-left.invariant.thinning.told slot marked;
  many = c.loop-left.invariant.many;
}

pub loop-i-preserved : goal.loop-i-preserved
loop-i-preserved c = record {
  told = mark_goes c.truncate.new.self.items c.loop-i.met.items c.loop-i.i c.index-in-loop-i.result.now (omega (arith, c.loop-i-test.true, c.len-i-end.ensures, c.truncate.new.self.ok.0)) c.index-in-loop-i.ensures c.loop-i.invariant.told;
  many = length-set c.loop-i.met.items c.index-in-loop-i.result.now false ∙ c.loop-i.invariant.many;
}

pub returns-clause-clear : goal.returns-clause-clear
returns-clause-clear c = no_mark_left c.truncate.new.self.items c.loop-i.met.items c.loop-i.i (omega (arith, c.loop-i-test.false, c.len-i-end.ensures, c.truncate.new.self.ok.0)) c.loop-i.invariant.told

pub returns-clause-few : goal.returns-clause-few
returns-clause-few c =
    omega (arith, not_too_many c.args.noted.now.items c.loop-left.noted.items c.loop-left.met.items c.loop-left.left c.loop-left.kept c.truncate.new.self.items c.loop-left.invariant.thinning (kept_notes ((goal.at.returns-clause-few c).After-len-i-end)), c.loop-left.invariant.many)

pub returns-clause-same : goal.returns-clause-same
returns-clause-same c =
    same_at_last c.args.noted.now.items c.loop-left.noted.items c.loop-left.met.items c.loop-left.left c.loop-left.kept c.truncate.new.self.items c.loop-left.invariant.thinning c.loop-left-test.false (kept_notes ((goal.at.returns-clause-same c).After-len-i-end))
