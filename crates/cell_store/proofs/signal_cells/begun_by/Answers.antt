use Rattle.std.proofs.Common.{length, ◌-◌, leb, leb-true, leb-false, arith, rules}
use Rattle.std.proofs.lemmas.List.Sorted.{IsPartitionPoint-from_clause, IsPartitionedBy-leb}
use Rattle.cell_store.proofs.Starts.{all_begun, not_falling}
use Rattle.cell_store.proofs.signal_cells.begun_by.Goals as goal

pub returns-then-few-len : goal.returns-then-few-len
returns-then-few-len c =
    let some = c.if-len-gt0.true in
    all_begun c.args.few.now c.args.time (length c.args.few.now - 1) _ c.requires (omega (arith, some)) (omega (arith, some)) c.if-few-len.true

pub returns : goal.returns
returns c =
    let parted = IsPartitionedBy-leb (λ e. e.0) c.args.few.now c.args.time (not_falling c.args.few.now c.requires) in
    let point = IsPartitionPoint-from_clause (λ e. leb e.0 c.args.time) _ _ c.partition_point.ensures.partitioned parted (λ a r q k. search rules) in
    record { within = c.partition_point.ensures.bound; begun = λ k d a b. leb-true _ _ (point.0 k d a b); later = λ k d a b. leb-false _ _ (point.1 k d a b) }
