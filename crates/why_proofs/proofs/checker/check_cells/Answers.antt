use Rattle.std.proofs.Common.{rules, ◌≡◌, ◌<◌, take, length, slice_get, Some, refl, true, false, arith, sym, subst, inr}
use Rattle.std.specs.BTreeMap.{get}
use Rattle.valid_intervals.specs.Cells.{point_cmp}
use Rattle.why_proofs.specs.Known.{IsIndexOf}
use Rattle.why_proofs.proofs.Judging.{get-slice, accepted, refused, not-at, one-more, take-more}
use Rattle.why_proofs.proofs.checker.check_cells.Goals as goal

pub loop-place-init : goal.loop-place-init
loop-place-init c = record { cells = c.new-known.ensures.cells c.args.design.now.circuit; index = c.new-known.ensures.lines; justified = λ k l. absurd (omega (arith, l)) }

pub returns-then-not-branch : goal.returns-then-not-branch
returns-then-not-branch c =
    let d = c.args.design.now.circuit in
    let n = c.loop-place.place in
    let x = c.index-cells-place.result in
    let cells = c.args.cells.now in
    let below : n < length cells = search rules in
    let no-one : c.in_ok-accept.field-0 ≡ false = search rules in
    let here : slice_get cells n ≡ Some x = get-slice cells n x below c.index-cells-place.is in
    let never = refused d cells n x (get point_cmp c.accept.new.self.cells) c.in_ok-accept.field-0 no-one (c.in_ok-accept.ensures.judged (take n cells) c.loop-place.invariant.index) in
    inr (n, refl, record { within = below; above = c.loop-place.invariant.justified; not = not-at d cells n x here never })

pub loop-place-preserved : goal.loop-place-preserved
loop-place-preserved c =
    let d = c.args.design.now.circuit in
    let n = c.loop-place.place in
    let x = c.index-cells-place.result in
    let cells = c.args.cells.now in
    let index = get point_cmp c.accept.new.self.cells in
    let below : n < length cells = search rules in
    let yes : c.in_ok-accept.field-0 ≡ true = search rules in
    let here : slice_get cells n ≡ Some x = get-slice cells n x below c.index-cells-place.is in
    let both = accepted d cells n x index c.in_ok-accept.field-0 yes (c.in_ok-accept.ensures.judged (take n cells) c.loop-place.invariant.index) in
    record {
      cells = c.in_ok-accept.ensures.cells;
      index = subst (λ l. IsIndexOf l index) (sym (take-more d cells n x here)) both.1;
      justified = one-more d cells n x here both.0 c.loop-place.invariant.justified;
    }
