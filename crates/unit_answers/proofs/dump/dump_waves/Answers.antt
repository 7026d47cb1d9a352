-- The wires are added item by item, and are few.
use Rattle.std.proofs.Common.{length, ap, sym, subst, ◌∙◌, arith}
use Rattle.vcd_answers.specs.Dumps.{vcd_of}
use Rattle.vcd_answers.specs.Wires.{AreWires}
use Rattle.unit_answers.proofs.Dumping.{none-shown, as-many, own-at, more-shown, all-shown, shown-wires}
use Rattle.unit_answers.proofs.dump.dump_waves.Goals as goal

pub loop-i-init : goal.loop-i-init
loop-i-init c = none-shown c.args.design.now c.args.items.now c.args.replies.now c.new-wires.result.items c.new-wires.ensures.items

pub bounds-replies-i : goal.bounds-replies-i
bounds-replies-i c = let many = as-many c.args.design.now c.args.items.now c.args.replies.now c.requires in omega arith

pub push_wire-requires-clause-wave : goal.push_wire-requires-clause-wave
push_wire-requires-clause-wave c = own-at c.args.design.now c.args.items.now c.args.replies.now c.loop-i.i c.index-items-i.result c.index-replies-i.result c.requires c.loop-i-test.true c.index-items-i.is c.index-replies-i.is

pub loop-i-preserved : goal.loop-i-preserved
loop-i-preserved c =
    more-shown c.args.design.now c.args.items.now c.args.replies.now c.loop-i.i c.index-items-i.result c.index-replies-i.result c.loop-i.wires.items c.push_wire.new.wires.items
    c.requires c.loop-i-test.true c.index-items-i.is c.index-replies-i.is c.loop-i.invariant c.in_ok-push_wire.ensures.wire (c.in_ok-push_wire.ensures.sound c.loop-i.invariant.sound)

pub overflow_cast-count : goal.overflow_cast-count
overflow_cast-count c =
    let wires = shown-wires c.args.design.now c.args.items.now c.args.replies.now c.requires c.loop-i.i c.loop-i.wires.items c.loop-i.invariant c.loop-i-test.false in
    let few = wires.few in
    omega (arith, c.len-count.ensures)

pub vcd_text-requires : goal.vcd_text-requires
vcd_text-requires c =
    subst AreWires (sym c.from_vec.ensures)
    (shown-wires c.args.design.now c.args.items.now c.args.replies.now c.requires c.loop-i.i c.loop-i.wires.items c.loop-i.invariant c.loop-i-test.false)

pub returns-clause-text : goal.returns-clause-text
returns-clause-text c =
    c.in_ok-text.ensures
    ∙ ap vcd_of (c.from_vec.ensures ∙ all-shown c.args.design.now c.args.items.now c.args.replies.now c.requires c.loop-i.i c.loop-i.wires.items c.loop-i.invariant c.loop-i-test.false)

pub returns-clause-wires : goal.returns-clause-wires
returns-clause-wires c =
    let all = ap length (all-shown c.args.design.now c.args.items.now c.args.replies.now c.requires c.loop-i.i c.loop-i.wires.items c.loop-i.invariant c.loop-i-test.false) in
    omega (arith, c.len-count.ensures)
