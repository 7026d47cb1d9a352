use Rattle.circuit_files.proofs.WaysOut.{netlist-stopped, timing-stopped, stimulus-stopped, joined}
use Rattle.circuit_files.proofs.reading.read_design.Goals as goal

-- a stop at the netlist
pub returns-in_err-netlist-clause-design : goal.returns-in_err-netlist-clause-design
returns-in_err-netlist-clause-design g c = (netlist-stopped c.args.timing.now c.args.stimulus.now _ c.from_residual.result c.from_residual.ensures.1 c.requires c.in_err-netlist.ensures.reads).design

pub returns-in_err-netlist-clause-first : goal.returns-in_err-netlist-clause-first
returns-in_err-netlist-clause-first g c = (netlist-stopped c.args.timing.now c.args.stimulus.now _ c.from_residual.result c.from_residual.ensures.1 c.requires c.in_err-netlist.ensures.reads).first

pub returns-in_err-netlist-clause-second : goal.returns-in_err-netlist-clause-second
returns-in_err-netlist-clause-second g c = (netlist-stopped c.args.timing.now c.args.stimulus.now _ c.from_residual.result c.from_residual.ensures.1 c.requires c.in_err-netlist.ensures.reads).second

pub returns-in_err-netlist-clause-state : goal.returns-in_err-netlist-clause-state
returns-in_err-netlist-clause-state g c = (netlist-stopped c.args.timing.now c.args.stimulus.now _ c.from_residual.result c.from_residual.ensures.1 c.requires c.in_err-netlist.ensures.reads).state

-- a stop at the timing file
pub returns-in_err-timing-clause-design : goal.returns-in_err-timing-clause-design
returns-in_err-timing-clause-design g c = (timing-stopped c.in_ok-netlist.ensures.reads c.args.stimulus.now _ c.from_residual-in_err-timing.result c.from_residual-in_err-timing.ensures.1 c.in_err-timing.ensures.reads).design

pub returns-in_err-timing-clause-first : goal.returns-in_err-timing-clause-first
returns-in_err-timing-clause-first g c = (timing-stopped c.in_ok-netlist.ensures.reads c.args.stimulus.now _ c.from_residual-in_err-timing.result c.from_residual-in_err-timing.ensures.1 c.in_err-timing.ensures.reads).first

pub returns-in_err-timing-clause-second : goal.returns-in_err-timing-clause-second
returns-in_err-timing-clause-second g c = (timing-stopped c.in_ok-netlist.ensures.reads c.args.stimulus.now _ c.from_residual-in_err-timing.result c.from_residual-in_err-timing.ensures.1 c.in_err-timing.ensures.reads).second

pub returns-in_err-timing-clause-state : goal.returns-in_err-timing-clause-state
returns-in_err-timing-clause-state g c = (timing-stopped c.in_ok-netlist.ensures.reads c.args.stimulus.now _ c.from_residual-in_err-timing.result c.from_residual-in_err-timing.ensures.1 c.in_err-timing.ensures.reads).state

-- a stop at the stimulus
pub returns-in_err-stimulus-clause-design : goal.returns-in_err-stimulus-clause-design
returns-in_err-stimulus-clause-design g c = (stimulus-stopped c.in_ok-netlist.ensures.reads c.in_ok-timing.ensures.reads _ c.from_residual-in_err-stimulus.result c.from_residual-in_err-stimulus.ensures.1 c.in_err-stimulus.ensures.reads).design

pub returns-in_err-stimulus-clause-first : goal.returns-in_err-stimulus-clause-first
returns-in_err-stimulus-clause-first g c = (stimulus-stopped c.in_ok-netlist.ensures.reads c.in_ok-timing.ensures.reads _ c.from_residual-in_err-stimulus.result c.from_residual-in_err-stimulus.ensures.1 c.in_err-stimulus.ensures.reads).first

pub returns-in_err-stimulus-clause-second : goal.returns-in_err-stimulus-clause-second
returns-in_err-stimulus-clause-second g c = (stimulus-stopped c.in_ok-netlist.ensures.reads c.in_ok-timing.ensures.reads _ c.from_residual-in_err-stimulus.result c.from_residual-in_err-stimulus.ensures.1 c.in_err-stimulus.ensures.reads).second

pub returns-in_err-stimulus-clause-state : goal.returns-in_err-stimulus-clause-state
returns-in_err-stimulus-clause-state g c = (stimulus-stopped c.in_ok-netlist.ensures.reads c.in_ok-timing.ensures.reads _ c.from_residual-in_err-stimulus.result c.from_residual-in_err-stimulus.ensures.1 c.in_err-stimulus.ensures.reads).state

-- all three were read
pub returns-clause-design : goal.returns-clause-design
returns-clause-design g c = (joined c.in_ok-netlist.ensures.reads c.in_ok-timing.ensures.reads c.in_ok-stimulus.ensures.reads c.join_contents.result c.join_contents.ensures.answer c.join_contents.ensures.quiet).design

pub returns-clause-first : goal.returns-clause-first
returns-clause-first g c = (joined c.in_ok-netlist.ensures.reads c.in_ok-timing.ensures.reads c.in_ok-stimulus.ensures.reads c.join_contents.result c.join_contents.ensures.answer c.join_contents.ensures.quiet).first

pub returns-clause-second : goal.returns-clause-second
returns-clause-second g c = (joined c.in_ok-netlist.ensures.reads c.in_ok-timing.ensures.reads c.in_ok-stimulus.ensures.reads c.join_contents.result c.join_contents.ensures.answer c.join_contents.ensures.quiet).second

pub returns-clause-state : goal.returns-clause-state
returns-clause-state g c = (joined c.in_ok-netlist.ensures.reads c.in_ok-timing.ensures.reads c.in_ok-stimulus.ensures.reads c.join_contents.result c.join_contents.ensures.answer c.join_contents.ensures.quiet).state
