use Rattle.std.proofs.Common.{sym}
use Rattle.bench_reader.proofs.Numbering.{known-key, new-key, new-place}
use Rattle.bench_reader.proofs.names.Names.number.Goals as goal

pub returns-in-Some-clause-keys : goal.returns-in-Some-clause-keys
returns-in-Some-clause-keys c = known-key c.args.self.now c.args.name.now c.in-Some.number (sym c.in-Some.ensures)

pub returns-in_ok-add-in-None-clause-keys : goal.returns-in_ok-add-in-None-clause-keys
returns-in_ok-add-in-None-clause-keys c = new-key c.args.self.now c.add.new.self c.args.name.now (sym c.in-None.ensures) c.in_ok-add-in-None.ensures.added

pub returns-in_ok-add-in-None-clause-place : goal.returns-in_ok-add-in-None-clause-place
returns-in_ok-add-in-None-clause-place c = new-place c.args.self.now c.add.new.self c.args.name.now c.in_ok-add-in-None.field-0 (sym c.in-None.ensures) c.in_ok-add-in-None.ensures.added c.in_ok-add-in-None.ensures.number
