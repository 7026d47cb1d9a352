use Rattle.std.proofs.Common.{ap}
use Rattle.bench_reader.specs.Views.{view}
use Rattle.bench_reader.proofs.Steps.{blank_gives}
use Rattle.bench_reader.proofs.reader.Reader.take_form.Goals as goal

pub returns-in-Blank : goal.returns-in-Blank
returns-in-Blank c = record { sound = c.requires.sound; steps = λ before read line-is. blank_gives before c.args.self.now _ (ap (view c.args.pins.now) c.in-Blank.is) read }
