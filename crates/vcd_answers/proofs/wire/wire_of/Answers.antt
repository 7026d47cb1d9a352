use Rattle.std.proofs.Common.{rules}
use Rattle.vcd_answers.proofs.Sound.{made_is, made_sound}
use Rattle.vcd_answers.proofs.wire.wire_of.Goals as goal

pub returns-clause-answered : goal.returns-clause-answered
returns-clause-answered c = λ circuit s ends are.
    made_is c.in_ok-name.name.items c.args.name.now circuit s c.args.start c.args.stop c.args.horizon c.args.runs.now c.into_vec.result.items (search rules) c.requires.stop ends are (search rules)

pub returns-clause-sound : goal.returns-clause-sound
returns-clause-sound c = λ circuit s are names.
    search (rules, made_sound c.in_ok-name.name.items c.args.name.now circuit s c.args.start c.args.stop c.args.horizon c.args.runs.now c.into_vec.result.items (search rules) c.requires.stop c.requires.horizon are (search rules) (search rules))
