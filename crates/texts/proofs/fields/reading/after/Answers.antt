use Rattle.texts.proofs.FieldLemmas.{after_strips}
use Rattle.texts.proofs.fields.reading.after.Goals as goal

pub returns : goal.returns
returns c = after_strips c.args.word.now c.args.text.now c.strip_prefix.result c.strip_prefix.ensures.cases
