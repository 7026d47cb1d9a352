use Rattle.stimulus_file.proofs.Comments.{no_comment}
use Rattle.stimulus_file.proofs.form.form_of.Goals as goal

pub returns-in_default : goal.returns-in_default
returns-in_default c = no_comment c.args.line.now _ c.by_words.ensures c.in_default.not-Other
