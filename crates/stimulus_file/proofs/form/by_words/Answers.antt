use Rattle.std.proofs.Common.{sym, ap, ◌∙◌}
use Rattle.stimulus_file.specs.Forms as forms
use Rattle.stimulus_file.proofs.Keywords.{set_words}
use Rattle.stimulus_file.proofs.form.by_words.Goals as goal

pub returns-in-Some : goal.returns-in-Some
returns-in-Some c =
    let found = c.in-Some.ensures.cases in
    c.setting_form.ensures ∙ ap forms.by_words (sym (set_words c.args.bytes.now c.in-Some.rest.now found.0 found.1))
