use Rattle.std.proofs.Common.{◌∙◌, sym, map}
use Rattle.clap.specs.Words.{found_of}
use Rattle.command_words.proofs.Answer.{ok_form, err_form, utf8s, other_kind}
use Rattle.command_words.proofs.form.read_words.Goals as goal

pub returns-in-Ok : goal.returns-in-Ok
returns-in-Ok c =
    let words = map (λ w. w.now) c.args.words.now in
    c.form.ensures ∙ ok_form words (utf8s c.args.words.now c.are_texts.ensures) (found_of c.in-Ok.matches) c.in-Ok.ensures.exact c.in-Ok.ensures.found

pub returns : goal.returns
returns c =
    let words = map (λ w. w.now) c.args.words.now in
    sym (err_form words (utf8s c.args.words.now c.are_texts.ensures) (other_kind _ c.in-Err.error c.in-Err.ensures.exact (λ memory. c.in_default.not-OutOfMemory (c.kind.ensures ∙ memory))))
