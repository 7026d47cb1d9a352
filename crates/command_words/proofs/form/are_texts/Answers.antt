use Rattle.std.proofs.Common.{rules, subst, ◌≤◌, length}
use Rattle.std.specs.List.{All}
use Rattle.std.specs.Str.{IsUtf8}
use Rattle.std.proofs.lemmas.List.{take_all}
use Rattle.std.proofs.lemmas.List.Elements.{All-more}
use Rattle.command_words.proofs.form.are_texts.Goals as goal

pub loop-word-preserved : goal.loop-word-preserved
loop-word-preserved c = search (rules, All-more)

pub returns : goal.returns
returns c =
    let over : length c.args.words.now ≤ c.loop-word.word-index = search rules in
    subst (All (λ w. IsUtf8 w.now)) (take_all c.loop-word.word-index c.args.words.now over) c.loop-word.invariant
