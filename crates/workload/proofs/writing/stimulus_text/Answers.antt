use Rattle.std.proofs.Common.{◌∙◌, ◌++◌, ap}
use Rattle.std.specs.Prelude.{codes}
use Rattle.workload.specs.Texts.{lines_of, line_feed, setting_line, stimulus_text}
use Rattle.workload.proofs.writing.stimulus_text.Goals as goal

pub returns-clause-text : goal.returns-clause-text
unfolding stimulus_text
returns-clause-text c =
    let n = c.args.draws.now.seed in
    let horizon = c.in_ok-put.ensures ∙ ap (λ l. l ++ (codes "horizon 100000" ++ line_feed)) c.in_ok-text.ensures.items in
    c.in_ok-put_settings.ensures.text ∙ ap (λ l. l ++ lines_of (setting_line n) 160016) horizon
