use Rattle.std.proofs.Common.{◌∙◌, ◌++◌, ap}
use Rattle.workload.specs.Texts.{lines_of, query_line, script_text}
use Rattle.workload.proofs.writing.script_text.Goals as goal

pub returns : goal.returns
unfolding script_text
returns c =
    let n = c.args.draws.now.seed in
    record { text = c.in_ok-put_queries.ensures ∙ ap (λ l. l ++ lines_of (query_line n) 16) c.new-text.ensures.items }
