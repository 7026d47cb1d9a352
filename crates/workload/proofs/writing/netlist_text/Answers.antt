use Rattle.std.proofs.Common.{◌∙◌, ◌++◌, ap}
use Rattle.workload.specs.Texts.{lines_of, input_line, gate_line, output_line, netlist_text}
use Rattle.workload.proofs.writing.netlist_text.Goals as goal

pub returns-clause-text : goal.returns-clause-text
unfolding netlist_text
returns-clause-text c =
    let n = c.args.draws.now.seed in
    let inputs = c.in_ok-put_inputs.ensures ∙ ap (λ l. l ++ lines_of input_line 16) c.in_ok-text.ensures.items in
    let gates = c.in_ok-put_gates.ensures.text ∙ ap (λ l. l ++ lines_of (gate_line n) 200000) inputs in
    c.in_ok-put_outputs.ensures ∙ ap (λ l. l ++ lines_of output_line 2000) gates
