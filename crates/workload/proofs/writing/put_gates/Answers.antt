use Rattle.std.proofs.Common.{◌≡◌, ◌∙◌, ◌+◌, ◌/◌, ◌%◌, ◌++◌, refl, ap, arith}
use Rattle.workload.specs.Draws.{draw}
use Rattle.workload.specs.Texts.{gate_line, gate_text}
use Rattle.workload.proofs.States.{drawn}
use Rattle.workload.proofs.WrittenLines.{start-written, more-written}
use Rattle.workload.proofs.writing.put_gates.Goals as goal

pub loop-number-init : goal.loop-number-init
loop-number-init c = record { text = start-written (gate_line c.args.draws.now.seed) _; seed = refl; made = c.requires }

pub loop-number-preserved : goal.loop-number-preserved
loop-number-preserved c =
    let n = c.args.draws.now.seed in
    let g = c.loop-number.number in
    let before = c.loop-number.invariant in
    let made = c.next-kind.ensures in
    let kind : c.next-kind.result ≡ draw n (g + 1) = drawn _ _ n (g + 1) _ made.draw before.seed (ap (λ k. k + 1) before.made) in
    let line = c.in_ok-put_gate_line.ensures ∙ ap (λ d. c.loop-number.text.items ++ gate_text (g / 2000) (g % 2000) (d % 6)) kind in
    record {
      text = more-written (gate_line n) g _ _ _ before.text line;
      seed = made.seed ∙ before.seed;
      made = omega (arith, made.made, before.made);
    }
