use Rattle.std.proofs.Common.{◌≡◌, ◌∙◌, ◌+◌, ◌*◌, ◌/◌, ◌%◌, ◌++◌, refl, ap, arith}
use Rattle.workload.specs.Draws.{draw}
use Rattle.workload.specs.Texts.{setting_line, setting_text}
use Rattle.workload.proofs.States.{drawn}
use Rattle.workload.proofs.WrittenLines.{start-written, more-written}
use Rattle.workload.proofs.writing.put_settings.Goals as goal

pub loop-number-init : goal.loop-number-init
loop-number-init c = record { text = start-written (setting_line c.args.draws.now.seed) _; seed = refl; made = c.requires.made }

pub loop-number-preserved : goal.loop-number-preserved
loop-number-preserved c =
    let n = c.args.draws.now.seed in
    let s = c.loop-number.number in
    let before = c.loop-number.invariant in
    let made = c.next-value.ensures in
    let value : c.next-value.result ≡ draw n (200001 + s) = drawn _ _ n (200001 + s) _ made.draw before.seed (omega (arith, before.made)) in
    let line = c.in_ok-put_setting_line.ensures ∙ ap (λ d. c.loop-number.text.items ++ setting_text (s % 16) (10 * (s / 16)) (d % 2)) value in
    record {
      text = more-written (setting_line n) s _ _ _ before.text line;
      seed = made.seed ∙ before.seed;
      made = omega (arith, made.made, before.made);
    }
