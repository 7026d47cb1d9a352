use Rattle.std.proofs.Common.{◌≡◌, ◌∙◌, ◌+◌, ◌*◌, ◌%◌, ◌++◌, refl, ap, arith}
use Rattle.workload.specs.Draws.{draw}
use Rattle.workload.specs.Texts.{query_line, query_text}
use Rattle.workload.proofs.States.{drawn}
use Rattle.workload.proofs.WrittenLines.{start-written, more-written}
use Rattle.workload.proofs.writing.put_queries.Goals as goal

pub loop-number-init : goal.loop-number-init
loop-number-init c = record { text = start-written (query_line c.args.draws.now.seed) _; seed = refl; made = c.requires.made }

pub loop-number-preserved : goal.loop-number-preserved
loop-number-preserved c =
    let n = c.args.draws.now.seed in
    let q = c.loop-number.number in
    let before = c.loop-number.invariant in
    let first = c.next-place.ensures in
    let second = c.next.ensures in
    let place : c.next-place.result ≡ draw n (360017 + 2 * q) = drawn _ _ n (360017 + 2 * q) _ first.draw before.seed (omega (arith, before.made)) in
    let time : c.next.result ≡ draw n (360018 + 2 * q) = drawn _ _ n (360018 + 2 * q) _ second.draw (first.seed ∙ before.seed) (omega (arith, first.made, before.made)) in
    let line =
    c.in_ok-put_query_line.ensures
    ∙ ap (λ d. c.loop-number.text.items ++ query_text q (d % 2000) (90000 + c.next.result % 9900)) place
    ∙ ap (λ d. c.loop-number.text.items ++ query_text q (draw n (360017 + 2 * q) % 2000) (90000 + d % 9900)) time in
    record {
      text = more-written (query_line n) q _ _ _ before.text line;
      seed = second.seed ∙ (first.seed ∙ before.seed);
      made = omega (arith, second.made, first.made, before.made);
    }
