use Rattle.std.proofs.Common.{◌≡◌, ℕ, ◌+◌, length, refl, ap, sym, ◌∙◌}
use Rattle.std.proofs.lemmas.Bool.{eqb-true}
use Rattle.texts.proofs.Lines.{begun, advanced, ended}
use Rattle.texts.proofs.line_faults.reader.read_lines.Goals as goal

pub loop-rest-init : goal.loop-rest-init
loop-rest-init g c = begun _ _ _ c.args.text.now c.args.reader c.requires.none

pub take-requires : goal.take-requires
take-requires g c =
    let p = c.loop-rest.invariant in
    λ k. ((refl, tt), (p.before, p.read, ap (λ (n : ℕ). n + 1) p.count))

pub loop-rest-preserved : goal.loop-rest-preserved
loop-rest-preserved g c =
    let p = c.loop-rest.invariant in
    advanced _ _ _ c.args.text.now c.loop-rest.reader c.take.new.self c.loop-rest.number c.loop-rest.rest.now c.next_line.result.0.now c.next_line.result.1.now p c.next_line.ensures.cut c.next_line.ensures.shorter (c.in_ok-take.ensures p.before p.read (ap (λ (n : ℕ). n + 1) p.count))

pub returns : goal.returns
returns g c =
    let none : length c.loop-rest.rest.now ≡ 0 = eqb-true _ _ (sym c.is_empty.ensures ∙ c.loop-rest-test.false) in
    ended _ _ _ c.args.text.now c.loop-rest.reader c.loop-rest.number c.loop-rest.rest.now c.loop-rest.invariant none
