use Rattle.std.proofs.Common.{◌≡◌, ℕ, IsTrue, List, length, false, inr, refl, sym, ap, ◌∙◌}
use Rattle.std.specs.Borrow.{Bor}
use Rattle.std.proofs.lemmas.List.{length-map}
use Rattle.gate_values.specs.Gates.{allows}
use Rattle.bench_reader.specs.Views.{each_now}
use Rattle.bench_reader.proofs.Steps.{gate_unknown, gate_miscounts, gate_cause, gate_long}
use Rattle.bench_reader.proofs.reader.Reader.take_gate.Goals as goal

pub returns-in-None-clause-steps : goal.returns-in-None-clause-steps
returns-in-None-clause-steps c before read line-is = rw c.fault.ensures (inr (gate_unknown before c.args.name.now c.args.word.now (each_now c.args.pins.now) (sym c.in-None.ensures), refl))

pub returns-then-not-allows-clause-steps : goal.returns-then-not-allows-clause-steps
returns-then-not-allows-clause-steps c before read line-is =
    let pins = each_now c.args.pins.now in
    let counted : allows c.in-Some.kind (length pins) ≡ false = ap (allows c.in-Some.kind) (length-map c.args.pins.now (λ (p : Bor (List ℕ)). p.now)) ∙ sym c.allows.ensures ∙ c.if-not-allows.true in
    rw c.fault-then-not-allows.ensures (inr (gate_miscounts before c.args.name.now c.args.word.now pins c.in-Some.kind (sym c.in-Some.ensures) counted, refl))

pub returns-then-is_any_long-clause-steps : goal.returns-then-is_any_long-clause-steps
returns-then-is_any_long-clause-steps c before read line-is =
    let pins = each_now c.args.pins.now in
    let counted : IsTrue (allows c.in-Some.kind (length pins)) = ap (allows c.in-Some.kind) (length-map c.args.pins.now (λ (p : Bor (List ℕ)). p.now)) ∙ sym c.allows.ensures ∙ c.if-not-allows.false in
    rw c.fault-then-is_any_long.ensures
    (inr (gate_cause before c.args.name.now c.args.word.now pins c.in-Some.kind (sym c.in-Some.ensures) counted ∙ gate_long before c.args.name.now c.args.word.now pins _ (sym c.is_any_long.ensures ∙ c.if-is_any_long.true), refl))

pub returns-clause-steps : goal.returns-clause-steps
returns-clause-steps c before read line-is =
    let pins = each_now c.args.pins.now in
    let counted : IsTrue (allows c.in-Some.kind (length pins)) = ap (allows c.in-Some.kind) (length-map c.args.pins.now (λ (p : Bor (List ℕ)). p.now)) ∙ sym c.allows.ensures ∙ c.if-not-allows.false in
    c.take_pins.ensures.steps c.args.word.now (record { kind_is = sym c.in-Some.ensures; counted = counted; short = sym c.is_any_long.ensures ∙ c.if-is_any_long.false }) before read line-is
