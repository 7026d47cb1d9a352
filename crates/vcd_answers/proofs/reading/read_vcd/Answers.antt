use Rattle.std.proofs.Common.{rules, ◌≡◌, ◌∙◌, sym, ap, subst, Some}
use Rattle.texts.specs.Text.{lines}
use Rattle.vcd_answers.specs.Wires.{AreWires}
use Rattle.vcd_answers.specs.Dumps.{vcd_of}
use Rattle.vcd_answers.specs.inner.Reading.{read_of}
use Rattle.vcd_answers.proofs.ReadBack.{some_wires, read_none, read_some}
use Rattle.vcd_answers.proofs.reading.read_vcd.Goals as goal

-- nothing is read
pub returns-in_default-clause-only : goal.returns-in_default-clause-only
returns-in_default-clause-only c = λ wires are same. absurd (read_none c.args.text.now wires (search rules) are same)

pub returns-in_default-clause-none : goal.returns-in_default-clause-none
returns-in_default-clause-none c = λ wires are same. read_none c.args.text.now wires (search rules) are same

-- what is read are no wires
pub returns-then-not-are_wires-clause-only : goal.returns-then-not-are_wires-clause-only
returns-then-not-are_wires-clause-only c = λ wires are same.
    let read : some_wires c.in-Some.wires ≡ read_of (lines c.args.text.now) = search rules in
    let found : c.in-Some.wires ≡ wires = read_some c.args.text.now c.in-Some.wires wires read are same in
    let yes : AreWires c.in-Some.wires = subst AreWires (sym found) are in
    absurd (search (rules, yes))

pub returns-then-not-are_wires-clause-none : goal.returns-then-not-are_wires-clause-none
returns-then-not-are_wires-clause-none c = λ wires are same.
    let read : some_wires c.in-Some.wires ≡ read_of (lines c.args.text.now) = search rules in
    let found : c.in-Some.wires ≡ wires = read_some c.args.text.now c.in-Some.wires wires read are same in
    let yes : AreWires c.in-Some.wires = subst AreWires (sym found) are in
    search (rules, yes)

-- they are wires of another text
pub returns-then-ne-clause-only : goal.returns-then-ne-clause-only
returns-then-ne-clause-only c = λ wires are same.
    let read : some_wires c.in-Some.wires ≡ read_of (lines c.args.text.now) = search rules in
    let found : c.in-Some.wires ≡ wires = read_some c.args.text.now c.in-Some.wires wires read are same in
    let written : c.in_ok-written.written.items ≡ c.args.text.now = c.in_ok-written.ensures ∙ ap vcd_of found ∙ sym same in
    absurd (search (rules, written))

pub returns-then-ne-clause-none : goal.returns-then-ne-clause-none
returns-then-ne-clause-none c = λ wires are same.
    let read : some_wires c.in-Some.wires ≡ read_of (lines c.args.text.now) = search rules in
    let found : c.in-Some.wires ≡ wires = read_some c.args.text.now c.in-Some.wires wires read are same in
    let written : c.in_ok-written.written.items ≡ c.args.text.now = c.in_ok-written.ensures ∙ ap vcd_of found ∙ sym same in
    search (rules, written)

pub returns-clause-only : goal.returns-clause-only
returns-clause-only c = λ wires are same.
    let read : some_wires c.in-Some.wires ≡ read_of (lines c.args.text.now) = search rules in
    ap Some (read_some c.args.text.now c.in-Some.wires wires read are same)
