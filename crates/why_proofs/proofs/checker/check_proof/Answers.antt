use Rattle.std.proofs.Common.{rules, arith, ◌≡◌, ◌<◌, ◌≤◌, length, Some, None}
use Rattle.std.specs.Prelude.{codes}
use Rattle.texts.specs.fields.Reading.{after_word}
use Rattle.why_proofs.specs.inner.Reading.{Claim, claim_at, cells_at}
use Rattle.why_proofs.proofs.Breaks.{no-claim}
use Rattle.why_proofs.proofs.Checking.{read-claim, read-cells, few, broken-end, broken-behind, whole, yes-answer, no-answer, true-answer}
use Rattle.why_proofs.proofs.checker.check_proof.Goals as goal

pub returns-in_default-clause-bad : goal.returns-in_default-clause-bad
returns-in_default-clause-bad c = no-claim c.args.text.now (search rules)

pub overflow_cast-line : goal.overflow_cast-line
overflow_cast-line c =
    let claim : Claim = (c.in-Some.name.now, c.in-Some.time, c.in-Some.value) in
    let one : claim_at c.args.text.now ≡ read-claim claim c.in-Some.rest.now = search rules in
    let two : read-cells c.in_ok-cells.cells.items c.in_ok-cells.rest.now ≡ cells_at (length c.in-Some.rest.now) c.in-Some.rest.now = search rules in
    let small : length c.in_ok-cells.cells.items ≤ length c.args.text.now = few c.args.text.now c.in-Some.rest.now c.in_ok-cells.rest.now claim c.in_ok-cells.cells.items one two in
    let count : c.len.result ≡ length c.in_ok-cells.cells.items = search rules in
    omega (arith, small, count, c.requires)

pub overflow_add-line : goal.overflow_add-line
overflow_add-line c =
    let claim : Claim = (c.in-Some.name.now, c.in-Some.time, c.in-Some.value) in
    let one : claim_at c.args.text.now ≡ read-claim claim c.in-Some.rest.now = search rules in
    let two : read-cells c.in_ok-cells.cells.items c.in_ok-cells.rest.now ≡ cells_at (length c.in-Some.rest.now) c.in-Some.rest.now = search rules in
    let small : length c.in_ok-cells.cells.items ≤ length c.args.text.now = few c.args.text.now c.in-Some.rest.now c.in_ok-cells.rest.now claim c.in_ok-cells.cells.items one two in
    let count : c.len.result ≡ length c.in_ok-cells.cells.items = search rules in
    omega (arith, small, count, c.requires)

pub returns-in_default-after-clause-bad : goal.returns-in_default-after-clause-bad
returns-in_default-after-clause-bad c =
    let claim : Claim = (c.in-Some.name.now, c.in-Some.time, c.in-Some.value) in
    let one : claim_at c.args.text.now ≡ read-claim claim c.in-Some.rest.now = search rules in
    let two : read-cells c.in_ok-cells.cells.items c.in_ok-cells.rest.now ≡ cells_at (length c.in-Some.rest.now) c.in-Some.rest.now = search rules in
    let count : c.len.result ≡ length c.in_ok-cells.cells.items = search rules in
    let none : after_word (codes "end\n") c.in_ok-cells.rest.now ≡ None = search rules in
    broken-end c.args.text.now c.in-Some.rest.now c.in_ok-cells.rest.now claim c.in_ok-cells.cells.items one two c.len.result count none

pub overflow_add-result : goal.overflow_add-result
overflow_add-result c =
    let claim : Claim = (c.in-Some.name.now, c.in-Some.time, c.in-Some.value) in
    let one : claim_at c.args.text.now ≡ read-claim claim c.in-Some.rest.now = search rules in
    let two : read-cells c.in_ok-cells.cells.items c.in_ok-cells.rest.now ≡ cells_at (length c.in-Some.rest.now) c.in-Some.rest.now = search rules in
    let small : length c.in_ok-cells.cells.items ≤ length c.args.text.now = few c.args.text.now c.in-Some.rest.now c.in_ok-cells.rest.now claim c.in_ok-cells.cells.items one two in
    let count : c.len.result ≡ length c.in_ok-cells.cells.items = search rules in
    omega (arith, small, count, c.requires)

pub returns-then-not-is_empty-clause-bad : goal.returns-then-not-is_empty-clause-bad
returns-then-not-is_empty-clause-bad c =
    let claim : Claim = (c.in-Some.name.now, c.in-Some.time, c.in-Some.value) in
    let one : claim_at c.args.text.now ≡ read-claim claim c.in-Some.rest.now = search rules in
    let two : read-cells c.in_ok-cells.cells.items c.in_ok-cells.rest.now ≡ cells_at (length c.in-Some.rest.now) c.in-Some.rest.now = search rules in
    let count : c.len.result ≡ length c.in_ok-cells.cells.items = search rules in
    let word : after_word (codes "end\n") c.in_ok-cells.rest.now ≡ Some c.in-Some-after.behind.now = search rules in
    let some : 0 < length c.in-Some-after.behind.now = search rules in
    broken-behind c.args.text.now c.in-Some.rest.now c.in_ok-cells.rest.now claim c.in_ok-cells.cells.items one two c.len.result count c.in-Some-after.behind.now word some

pub check_cells-requires : goal.check_cells-requires
check_cells-requires c =
    let claim : Claim = (c.in-Some.name.now, c.in-Some.time, c.in-Some.value) in
    let one : claim_at c.args.text.now ≡ read-claim claim c.in-Some.rest.now = search rules in
    let two : read-cells c.in_ok-cells.cells.items c.in_ok-cells.rest.now ≡ cells_at (length c.in-Some.rest.now) c.in-Some.rest.now = search rules in
    let small : length c.in_ok-cells.cells.items ≤ length c.args.text.now = few c.args.text.now c.in-Some.rest.now c.in_ok-cells.rest.now claim c.in_ok-cells.cells.items one two in
    let count : length c.deref.result.now ≡ length c.in_ok-cells.cells.items = search rules in
    omega (arith, small, count, c.requires)

pub returns-clause-sound : goal.returns-clause-sound
returns-clause-sound c =
    let claim : Claim = (c.in-Some.name.now, c.in-Some.time, c.in-Some.value) in
    true-answer c.args.design.now c.check_cells.result claim c.in_ok-cells.cells.items c.deref.result.now (search rules) c.check_cells.ensures c.facts.ensures.circuit

pub returns-clause-yes : goal.returns-clause-yes
returns-clause-yes c =
    let claim : Claim = (c.in-Some.name.now, c.in-Some.time, c.in-Some.value) in
    let one : claim_at c.args.text.now ≡ read-claim claim c.in-Some.rest.now = search rules in
    let two : read-cells c.in_ok-cells.cells.items c.in_ok-cells.rest.now ≡ cells_at (length c.in-Some.rest.now) c.in-Some.rest.now = search rules in
    let word : after_word (codes "end\n") c.in_ok-cells.rest.now ≡ Some c.in-Some-after.behind.now = search rules in
    let none : length c.in-Some-after.behind.now ≡ 0 = search rules in
    yes-answer c.args.design.now c.check_cells.result claim c.in_ok-cells.cells.items c.deref.result.now (search rules) c.check_cells.ensures c.args.text.now
    (whole c.args.text.now c.in-Some.rest.now c.in_ok-cells.rest.now claim c.in_ok-cells.cells.items one two c.in-Some-after.behind.now word none)

pub returns-clause-no : goal.returns-clause-no
returns-clause-no c =
    let claim : Claim = (c.in-Some.name.now, c.in-Some.time, c.in-Some.value) in
    let one : claim_at c.args.text.now ≡ read-claim claim c.in-Some.rest.now = search rules in
    let two : read-cells c.in_ok-cells.cells.items c.in_ok-cells.rest.now ≡ cells_at (length c.in-Some.rest.now) c.in-Some.rest.now = search rules in
    let word : after_word (codes "end\n") c.in_ok-cells.rest.now ≡ Some c.in-Some-after.behind.now = search rules in
    let none : length c.in-Some-after.behind.now ≡ 0 = search rules in
    no-answer c.args.design.now c.check_cells.result claim c.in_ok-cells.cells.items c.deref.result.now (search rules) c.check_cells.ensures c.args.text.now
    (whole c.args.text.now c.in-Some.rest.now c.in_ok-cells.rest.now claim c.in_ok-cells.cells.items one two c.in-Some-after.behind.now word none)
