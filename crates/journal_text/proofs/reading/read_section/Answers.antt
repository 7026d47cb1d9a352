use Rattle.std.proofs.Common.{rules, ◌≡◌, None}
use Rattle.journal_text.specs.inner.Reading.{section_at}
use Rattle.journal_text.proofs.WholeSections.{section_read, not_read, read_shorter, read_found, read_only}
use Rattle.journal_text.proofs.reading.read_section.Goals as goal

pub returns-in_default-clause-only : goal.returns-in_default-clause-only
returns-in_default-clause-only c = λ section rest is same.
    let none : section_at c.args.text.now ≡ None = search rules in
    absurd (not_read c.args.text.now section rest none is same)

pub returns-in_default-clause-none : goal.returns-in_default-clause-none
returns-in_default-clause-none c = λ section rest is same.
    let none : section_at c.args.text.now ≡ None = search rules in
    not_read c.args.text.now section rest none is same

pub overflow_sub-len : goal.overflow_sub-len
overflow_sub-len c =
    let read : section_at c.args.text.now ≡ section_read c.in-Some.section c.in-Some.rest.now = search rules in
    read_shorter c.args.text.now c.in-Some.section c.in-Some.rest.now read

pub returns-clause-found : goal.returns-clause-found
returns-clause-found c =
    let read : section_at c.args.text.now ≡ section_read c.in-Some.section c.in-Some.rest.now = search rules in
    read_found c.args.text.now c.in-Some.section c.in-Some.rest.now read

pub returns-clause-only : goal.returns-clause-only
returns-clause-only c = λ section rest is same.
    let read : section_at c.args.text.now ≡ section_read c.in-Some.section c.in-Some.rest.now = search rules in
    read_only c.args.text.now c.in-Some.section c.in-Some.rest.now section rest read is same
