use Rattle.std.proofs.Common.{rules, ◌≡◌, ◌++◌, ◌∷◌, [], List, length, ◌∙◌, ap, Some}
use Rattle.journal_meaning.specs.declared.Entry.{Entry}
use Rattle.journal_text.specs.inner.Reading.{entry_at, entries_at}
use Rattle.texts.proofs.Callers.{shorter, put_all, put_next}
use Rattle.journal_text.proofs.Lines.{spelling}
use Rattle.journal_text.proofs.reading.entries_of.Goals as goal

pub loop-entry-smaller : goal.loop-entry-smaller
loop-entry-smaller c =
    let found : entry_at c.loop-entry.rest.now ≡ Some (c.in-Some.entry, c.in-Some.more.now) = search rules in
    shorter spelling c.loop-entry.rest.now c.in-Some.entry c.in-Some.more.now found

pub loop-entry-preserved : goal.loop-entry-preserved
loop-entry-preserved c =
    let found : entry_at c.loop-entry.rest.now ≡ Some (c.in-Some.entry, c.in-Some.more.now) = search rules in
    let pushed : c.push.new.self.items ≡ c.loop-entry.entries.items ++ c.in-Some.entry ∷ [] = search rules in
    let more = entries_at (length c.in-Some.more.now) c.in-Some.more.now in
    ap (λ (l : List Entry). put_all l more) pushed ∙ put_next spelling c.loop-entry.entries.items c.loop-entry.rest.now c.in-Some.entry c.in-Some.more.now found ∙ c.loop-entry.invariant
