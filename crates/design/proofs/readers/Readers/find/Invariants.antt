use Rattle.std.proofs.Common.{◌≡◌, ◌≤◌, ◌++◌, length, get_or}
use Rattle.design.specs.inner.Links.{readers_from}
use Rattle.design.proofs.readers.Readers.find.Given as goal

abbrev pub invariant-loop-number : goal.invariant-loop-number
invariant-loop-number l =
    let links = l.self-inside.links.items in
    record {
      within : l.number ≤ length links;
      whole : l.found.items ++ readers_from links (length links) l.number ≡ readers_from links (length links) (get_or l.self-inside.last.items l.signal 0);
    }

abbrev pub decreases-loop-number : goal.decreases-loop-number
decreases-loop-number l = l.number
