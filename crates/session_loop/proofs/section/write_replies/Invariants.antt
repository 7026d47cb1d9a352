-- The replies so far were written or are kept back, and no fault was met.
use Rattle.std.proofs.Common.{◌≡◌, [], take}
use Rattle.backsim_io.specs.Counts.{Grows}
use Rattle.session_meaning.specs.Replies.{replies_text}
use Rattle.session_loop.specs.inner.Growing.{KeepsBack}
use Rattle.session_loop.proofs.section.write_replies.Given as goal

abbrev pub invariant-loop-i : goal.invariant-loop-i
invariant-loop-i g l = record {
  keeps_back : KeepsBack (Grows (g.S.Sink.written l.initial.out) (g.S.Sink.written l.out)) [] (replies_text (take l.i l.items) (take l.i l.replies)) l.text.items;
  calm : g.S.Sink.faults l.out ≡ g.S.Sink.faults l.initial.out;
}
