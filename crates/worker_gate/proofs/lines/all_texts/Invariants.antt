use Rattle.std.proofs.Common.{◌≡◌, map, Ok}
use Rattle.worker_gate.proofs.lines.all_texts.Given as goal

abbrev pub invariant-loop-part : goal.invariant-loop-part
invariant-loop-part l = l.yielded ≡ map (λ text. Ok text) l.texts.items
