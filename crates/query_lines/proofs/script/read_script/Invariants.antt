use Rattle.std.proofs.Common.{take}
use Rattle.query_lines.specs.Readers.{HasRead}
use Rattle.query_lines.proofs.script.read_script.Given as goal

abbrev pub invariant-loop-byte : goal.invariant-loop-byte
invariant-loop-byte l = HasRead l.horizon (take l.byte-index l.script) l.units.items l.reader
