use Rattle.std.proofs.Common.{rules, ◌+◌, ◌-◌, ◌≤◌, ◌++◌, length, take, arith, length-append}
use Rattle.std.proofs.KnownBytes.{Consumes-trans}
use Rattle.backsim_io.proofs.transfer.read_rest.Goals as goal

-- the bytes for which there was no memory were read too
pub returns-then-is_err-clause-at_most : goal.returns-then-is_err-clause-at_most
returns-then-is_err-clause-at_most g c =
    let piece = take c.in-Ok.n c.read.new.into in
    let room : c.in-Ok.n ≤ c.args.limit + 1 - length c.loop-block.bytes.items = search rules in
    let within : length c.loop-block.bytes.items ≤ c.args.limit + 1 = search rules in
    let taken : length piece ≤ c.in-Ok.n = search rules in
    (c.loop-block.bytes.items ++ piece, Consumes-trans _ _ _ _ _ c.loop-block.invariant.2.1 c.in-Ok.ensures.bytes.1, omega (arith, length-append c.loop-block.bytes.items piece, room, within, taken))
