use Rattle.std.proofs.Common.{◌≡◌, true, false, sym, ◌∙◌}
use Rattle.bench_reader.specs.Netlists.{is_long}
use Rattle.bench_reader.proofs.Steps.{long-map}
use Rattle.bench_reader.proofs.reader.is_any_long.Goals as goal

pub returns-else-is_long : goal.returns-else-is_long
returns-else-is_long c =
    let short : is_long c.args.name.now ≡ false = sym c.is_long.ensures ∙ c.if-is_long.false in
    rw short (c.is_any_pin_long.ensures ∙ long-map c.args.pins.now)

pub returns-then-is_long : goal.returns-then-is_long
returns-then-is_long c =
    let long : is_long c.args.name.now ≡ true = sym c.is_long.ensures ∙ c.if-is_long.true in
    rw long c.if-is_long.true
