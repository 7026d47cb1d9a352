use Rattle.std.proofs.Common.{◌≡◌, ◌++◌, ◌∷◌, [], length, true, false, inr, refl, sym, ◌∙◌}
use Rattle.bench_reader.specs.Lines.{Output}
use Rattle.bench_reader.specs.Netlists.{is_long, is_crowded}
use Rattle.bench_reader.proofs.Rows.{all_names}
use Rattle.bench_reader.proofs.Steps.{crowd, pins_none, output_crowds, knows_output}
use Rattle.bench_reader.proofs.reader.Reader.take_output.Goals as goal

pub returns-then-is_crowded-clause-steps : goal.returns-then-is_crowded-clause-steps
returns-then-is_crowded-clause-steps c before read line-is =
    let old = c.args.self.now in
    let short : is_long c.args.name.now ≡ false = sym c.is_long.ensures ∙ c.if-is_long.false in
    let l = Output c.args.name.now in
    let many : is_crowded (before ++ l ∷ []) ≡ true = crowd (before ++ l ∷ []) c.number.new.self (length old.pins.items) true (all_names before l old.names c.number.new.self read.names_are c.in_ok-id.ensures.keys) (pins_none before l old.names old.pins.items read.pins_are refl)
    (sym c.is_crowded.ensures ∙ c.if-is_crowded.true) in
    rw c.fault-then-is_crowded.ensures (inr (output_crowds before c.args.name.now true short many, refl))

pub returns-clause-steps : goal.returns-clause-steps
returns-clause-steps c before read line-is =
    let old = c.args.self.now in
    let short : is_long c.args.name.now ≡ false = sym c.is_long.ensures ∙ c.if-is_long.false in
    let l = Output c.args.name.now in
    let few : is_crowded (before ++ l ∷ []) ≡ false = crowd (before ++ l ∷ []) c.number.new.self (length old.pins.items) false (all_names before l old.names c.number.new.self read.names_are c.in_ok-id.ensures.keys) (pins_none before l old.names old.pins.items read.pins_are refl)
    (sym c.is_crowded.ensures ∙ c.if-is_crowded.false) in (
      output_crowds before c.args.name.now false short few,
      knows_output before old.names c.number.new.self old.rows.items c.add_rows.new.rows.items old.pins.items old.outputs c.insert.new.self c.args.name.now c.args.line c.in_ok-id.id read c.requires.sound.rows_len c.in_ok-id.ensures.keys
          c.in_ok-add_rows.ensures.rows line-is c.in_ok-id.ensures.place c.in_ok-insert.ensures,
    )
