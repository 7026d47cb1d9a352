use Rattle.std.proofs.Common.{◌≡◌, ◌++◌, ◌∷◌, [], length, true, false, inr, refl, sym, ap, ◌∙◌, arith}
use Rattle.std.specs.List.{flat_map, sum_by}
use Rattle.bench_reader.specs.declared.netlist.Definition.TheVariants as Held
use Rattle.bench_reader.specs.Lines.{Input}
use Rattle.bench_reader.specs.Netlists.{is_long, is_among, is_crowded, gates_in}
use Rattle.bench_reader.specs.inner.KeptNetlists.{pin_count}
use Rattle.bench_reader.proofs.Rows.{all_names}
use Rattle.bench_reader.proofs.Sound.{total_grown, kept_grown, kept_set}
use Rattle.bench_reader.proofs.Steps.{gate_known, crowd, pins_none, input_twice, input_crowds, knows_input}
use Rattle.bench_reader.proofs.reader.Reader.take_input.Goals as goal

pub returns-then-is_gate-clause-steps : goal.returns-then-is_gate-clause-steps
returns-then-is_gate-clause-steps c before read line-is =
    let old = c.args.self.now in
    let short : is_long c.args.name.now ≡ false = sym c.is_long.ensures ∙ c.if-is_long.false in
    let gate : is_among (flat_map gates_in before) c.args.name.now ≡ true = gate_known before old.names c.number.new.self old.rows.items c.deref.result.now old.pins.items old.outputs c.args.name.now c.in_ok-id.id true c.is_gate.result
    read c.requires.sound.rows_len c.in_ok-id.ensures.keys c.in_ok-id.ensures.place c.deref.ensures.value c.is_gate.ensures c.if-is_gate.true in
    rw c.fault-then-is_gate.ensures (inr (input_twice before c.args.name.now short gate, refl))

pub returns-then-is_crowded-clause-steps : goal.returns-then-is_crowded-clause-steps
returns-then-is_crowded-clause-steps c before read line-is =
    let old = c.args.self.now in
    let short : is_long c.args.name.now ≡ false = sym c.is_long.ensures ∙ c.if-is_long.false in
    let gate : is_among (flat_map gates_in before) c.args.name.now ≡ false = gate_known before old.names c.number.new.self old.rows.items c.deref.result.now old.pins.items old.outputs c.args.name.now c.in_ok-id.id false c.is_gate.result
    read c.requires.sound.rows_len c.in_ok-id.ensures.keys c.in_ok-id.ensures.place c.deref.ensures.value c.is_gate.ensures c.if-is_gate.false in
    let l = Input c.args.name.now in
    let many : is_crowded (before ++ l ∷ []) ≡ true = crowd (before ++ l ∷ []) c.number.new.self (length old.pins.items) true (all_names before l old.names c.number.new.self read.names_are c.in_ok-id.ensures.keys) (pins_none before l old.names old.pins.items read.pins_are refl)
    (sym c.is_crowded.ensures ∙ c.if-is_crowded.true) in
    rw c.fault-then-is_crowded.ensures (inr (input_crowds before c.args.name.now true short gate many, refl))

pub returns-clause-steps : goal.returns-clause-steps
returns-clause-steps c before read line-is =
    let old = c.args.self.now in
    let len = c.requires.sound.rows_len in
    let short : is_long c.args.name.now ≡ false = sym c.is_long.ensures ∙ c.if-is_long.false in
    let gate : is_among (flat_map gates_in before) c.args.name.now ≡ false = gate_known before old.names c.number.new.self old.rows.items c.deref.result.now old.pins.items old.outputs c.args.name.now c.in_ok-id.id false c.is_gate.result
    read len c.in_ok-id.ensures.keys c.in_ok-id.ensures.place c.deref.ensures.value c.is_gate.ensures c.if-is_gate.false in
    let l = Input c.args.name.now in
    let few : is_crowded (before ++ l ∷ []) ≡ false = crowd (before ++ l ∷ []) c.number.new.self (length old.pins.items) false (all_names before l old.names c.number.new.self read.names_are c.in_ok-id.ensures.keys) (pins_none before l old.names old.pins.items read.pins_are refl)
    (sym c.is_crowded.ensures ∙ c.if-is_crowded.false) in (
      input_crowds before c.args.name.now false short gate few,
      knows_input before old.names c.number.new.self old.rows.items c.add_rows.new.rows.items old.pins.items old.outputs c.args.name.now c.args.line c.in_ok-id.id read len c.in_ok-id.ensures.keys
          c.in_ok-add_rows.ensures.rows line-is c.in_ok-id.ensures.place gate,
    )

pub returns-clause-sound : goal.returns-clause-sound
returns-clause-sound c =
    let old = c.args.self.now in
    let ks = c.number.new.self in
    let kept = kept_grown old.names ks old.rows.items c.add_rows.new.rows.items old.pins.items old.pins.items c.args.line c.requires.sound c.number.ensures.grows c.in_ok-add_rows.ensures.rows (omega arith) (sym c.is_crowded.ensures ∙ c.if-is_crowded.false) in
    let total = ap (sum_by pin_count) c.in_ok-add_rows.ensures.rows ∙ total_grown old.rows.items (length ks) c.args.line in
    kept_set ks c.add_rows.new.rows.items old.pins.items c.in_ok-id.id Held.Input kept (omega (arith, kept.rows_len, c.in_ok-id.ensures.within)) tt (omega (arith, total, c.requires.sound.total))
