use Rattle.std.proofs.Common.{◌≡◌, ◌≤◌, ◌+◌, ◌++◌, [], ◌∷◌, length, true, false, refl, inr, sym, ap, ◌∙◌, arith, length-append}
use Rattle.std.specs.List.{flat_map, sum_by}
use Rattle.bench_reader.specs.declared.netlist.Definition.TheVariants as Held
use Rattle.bench_reader.specs.Lines.{Gate}
use Rattle.bench_reader.specs.Netlists.{is_among, is_crowded, defined_in}
use Rattle.bench_reader.specs.inner.KeptNetlists.{pin_count}
use Rattle.bench_reader.specs.Views.{each_now}
use Rattle.bench_reader.proofs.Rows.{all_names}
use Rattle.bench_reader.proofs.Steps.{definition_known, keys_of, id_stays, crowd, pins_some, gate_cause, gate_twice, gate_crowds, knows_gate}
use Rattle.std.proofs.lemmas.List.{length-map}
use Rattle.bench_reader.proofs.Sound.{length-padded, total_grown, kept_grown, kept_set}
use Rattle.bench_reader.proofs.reader.Reader.take_pins.Goals as goal

pub add_rows-requires : goal.add_rows-requires
add_rows-requires c = omega (arith, c.requires.sound.rows_len, c.number_all.ensures.grows, c.number.ensures.grows)

pub index_mut-requires : goal.index_mut-requires
index_mut-requires c =
    let ks = c.number_all.new.self in
    let le : length c.args.self.now.rows.items ≤ length ks = omega (arith, c.requires.sound.rows_len, c.number_all.ensures.grows, c.number.ensures.grows) in
    omega (arith, c.in_ok-id.ensures.within, c.number_all.ensures.grows, ap length c.in_ok-add_rows.ensures.rows, length-padded c.args.self.now.rows.items (length ks) c.args.line le)

pub returns-clause-sound : goal.returns-clause-sound
returns-clause-sound c =
    let old = c.args.self.now in
    let ks = c.number_all.new.self in
    let new_pins = c.number_all.new.numbers.items in
    let le : length old.names ≤ length ks = omega (arith, c.number_all.ensures.grows, c.number.ensures.grows) in
    let pins : length new_pins ≡ length old.pins.items + length c.args.pins.now = ap length c.in_ok-number_all.ensures.numbers ∙ length-append _ _ ∙ ap (λ n. length old.pins.items + n) (length-map _ _ ∙ length-map _ _) in
    let kept = kept_grown old.names ks old.rows.items c.add_rows.new.rows.items old.pins.items new_pins c.args.line c.requires.sound le c.in_ok-add_rows.ensures.rows (omega (arith, pins)) (sym c.is_crowded.ensures ∙ c.if-is_crowded.false) in
    let total = ap (sum_by pin_count) c.in_ok-add_rows.ensures.rows ∙ total_grown old.rows.items (length ks) c.args.line in
    kept_set ks c.add_rows.new.rows.items new_pins c.in_ok-id.id (Held.Gate c.args.kind (length c.args.pins.now) c.len-start.result) kept (omega (arith, kept.rows_len, c.in_ok-id.ensures.within, c.number_all.ensures.grows)) (record { within = omega (arith, pins, c.len-start.ensures); counted = c.requires.counted })
    (omega (arith, pins, total, c.requires.sound.total))

pub returns-then-is_defined-clause-steps : goal.returns-then-is_defined-clause-steps
returns-then-is_defined-clause-steps c word counts before read line-is =
    let old = c.args.self.now in
    let pins = each_now c.args.pins.now in
    let known : is_among (flat_map defined_in before) c.args.name.now ≡ true = definition_known before old.names c.number.new.self old.rows.items c.deref.result.now old.pins.items old.outputs c.args.name.now c.in_ok-id.id true c.is_defined.result
    read c.requires.sound.rows_len c.in_ok-id.ensures.keys c.in_ok-id.ensures.place c.deref.ensures.value c.is_defined.ensures c.if-is_defined.true in
    rw c.fault.ensures (inr (gate_cause before c.args.name.now word pins c.args.kind counts.kind_is counts.counted ∙ gate_twice before c.args.name.now word pins counts.short known, refl))

pub returns-then-is_crowded-clause-steps : goal.returns-then-is_crowded-clause-steps
returns-then-is_crowded-clause-steps c word counts before read line-is =
    let old = c.args.self.now in
    let pins = each_now c.args.pins.now in
    let l = Gate c.args.name.now word pins in
    let ks = old.names in
    let known : is_among (flat_map defined_in before) c.args.name.now ≡ false = definition_known before ks c.number.new.self old.rows.items c.deref.result.now old.pins.items old.outputs c.args.name.now c.in_ok-id.id false c.is_defined.result
    read c.requires.sound.rows_len c.in_ok-id.ensures.keys c.in_ok-id.ensures.place c.deref.ensures.value c.is_defined.ensures c.if-is_defined.false in
    let keys = keys_of ks c.number.new.self c.number_all.new.self c.args.name.now pins c.in_ok-id.ensures.keys c.in_ok-number_all.ensures.keys in
    let many : is_crowded (before ++ l ∷ []) ≡ true = crowd (before ++ l ∷ []) c.number_all.new.self (length c.number_all.new.numbers.items) true (all_names before l ks c.number_all.new.self read.names_are keys)
    (pins_some before c.args.name.now word pins ks c.number_all.new.self old.pins.items c.number_all.new.numbers.items read.pins_are c.in_ok-number_all.ensures.numbers) (sym c.is_crowded.ensures ∙ c.if-is_crowded.true) in
    rw c.fault-then-is_crowded.ensures (inr (gate_cause before c.args.name.now word pins c.args.kind counts.kind_is counts.counted ∙ gate_crowds before c.args.name.now word pins true counts.short known many, refl))

pub returns-clause-steps : goal.returns-clause-steps
returns-clause-steps c word counts before read line-is =
    let old = c.args.self.now in
    let pins = each_now c.args.pins.now in
    let l = Gate c.args.name.now word pins in
    let ks = old.names in
    let len = c.requires.sound.rows_len in
    let known : is_among (flat_map defined_in before) c.args.name.now ≡ false = definition_known before ks c.number.new.self old.rows.items c.deref.result.now old.pins.items old.outputs c.args.name.now c.in_ok-id.id false c.is_defined.result
    read len c.in_ok-id.ensures.keys c.in_ok-id.ensures.place c.deref.ensures.value c.is_defined.ensures c.if-is_defined.false in
    let keys = keys_of ks c.number.new.self c.number_all.new.self c.args.name.now pins c.in_ok-id.ensures.keys c.in_ok-number_all.ensures.keys in
    let few : is_crowded (before ++ l ∷ []) ≡ false = crowd (before ++ l ∷ []) c.number_all.new.self (length c.number_all.new.numbers.items) false (all_names before l ks c.number_all.new.self read.names_are keys)
    (pins_some before c.args.name.now word pins ks c.number_all.new.self old.pins.items c.number_all.new.numbers.items read.pins_are c.in_ok-number_all.ensures.numbers) (sym c.is_crowded.ensures ∙ c.if-is_crowded.false) in (
      gate_cause before c.args.name.now word pins c.args.kind counts.kind_is counts.counted ∙ gate_crowds before c.args.name.now word pins false counts.short known few,
      knows_gate before ks c.number_all.new.self old.rows.items c.add_rows.new.rows.items old.pins.items c.number_all.new.numbers.items old.outputs c.args.name.now word pins c.args.kind c.args.line c.in_ok-id.id c.len-start.result (length c.args.pins.now)
          read len keys c.in_ok-add_rows.ensures.rows line-is
          (id_stays ks c.number.new.self c.number_all.new.self c.args.name.now pins c.in_ok-id.id c.in_ok-id.ensures.keys c.in_ok-number_all.ensures.keys c.in_ok-id.ensures.place)
          c.in_ok-number_all.ensures.numbers known counts.kind_is (omega (arith, c.len-start.ensures)) (sym (length-map _ _)),
    )
