use Rattle.std.proofs.Common.{unwrap_or, ap, ◌∙◌, arith, rules}
use Rattle.std.specs.BTreeMap.Entry.{map_with_value}
use Rattle.bench_reader.proofs.Keying.{each-same, each-new}
use Rattle.bench_reader.proofs.keyed.Keyed.add.Goals as goal

pub returns-in_err-push-clause-keyed : goal.returns-in_err-push-clause-keyed
returns-in_err-push-clause-keyed c =
    let told = c.or_insert-last.result.now in
    each-same c.args.names.now c.push.new.self c.sip_hash.result told c.args.self.now.latest (map_with_value c.in_ok-self.field-0 told) _ c.args.self.now.earlier.items c.requires.keyed c.in_err-push.ensures.unchanged
    (c.or_insert-last.ensures.value ∙ ap (λ o. unwrap_or o 0) c.in_ok-self.ensures.value) (c.in_ok-self.ensures.update.0 told) (search rules)

pub returns-clause-keyed : goal.returns-clause-keyed
returns-clause-keyed c =
    each-new c.args.names.now c.push.new.self c.args.name.now c.len-number.result c.sip_hash.result c.or_insert-last.result.now c.replace.result c.replace.new.dest c.args.self.now.latest (map_with_value c.in_ok-self.field-0 c.replace.new.dest) _ c.args.self.now.earlier.items c.requires.keyed
    c.in_ok-push.ensures.added c.requires.fresh c.requires.room c.len-number.ensures c.sip_hash.ensures (c.or_insert-last.ensures.value ∙ ap (λ o. unwrap_or o 0) c.in_ok-self.ensures.value) c.replace.ensures.value (omega (arith, c.replace.ensures.after))
    (c.in_ok-self.ensures.update.0 c.replace.new.dest) (search rules)
