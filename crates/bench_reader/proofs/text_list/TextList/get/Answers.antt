use Rattle.std.proofs.Common.{◌-◌, ℕ, List, Some, take, drop, sym, ap, ◌∙◌}
use Rattle.bench_reader.specs.declared.text_list.Place.TheVariants.{Short, Long}
use Rattle.bench_reader.proofs.Placing.{text_shown, short_len}
use Rattle.bench_reader.proofs.text_list.TextList.get.Goals as goal

pub shared_ref_as_front-result : goal.shared_ref_as_front-result
shared_ref_as_front-result c = short_len c.self.inside.bytes.items c.self.inside.places.items c.args.self.now c.args.number c.in-Short.len c.in-Short.bytes c.index.result.now c.self.invariant c.self.view_is c.requires c.index.ensures c.in-Short.is

pub returns-in-Short : goal.returns-in-Short
returns-in-Short c = text_shown c.self.inside.bytes.items c.self.inside.places.items c.args.self.now c.args.number c.index.result.now (Short c.in-Short.len c.in-Short.bytes) c.self.view_is c.requires c.index.ensures c.in-Short.is

pub returns-in-Long : goal.returns-in-Long
returns-in-Long c =
    text_shown c.self.inside.bytes.items c.self.inside.places.items c.args.self.now c.args.number c.index.result.now (Long c.in-Long.start c.in-Long.end) c.self.view_is c.requires c.index.ensures c.in-Long.is
    ∙ ap (λ (b : List ℕ). Some (take (c.in-Long.end - c.in-Long.start) (drop c.in-Long.start b))) (sym c.deref.ensures.value)
