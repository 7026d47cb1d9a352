use Rattle.std.proofs.Common.{ℕ, ◌<◌, List, length, take, drop, ap₂, ◌∙◌, arith}
use Rattle.std.specs.Global.{Vec}
use Rattle.std.proofs.lemmas.List.{length-map}
use Rattle.circuit_meaning.specs.declared.Setting.{Setting}
use Rattle.design.proofs.KeptSignals.{input-within, input-view, gate-view, flop-view, list-read}
use Rattle.design.proofs.origin.Origin.view.Goals as goal

pub returns-in-Input : goal.returns-in-Input
returns-in-Input c =
    let lists = c.self.inside.settings.items in
    let room = input-within _ c.self.invariant _ c.self.view_is c.args.signal c.requires c.index.result.now c.index.ensures c.in-Input.place c.in-Input.is in
    let within : c.in-Input.place < length lists = let long = length-map lists (λ (v : Vec Setting). v.items) in omega (arith, long, room) in
    input-view _ c.self.invariant _ c.self.view_is c.args.signal c.requires c.index.result.now c.index.ensures c.in-Input.place c.in-Input.is c.deref.result
    (c.deref.ensures.value ∙ list-read lists c.in-Input.place c.index-in-Input.result.now within c.index-in-Input.ensures)

pub returns-in-Gate : goal.returns-in-Gate
returns-in-Gate c =
    gate-view _ c.self.invariant _ c.self.view_is c.args.signal c.requires c.index.result.now c.index.ensures
    c.in-Gate.kind c.in-Gate.least c.in-Gate.start c.in-Gate.is c.signals_of-signals.result c.signals_of-signals.ensures _
    (ap₂ (λ (n : ℕ) (delays : List ℕ). take n (drop c.in-Gate.start delays)) (omega arith) c.deref-in-Gate.ensures.value)

pub returns-in-Flop : goal.returns-in-Flop
returns-in-Flop c =
    flop-view _ c.self.invariant _ c.self.view_is c.args.signal c.requires c.index.result.now c.index.ensures
    c.in-Flop.place c.in-Flop.is c.index-in-Flop.result.now c.signals_of.result c.index-in-Flop.ensures c.signals_of.ensures
