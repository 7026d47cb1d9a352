use Rattle.std.proofs.Common.{◌<◌, ◌-◌, arith}
use Rattle.std.proofs.lemmas.List.{get_or_read}
use Rattle.design.proofs.Links.{found-none, found-next, found-all, last-within}
use Rattle.design.proofs.readers.Readers.find.Goals as goal

pub loop-number-init : goal.loop-number-init
loop-number-init c =
    let s = c.args.signal in
    let last = c.self.inside.last.items in
    let l = last-within c.self.inside.links.items last _ s c.self.view_is c.requires in
    let begins = found-none c.self.inside.links.items last s c.clear.new.self.items c.index-number.result.now l c.self.invariant c.clear.ensures.items (get_or_read last s c.index-number.result.now l c.index-number.ensures 0) in
    record { within = begins.0; whole = begins.1 }

pub loop-number-preserved : goal.loop-number-preserved
loop-number-preserved c =
    let links = c.self.inside.links.items in
    let number = c.loop-number.number in
    let some : 0 < number = let h = c.loop-number-test.true in omega (arith, h) in
    let within = c.loop-number.invariant.within in
    let at = get_or_read links (number - 1) c.index-link.result.now (omega (arith, some, within)) c.index-link.ensures (record { reader = 0; before = 0 }) in
    let next = found-next links number c.index-link.result.now c.loop-number.found.items c.push.new.self.items _ some within c.self.invariant.earlier at c.in_ok-push.ensures.items c.loop-number.invariant.whole in
    record { within = let low = next.1 in omega (arith, low, within); whole = next.0 }

pub returns : goal.returns
returns c =
    let links = c.self.inside.links.items in
    let last = c.self.inside.last.items in
    found-all links last c.args.signal c.loop-number.found.items c.loop-number.number (last-within links last _ c.args.signal c.self.view_is c.requires) _ c.self.view_is c.loop-number-test.false c.loop-number.invariant.whole
