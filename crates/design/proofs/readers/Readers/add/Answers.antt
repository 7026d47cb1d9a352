use Rattle.std.proofs.Common.{◌∷◌, ◌∙◌, ap, arith, refl, set}
use Rattle.std.proofs.lemmas.List.{get_or_read}
use Rattle.design.specs.inner.Walk.{list_at}
use Rattle.design.proofs.Links.{lists-pushed, last-within}
use Rattle.design.proofs.readers.Readers.add.Goals as goal

pub returns : goal.returns
returns c =
    let s = c.args.signal in
    let last = c.self.inside.last.items in
    let links = c.self.inside.links.items in
    let l = last-within links last _ s c.self.view_is c.requires in
    lists-pushed links c.push.new.self.items last (set last s c.in-Ok.number) s c.args.reader c.index-before.result.now c.in-Ok.number c.self.invariant l
    c.in_ok-push.ensures.items (get_or_read last s c.index-before.result.now l c.index-before.ensures 0) (let e = c.in-Ok.ensures in let k = c.len.ensures in omega (arith, e, k)) refl
    ∙ ap (λ lists. set lists s (c.args.reader ∷ list_at lists s)) c.self.view_is
