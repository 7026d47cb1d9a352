use Rattle.std.proofs.Common.{◌≡◌, ◌<◌, ℕ, List, length, Some, None, cond, nat_eq, refl, ap, subst, ◌∙◌, arith}
use Rattle.std.proofs.lemmas.Option.{slice_get_past}
use Rattle.std.specs.List.{slice_get}
use Rattle.cell_store.specs.declared.maps.OwnMap.{OwnMap}
use Rattle.cell_store.specs.inner.Maps.{owner_in}
use Rattle.cell_store.proofs.Nodes.{get_set, get_push}
use Rattle.cell_store.proofs.Owned.{now_added}
use Rattle.cell_store.proofs.maps.Maps.add.Goals as goal

pub returns-in-Some-clause-added : goal.returns-in-Some-clause-added
returns-in-Some-clause-added c =
    let own : List OwnMap = c.args.self.now.own.items in
    let free : ℕ = c.args.self.now.free in
    let map : OwnMap = record { owner = Some c.args.signal; next = 0; cells = c.args.cells } in
    let within : free < length own = subst (λ (l : List OwnMap). free < length l) c.deref.ensures.value c.in-Some.ensures.within in
    let none : owner_in (slice_get own free) ≡ None = subst (λ (l : List OwnMap). owner_in (slice_get l free) ≡ None) c.deref.ensures.value c.in-Some.ensures.free in
    now_added c.args.self.now _ c.args.signal free map refl (λ j. get_set own free map j within) none refl

pub returns-clause-added : goal.returns-clause-added
returns-clause-added c =
    let own : List OwnMap = c.args.self.now.own.items in
    let map : OwnMap = record { owner = Some c.args.signal; next = 0; cells = c.args.cells } in
    let long : length own ≡ c.len-n.result = omega (arith, c.len-n.ensures) in
    now_added c.args.self.now _ c.args.signal c.len-n.result map refl
    (λ j. ap (λ (l : List OwnMap). slice_get l j) c.in_ok-push.ensures.items ∙ get_push own map j ∙ ap (λ (n : ℕ). cond (nat_eq n j) (Some map) (slice_get own j)) long)
    (ap owner_in (slice_get_past own c.len-n.result (omega (arith, long)))) refl
