use Rattle.std.proofs.Common.{◌≡◌, refl, sym, ap, ◌∙◌}
use Rattle.cell_store.specs.declared.heads.Head.{Head}
use Rattle.cell_store.specs.declared.heads.More.TheVariants.{Common}
use Rattle.cell_store.specs.inner.Heads.{has_map, head_for}
use Rattle.cell_store.specs.inner.Lists.{first_in, listed, or_else}
use Rattle.cell_store.proofs.Owned.{IsCommon, common_set, no_map, steady_mapped, steady_whole}
use Rattle.cell_store.proofs.index.use_map.Goals.{In_ok-set}
use Rattle.cell_store.proofs.index.use_map.Goals as goal

pub move_list-requires-clause-alone : goal.move_list-requires-clause-alone
move_list-requires-clause-alone c = no_map (head_for c.args.heads.now c.args.signal).more (ap (λ (h : Head). has_map h.more) (sym c.at-head.ensures) ∙ sym c.has_map.ensures ∙ c.if-has_map.false)

pub returns-in_err-set-clause-whole : goal.returns-in_err-set-clause-whole
returns-in_err-set-clause-whole c =
    steady_whole c.move_list.new.nodes.items c.move_list.new.nodes.items (head_for c.move_list.new.heads) (head_for c.set.new.self) c.move_list.new.maps c.move_list.ensures.whole
    (record { lists = record { held = λ j. refl; link = λ j. refl }; all = c.in_err-set.ensures.err })

common : (c : In_ok-set) → IsCommon c.move_list.new.nodes.items (head_for c.move_list.new.heads) (head_for c.set.new.self) c.move_list.new.maps c.args.signal
common c =
    let same : head_for c.move_list.new.heads c.args.signal ≡ head_for c.args.heads.now c.args.signal = c.in_ok-move_list.ensures.heads c.if-branch.false c.args.signal in
    common_set c.move_list.new.nodes.items (head_for c.move_list.new.heads) (head_for c.set.new.self) c.move_list.new.maps c.move_list.ensures.whole c.args.signal c.in_ok-set.field-0
    (record { first = c.at-head.result.first; many = c.at-head.result.many; more = Common }) refl (ap first_in (c.at-head.ensures ∙ sym same))
    (no_map (head_for c.move_list.new.heads c.args.signal).more (ap (λ (h : Head). has_map h.more) (same ∙ sym c.at-head.ensures) ∙ sym c.has_map.ensures ∙ c.if-has_map.false)) c.in_ok-set.ensures.set c.in_ok-set.ensures.told

pub returns-clause-whole : goal.returns-clause-whole
returns-clause-whole c = (common (goal.at.returns-clause-whole c).In_ok-set).whole

pub returns-clause-told : goal.returns-clause-told
returns-clause-told c = (common (goal.at.returns-clause-told c).In_ok-set).told

pub returns-clause-same : goal.returns-clause-same
returns-clause-same c = λ q. ap (or_else (listed c.move_list.new.nodes.items q)) ((common (goal.at.returns-clause-same c).In_ok-set).same q) ∙ c.move_list.ensures.same q

pub returns-in_err-set-clause-same : goal.returns-in_err-set-clause-same
returns-in_err-set-clause-same c =
    λ q. ap (or_else (listed c.move_list.new.nodes.items q)) (steady_mapped (head_for c.move_list.new.heads) (head_for c.set.new.self) c.move_list.new.maps c.in_err-set.ensures.err q) ∙ c.move_list.ensures.same q
