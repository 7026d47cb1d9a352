use Rattle.std.proofs.Common.{◌≡◌, List, inr, refl, sym, subst, ◌∙◌, true, false}
use Rattle.std.proofs.lemmas.Bool.{not-false, not-true}
use Rattle.std.specs.List.{list_all, list_any}
use Rattle.stimulus_file.specs.declared.NumberedSet.{NumberedSet}
use Rattle.stimulus_file.specs.Stimulus.{is_blank, sets}
use Rattle.stimulus_file.specs.inner.KeptSettings.{is_at, HasSeen, Tells}
use Rattle.stimulus_file.proofs.Steps.{setting_step, set_before, states}
use Rattle.stimulus_file.proofs.reader.take_setting.Goals as goal

pub returns-then-not-branch : goal.returns-then-not-branch
returns-then-not-branch c before read line-is =
    let r = c.args.reader.now in
    let found = c.in_ok-found.found in
    let finds = c.in_ok-found.ensures r.sets.items read.names in
    let told = subst (λ (l : List NumberedSet). HasSeen r.seen l → (found.is_later ≡ true → list_any (is_at found.place c.args.time) l ≡ false) → Tells c.is_new.new.seen l found.place c.args.time c.in_ok-is_new.field-0)
    c.deref.ensures.value c.in_ok-is_new.ensures read.seen finds.later in
    let stated : list_all is_blank before ≡ false = read.blank ∙ states _ _ c.is_none.ensures c.if-is_none.false in
    let set : list_any (sets c.args.name.now c.args.time) before ≡ true =
    set_before before r c.find.new.self found c.args.name.now c.args.time read finds ∙ not-false _ (sym told.tells ∙ c.if-not-branch.true) in
    rw c.fault-then-not-branch.ensures (inr (rw (stated, set) refl, refl))

pub returns : goal.returns
returns c before read line-is =
    let r = c.args.reader.now in
    let found = c.in_ok-found.found in
    let finds = c.in_ok-found.ensures r.sets.items read.names in
    let told = subst (λ (l : List NumberedSet). HasSeen r.seen l → (found.is_later ≡ true → list_any (is_at found.place c.args.time) l ≡ false) → Tells c.is_new.new.seen l found.place c.args.time c.in_ok-is_new.field-0)
    c.deref.ensures.value c.in_ok-is_new.ensures read.seen finds.later in
    setting_step before r (record { horizon = r.horizon; names = c.find.new.self; sets = c.push.new.self; seen = c.is_new.new.seen }) found c.args.name.now c.args.time c.args.number c.args.value read line-is
    (states _ _ c.is_none.ensures c.if-is_none.false) refl finds (not-true _ (sym told.tells ∙ c.if-not-branch.false)) told.next c.in_ok-push.ensures.items
