use Rattle.std.proofs.Common.{sym, subst, ◌∙◌}
use Rattle.std.specs.BTreeMap.{get}
use Rattle.stimulus_file.specs.inner.KeptSettings.{name_cmp, StandsAt}
use Rattle.stimulus_file.proofs.Naming.{is_place}
use Rattle.stimulus_file.proofs.names.Names.place_of.Goals as goal

pub returns-in-Some : goal.returns-in-Some
returns-in-Some c = λ places. is_place c.args.self.now.texts.items c.args.name (get name_cmp c.args.self.now.places) places c.in-Some.place c.in-Some.ensures.within c.in-Some.ensures.there

pub returns : goal.returns
returns c = λ places. subst (StandsAt c.args.self.now.texts.items c.args.name.now) (sym (c.copied.ensures ∙ c.get.ensures.value)) (places c.args.name)
