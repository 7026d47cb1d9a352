use Rattle.std.proofs.Common.{rules, ◌≡◌, ◌++◌, ◌∷◌, [], take, ◌∙◌, ap, All, subst, sym, map}
use Rattle.std.specs.Option.{option_to_list}
use Rattle.std.proofs.lemmas.List.Elements.{All-push}
use Rattle.backsim_io.specs.inner.SureFiles.{KeptFile, kept_file}
use Rattle.backsim_io.proofs.KeptFiles.{blank_front, blank_last, kept-created}
use Rattle.backsim_io.proofs.sure_files.SureFilesFiles.create.Goals as goal

pub invariant_of-self-clause-blank : goal.invariant_of-self-clause-blank
invariant_of-self-clause-blank c = blank_front c.args.self.now.room _ _ c.args.self.now.spare.items c.pop.ensures.items c.args.self.now.blank

pub invariant_of-self-clause-rooms : goal.invariant_of-self-clause-rooms
invariant_of-self-clause-rooms c =
    let taken = blank_last c.args.self.now.room c.pop.new.self.items c.unwrap-file.result c.args.self.now.spare.items (c.pop.ensures.items ∙ ap (λ o. c.pop.new.self.items ++ option_to_list o) c.unwrap-file.ensures) c.args.self.now.blank in
    let pushed : c.push.new.self.items ≡ c.args.self.now.created.items ++ c.set_name.new.self ∷ [] = search rules in
    let room : c.set_name.new.self.bytes.room ≡ c.args.self.now.room = ap (λ (f : KeptFile). f.bytes.room) c.set_name.ensures ∙ taken.1 in
    subst (All (λ (f : KeptFile). f.bytes.room ≡ c.args.self.now.room)) (sym pushed) (All-push (λ (f : KeptFile). f.bytes.room ≡ c.args.self.now.room) c.args.self.now.created.items c.set_name.new.self c.args.self.now.rooms room)

pub returns-clause-made : goal.returns-clause-made
returns-clause-made c = λ before told.
    let taken = blank_last c.args.self.now.room c.pop.new.self.items c.unwrap-file.result c.args.self.now.spare.items (c.pop.ensures.items ∙ ap (λ o. c.pop.new.self.items ++ option_to_list o) c.unwrap-file.ensures) c.args.self.now.blank in
    let pushed : c.push.new.self.items ≡ c.args.self.now.created.items ++ c.set_name.new.self ∷ [] = search rules in
    let named : c.set_name.new.self.name ≡ take 255 c.args.name.now = ap (λ (f : KeptFile). f.name) c.set_name.ensures in
    let empty : c.set_name.new.self.bytes.bytes ≡ [] = ap (λ (f : KeptFile). f.bytes.bytes) c.set_name.ensures ∙ taken.2 in
    kept-created c.args.self.now.room before c.args.self.now.created.items c.set_name.new.self c.args.name.now named empty told ∙ ap (map kept_file) (sym pushed)
