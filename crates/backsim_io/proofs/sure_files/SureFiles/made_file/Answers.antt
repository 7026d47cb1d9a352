use Rattle.std.proofs.Common.{rules, ◌≡◌, ◌<◌, ◌≤◌, ◌∙◌, ap, Some, length, get_or}
use Rattle.backsim_io.specs.inner.SureFiles.{KeptFile}
use Rattle.backsim_io.proofs.KeptFiles.{kept_at, kept_past}
use Rattle.backsim_io.proofs.sure_files.SureFiles.made_file.Goals as goal

pub returns-in-Some-clause-bytes : goal.returns-in-Some-clause-bytes
returns-in-Some-clause-bytes c = λ files told.
    let within : c.args.slot < length c.args.self.now.created.items = search rules in
    let at : c.in-Some.file.now ≡ get_or c.args.self.now.created.items c.args.slot c.in-Some.file.now = search rules in
    ap Some (c.bytes.ensures ∙ ap (λ (f : KeptFile). f.bytes.bytes) at) ∙ kept_at c.args.self.now.room files c.args.self.now.created.items c.args.slot c.in-Some.file.now within told

pub returns-in-None-clause-bytes : goal.returns-in-None-clause-bytes
returns-in-None-clause-bytes c = λ files told.
    let past : length c.args.self.now.created.items ≤ c.args.slot = search rules in
    kept_past c.args.self.now.room files c.args.self.now.created.items c.args.slot past told
