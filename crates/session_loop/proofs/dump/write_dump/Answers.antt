use Rattle.std.proofs.Common.{◌∷◌, [], refl, sym, ap, subst, inr, ◌∙◌}
use Rattle.texts.specs.Made.{Made}
use Rattle.session_meaning.proofs.Callers.{prefix-same}
use Rattle.backsim_io.specs.State.{FileFault, WriteFault}
use Rattle.session_loop.proofs.Growing.{file-part-of}
use Rattle.session_loop.proofs.Dumping.{when-failed, when-passed, adds-file, adds-then, holds-last, dump-done}
use Rattle.session_loop.proofs.dump.write_dump.Goals as goal

-- a part of the text was written
pub returns-then-is_err-clause-begun : goal.returns-then-is_err-clause-begun
returns-then-is_err-clause-begun g c =
    let M = g.F.Files.made in
    let failed = sym c.is_err.ensures.value ∙ c.if-is_err.true in
    let part = file-part-of (M c.create.new.self) (M c.write_file.new.files) c.in-Ok.slot c.args.text.now (when-failed c.write_file.result failed c.write_file.ensures.prefix) in (
      record { name = c.args.name.now; bytes = part.0 } ∷ [],
      inr (part.0, part.1, refl),
      adds-file (M c.args.files.now) (M c.create.new.self) (M c.write_file.new.files) (g.F.Files.state c.args.files.now).created c.in-Ok.slot c.args.name.now part.0 c.in-Ok.ensures.place c.in-Ok.ensures.made part.2,
      ap (λ f. f.created) ((when-failed c.write_file.result failed c.write_file.ensures.failed).same) ∙ ap (λ f. f.created) c.in-Ok.ensures.creates,
    )

pub finish-requires : goal.finish-requires
finish-requires g c =
    let F = g.F.Files.state in
    let passed = sym c.is_err.ensures.value ∙ c.if-is_err.false in
    holds-last (F c.args.files.now).unfinished (F c.write_file.new.files).unfinished (F c.args.files.now).created c.in-Ok.slot
    (ap (λ f. f.unfinished) (when-passed c.write_file.result passed c.write_file.ensures.takes ∙ c.in-Ok.ensures.creates)) c.in-Ok.ensures.place

-- the whole text was written
pub returns-then-is_err-2-clause-begun : goal.returns-then-is_err-2-clause-begun
returns-then-is_err-2-clause-begun g c =
    let M = g.F.Files.made in
    let passed = sym c.is_err.ensures.value ∙ c.if-is_err.false in
    let failed = sym c.is_err-2.ensures.value ∙ c.if-is_err-2.true in
    let dump : Made = record { name = c.args.name.now; bytes = c.args.text.now } in (
      dump ∷ [],
      inr (c.args.text.now, prefix-same c.args.text.now, refl),
      adds-then (M c.args.files.now) (M c.write_file.new.files) (M c.finish.new.self) (g.F.Files.state c.args.files.now).created (dump ∷ [])
          (adds-file (M c.args.files.now) (M c.create.new.self) (M c.write_file.new.files) (g.F.Files.state c.args.files.now).created c.in-Ok.slot c.args.name.now c.args.text.now c.in-Ok.ensures.place c.in-Ok.ensures.made
          (when-passed c.write_file.result passed c.write_file.ensures.ok)) c.finish.ensures.made,
      ap (λ f. f.created) ((when-failed c.finish.result failed c.finish.ensures.failed).same)
          ∙ ap (λ f. f.created) (when-passed c.write_file.result passed c.write_file.ensures.takes ∙ c.in-Ok.ensures.creates),
    )

pub returns-clause-written : goal.returns-clause-written
returns-clause-written g c =
    let M = g.F.Files.made in
    let passed = sym c.is_err.ensures.value ∙ c.if-is_err.false in
    adds-then (M c.args.files.now) (M c.write_file.new.files) (M c.finish.new.self) (g.F.Files.state c.args.files.now).created (record { name = c.args.name.now; bytes = c.args.text.now } ∷ [])
    (adds-file (M c.args.files.now) (M c.create.new.self) (M c.write_file.new.files) (g.F.Files.state c.args.files.now).created c.in-Ok.slot c.args.name.now c.args.text.now c.in-Ok.ensures.place c.in-Ok.ensures.made
    (when-passed c.write_file.result passed c.write_file.ensures.ok)) c.finish.ensures.made

-- the dump was not written
pub returns-then-is_err-clause-state : goal.returns-then-is_err-clause-state
returns-then-is_err-clause-state g c =
    let F = g.F.Files.state in
    let failed = sym c.is_err.ensures.value ∙ c.if-is_err.true in
    subst (λ f. WriteFault f (F c.write_file.new.files)) c.in-Ok.ensures.creates (when-failed c.write_file.result failed c.write_file.ensures.failed)

-- it was not finished
pub returns-then-is_err-2-clause-state : goal.returns-then-is_err-2-clause-state
returns-then-is_err-2-clause-state g c =
    let F = g.F.Files.state in
    let passed = sym c.is_err.ensures.value ∙ c.if-is_err.false in
    let failed = sym c.is_err-2.ensures.value ∙ c.if-is_err-2.true in
    subst (λ f. FileFault f (F c.finish.new.self)) (when-passed c.write_file.result passed c.write_file.ensures.takes ∙ c.in-Ok.ensures.creates)
    (when-failed c.finish.result failed c.finish.ensures.failed)

-- it was finished
pub returns-clause-state : goal.returns-clause-state
returns-clause-state g c =
    let F = g.F.Files.state in
    let written = sym c.is_err.ensures.value ∙ c.if-is_err.false in
    let finished = sym c.is_err-2.ensures.value ∙ c.if-is_err-2.false in
    dump-done (F c.args.files.now) (F c.create.new.self) (F c.write_file.new.files) (F c.finish.new.self) c.in-Ok.slot (g.met.F.Files.places c.args.files.now)
    c.in-Ok.ensures.place c.in-Ok.ensures.creates (when-passed c.write_file.result written c.write_file.ensures.takes) (when-passed c.finish.result finished c.finish.ensures.finishes)
