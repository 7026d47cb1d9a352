use Rattle.std.proofs.Common.{◌≡◌, refl, sym, ap, subst, ◌∙◌, rules}
use Rattle.std.proofs.lemmas.Grind.{common_steps}
use Rattle.std.specs.Prelude.{[], flat_map}
use Rattle.std.specs.Slice.Iter.{chunks_rest}
use Rattle.std.proofs.lemmas.List.Concat.{flat_map-append}
use Rattle.backsim_io.specs.FilesInMemory.{FileGrows}
use Rattle.journal_text.specs.Spelling.{entry_line}
use Rattle.session_loop.specs.Outside.{JournalStops}
use Rattle.session_loop.specs.inner.Growing.{KeepsBack}
use Rattle.session_loop.proofs.Growing.{handed-part, left-all, left-less, left-part, left-none}
use Rattle.session_loop.proofs.section.write_blocks.Goals as goal

pub loop-block-init : goal.loop-block-init
loop-block-init g c =
    let u = g.F.Files.made c.args.files.now in
    let lines = flat_map entry_line c.args.entries.now in
    let all : chunks_rest c.into_iter-block-iterator.result ≡ c.args.entries.now = search rules in
    record {
      next = search rules;
      finite = tt;
      left = subst (λ l. KeepsBack (FileGrows u u 0) [] lines (flat_map entry_line l)) (sym all) (left-all u 0 lines);
      same = refl;
    }

pub loop-block-preserved : goal.loop-block-preserved
loop-block-preserved g c =
    let M = g.F.Files.made in
    let block = c.in-Some.block.now in
    let rest = chunks_rest c.next.new.self in
    let held = c.loop-block.invariant in
    let done = c.in_ok-write_block.ensures in
    record {
      next = search rules;
      finite = tt;
      left = left-less (M c.args.files.now) 0 (flat_map entry_line c.args.entries.now) (M c.loop-block.files) (M c.write_block.new.files)
          (flat_map entry_line (chunks_rest c.loop-block.block-iterator)) (flat_map entry_line block) (flat_map entry_line rest) held.left
          (ap (flat_map entry_line) c.in-Some.ensures.steps.1.0 ∙ flat_map-append entry_line block rest) done.written;
      same = done.state ∙ held.same;
    }

pub returns-in_err-write_block : goal.returns-in_err-write_block
returns-in_err-write_block g c =
    let M = g.F.Files.made in
    let block = c.in-Some.block.now in
    let rest = chunks_rest c.next.new.self in
    handed-part c.from_residual.result c.from_residual.ensures.1 (record {
      begun = left-part (M c.args.files.now) 0 (flat_map entry_line c.args.entries.now) (M c.loop-block.files) (M c.write_block.new.files)
          (flat_map entry_line (chunks_rest c.loop-block.block-iterator)) (flat_map entry_line block) (flat_map entry_line rest) c.loop-block.invariant.left
          (ap (flat_map entry_line) c.in-Some.ensures.steps.1.0 ∙ flat_map-append entry_line block rest) c.in_err-write_block.ensures.begun;
      state = subst (λ f. JournalStops f (g.F.Files.state c.write_block.new.files) c.in_err-write_block.field-0.0) c.loop-block.invariant.same c.in_err-write_block.ensures.state;
    })

-- none is left
pub returns : goal.returns
returns g c =
    let M = g.F.Files.made in
    let none : chunks_rest c.loop-block.block-iterator ≡ [] = search (rules, common_steps) in
    record {
      written = left-none (FileGrows (M c.args.files.now) (M c.loop-block.files) 0) (flat_map entry_line c.args.entries.now) _ c.loop-block.invariant.left (ap (flat_map entry_line) none);
      state = c.loop-block.invariant.same;
    }
