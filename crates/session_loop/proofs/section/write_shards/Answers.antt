use Rattle.std.proofs.Common.{ℕ, ◌+◌, ◌++◌, refl, ap, sym, subst, ◌∙◌, take, drop, arith}
use Rattle.std.proofs.lemmas.List.{take_all}
use Rattle.std.specs.Prelude.{flat_map}
use Rattle.backsim_io.specs.FilesInMemory.{FileGrows}
use Rattle.journal_text.specs.Spelling.{entry_line, shard_lines}
use Rattle.session_loop.specs.Outside.{JournalStops}
use Rattle.session_loop.specs.inner.Growing.{FileGrowsPart, KeepsBack, shard_line}
use Rattle.session_loop.proofs.Growing.{handed-behind, file-none, file-more, file-part-after, file-part-longer, keeps-none, keeps-more, keeps-part}
use Rattle.session_loop.proofs.Pieces.{shards-next, shards-after}
use Rattle.session_loop.proofs.section.write_shards.Goals as goal

pub loop-list-init : goal.loop-list-init
loop-list-init g c =
    let M = g.F.Files.made in
    record {
      number = refl;
      keeps_back = keeps-none (FileGrows (M c.args.files.now) (M c.args.files.now) 0) (file-none (M c.args.files.now) 0) c.args.text.now.items;
      same = refl;
    }

pub loop-list-preserved : goal.loop-list-preserved
loop-list-preserved g c =
    let M = g.F.Files.made in
    let u = M c.args.files.now in
    let v = M c.loop-list.files in
    let w = M c.write_shard.new.files in
    let slot : ℕ = 0 in
    let lists = c.args.lists.now in
    let i = c.loop-list.list-index in
    let es = c.list-item.result in
    let held = c.loop-list.invariant in
    let done = c.in_ok-write_shard.ensures in
    record {
      number = omega (arith, held.number);
      keeps_back = subst (λ l. KeepsBack (FileGrows u w slot) c.args.text.now.items l c.write_shard.new.text.items) (sym (shards-next lists i es c.loop-list-test.true c.list-item.is))
          (keeps-more (FileGrows u v slot) c.args.text.now.items (shard_lines 0 (take i lists)) c.loop-list.text.items (shard_line i ++ flat_map entry_line es) held.keeps_back
          (FileGrows v w slot) (FileGrows u w slot) (file-more u v w slot) c.write_shard.new.text.items
          (subst (λ l. KeepsBack (FileGrows v w slot) c.loop-list.text.items (shard_line i ++ flat_map entry_line l) c.write_shard.new.text.items) c.as_slice.ensures
          (subst (λ n. KeepsBack (FileGrows v w slot) c.loop-list.text.items (shard_line n ++ flat_map entry_line c.as_slice.result.now) c.write_shard.new.text.items) held.number done.keeps_back)));
      same = done.state ∙ held.same;
    }

pub returns-in_err-write_shard : goal.returns-in_err-write_shard
returns-in_err-write_shard g c =
    let M = g.F.Files.made in
    let u = M c.args.files.now in
    let v = M c.loop-list.files in
    let w = M c.write_shard.new.files in
    let slot : ℕ = 0 in
    let lists = c.args.lists.now in
    let i = c.loop-list.list-index in
    let es = c.list-item.result in
    let held = c.loop-list.invariant in
    handed-behind _ _ _ c.from_residual.result c.from_residual.ensures.1 (record {
      begun = keeps-part (FileGrows u v slot) c.args.text.now.items (shard_lines 0 (take i lists)) c.loop-list.text.items (shard_line i ++ flat_map entry_line es) held.keeps_back
          (FileGrowsPart v w slot) (FileGrowsPart u w slot) (file-part-after u v w slot) (file-part-longer u w slot)
          (shard_lines (0 + (i + 1)) (drop (i + 1) lists)) (shard_lines 0 lists) (shards-after lists i es c.loop-list-test.true c.list-item.is)
          (subst (λ l. FileGrowsPart v w slot (c.loop-list.text.items ++ (shard_line i ++ flat_map entry_line l))) c.as_slice.ensures
          (subst (λ n. FileGrowsPart v w slot (c.loop-list.text.items ++ (shard_line n ++ flat_map entry_line c.as_slice.result.now))) held.number c.in_err-write_shard.ensures.begun));
      state = subst (λ f. JournalStops f (g.F.Files.state c.write_shard.new.files) c.in_err-write_shard.field-0.0) held.same c.in_err-write_shard.ensures.state;
    })

-- all lines were written or are kept back
pub returns : goal.returns
returns g c =
    let M = g.F.Files.made in
    record {
      keeps_back = subst (λ l. KeepsBack (FileGrows (M c.args.files.now) (M c.loop-list.files) 0) c.args.text.now.items l c.loop-list.text.items)
          (ap (shard_lines 0) (take_all c.loop-list.list-index c.args.lists.now (omega (arith, c.loop-list-test.false)))) c.loop-list.invariant.keeps_back;
      state = c.loop-list.invariant.same;
    }
