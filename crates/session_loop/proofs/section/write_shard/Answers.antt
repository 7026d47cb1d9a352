use Rattle.std.proofs.Common.{refl}
use Rattle.std.specs.Prelude.{flat_map}
use Rattle.journal_text.specs.Spelling.{entry_line}
use Rattle.session_loop.specs.inner.Growing.{shard_line}
use Rattle.session_loop.proofs.Growing.{handed-behind, file-part-none, records-pushed}
use Rattle.session_loop.proofs.section.write_shard.Goals as goal

pub returns-in_err-push_shard : goal.returns-in_err-push_shard
returns-in_err-push_shard g c = handed-behind _ _ _ c.from_residual.result c.from_residual.ensures.1 (record { begun = file-part-none (g.F.Files.made c.args.files.now) 0 _; state = refl })

pub returns : goal.returns
returns g c =
    records-pushed _ _ _ _ c.args.text.now.items (shard_line c.args.number) (flat_map entry_line c.args.entries.now) _ c.in_ok-push_shard.ensures c.write_lines.result c.write_lines.ensures
