use Rattle.std.proofs.Common.{rules, refl, is_ok, length}
use Rattle.backsim_io.proofs.CreatedFiles.{grown_if, same_if, room-here}
use Rattle.backsim_io.proofs.memory_files.write_more.Goals as goal

pub returns-clause-grown : goal.returns-clause-grown
returns-clause-grown c = rw c.is_ok.ensures.value (grown_if (is_ok c.extend_from_slice.result) c.args.created.now.items c.args.place c.index_mut.result.now (c.index_mut.result.now.0, c.extend_from_slice.new.self) c.args.piece.now c.requires c.index_mut.ensures.value refl c.extend_from_slice.ensures.items)

pub returns-clause-none : goal.returns-clause-none
returns-clause-none c = rw c.is_ok.ensures.value (same_if (is_ok c.extend_from_slice.result) c.args.created.now.items c.args.place c.index_mut.result.now (c.index_mut.result.now.0, c.extend_from_slice.new.self) c.args.piece.now c.requires c.index_mut.ensures.value refl c.extend_from_slice.ensures.items)

pub returns-clause-room : goal.returns-clause-room
returns-clause-room c room =
    let fits = room-here c.args.created.now.items c.args.place (length c.args.piece.now) c.index_mut.result.now c.requires c.index_mut.ensures.value room in
    let taken = c.extend_from_slice.ensures.succeeds fits in
    search rules
