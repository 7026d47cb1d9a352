use Rattle.std.proofs.Common.{◌/◌, length, refl, arith}
use Rattle.std.proofs.lemmas.Option.{slice_get_read}
use Rattle.std.proofs.lemmas.Result.{on_ok_weaker}
use Rattle.cell_store.proofs.Pages.{longer_place}
use Rattle.cell_store.proofs.heads.make_place.Goals as goal

pub returns-clause-made : goal.returns-clause-made
returns-clause-made c =
    on_ok_weaker c.fill_page.result
    (λ long.
    longer_place c.loop-pages.pages.items (c.args.local / 64) c.index_mut.result.now c.fill_page.new.page
    (slice_get_read c.loop-pages.pages.items (length c.loop-pages.pages.items) (c.args.local / 64) c.index_mut.result.now refl (omega (arith, c.len.ensures, c.loop-pages-test.false)) c.index_mut.ensures.value) c.fill_page.ensures.same c.args.local refl long)
    c.fill_page.ensures.full
