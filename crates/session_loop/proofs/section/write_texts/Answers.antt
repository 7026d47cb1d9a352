use Rattle.std.proofs.Common.{ℕ, ◌+◌, refl, arith, ap, subst, ◌∙◌, drop}
use Rattle.std.proofs.lemmas.List.{drop_all}
use Rattle.std.specs.Prelude.{flat_map}
use Rattle.backsim_io.specs.FilesInMemory.{FileGrows}
use Rattle.session_loop.specs.Outside.{JournalStops}
use Rattle.session_loop.specs.inner.Growing.{FileGrowsPart}
use Rattle.session_loop.proofs.Growing.{handed-part, left-all, left-less, left-part, left-none}
use Rattle.session_loop.proofs.Pieces.{texts-left}
use Rattle.session_loop.proofs.section.write_texts.Goals as goal

pub loop-text-init : goal.loop-text-init
loop-text-init g c = record { left = left-all (g.F.Files.made c.args.files.now) 0 (flat_map (λ text. text.items) c.args.texts.now); same = refl }

pub loop-text-preserved : goal.loop-text-preserved
loop-text-preserved g c =
    let M = g.F.Files.made in
    let slot : ℕ = 0 in
    let texts = c.args.texts.now in
    let i = c.loop-text.text-index in
    let text = c.text-item.result in
    let held = c.loop-text.invariant in
    let done = c.in_ok-write_piece.ensures in
    record {
      left = left-less (M c.args.files.now) slot (flat_map (λ text. text.items) texts) (M c.loop-text.files) (M c.write_piece.new.files)
          (flat_map (λ text. text.items) (drop i texts)) text.items (flat_map (λ text. text.items) (drop (i + 1) texts)) held.left
          (texts-left (λ text. text.items) texts i text c.loop-text-test.true c.text-item.is)
          (subst (FileGrows (M c.loop-text.files) (M c.write_piece.new.files) slot) c.as_slice.ensures.value done.written);
      same = done.state ∙ held.same;
    }

pub returns-in_err-write_piece : goal.returns-in_err-write_piece
returns-in_err-write_piece g c =
    let M = g.F.Files.made in
    let slot : ℕ = 0 in
    let texts = c.args.texts.now in
    let i = c.loop-text.text-index in
    let text = c.text-item.result in
    handed-part c.from_residual.result c.from_residual.ensures.1 (record {
      begun = left-part (M c.args.files.now) slot (flat_map (λ text. text.items) texts) (M c.loop-text.files) (M c.write_piece.new.files)
          (flat_map (λ text. text.items) (drop i texts)) text.items (flat_map (λ text. text.items) (drop (i + 1) texts)) c.loop-text.invariant.left
          (texts-left (λ text. text.items) texts i text c.loop-text-test.true c.text-item.is)
          (subst (FileGrowsPart (M c.loop-text.files) (M c.write_piece.new.files) slot) c.as_slice.ensures.value c.in_err-write_piece.ensures.begun);
      state = subst (λ f. JournalStops f (g.F.Files.state c.write_piece.new.files) c.in_err-write_piece.field-0.0) c.loop-text.invariant.same c.in_err-write_piece.ensures.state;
    })

-- none is left
pub returns : goal.returns
returns g c =
    let M = g.F.Files.made in
    record {
      written = left-none (FileGrows (M c.args.files.now) (M c.loop-text.files) 0) (flat_map (λ text. text.items) c.args.texts.now) _ c.loop-text.invariant.left
          (ap (flat_map (λ text. text.items)) (drop_all c.loop-text.text-index c.args.texts.now (omega (arith, c.loop-text-test.false))));
      state = c.loop-text.invariant.same;
    }
