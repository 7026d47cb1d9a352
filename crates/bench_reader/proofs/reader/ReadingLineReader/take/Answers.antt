use Rattle.std.proofs.Common.{◌≡◌, ℕ, List, ap, ◌∙◌}
use Rattle.std.specs.Borrow.{Bor}
use Rattle.bench_reader.specs.Lines.{line_of}
use Rattle.bench_reader.specs.Views.{view}
use Rattle.bench_reader.proofs.Forms.{line_is}
use Rattle.bench_reader.proofs.Loop.{answered}
use Rattle.bench_reader.proofs.reader.ReadingLineReader.take.Goals as goal

pub returns : goal.returns
returns c before read count =
    let pins = c.as_slice.result.now in
    let same : view pins c.in_ok-form.form ≡ line_of c.args.line.now = ap (λ (p : List (Bor (List ℕ))). view p c.in_ok-form.form) c.as_slice.ensures ∙ c.in_ok-form.ensures ∙ line_is c.args.line.now in
    answered before (view pins c.in_ok-form.form) (line_of c.args.line.now) c.take_form.new.self c.args.number c.take_form.result same (c.take_form.ensures.steps before read.1 count) c.take_form.ensures.sound
