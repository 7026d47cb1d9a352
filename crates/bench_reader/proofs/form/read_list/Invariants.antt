use Rattle.std.proofs.Common.{◌≡◌, length}
use Rattle.texts.specs.Text.{line_tokens}
use Rattle.bench_reader.specs.Lines.{pin_list}
use Rattle.bench_reader.specs.Views.{each_now}
use Rattle.bench_reader.proofs.Forms.{behind}
use Rattle.bench_reader.proofs.form.read_list.Given as goal

abbrev pub invariant-names : goal.invariant-names
invariant-names l = behind (each_now l.listed.items) (pin_list (line_tokens l.rest)) ≡ pin_list (line_tokens l.fn.bytes)

abbrev pub decreases-names : goal.decreases-names
decreases-names l = length (line_tokens l.rest)
