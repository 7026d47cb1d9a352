use Rattle.texts.specs.Text.{line_tokens}
use Rattle.bench_reader.specs.Lines.{pin_list}
use Rattle.bench_reader.proofs.Forms.{list_begun, list_longer}
use Rattle.bench_reader.proofs.form.read_list.Goals as goal

pub names-init : goal.names-init
names-init c = list_begun c.clear.new.self.items (pin_list (line_tokens c.args.bytes.now)) c.clear.ensures.items

pub names-preserved : goal.names-preserved
names-preserved c =
    list_longer c.names.listed.items c.push.new.self.items c.in-Some.found.0 _ _ _ c.in-Some-next_mark.found.0 _ c.in_ok-push.ensures.ok c.names.invariant c.in-Some.ensures.0 c.in-Some.ensures.1 c.in-Some-next_mark.ensures.0 c.if-mark-eq41.false c.if-mark-ne44.false
