use Rattle.std.proofs.Common.{◌≡◌, [], subst, sym, ◌∙◌}
use Rattle.std.proofs.lemmas.Bool.{both_ways}
use Rattle.query_lines.specs.Readers.{Reader}
use Rattle.query_lines.proofs.Feeding.{last_none, last_line}
use Rattle.query_lines.proofs.script.ScriptReader.read_last.Goals as goal

pub returns-then-is_empty : goal.returns-then-is_empty
returns-then-is_empty c horizon script given read =
    last_none horizon script given c.from_vec.result c.args.self.now read (subst (λ (r : Reader). r.cutter.kept ≡ []) c.self.view_is (c.is_empty.ensures.0 c.if-is_empty.true)) (c.from_vec.ensures ∙ c.new.ensures.items)

pub returns : goal.returns
returns c horizon script given read =
    last_line horizon script given c.args.self.now c.read_under_way.new.self c.read_under_way.result read
    (λ none. both_ways c.is_empty.result c.if-is_empty.false (c.is_empty.ensures.1 (subst (λ (r : Reader). r.cutter.kept ≡ []) (sym c.self.view_is) none))) c.read_under_way.ensures.read
