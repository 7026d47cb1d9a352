-- What a dump shows of a batch: a wire for each wave in its replies, in the order of its items.
use Rattle.std.specs.Prelude.{ℕ, List, [], ◌∷◌, ◌++◌, Option, Some, None}
use Rattle.circuit_meaning.specs.Circuit.{Circuit}
use Rattle.query_lines.specs.declared.line.Window.{Window}
use Rattle.query_lines.specs.declared.unit.Item.{Item}
use Rattle.query_lines.specs.Units.{asked_window}
use Rattle.reply_lines.specs.declared.reply.Outcome.TheVariants.{Answer}
use Rattle.reply_lines.specs.declared.reply.Reply.{Reply}
use Rattle.reply_lines.specs.declared.reply.Reply.TheVariants as replies
use Rattle.design.specs.Joined.{Joined}
use Rattle.vcd_answers.specs.Wires.{Wire, wire_of_query}
use Rattle.session_meaning.specs.declared.Verdict.{Verdict}
use Rattle.session_meaning.specs.declared.Verdict.TheVariants.{Ask}
use Rattle.session_meaning.specs.Verdicts.{verdict}

-- the wire of a reply that is a wave, for this window; another reply has none
abbrev pub wire_of : Circuit → Window → Verdict → Reply → List Wire
wire_of c window (Ask query) (replies.Window (Answer runs)) = wire_of_query window.name c query.signal query.from query.to ∷ []
wire_of c window verdict reply = []

-- the same for the reply to an item; a bad line has none
abbrev pub item_wire : Joined → ℕ → Option Window → Reply → List Wire
item_wire d line None reply = []
item_wire d line (Some window) reply = wire_of d.circuit window (verdict d line window) reply

-- the wires of the replies to these items
abbrev pub wires_of : Joined → List Item → List Reply → List Wire
wires_of d [] replies = []
wires_of d (item ∷ items) [] = []
wires_of d (item ∷ items) (reply ∷ replies) = item_wire d item.line (asked_window item.what) reply ++ wires_of d items replies
