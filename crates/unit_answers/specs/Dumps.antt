-- What a dump of a batch's waves is made of.
use Rattle.std.specs.Prelude.{◌≡◌, ⊤, List, All, Option, Some}
use Rattle.std.specs.List.{AllZip}
use Rattle.circuit_meaning.specs.declared.Run.{Run}
use Rattle.circuit_meaning.specs.Circuit.{Circuit}
use Rattle.circuit_meaning.specs.Forward.{wave}
use Rattle.query_lines.specs.declared.unit.Item.{Item}
use Rattle.query_lines.specs.Fit.{AsksByName}
use Rattle.query_lines.specs.Laws.{IsWithin}
use Rattle.reply_lines.specs.declared.reply.Reply.{Reply}
use Rattle.reply_lines.specs.declared.reply.Reply.TheVariants.{Window}
use Rattle.reply_lines.specs.declared.reply.Outcome.TheVariants.{Answer}
use Rattle.design.specs.Joined.{Joined}
use Rattle.session_meaning.specs.declared.Verdict.{Verdict}
use Rattle.session_meaning.specs.declared.Verdict.TheVariants.{Ask}
use Rattle.session_meaning.specs.Verdicts.{verdict_of}

-- these are the runs of the query's wave
abbrev pub AreRunsOf : Circuit → Option Verdict → List Run → Type 0
AreRunsOf c (Some (Ask query)) runs = runs ≡ wave c query.signal query.from query.to
AreRunsOf c verdict runs = ⊥

-- a reply that is a wave is that of the query
abbrev pub IsOwnWave : Circuit → Option Verdict → Reply → Type 0
IsOwnWave c verdict (Window (Answer runs)) = AreRunsOf c verdict runs
IsOwnWave c verdict reply = ⊤

-- A batch's items, whose names follow the rules, and the replies to them. Each wave is that of its item's query.
pub record AreReplied (d : Joined) (items : List Item) (answers : List Reply) : Type 0 where
  pub within : IsWithin d.circuit.horizon items
  pub named : All (λ item. AsksByName item.what) items
  pub waves : AllZip (λ item reply. IsOwnWave d.circuit (verdict_of d item) reply) items answers
