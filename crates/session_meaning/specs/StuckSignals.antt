-- The waveform with a stuck signal, and which reply to the question is right.
use Rattle.std.specs.Prelude.{◌≡◌, ⊤, ◌⊎◌, ℕ, List, [], ◌∷◌, All, Contains, Option, Some, None}
use Rattle.valid_intervals.specs.declared.Cell.{Cell}
use Rattle.valid_intervals.specs.declared.Point.{Point}
use Rattle.circuit_meaning.specs.Circuit.{Circuit}
use Rattle.circuit_meaning.specs.Forced.{forced_circuit, IsFree}
use Rattle.circuit_meaning.specs.Forward.{wave}
use Rattle.circuit_meaning.specs.Need.{children, IsRoot}
use Rattle.journal_meaning.specs.declared.batch.Query.{Query}
use Rattle.journal_meaning.specs.Batches.{Batch, Site, window_of}
use Rattle.journal_meaning.specs.declared.Entry.{Entry}
use Rattle.journal_meaning.specs.declared.Entry.TheVariants.{Claimed, Filled}
use Rattle.journal_meaning.specs.Answers.{IsCovered, ChildrenCovered, IsSpent}
use Rattle.journal_meaning.specs.Grown.{IsSaid}
use Rattle.journal_meaning.specs.Replay.{IsLegalBatch}
use Rattle.circuit_meaning.specs.declared.Run.{Run}
use Rattle.reply_lines.specs.declared.reply.Outcome.{Outcome}
use Rattle.reply_lines.specs.declared.reply.QuestionReply.{QuestionReply}
use Rattle.reply_lines.specs.declared.reply.QuestionReply.TheVariants as told
use Rattle.session_meaning.specs.declared.Verdict.{Verdict}
use Rattle.session_meaning.specs.declared.Verdict.TheVariants.{Ask}
use Rattle.session_meaning.specs.Replies.{IsOutcome}

-- The question is asked of two memos: the session's memo for what is free of the site, and a second memo for all else. The second memo is
-- one shard. It begins empty and ends with the question.

-- the circuit in which the site is stuck
abbrev pub stuck_circuit : Circuit → Site → Circuit
stuck_circuit c site = forced_circuit c site.signal site.value

-- the batch of the second memo
abbrev pub held_batch : Circuit → Site → Query → Batch
held_batch c site query = record { circuit = stuck_circuit c site; shards = 1; capacity = 65536; queries = query ∷ []; site = None }

-- The point has a base answer in the stuck circuit, or an entry of the second memo says its cell, or it is free of the site and an entry of
-- the session's memo says its cell.
abbrev pub IsCoveredBy : Circuit → Site → List Entry → List Entry → Point → Type 0
IsCoveredBy c site es own p = IsCovered (stuck_circuit c site) own p ⊎ (IsFree c site.signal p.signal × IsSaid es p)

-- The query is closed over the entries of both memos: its roots are covered, and so are the children of every point evaluated in either.
pub record IsClosedBy (c : Circuit) (site : Site) (es own : List Entry) (q : Query) : Type 0 where
  pub roots : (t : ℕ) → IsRoot (stuck_circuit c site) (window_of q) t → IsCoveredBy c site es own (record { signal = q.signal; time = t })
  pub children : (p : Point) (x : Cell) → Contains own (Filled q.number p x) → All (IsCoveredBy c site es own) (children (stuck_circuit c site) p.signal p.time)
  pub free : ChildrenCovered c es q.number

-- The answer, over the entries of both memos: the wave in the stuck circuit, and the query is closed.
abbrev pub IsStuckWave : Circuit → Site → List Entry → List Entry → Query → List Run → Type 0
IsStuckWave c site es own q runs = (runs ≡ wave (stuck_circuit c site) q.signal q.from q.to) × IsClosedBy c site es own q

-- The outcome, by the verdict on the window: the answer; or the entries of one memo hold the cause of its refusal.
abbrev pub IsStuckOutcome : Circuit → Site → List Entry → List Entry → Verdict → Outcome (List Run) → Type 0
IsStuckOutcome c site es own verdict outcome = IsOutcome (IsStuckWave c site es own) (λ q. IsSpent es q ⊎ IsSpent own q) verdict outcome

-- the second memo evaluates nothing that is free of the site
abbrev pub NoneIsFree : Circuit → Site → List Entry → Type 0
NoneIsFree c site own = (q : ℕ) (p : Point) → Contains own (Claimed q p) → IsFree c site.signal p.signal → ⊥

-- what the second memo records of a query
pub record IsHeldJournal (c : Circuit) (site : Site) (query : Query) (own : List Entry) : Type 0 where
  pub legal : IsLegalBatch (held_batch c site query) 0 [] own
  pub reached : NoneIsFree c site own

-- The reply to the question, by its site.
abbrev pub IsStuckReply : Circuit → List Entry → List Entry → Verdict → Option Site → QuestionReply → Type 0
IsStuckReply c es own verdict (Some site) (told.Stuck outcome) = IsStuckOutcome c site es own verdict outcome
IsStuckReply c es own verdict None told.UnknownSite = ⊤
IsStuckReply c es own verdict site reply = ⊥

-- The lists of the second memo: that of its one shard if a query is asked, and none otherwise.
abbrev pub IsHeldMemo : Circuit → Option Site → Verdict → List (List Entry) → Type 0
IsHeldMemo c (Some site) (Ask query) lists = (own : List Entry) × (lists ≡ own ∷ []) × IsHeldJournal c site query own
IsHeldMemo c site verdict lists = lists ≡ []
