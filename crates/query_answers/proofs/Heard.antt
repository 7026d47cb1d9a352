-- Where each evaluated point has heard its children.
use Rattle.std.proofs.Common.{ℕ, List, All}
use Rattle.std.proofs.lemmas.List.Elements.{All-weaker, All-from_recursion}
use Rattle.valid_intervals.specs.declared.SignalCell.{SignalCell}
use Rattle.circuit_meaning.specs.Circuit.{Circuit}
use Rattle.circuit_meaning.specs.Need.{children}
use Rattle.journal_meaning.specs.declared.Entry.{Entry}
use Rattle.journal_meaning.specs.declared.Entry.TheVariants.{Filled}
use Rattle.journal_meaning.specs.Answers.{IsCovered}
use Rattle.journal_meaning.specs.Grown.{GrowsBy}
use Rattle.journal_meaning.proofs.Callers.{covered-kept, children-kept}
use Rattle.journal_meaning.specs.Batches.{Batch}
use Rattle.journal_meaning.specs.Lawful.{IsLawful}
use Rattle.plan_machine.specs.Standings.{IsVisited, IsDrop}
use Rattle.plan_machine.specs.Settle.{AreShards, AreFreed}
use Rattle.plan_machine.specs.Settling.{fills_of}
use Rattle.plan_machine.proofs.Callers.{all-freed, fills-each, each-contains}
use Rattle.memo_shards.specs.KeptShards.{KeptShard}
use Rattle.plan_core.specs.InTurn.{AllChildrenCovered}
use Rattle.plan_core.specs.Parts.{shards_in}
use Rattle.plan_core.specs.asked.Memos.{entries_of}

-- what a query evaluated is visited, and stays so
pub fills-heard : (c : Circuit) (start added now : List Entry) → GrowsBy start added now → AllChildrenCovered c start → (q : ℕ) → All (IsVisited c now) (fills_of start q)
fills-heard c start added now g h q =
    All-from_recursion (IsVisited c now) (fills_of start q) (fills-each (IsVisited c now) q start (λ p x k. All-weaker (IsCovered c start) (IsCovered c now) (covered-kept start added now g c) (children c p.signal p.time) (h q p x k)))

-- the claims that are freed evaluate nothing
pub freed-heard : (b : Batch) → IsLawful b → (opening : ℕ → List SignalCell) (handed begun : List KeptShard) → AreShards b opening (shards_in handed) → AreFreed (shards_in handed) (shards_in begun) → AllChildrenCovered b.circuit (entries_of handed)
    → AllChildrenCovered b.circuit (entries_of begun)
freed-heard b lawful opening handed begun are f h =
    let r = all-freed b lawful opening (shards_in handed) (shards_in begun) are f in
    λ q. children-kept (entries_of handed) r.added (entries_of begun) r.journals.together b.circuit q (h q) (λ p x k. absurd (each-contains IsDrop r.added (Filled q p x) r.drops k))
