-- The waves of a batch, as a dump shows them.
use Rattle.std.proofs.Common.{◌≡◌, ℕ, zero, suc, ◌+◌, ◌<◌, ◌≤◌, List, [], ◌∷◌, ◌++◌, length, get_or, take, Option, Some, None, option_map, refl, sym, ap, ap₂, subst, ◌∙◌, append_assoc, append-nil, arith, IsTrue}
use Rattle.std.proofs.lemmas.Slice.Zip.{AllZip-long}
use Rattle.std.specs.List.{AllZip, list_all}
use Rattle.std.proofs.lemmas.List.{take_all}
use Rattle.cell_store.specs.Recency.{Contents}
use Rattle.circuit_meaning.specs.declared.Run.{Run}
use Rattle.circuit_meaning.specs.Circuit.{Circuit}
use Rattle.circuit_meaning.specs.Forward.{wave}
use Rattle.journal_meaning.specs.declared.Entry.{Entry}
use Rattle.journal_meaning.specs.Sections.{of_batch}
use Rattle.query_lines.specs.declared.line.Window.{Window}
use Rattle.query_lines.specs.declared.unit.Item.{Item}
use Rattle.query_lines.specs.Units.{asked_window}
use Rattle.reply_lines.specs.declared.reply.Reply.{Reply}
use Rattle.reply_lines.specs.declared.reply.Reply.TheVariants as replies
use Rattle.reply_lines.specs.declared.reply.Outcome.TheVariants as outcomes
use Rattle.reply_lines.specs.declared.reply.Outcome.TheVariants.{Answer, Budget}
use Rattle.design.specs.Joined.{Joined}
use Rattle.vcd_answers.specs.Wires.{Wire, wire_of_query, is_wire, AreWires}
use Rattle.session_meaning.specs.Dumps.{wire_of, item_wire, wires_of}
use Rattle.session_meaning.specs.declared.Verdict.{Verdict}
use Rattle.session_meaning.specs.declared.Verdict.TheVariants.{Ask, Unknown, Past}
use Rattle.session_meaning.specs.Verdicts.{verdict, verdict_of}
use Rattle.session_meaning.specs.Replies.{IsReply}
use Rattle.session_meaning.specs.Session.{Setup}
use Rattle.session_meaning.proofs.Callers.{window-asks, wires-few}
use Rattle.unit_answers.specs.Done.{IsBatchDone}
use Rattle.unit_answers.specs.Dumps.{AreRunsOf, IsOwnWave, AreReplied}
use Rattle.unit_answers.proofs.Windows.{query-times}
use Rattle.unit_answers.proofs.Zips.{zip-get, zip-weaker}

-- the wave of a window that is asked
pub record IsAskedWave (c : Circuit) (window : Window) (v : Verdict) (runs : List Run) : Type 0 where
  pub signal : ℕ
  pub within : window.to ≤ c.horizon + 1
  pub shows : runs ≡ wave c signal window.from window.to
  pub wire : wire_of c window v (replies.Window (Answer runs)) ≡ wire_of_query window.name c signal window.from window.to ∷ []

asked-by : (d : Joined) (line : ℕ) (window : Window) (runs : List Run) (v : Verdict) → verdict d line window ≡ v → AreRunsOf d.circuit (Some v) runs → IsAskedWave d.circuit window v runs
asked-by d line window runs (Ask q) is h =
    let w = query-times d line window q is in
    record {
      signal = q.signal;
      within = (let low = (window-asks d line window q is).within in let to = w.to_is in omega arith);
      shows = h ∙ ap₂ (wave d.circuit q.signal) w.from_is w.to_is;
      wire = ap₂ (λ from to. wire_of_query window.name d.circuit q.signal from to ∷ []) w.from_is w.to_is;
    }
asked-by d line window runs Unknown is h = absurd h
asked-by d line window runs Past is h = absurd h

-- a wave that was replied to an item is that of the item's window
pub asked-wave : (d : Joined) (item : Item) (window : Window) (reply : Reply) (runs : List Run) → asked_window item.what ≡ Some window → reply ≡ replies.Window (Answer runs) → IsOwnWave d.circuit (verdict_of d item) reply
    → IsAskedWave d.circuit window (verdict d item.line window) runs
asked-wave d item window reply runs at is h =
    asked-by d item.line window runs (verdict d item.line window) refl
    (subst (λ w. AreRunsOf d.circuit (option_map (verdict d item.line) w) runs) at (subst (IsOwnWave d.circuit (verdict_of d item)) is h))

-- the wires of one item
abbrev wires-at : Joined → Item → Reply → List Wire
wires-at d item reply = item_wire d item.line (asked_window item.what) reply

-- the wires of the first items, and of one more
pub wires-more : (d : Joined) (items : List Item) (replies : List Reply) (i : ℕ) (a : Item) (b : Reply) → i < length items → i < length replies
    → wires_of d (take (i + 1) items) (take (i + 1) replies) ≡ wires_of d (take i items) (take i replies) ++ wires-at d (get_or items i a) (get_or replies i b)
wires-more d [] replies i a b l m = absurd (omega (arith, l))
wires-more d (x ∷ items) [] i a b l m = absurd (omega (arith, m))
wires-more d (x ∷ items) (y ∷ replies) zero a b l m = append-nil (wires-at d x y)
wires-more d (x ∷ items) (y ∷ replies) (suc i) a b l m =
    let next : suc i + 1 ≡ suc (i + 1) = omega arith in
    ap (λ n. wires_of d (take n (x ∷ items)) (take n (y ∷ replies))) next
    ∙ ap (λ t. wires-at d x y ++ t) (wires-more d items replies i a b (omega (arith, l)) (omega (arith, m)))
    ∙ sym (append_assoc (wires-at d x y) (wires_of d (take i items) (take i replies)) (wires-at d (get_or items i a) (get_or replies i b)))

-- a right reply that is a wave is that of what is asked
own-wave : (c : Circuit) (es : List Entry) (v : Option Verdict) (reply : Reply) → IsReply c es v reply → IsOwnWave c v reply
own-wave c es (Some (Ask q)) (replies.Window (Answer runs)) h = h.0
own-wave c es (Some Unknown) (replies.Window (Answer runs)) h = absurd h
own-wave c es (Some Past) (replies.Window (Answer runs)) h = absurd h
own-wave c es None (replies.Window (Answer runs)) h = absurd h
own-wave c es v (replies.Window (Budget budget)) h = tt
own-wave c es v (replies.Window outcomes.Unknown) h = tt
own-wave c es v (replies.Window outcomes.Past) h = tt
own-wave c es v replies.BadLine h = tt

-- the waves that a batch was replied are those of what its items ask
pub done-waves : (setup : Setup) (items : List Item) (opening : List Contents) (replies : List Reply) (lists : List (List Entry)) (left : List Contents) → IsBatchDone setup items opening replies lists left
    → AllZip (λ item reply. IsOwnWave setup.design.circuit (verdict_of setup.design item) reply) items replies
done-waves setup items opening replies lists left h =
    let c = setup.design.circuit in
    let d = setup.design in
    zip-weaker (λ item reply. IsReply c (of_batch lists) (verdict_of d item) reply) (λ item reply. IsOwnWave c (verdict_of d item) reply)
    (λ item reply. own-wave c (of_batch lists) (verdict_of d item) reply) items replies h.right

-- the wires of the first items, each of which a dump can hold
pub record AreShown (d : Joined) (items : List Item) (replies : List Reply) (i : ℕ) (wires : List Wire) : Type 0 where
  pub are : wires ≡ wires_of d (take i items) (take i replies)
  pub sound : IsTrue (list_all is_wire wires)

module _ (d : Joined) (items : List Item) (replies : List Reply) where
  -- before the first item there is none
  pub none-shown : (wires : List Wire) → wires ≡ [] → AreShown d items replies 0 wires
  none-shown wires is = subst (AreShown d items replies 0) (sym is) (record { are = refl; sound = refl })

  -- a batch has as many replies as items
  pub as-many : AreReplied d items replies → length items ≡ length replies
  as-many h = sym (AllZip-long (λ item reply. IsOwnWave d.circuit (verdict_of d item) reply) items replies h.waves)

  -- the reply at a place, if it is a wave, is that of the item there
  pub own-at : (i : ℕ) (x : Item) (y : Reply) → AreReplied d items replies → i < length items → x ≡ get_or items i x → y ≡ get_or replies i y
      → IsOwnWave d.circuit (verdict_of d x) y
  own-at i x y h low at also =
      subst (λ (a : Item). IsOwnWave d.circuit (verdict_of d a) y) (sym at)
      (subst (λ (b : Reply). IsOwnWave d.circuit (verdict_of d (get_or items i x)) b) (sym also)
      (zip-get (λ item reply. IsOwnWave d.circuit (verdict_of d item) reply) items replies i x y h.waves low))

  -- with the wires of one more item they are those of one item more
  pub more-shown : (i : ℕ) (x : Item) (y : Reply) (wires next : List Wire) → AreReplied d items replies → i < length items → x ≡ get_or items i x → y ≡ get_or replies i y
      → AreShown d items replies i wires → next ≡ wires ++ wires-at d x y → IsTrue (list_all is_wire next) → AreShown d items replies (i + 1) next
  more-shown i x y wires next h low at also shown is sound =
      let many = as-many h in
      let here : wires-at d x y ≡ wires-at d (get_or items i x) (get_or replies i y) =
      ap (λ a. wires-at d a y) at ∙ ap (wires-at d (get_or items i x)) also in
      record {
        are = is ∙ ap (λ w. w ++ wires-at d x y) shown.are ∙ ap (λ w. wires_of d (take i items) (take i replies) ++ w) here
            ∙ sym (wires-more d items replies i x y low (omega arith));
        sound = sound;
      }

  module _ (h : AreReplied d items replies) (i : ℕ) (wires : List Wire) (shown : AreShown d items replies i wires) (last : length items ≤ i) where
    -- behind the last item they are those of the batch
    pub all-shown : wires ≡ wires_of d items replies
    all-shown =
        let many = as-many h in
        shown.are ∙ ap (λ l. wires_of d l (take i replies)) (take_all i items (omega arith)) ∙ ap (wires_of d items) (take_all i replies (omega arith))

    -- and a dump can hold them
    pub shown-wires : AreWires wires
    shown-wires = record {
      few = (let few = wires-few d items replies in let most = h.within.most in let all = ap length all-shown in omega arith);
      each = shown.sound;
    }
