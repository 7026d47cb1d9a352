-- Each dump of a session is the text of wires that a dump can hold.
use Rattle.std.proofs.Common.{◌≡◌, ℕ, ◌+◌, ◌≤◌, Bool, true, false, cond, nat_lt, List, [], ◌∷◌, length, All, Option, Some, None, refl, sym, subst, ◌∙◌, length-append, arith}
use Rattle.std.specs.Prelude.{⊤}
use Rattle.std.specs.List.{list_all}
use Rattle.std.proofs.lemmas.Bool.{and_from}
use Rattle.std.proofs.lemmas.List.Elements.{All-nil, All-head, All-tail, All-push}
use Rattle.std.proofs.lemmas.List.Folds.{list_all-append}
use Rattle.texts.specs.Made.{Made}
use Rattle.circuit_meaning.specs.Circuit.{Circuit}
use Rattle.circuit_meaning.specs.Forward.{value}
use Rattle.design.specs.Joined.{Joined}
use Rattle.texts.specs.Text.{is_name}
use Rattle.query_lines.specs.declared.line.What.{What}
use Rattle.query_lines.specs.declared.line.What.TheVariants as whats
use Rattle.query_lines.specs.declared.line.Window.{Window}
use Rattle.query_lines.specs.declared.unit.Item.{Item}
use Rattle.query_lines.specs.declared.unit.Unit.{Unit as ScriptUnit}
use Rattle.query_lines.specs.declared.unit.Unit.TheVariants as units
use Rattle.query_lines.specs.Units.{asked_window}
use Rattle.query_lines.specs.Fit.{AsksByName, IsFit}
use Rattle.reply_lines.specs.declared.reply.Outcome.TheVariants as outcomes
use Rattle.reply_lines.specs.declared.reply.Outcome.TheVariants.{Answer, Budget}
use Rattle.reply_lines.specs.declared.reply.Reply.{Reply}
use Rattle.reply_lines.specs.declared.reply.Reply.TheVariants as replies
use Rattle.reply_lines.specs.declared.reply.VcdReply.TheVariants as dumps
use Rattle.reply_lines.specs.Replies.{vcd_line}
use Rattle.vcd_answers.specs.Wires.{Wire, AreWires, is_wire, wire_of_query, shown_value}
use Rattle.vcd_answers.specs.Dumps.{vcd_of}
use Rattle.vcd_answers.proofs.Callers.{are_sound}
use Rattle.session_meaning.specs.declared.Verdict.{Verdict}
use Rattle.session_meaning.specs.declared.Verdict.TheVariants.{Ask, Unknown, Past}
use Rattle.session_meaning.specs.Verdicts.{verdict}
use Rattle.session_meaning.specs.Dumps.{wire_of, item_wire, wires_of}
use Rattle.session_meaning.specs.Session.{Setup, Course, IsServed, Session, Opened, Served, is_taken, with_reply, with_dump, with_last}
use Rattle.query_lines.proofs.Callers.{first-part, later-part}

-- ---- the wires of a batch

module _ (c : Circuit) (short : c.horizon ≤ 1000000) where
  answered-sound : (name : List ℕ) (s a b : ℕ) → is_name name ≡ true → is_wire (wire_of_query name c s a b) ≡ true
  answered-sound name s a b named = and_from _ _ named (are_sound (shown_value (value c s) a b) (c.horizon + 1) (omega (arith, short)))

  wire-sound : (window : Window) (verdict : Verdict) (reply : Reply) → is_name window.name ≡ true → list_all is_wire (wire_of c window verdict reply) ≡ true
  wire-sound window (Ask q) (replies.Window (Answer runs)) named = and_from _ _ (answered-sound window.name q.signal q.from q.to named) refl
  wire-sound window (Ask q) (replies.Window (Budget budget)) named = refl
  wire-sound window (Ask q) (replies.Window outcomes.Unknown) named = refl
  wire-sound window (Ask q) (replies.Window outcomes.Past) named = refl
  wire-sound window (Ask q) replies.BadLine named = refl
  wire-sound window Unknown reply named = refl
  wire-sound window Past reply named = refl

wire-few : (c : Circuit) (window : Window) (verdict : Verdict) (reply : Reply) → length (wire_of c window verdict reply) ≤ 1
wire-few c window (Ask q) (replies.Window (Answer runs)) = omega arith
wire-few c window (Ask q) (replies.Window (Budget budget)) = omega arith
wire-few c window (Ask q) (replies.Window outcomes.Unknown) = omega arith
wire-few c window (Ask q) (replies.Window outcomes.Past) = omega arith
wire-few c window (Ask q) replies.BadLine = omega arith
wire-few c window Unknown reply = omega arith
wire-few c window Past reply = omega arith

module _ (d : Joined) where
  item-sound : (line : ℕ) (what : What) (reply : Reply) → d.circuit.horizon ≤ 1000000 → AsksByName what → list_all is_wire (item_wire d line (asked_window what) reply) ≡ true
  item-sound line (whats.Window window tell) reply short named = wire-sound d.circuit short window (verdict d line window) reply named
  item-sound line whats.Bad reply short named = refl

  item-few : (line : ℕ) (window : Option Window) (reply : Reply) → length (item_wire d line window reply) ≤ 1
  item-few line None reply = omega arith
  item-few line (Some window) reply = wire-few d.circuit window (verdict d line window) reply

  -- a batch has as many wires as items at most
  pub wires-few : (items : List Item) (answers : List Reply) → length (wires_of d items answers) ≤ length items
  wires-few [] answers = omega arith
  wires-few (item ∷ items) [] = omega arith
  wires-few (item ∷ items) (reply ∷ answers) =
      let wire = item_wire d item.line (asked_window item.what) reply in
      omega (arith, length-append wire (wires_of d items answers), item-few item.line (asked_window item.what) reply, wires-few items answers)

  wires-sound : (items : List Item) (answers : List Reply) → d.circuit.horizon ≤ 1000000 → All (λ item. AsksByName item.what) items → list_all is_wire (wires_of d items answers) ≡ true
  wires-sound [] answers short named = refl
  wires-sound (item ∷ items) [] short named = refl
  wires-sound (item ∷ items) (reply ∷ answers) short named =
      let wire = item_wire d item.line (asked_window item.what) reply in
      list_all-append is_wire wire (wires_of d items answers)
      ∙ and_from _ _ (item-sound item.line item.what reply short (All-head (λ item. AsksByName item.what) item items named))
      (wires-sound items answers short (All-tail (λ item. AsksByName item.what) item items named))

  -- the wires of a batch whose items have names are wires that a dump can hold
  pub are-wires : (items : List Item) (answers : List Reply) → d.circuit.horizon ≤ 1000000 → length items ≤ 64 → All (λ item. AsksByName item.what) items → AreWires (wires_of d items answers)
  are-wires items answers short few named = record { few = omega (arith, few, wires-few items answers); each = wires-sound items answers short named }

-- ---- what holds throughout a session

-- the dump is the text of wires that a dump can hold
abbrev pub HoldsWires : Made → Type 0
HoldsWires dump = (wires : List Wire) × AreWires wires × (dump.bytes ≡ vcd_of wires)

-- so are the waves of the last batch, if there was one
abbrev pub AreLast : Option (List Wire) → Type 0
AreLast None = ⊤
AreLast (Some wires) = AreWires wires

-- both of these
pub record IsHeld (now : Course) : Type 0 where
  pub waves : AreLast now.waves
  pub dumps : All HoldsWires now.dumps

module _ (now : Course) (file : List ℕ) (held : IsHeld now) where
  held-with-reply : (text : List ℕ) → IsHeld (with_reply now text)
  held-with-reply text = record { waves = held.waves; dumps = held.dumps }

  held-with-room : (wires : List Wire) → AreWires wires → (room : Bool) → IsHeld (cond room (with_dump now file wires) (with_reply now (vcd_line file dumps.Full)))
  held-with-room wires are true = record {
    waves = held.waves;
    dumps = All-push HoldsWires now.dumps (record { name = file; bytes = vcd_of wires }) held.dumps (wires, are, refl);
  }
  held-with-room wires are false = held-with-reply (vcd_line file dumps.Full)

  held-with-last : (waves : Option (List Wire)) → AreLast waves → IsHeld (with_last now file waves)
  held-with-last None last = held-with-reply (vcd_line file dumps.NoBatch)
  held-with-last (Some wires) last = held-with-room wires last (nat_lt (length now.dumps) 3)

  held-with-name : (taken : Bool) → IsHeld (cond taken (with_reply now (vcd_line file dumps.Taken)) (with_last now file now.waves))
  held-with-name true = held-with-reply (vcd_line file dumps.Taken)
  held-with-name false = held-with-last now.waves held.waves

module _ (setup : Setup) (short : setup.design.circuit.horizon ≤ 1000000) where
  unit-held : (now next : Course) (unit : ScriptUnit) → IsServed setup now unit next → IsFit setup.design.circuit.horizon unit → IsHeld now → IsHeld next
  unit-held now next (units.Batch items) served fit held =
      subst (λ c. IsHeld c) (sym served.leads) (record { waves = are-wires setup.design items served.replies short fit.within.most fit.named; dumps = held.dumps })
  unit-held now next (units.Trim most) served fit held = subst (λ c. IsHeld c) (sym served.leads) (record { waves = held.waves; dumps = held.dumps })
  unit-held now next units.Stats served fit held = subst (λ c. IsHeld c) (sym served) (record { waves = held.waves; dumps = held.dumps })
  unit-held now next (units.Question question) served fit held = subst (λ c. IsHeld c) (sym served.leads) (record { waves = held.waves; dumps = held.dumps })
  unit-held now next (units.Vcd file) served fit held = subst (λ c. IsHeld c) (sym served) (held-with-name now file held (is_taken setup now file))

  pub session-held : (us : List ScriptUnit) (course : Course) → All (IsFit setup.design.circuit.horizon) us → Session setup us course → IsHeld course
  session-held us course fit Opened = record { waves = tt; dumps = All-nil HoldsWires }
  session-held us course fit (Served {units = before} {now = now} {next = next} unit session served) =
      let one = All-head (IsFit setup.design.circuit.horizon) unit [] (later-part (IsFit setup.design.circuit.horizon) before (unit ∷ []) fit) in
      unit-held now next unit served one (session-held before now (first-part (IsFit setup.design.circuit.horizon) before (unit ∷ []) fit) session)
