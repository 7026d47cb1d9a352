-- Each dump of a session shows the waves of the last batch before its line.
use Rattle.std.proofs.Common.{◌≡◌, ℕ, Bool, true, false, cond, nat_lt, List, [], ◌∷◌, length, Option, Some, None, refl, sym, ap, subst, ◌∙◌, inl, inr}
use Rattle.texts.specs.Made.{Made}
use Rattle.query_lines.specs.declared.unit.Unit.{Unit as ScriptUnit}
use Rattle.query_lines.specs.declared.unit.Unit.TheVariants as units
use Rattle.query_lines.specs.Fit.{IsFit}
use Rattle.query_lines.proofs.Callers.{first-part}
use Rattle.reply_lines.specs.declared.reply.VcdReply.TheVariants as dumps
use Rattle.reply_lines.specs.Replies.{vcd_line}
use Rattle.vcd_answers.specs.Wires.{Wire, AreWires}
use Rattle.vcd_answers.specs.Dumps.{vcd_of}
use Rattle.vcd_answers.proofs.Callers.{one_dump}
use Rattle.session_meaning.specs.Session.{Setup, Course, IsServed, Session, Opened, Served, is_taken, with_reply, with_dump, with_last, with_vcd}
use Rattle.session_meaning.specs.Shown.{waves_left, last_waves, IsReading, IsDumpOf, OnlyShows}
use Rattle.session_meaning.specs.Laws.{DumpsShowOwnWaves}
use Rattle.session_meaning.proofs.Held.{AreLast, session-held}

-- what is written as the dump of wires is that
is-dump : (wires : List Wire) → AreWires wires → IsDumpOf wires (vcd_of wires)
is-dump wires are = record { wires_are = are; bytes_are = refl; read_back = read }
  where
    read : (answer : Option (List Wire)) → IsReading (vcd_of wires) answer → answer ≡ Some wires
    read (Some found) is = ap Some (one_dump found wires is.0 are (sym is.1))
    read None none = absurd (none wires are refl)

-- ---- a line that asks for a dump

module _ (now : Course) (file : List ℕ) (waves : Option (List Wire)) where
  shown-with-room : (wires : List Wire) → AreWires wires → waves ≡ Some wires → (room : Bool)
      → OnlyShows waves (units.Vcd file) now.dumps (cond room (with_dump now file wires) (with_reply now (vcd_line file dumps.Full))).dumps
  shown-with-room wires are is true = inr (record { wires = wires; waves_are = is; bytes = vcd_of wires; dump = is-dump wires are; more_are = refl })
  shown-with-room wires are is false = inl refl

  shown-with-last : (last : Option (List Wire)) → AreLast last → waves ≡ last → OnlyShows waves (units.Vcd file) now.dumps (with_last now file last).dumps
  shown-with-last None are is = inl refl
  shown-with-last (Some wires) are is = shown-with-room wires are is (nat_lt (length now.dumps) 3)

  shown-with-name : (taken : Bool) → AreLast now.waves → waves ≡ now.waves
      → OnlyShows waves (units.Vcd file) now.dumps (cond taken (with_reply now (vcd_line file dumps.Taken)) (with_last now file now.waves)).dumps
  shown-with-name true are is = inl refl
  shown-with-name false are is = shown-with-last now.waves are is

-- it leaves the waves as they are
module _ (now : Course) (file : List ℕ) where
  waves-with-room : (wires : List Wire) (room : Bool) → (cond room (with_dump now file wires) (with_reply now (vcd_line file dumps.Full))).waves ≡ now.waves
  waves-with-room wires true = refl
  waves-with-room wires false = refl

  waves-with-last : (last : Option (List Wire)) → (with_last now file last).waves ≡ now.waves
  waves-with-last None = refl
  waves-with-last (Some wires) = waves-with-room wires (nat_lt (length now.dumps) 3)

  waves-with-name : (taken : Bool) → (cond taken (with_reply now (vcd_line file dumps.Taken)) (with_last now file now.waves)).waves ≡ now.waves
  waves-with-name true = refl
  waves-with-name false = waves-with-last now.waves

vcd-waves : (setup : Setup) (now : Course) (file : List ℕ) → (with_vcd setup now file).waves ≡ now.waves
vcd-waves setup now file = waves-with-name now file (is_taken setup now file)

-- ---- all units

abbrev waves_of : Course → Option (List Wire)
waves_of course = course.waves

abbrev dumps_of : Course → List Made
dumps_of course = course.dumps

module _ (setup : Setup) where
  waves-left : (now next : Course) (unit : ScriptUnit) (served : IsServed setup now unit next) (before : Option (List Wire)) → before ≡ now.waves → waves_left setup now next unit served before ≡ next.waves
  waves-left now next (units.Batch items) served before is = sym (ap waves_of served.leads)
  waves-left now next (units.Trim most) served before is = is ∙ sym (ap waves_of served.leads)
  waves-left now next units.Stats served before is = is ∙ sym (ap waves_of served)
  waves-left now next (units.Vcd file) served before is = is ∙ sym (ap waves_of served ∙ vcd-waves setup now file)
  waves-left now next (units.Question question) served before is = is ∙ sym (ap waves_of served.leads)

  -- what a session has as its waves are those of its last batch
  last-waves : (us : List ScriptUnit) (course : Course) (session : Session setup us course) → last_waves setup us course session ≡ course.waves
  last-waves us course Opened = refl
  last-waves us course (Served {units = before} {now = now} {next = next} unit session served) =
      waves-left now next unit served (last_waves setup before now session) (last-waves before now session)

  unit-shown : (now next : Course) (unit : ScriptUnit) → IsServed setup now unit next → (waves : Option (List Wire)) → waves ≡ now.waves → AreLast now.waves → OnlyShows waves unit now.dumps next.dumps
  unit-shown now next (units.Batch items) served waves is are = ap dumps_of served.leads
  unit-shown now next (units.Trim most) served waves is are = ap dumps_of served.leads
  unit-shown now next units.Stats served waves is are = ap dumps_of served
  unit-shown now next (units.Question question) served waves is are = ap dumps_of served.leads
  unit-shown now next (units.Vcd file) served waves is are =
      subst (λ (c : Course). OnlyShows waves (units.Vcd file) now.dumps c.dumps) (sym served) (shown-with-name now file waves (is_taken setup now file) are is)

-- each dump of a session whose units are fit shows the session's own waves
pub own-waves : DumpsShowOwnWaves
own-waves setup short us fit course Opened = refl
own-waves setup short us fit course (Served {units = before} {now = now} {next = next} unit session served) =
    let others = first-part (IsFit setup.design.circuit.horizon) before (unit ∷ []) fit in (
      own-waves setup short before others now session,
      unit-shown setup now next unit served (last_waves setup before now session) (last-waves setup before now session) (session-held setup short before now others session).waves,
    )
