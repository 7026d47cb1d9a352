use Rattle.std.proofs.Common.{◌≡◌, ◌∙◌, inl, refl, ap, [], Some}
use Rattle.backsim_io.specs.Counts.{Stays}
use Rattle.backsim_io.specs.State.{FilesState}
use Rattle.session_loop.specs.Halting.{IsHalted}
use Rattle.session_loop.specs.Outside.{Outside}
use Rattle.session_loop.specs.declared.halt.Halt.TheVariants.{JournalUnmade}
use Rattle.backsim.specs.Cause.{counts_in, Calm, Explains}
use Rattle.backsim.specs.Commands.{Command, command_of}
use Rattle.backsim.specs.Refused.{IsRefused}
use Rattle.backsim.specs.Seen.{Seen, left_in, created_in, IsUntouched}
use Rattle.backsim.specs.Session.{Given, AreGiven, setup_of}
use Rattle.backsim.specs.declared.status.Status.TheVariants.{Ended}
use Rattle.backsim.specs.declared.status.Status.TheVariants as statuses
use Rattle.backsim.proofs.Asked.{session-complete, of-accepted, no-refusal, short-script, ended-no-usage, early-serves}
use Rattle.backsim.proofs.Ends.{NoneCreated, files-early, early-not_ended, early-no_usage, files-refused, files-leave, files-untouched, first-refuses, all-refuse, files-refuse}
use Rattle.session_loop.proofs.Callers.{none-unfinished}
use Rattle.backsim.proofs.Explained.{outside_at, calm-then, calm-files, calm-served, files-explain, files-kept, halt-ends, halt-open, files-open}
use Rattle.backsim.proofs.Halts.{served-all, halt-early, halt-refused, halt-leaves, halted-script, halt-no_file}
use Rattle.backsim.proofs.serve.serve_files.Goals as goal

-- the files made no design
pub returns-in-Err-clause-serves : goal.returns-in-Err-clause-serves
returns-in-Err-clause-serves g c =
    let stop = c.in-Err.stop in
    let status = c.end_files.result in
    let command : Command = command_of c.args.asked.now.netlist.now c.args.asked.now.timing.now c.args.asked.now.stimulus.now c.args.asked.now.journal.now c.args.asked.now.workers c.args.asked.now.sizes.shards c.args.asked.now.sizes.cells in
    let before : Seen = record { outside = record { outputs = record { files = g.F.Files.state c.args.files.now; replies = g.S.Sink.faults c.args.out.now }; script = g.Q.Source.state c.args.queries.now }; written = g.S.Sink.written c.args.out.now; made = g.F.Files.made c.args.files.now } in
    let after : Seen = record { outside = record { outputs = record { files = g.F.Files.state c.read_design.new.files; replies = g.S.Sink.faults c.end_files.new.out }; script = g.Q.Source.state c.args.queries.now }; written = g.S.Sink.written c.end_files.new.out; made = g.F.Files.made c.read_design.new.files } in
    let old = g.F.Files.state c.args.files.now in
    let new = g.F.Files.state c.read_design.new.files in
    let changes = c.in-Err.ensures.state in
    let kept = files-kept old new stop changes in
    let none : NoneCreated before after = record { unread = refl; same_files = c.in-Err.ensures.made; no_file = kept.0 } in
    let n = g.S.Sink.faults c.args.out.now in
    let n' = g.S.Sink.faults c.end_files.new.out in
    let told = c.end_files.ensures in
    let early = files-early stop n n' before.written after.written status told in
    let cause : Explains 3 before.outside after.outside status = files-explain (g.Q.Source.state c.args.queries.now) n n' old new before.written after.written stop status changes told in
    let refused : (given : Given) → AreGiven before command given → status ≡ statuses.Refused → IsRefused command given before after =
    λ given are is. inl (files-refused before after none n n' given stop status (c.in-Err.ensures.design given.netlist given.timing given.stimulus are.netlist are.timing are.stimulus) are.script told is) in
    record {
      ended = λ given are is. early-serves command given before after status early is;
      refused = refused;
      netlist_refused = λ refusal first held is. files-refuse before after none n n' 1 stop refusal status (first-refuses 1 old new stop _ refusal changes (c.in-Err.ensures.first first held) is) told;
      timing_refused = λ refusal first second held_first held_second is.
          files-refuse before after none n n' 2 stop refusal status (first-refuses 2 old new stop _ refusal changes (c.in-Err.ensures.second first second held_first held_second) is) told;
      files_refused = λ refusal first second third held_first held_second held_third is.
          files-refuse before after none n n' 3 stop refusal status (all-refuse old new stop _ refusal changes (c.in-Err.ensures.design first second third held_first held_second held_third) is) told;
      script_refused = λ given are long. early-not_ended status early;
      no_usage = early-no_usage status early;
      cause = cause;
      leaves = λ given are. files-leave before after none n n' command given stop status (c.in-Err.ensures.design given.netlist given.timing given.stimulus are.netlist are.timing are.stimulus) are.script told;
      untouched = files-untouched before after none n n' stop status told;
      unfinished = files-open new stop n n' before.written after.written status
          (kept.1 ∙ none-unfinished old.created old.unfinished c.requires.created (g.met.F.Files.places c.args.files.now)) told;
      complete = session-complete command before after status cause (early-no_usage status early) refused;
    }

-- the session ended
pub returns-in-Ok-serve_session-clause-serves : goal.returns-in-Ok-serve_session-clause-serves
returns-in-Ok-serve_session-clause-serves g c =
    let command : Command = command_of c.args.asked.now.netlist.now c.args.asked.now.timing.now c.args.asked.now.stimulus.now c.args.asked.now.journal.now c.args.asked.now.workers c.args.asked.now.sizes.shards c.args.asked.now.sizes.cells in
    let before : Seen = record { outside = record { outputs = record { files = g.F.Files.state c.args.files.now; replies = g.S.Sink.faults c.args.out.now }; script = g.Q.Source.state c.args.queries.now }; written = g.S.Sink.written c.args.out.now; made = g.F.Files.made c.args.files.now } in
    let after : Seen = record { outside = record { outputs = record { files = g.F.Files.state c.serve_session.new.files; replies = g.S.Sink.faults c.serve_session.new.out }; script = g.Q.Source.state c.serve_session.new.queries }; written = g.S.Sink.written c.serve_session.new.out; made = g.F.Files.made c.serve_session.new.files } in
    let old = g.F.Files.state c.args.files.now in
    let mid = g.F.Files.state c.read_design.new.files in
    let served = c.in-Ok-serve_session.ensures in
    let calm : Calm (counts_in before.outside) (counts_in after.outside) =
    calm-then (counts_in before.outside) (counts_in (outside_at (g.Q.Source.state c.args.queries.now) (g.S.Sink.faults c.args.out.now) mid)) (counts_in after.outside)
    (calm-files (g.Q.Source.state c.args.queries.now) (g.S.Sink.faults c.args.out.now) 3 old mid c.in-Ok.ensures.state)
    (calm-served (outside_at (g.Q.Source.state c.args.queries.now) (g.S.Sink.faults c.args.out.now) mid) after.outside served.state) in
    of-accepted command before after Ended c.in-Ok.design mid.started c.in-Ok.ensures.first c.in-Ok.ensures.second c.in-Ok.ensures.design
    (record {
      ended = λ given are is. served-all command given c.in-Ok.design (c.in-Ok.ensures.design given.netlist given.timing given.stimulus are.netlist are.timing are.stimulus)
          before after (g.S.Sink.faults c.args.out.now) (g.S.Sink.faults c.serve_session.new.out) after.written (g.F.Files.made c.read_design.new.files) c.in-Ok.ensures.made c.sessions_are_whole.ensures c.facts.ensures
          (λ start h. h) (served.served given.script are.script).short (served.served given.script are.script).read (served.served given.script are.script).wrote;
      refused = λ given are is. no-refusal command given before after is;
      script_refused = λ given are long. short-script given (served.served given.script are.script).short long;
      no_usage = ended-no-usage;
      cause = calm;
      leaves = λ given are. tt;
      untouched = tt;
      unfinished = ap (λ (s : FilesState). s.unfinished) served.state.outputs.changed.same ∙ (ap (λ (s : FilesState). s.unfinished) c.in-Ok.ensures.state
          ∙ none-unfinished old.created old.unfinished c.requires.created (g.met.F.Files.places c.args.files.now));
    })

-- it halted
pub returns-in-Err-serve_session-clause-serves : goal.returns-in-Err-serve_session-clause-serves
returns-in-Err-serve_session-clause-serves g c =
    let halt = c.in-Err-serve_session.halt in
    let status = c.end_halted.result in
    let command : Command = command_of c.args.asked.now.netlist.now c.args.asked.now.timing.now c.args.asked.now.stimulus.now c.args.asked.now.journal.now c.args.asked.now.workers c.args.asked.now.sizes.shards c.args.asked.now.sizes.cells in
    let before : Seen = record { outside = record { outputs = record { files = g.F.Files.state c.args.files.now; replies = g.S.Sink.faults c.args.out.now }; script = g.Q.Source.state c.args.queries.now }; written = g.S.Sink.written c.args.out.now; made = g.F.Files.made c.args.files.now } in
    let after : Seen = record { outside = record { outputs = record { files = g.F.Files.state c.serve_session.new.files; replies = g.S.Sink.faults c.end_halted.new.out }; script = g.Q.Source.state c.serve_session.new.queries }; written = g.S.Sink.written c.end_halted.new.out; made = g.F.Files.made c.serve_session.new.files } in
    let old = g.F.Files.state c.args.files.now in
    let mid = g.F.Files.state c.read_design.new.files in
    let read : Outside = outside_at (g.Q.Source.state c.args.queries.now) (g.S.Sink.faults c.args.out.now) mid in
    let served : Outside = outside_at (g.Q.Source.state c.serve_session.new.queries) (g.S.Sink.faults c.serve_session.new.out) (g.F.Files.state c.serve_session.new.files) in
    let w' = g.S.Sink.written c.serve_session.new.out in
    let m' = g.F.Files.made c.read_design.new.files in
    let halted = c.in-Err-serve_session.ensures in
    let n = g.S.Sink.faults c.serve_session.new.out in
    let n' = g.S.Sink.faults c.end_halted.new.out in
    let told = c.end_halted.ensures in
    let early = halt-early halt n n' w' after.written status told in
    let started : mid.started ≡ 3 = ap (λ (s : FilesState). s.started) c.in-Ok.ensures.state in
    let created : mid.created ≡ 0 = ap (λ (s : FilesState). s.created) c.in-Ok.ensures.state ∙ c.requires.created in
    let none : mid.unfinished ≡ [] = ap (λ (s : FilesState). s.unfinished) c.in-Ok.ensures.state ∙ none-unfinished old.created old.unfinished c.requires.created (g.met.F.Files.places c.args.files.now) in
    let cause : Explains 3 before.outside after.outside status =
    halt-ends before.outside read served n' w' after.written status
    (calm-files (g.Q.Source.state c.args.queries.now) (g.S.Sink.faults c.args.out.now) 3 old mid c.in-Ok.ensures.state) started halt halted.state told in
    let design = c.in-Ok.design in
    let script-halted : (given : Given) → AreGiven before command given
    → IsHalted (setup_of command design) command.journal given.script (Some given.script) (left_in after) before.written w' m' after.made (created_in after) halt =
    λ given are. halted-script (setup_of command design) command.journal given.script (left_in before) (left_in after) before.written w' m' after.made (created_in after) halt are.script (halted.served.halted given.script are.script) in
    let refused : (given : Given) → AreGiven before command given → status ≡ statuses.Refused → IsRefused command given before after =
    λ given are is. halt-refused command given design (c.in-Ok.ensures.design given.netlist given.timing given.stimulus are.netlist are.timing are.stimulus)
    before after n n' w' m' c.in-Ok.ensures.made halt status (script-halted given are) told is in
    let untouched : halt ≡ JournalUnmade → Stays w' after.written → IsUntouched before after =
    λ unmade stays. let is = halted.served.untouched unmade in record {
      unread = is.unread;
      unreplied = λ start h. stays start (is.unreplied start h);
      same_files = λ start h. is.same_files start (c.in-Ok.ensures.made start h);
      no_file = is.no_file ∙ ap (λ (s : FilesState). s.created) c.in-Ok.ensures.state;
    } in
    of-accepted command before after status design mid.started c.in-Ok.ensures.first c.in-Ok.ensures.second c.in-Ok.ensures.design
    (record {
      ended = λ given are is. early-serves command given before after status early is;
      refused = refused;
      script_refused = λ given are long. early-not_ended status early;
      no_usage = early-no_usage status early;
      cause = cause;
      leaves = λ given are. halt-leaves command given design (c.in-Ok.ensures.design given.netlist given.timing given.stimulus are.netlist are.timing are.stimulus)
          before after n n' w' m' c.in-Ok.ensures.made c.sessions_are_whole.ensures c.facts.ensures halt status untouched (script-halted given are) told;
      untouched = halt-no_file (IsUntouched before after) halt n n' w' after.written status told;
      unfinished = halt-open read served created none halt n n' w' after.written status halted.state told;
    })
