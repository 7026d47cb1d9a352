use Rattle.std.proofs.Common.{map}
use Rattle.command_words.specs.Words.{words_of}
use Rattle.backsim.specs.Seen.{Seen}
use Rattle.backsim.proofs.Asked.{form-said, none-said, on-session, on-workload, on-usage, no-memory}
use Rattle.backsim.proofs.Ranges.{session-in-range, workload-in-range}
use Rattle.backsim.proofs.serve.serve.Goals as goal

-- the words name numbers in their ranges
pub serve_files-requires-clause-workers : goal.serve_files-requires-clause-workers
serve_files-requires-clause-workers g c κs within =
    let s = c.in-Ok-Some-Session in
    let asked = words_of (map (λ word. word.now) c.args.words.now) in
    (session-in-range (map (λ word. word.now) c.args.words.now) s.netlist.now s.timing.now s.stimulus.now s.journal.now s.workers s.shards s.cells
    (form-said s.field-0 s.field-0-0 _ asked s.field-0-is s.field-0-0-is s.ensures)).workers

pub serve_files-requires-clause-shards : goal.serve_files-requires-clause-shards
serve_files-requires-clause-shards g c κs within =
    let s = c.in-Ok-Some-Session in
    let asked = words_of (map (λ word. word.now) c.args.words.now) in
    (session-in-range (map (λ word. word.now) c.args.words.now) s.netlist.now s.timing.now s.stimulus.now s.journal.now s.workers s.shards s.cells
    (form-said s.field-0 s.field-0-0 _ asked s.field-0-is s.field-0-0-is s.ensures)).shards

pub serve_files-requires-clause-cells : goal.serve_files-requires-clause-cells
serve_files-requires-clause-cells g c κs within =
    let s = c.in-Ok-Some-Session in
    let asked = words_of (map (λ word. word.now) c.args.words.now) in
    (session-in-range (map (λ word. word.now) c.args.words.now) s.netlist.now s.timing.now s.stimulus.now s.journal.now s.workers s.shards s.cells
    (form-said s.field-0 s.field-0-0 _ asked s.field-0-is s.field-0-0-is s.ensures)).cells

pub serve_workload-requires-clause-number : goal.serve_workload-requires-clause-number
serve_workload-requires-clause-number g c κs within =
    let s = c.in-Ok-Some-Workload in
    let asked = words_of (map (λ word. word.now) c.args.words.now) in
    (workload-in-range (map (λ word. word.now) c.args.words.now) s.number s.journal.now s.workers
    (form-said s.field-0 s.field-0-0 _ asked s.field-0-is s.field-0-0-is s.ensures)).number

pub serve_workload-requires-clause-workers : goal.serve_workload-requires-clause-workers
serve_workload-requires-clause-workers g c κs within =
    let s = c.in-Ok-Some-Workload in
    let asked = words_of (map (λ word. word.now) c.args.words.now) in
    (workload-in-range (map (λ word. word.now) c.args.words.now) s.number s.journal.now s.workers
    (form-said s.field-0 s.field-0-0 _ asked s.field-0-is s.field-0-0-is s.ensures)).workers

-- there was no memory to read the words
pub returns-in-Err-clause-serves : goal.returns-in-Err-clause-serves
returns-in-Err-clause-serves g c =
    let before : Seen = record { outside = record { outputs = record { files = g.F.Files.state c.args.files.now; replies = g.S.Sink.faults c.args.out.now }; script = g.Q.Source.state c.args.queries.now }; written = g.S.Sink.written c.args.out.now; made = g.F.Files.made c.args.files.now } in
    no-memory before (words_of (map (λ word. word.now) c.args.words.now)) c.requires.started c.requires.created (g.met.F.Files.places c.args.files.now)

-- they are of no form
pub returns-in-Ok-None-clause-serves : goal.returns-in-Ok-None-clause-serves
returns-in-Ok-None-clause-serves g c =
    on-usage (g.Q.Source.state c.args.queries.now) (g.S.Sink.faults c.args.out.now) (g.S.Sink.faults c.tell.new.out) (g.F.Files.state c.args.files.now)
    (g.S.Sink.written c.args.out.now) (g.S.Sink.written c.tell.new.out) (g.F.Files.made c.args.files.now) c.tell.result (words_of (map (λ word. word.now) c.args.words.now))
    (none-said c.in-Ok-None.field-0 (words_of (map (λ word. word.now) c.args.words.now)) c.in-Ok-None.field-0-is c.in-Ok-None.ensures) c.tell.ensures

pub returns-in-Ok-Some-Session-clause-serves : goal.returns-in-Ok-Some-Session-clause-serves
returns-in-Ok-Some-Session-clause-serves g c =
    let s = c.in-Ok-Some-Session in
    let asked = words_of (map (λ word. word.now) c.args.words.now) in
    let before : Seen = record { outside = record { outputs = record { files = g.F.Files.state c.args.files.now; replies = g.S.Sink.faults c.args.out.now }; script = g.Q.Source.state c.args.queries.now }; written = g.S.Sink.written c.args.out.now; made = g.F.Files.made c.args.files.now } in
    let after : Seen = record { outside = record { outputs = record { files = g.F.Files.state c.serve_files.new.files; replies = g.S.Sink.faults c.serve_files.new.out }; script = g.Q.Source.state c.serve_files.new.queries }; written = g.S.Sink.written c.serve_files.new.out; made = g.F.Files.made c.serve_files.new.files } in
    on-session before after c.serve_files.result asked s.netlist.now s.timing.now s.stimulus.now s.journal.now s.workers s.shards s.cells
    (form-said s.field-0 s.field-0-0 _ asked s.field-0-is s.field-0-0-is s.ensures) c.serve_files.ensures.serves

pub returns-in-Ok-Some-Workload-clause-serves : goal.returns-in-Ok-Some-Workload-clause-serves
returns-in-Ok-Some-Workload-clause-serves g c =
    let s = c.in-Ok-Some-Workload in
    let asked = words_of (map (λ word. word.now) c.args.words.now) in
    let before : Seen = record { outside = record { outputs = record { files = g.F.Files.state c.args.files.now; replies = g.S.Sink.faults c.args.out.now }; script = g.Q.Source.state c.args.queries.now }; written = g.S.Sink.written c.args.out.now; made = g.F.Files.made c.args.files.now } in
    let after : Seen = record { outside = record { outputs = record { files = g.F.Files.state c.serve_workload.new.files; replies = g.S.Sink.faults c.serve_workload.new.out }; script = g.Q.Source.state c.args.queries.now }; written = g.S.Sink.written c.serve_workload.new.out; made = g.F.Files.made c.serve_workload.new.files } in
    on-workload before after c.serve_workload.result asked s.number s.journal.now s.workers
    (form-said s.field-0 s.field-0-0 _ asked s.field-0-is s.field-0-0-is s.ensures) (c.serve_workload.ensures.serves (g.Q.Source.state c.args.queries.now))
