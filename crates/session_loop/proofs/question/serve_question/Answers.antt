use Rattle.std.proofs.Common.{refl, arith}
use Rattle.reply_lines.specs.Replies.{question_lines}
use Rattle.session_loop.specs.declared.desk.Desk.{Desk}
use Rattle.session_loop.specs.Outside.{Seen, seen}
use Rattle.session_loop.proofs.Questions.{held-few, asked-served, asked-stopped}
use Rattle.session_loop.proofs.Served.{handed-stop, units-none}
use Rattle.session_loop.proofs.question.serve_question.Goals as goal

-- the question was not answered
pub returns-in_err-done : goal.returns-in_err-done
returns-in_err-done g c =
    handed-stop c.from_residual.result c.from_residual.ensures.1
    (units-none (seen (g.F.Files.state c.args.files.now) (g.F.Files.made c.args.files.now) (g.S.Sink.faults c.args.out.now) (g.S.Sink.written c.args.out.now)) c.requires.ready)

-- there is a list for each shard
pub tell_answer-requires-clause-few : goal.tell_answer-requires-clause-few
tell_answer-requires-clause-few g c = λ κs w.
    let count = c.in_ok-done.ensures.done.count in
    let most = c.requires.ready.desk.stores.sized.most in
    omega (arith, count, most)

-- a memo of its own has one list at most
pub tell_answer-requires-clause-held : goal.tell_answer-requires-clause-held
tell_answer-requires-clause-held g c = λ κs w.
    let few = held-few c.args.service.now.design.now c.args.question.now c.in_ok-done.field-0.done.own_lists.items c.in_ok-done.ensures.done.memo in
    omega (arith, few)

-- what was told of it was begun
pub returns-in_err-counts : goal.returns-in_err-counts
returns-in_err-counts g c =
    let done = c.in_ok-done.field-0.done in
    let told = c.in_err-counts.ensures in
    let before : Seen = seen (g.F.Files.state c.args.files.now) (g.F.Files.made c.args.files.now) (g.S.Sink.faults c.args.out.now) (g.S.Sink.written c.args.out.now) in
    let after : Seen = seen (g.F.Files.state c.tell_answer.new.files) (g.F.Files.made c.tell_answer.new.files) (g.S.Sink.faults c.tell_answer.new.out) (g.S.Sink.written c.tell_answer.new.out) in
    handed-stop c.from_residual-in_err-counts.result c.from_residual-in_err-counts.ensures.1
    (asked-stopped c.args.service.now c.args.desk before after c.requires.ready c.args.question.now (question_lines c.args.question.now done.reply) done.reply done.lists.items done.own_lists.items done.stores.items
    c.in_ok-done.ensures.done refl told.counts told.counted c.in_err-counts.field-0.0 told.told)

-- all was told
pub returns : goal.returns
returns g c =
    let done = c.in_ok-done.field-0.done in
    let told = c.in_ok-counts.ensures in
    let before : Seen = seen (g.F.Files.state c.args.files.now) (g.F.Files.made c.args.files.now) (g.S.Sink.faults c.args.out.now) (g.S.Sink.written c.args.out.now) in
    let after : Seen = seen (g.F.Files.state c.tell_answer.new.files) (g.F.Files.made c.tell_answer.new.files) (g.S.Sink.faults c.tell_answer.new.out) (g.S.Sink.written c.tell_answer.new.out) in
    let later : Desk = record { stores = done.stores; counts = c.in_ok-counts.counts; dumps = c.args.desk.dumps; last_site = c.in_ok-done.field-0.last_site } in
    asked-served c.args.service.now c.args.desk before after c.requires.ready c.args.question.now (question_lines c.args.question.now done.reply) done.reply done.lists.items done.own_lists.items done.stores.items
    c.in_ok-done.ensures.done refl told.counts told.counted later told.held_counted refl refl c.in_ok-done.ensures.site told.told
