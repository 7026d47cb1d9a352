use Rattle.session_loop.proofs.unit.serve_unit.Goals as goal

pub returns-in-Batch : goal.returns-in-Batch
returns-in-Batch g c = rw c.in-Batch.is c.serve_batch.ensures

pub returns-in-Trim : goal.returns-in-Trim
returns-in-Trim g c = rw c.in-Trim.is c.serve_trim.ensures

pub returns-in-Stats : goal.returns-in-Stats
returns-in-Stats g c = rw c.in-Stats.is c.serve_stats.ensures

pub returns-in-Question : goal.returns-in-Question
returns-in-Question g c = rw c.in-Question.is c.serve_question.ensures

pub returns-in-Vcd : goal.returns-in-Vcd
returns-in-Vcd g c = rw c.in-Vcd.is c.serve_vcd.ensures
