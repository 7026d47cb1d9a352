use Rattle.session_loop.proofs.Served.{handed-stop}
use Rattle.session_loop.proofs.dump.serve_vcd.Goals as goal

pub returns-in_err-answer_vcd : goal.returns-in_err-answer_vcd
returns-in_err-answer_vcd g c = handed-stop c.from_residual.result c.from_residual.ensures.1 c.in_err-answer_vcd.ensures
