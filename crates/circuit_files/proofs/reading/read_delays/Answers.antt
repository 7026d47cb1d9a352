use Rattle.circuit_files.proofs.Contents.{delays-are, text-stopped, text-refused, text-parsed}
use Rattle.circuit_files.proofs.reading.read_delays.Goals as goal

pub returns-in_err-text-clause-reads : goal.returns-in_err-text-clause-reads
returns-in_err-text-clause-reads g c =
    text-stopped delays-are c.in_err-text.ensures.started _ c.from_residual.result c.from_residual.ensures.1 c.in_err-text.ensures.text c.in_err-text.ensures.place c.in_err-text.ensures.state

pub returns-in_err-read_timing-clause-reads : goal.returns-in_err-read_timing-clause-reads
returns-in_err-read_timing-clause-reads g c =
    text-refused delays-are c.in_ok-text.ensures.started c.in_ok-text.ensures.text c.deref.ensures.value c.in_ok-text.ensures.state _ _ c.from_residual-in_err-read_timing.result c.from_residual-in_err-read_timing.ensures.1 c.in_err-read_timing.ensures

pub returns-clause-reads : goal.returns-clause-reads
returns-clause-reads g c =
    text-parsed delays-are c.in_ok-text.ensures.started c.in_ok-text.ensures.text c.deref.ensures.value c.in_ok-text.ensures.state _ c.in_ok-read_timing.ensures
