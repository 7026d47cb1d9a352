use Rattle.std.proofs.Common.{◌≡◌, ◌++◌, map}
use Rattle.std.specs.List.{range_with_len}
use Rattle.bench_reader.specs.Netlists as netlists
use Rattle.design.specs.Join.{pin_delay}
use Rattle.design.specs.inner.Said.{HasStated}
use Rattle.design.proofs.signal_timing.SignalTiming.push_pin_delays.Given as goal

abbrev pub invariant-loop-place : goal.invariant-loop-place
invariant-loop-place l = (netlist : netlists.Content) → HasStated netlist l.timing l.timing.rows l.self → l.delays.items ≡ l.initial.delays.items ++ map (pin_delay netlist l.timing l.signal l.fn.kind) (range_with_len 0 l.place)
