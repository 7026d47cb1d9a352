-- What a cell that is heard of a source says; before time 0 there is none.
use Rattle.std.specs.Prelude.{Option, Some, None}
use Rattle.gate_values.specs.declared.Value.{Value}
use Rattle.gate_values.specs.declared.Value.TheVariants.{X}
use Rattle.valid_intervals.specs.Spans.{Span}
use Rattle.valid_intervals.specs.declared.Cell.{Cell}

abbrev pub span_there : Option Cell → Option Span
span_there None = None
span_there (Some cell) = Some cell.span

-- before time 0 it is x
abbrev pub value_there : Option Cell → Value
value_there None = X
value_there (Some cell) = cell.value
