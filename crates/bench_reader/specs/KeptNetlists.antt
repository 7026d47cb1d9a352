-- What the netlist keeps, and what it says of it.
use Rattle.bench_reader.specs.declared.netlist.Row.{Row}
use Rattle.bench_reader.specs.declared.netlist.Row.TheVariants as row
use Rattle.bench_reader.specs.Netlists.{NetlistDriver, Primary, Driven}

abbrev pub driver_of_row : Row → NetlistDriver
driver_of_row row.Input = Primary
driver_of_row (row.Gate kind pins) = Driven kind pins.now
