use Rattle.std.proofs.Common.{ap, ◌∙◌}
use Rattle.std.specs.List.{position}
use Rattle.std.specs.Str.{bytes_eq}
use Rattle.bench_reader.specs.Netlists.{Content}
use Rattle.bench_reader.proofs.netlist.Netlist.id_of.Goals as goal

pub returns : goal.returns
returns c = c.find.ensures ∙ ap (λ (v : Content). position (bytes_eq c.args.name.now) v.names) c.self.view_is
