use Rattle.std.proofs.Common.{[]}
use Rattle.query_lines.proofs.Requests.{told-units}
use Rattle.query_lines.proofs.laws.units_keep_requests.Goals as goal

pub returns : goal.returns
returns c = λ horizon numbered. told-units horizon [] numbered
