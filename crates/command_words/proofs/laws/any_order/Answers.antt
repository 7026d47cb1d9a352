use Rattle.command_words.proofs.Orders.{any_order}
use Rattle.command_words.proofs.laws.any_order.Goals as goal

pub returns : goal.returns
returns c = any_order
