use Rattle.command_words.proofs.Orders.{one_word_or_two}
use Rattle.command_words.proofs.laws.one_word_or_two.Goals as goal

pub returns : goal.returns
returns c = one_word_or_two
