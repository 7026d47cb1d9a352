use Rattle.texts.specs.Text.{is_hash}
use Rattle.texts.proofs.Finds.{first_is_position}
use Rattle.texts.proofs.byte.hash_at.Goals as goal

pub returns : goal.returns
returns c = first_is_position is_hash c.args.bytes.now c.memchr.result c.memchr.ensures
