use Rattle.std.proofs.Common.{rules}
use Rattle.std.specs.Prelude.{is_none}
use Rattle.std.proofs.lemmas.Fn.{filter_same}
use Rattle.design.specs.inner.HeldSignals.{value_of}
use Rattle.design.proofs.held.drop_held.Goals as goal

pub returns : goal.returns
returns c = filter_same _ (λ x. is_none (value_of c.args.held.now x)) _ (λ x b f called. search rules) _ _ c.retain.ensures.filtered
