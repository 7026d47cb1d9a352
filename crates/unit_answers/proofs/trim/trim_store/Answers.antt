use Rattle.std.proofs.Common.{map, ap, ◌∙◌}
use Rattle.unit_answers.specs.inner.Trims.{eviction_of}
use Rattle.unit_answers.proofs.Trimming.{trim-keys}
use Rattle.unit_answers.proofs.trim.trim_store.Goals as goal

pub returns-clause-entries : goal.returns-clause-entries
returns-clause-entries c =
    c.from_vec.ensures ∙ c.in_ok-evictions.ensures ∙ ap (map eviction_of) (c.deref.ensures.value ∙ c.in_ok-keys.ensures.keys)
    ∙ trim-keys c.args.most c.args.store.now.cells
