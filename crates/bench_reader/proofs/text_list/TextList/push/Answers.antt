use Rattle.std.proofs.Common.{◌++◌, [], ◌∷◌, List, ℕ, map, ap, ap₂, ◌∙◌, arith}
use Rattle.bench_reader.specs.inner.TextLists.{text_at}
use Rattle.bench_reader.specs.declared.text_list.Place.{Place}
use Rattle.bench_reader.proofs.Placing.{all_kept, long_pushed, on_err}
use Rattle.bench_reader.proofs.text_list.TextList.push.Goals as goal

pub returns-in_err-push-2-clause-unchanged : goal.returns-in_err-push-2-clause-unchanged
returns-in_err-push-2-clause-unchanged c =
    on_err c.from_residual-in_err-push-2.result
    (ap₂ (λ (b : List ℕ) (s : List Place). map (text_at b) s) c.in_ok-extend_from_slice.ensures.items c.in_err-push-2.ensures.items
    ∙ all_kept c.self.inside.bytes.items c.args.text.now c.self.inside.places.items c.self.invariant ∙ c.self.view_is)

pub returns-clause-added : goal.returns-clause-added
returns-clause-added c =
    ap₂ (λ (b : List ℕ) (s : List Place). map (text_at b) s) c.in_ok-extend_from_slice.ensures.items c.in_ok-push-2.ensures.items
    ∙ long_pushed c.self.inside.bytes.items c.args.text.now c.self.inside.places.items _ _ c.self.invariant (omega arith) (omega arith)
    ∙ ap (λ (l : List (List ℕ)). l ++ c.args.text.now ∷ []) c.self.view_is
