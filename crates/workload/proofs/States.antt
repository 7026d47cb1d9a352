-- Steps of the generator.
use Rattle.std.proofs.Common.{◌≡◌, ◌∙◌, ℕ, ◌+◌, refl, add-one, ap}
use Rattle.workload.specs.Draws.{next_state, state_after, draw}

-- no step was made from the seed
pub state-first : (n : ℕ) → state_after n 0 ≡ n
unfolding state_after
state-first n = refl

-- one step more
pub state-next : (n k : ℕ) → state_after n (k + 1) ≡ next_state (state_after n k)
unfolding state_after
state-next n k = ap (state_after n) (add-one k)

-- the draw that was made, by its number
pub drawn : (seed made n k d : ℕ) → d ≡ draw seed (made + 1) → seed ≡ n → made + 1 ≡ k → d ≡ draw n k
drawn seed made n k d is of at = is ∙ ap (λ s. draw s (made + 1)) of ∙ ap (draw n) at
