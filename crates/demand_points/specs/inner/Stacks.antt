-- The top of a stack of claimed points.
use Rattle.std.specs.Prelude.{◌≡◌, List, [], ◌∷◌}
use Rattle.design.specs.declared.pin_walk.PinWalk.{PinWalk}

abbrev pub IsTop : List PinWalk → PinWalk → Type 0
IsTop [] f = ⊥
IsTop (g ∷ gs) f = f ≡ g

abbrev pub with_top : PinWalk → List PinWalk → List PinWalk
with_top f [] = []
with_top f (g ∷ gs) = f ∷ gs

-- what holds of the top, if there is one
abbrev pub OnTop : (PinWalk → Type 0) → List PinWalk → Type 0
OnTop P [] = Unit {0}
OnTop P (f ∷ fs) = P f

-- The top, if there is one, gives way to a walk that stands to it as R says; what lies under it stays.
abbrev pub ChangesTop : (PinWalk → PinWalk → Type 0) → List PinWalk → List PinWalk → Type 0
ChangesTop R [] new = new ≡ []
ChangesTop R (f ∷ fs) new = (g : PinWalk) × R f g × (new ≡ g ∷ fs)
