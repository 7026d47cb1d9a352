-- The flag of a signal.
use Rattle.std.proofs.Common.{◌≡◌, ℕ, Bool, false, List, Some, subst}
use Rattle.std.specs.Prelude.{◌↔◌, IsTrue, slice_get, slice_index_or}
use Rattle.std.proofs.lemmas.Option.{get_or_from_slice_get}
use Rattle.circuit_meaning.specs.Circuit.{Circuit}
use Rattle.circuit_meaning.specs.Need.{IsInCone}

-- the flag of a signal tells whether it reads the site
pub flag-tells : (c d : Circuit) (flags : List Bool) (site x : ℕ) (b : Bool) → c ≡ d → slice_get flags x ≡ Some b → (IsTrue (slice_index_or flags x false) ↔ IsInCone c x site) → IsTrue b ↔ IsInCone d x site
flag-tells c d flags site x b same at is =
    subst (λ (e : Circuit). IsTrue b ↔ IsInCone e x site) same (subst (λ (r : Bool). IsTrue r ↔ IsInCone c x site) (get_or_from_slice_get flags x b false at) is)
