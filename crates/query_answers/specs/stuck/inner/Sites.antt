-- What is kept of a site.
use Rattle.std.specs.Prelude.{◌≡◌, ◌↔◌, ℕ, ◌<◌, Bool, false, IsTrue, List, length, slice_index_or}
use Rattle.circuit_meaning.specs.Circuit.{Circuit}
use Rattle.circuit_meaning.specs.Need.{IsInCone}

-- a flag for each signal of the circuit: whether it reads the site, however far back
pub record AreReached (c : Circuit) (site : ℕ) (flags : List Bool) : Type 0 where
  pub long : length flags ≡ length c.drivers
  pub reads : (x : ℕ) → x < length c.drivers → IsTrue (slice_index_or flags x false) ↔ IsInCone c x site
