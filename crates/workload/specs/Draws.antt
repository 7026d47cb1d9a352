-- The draws of a workload: the states of a linear congruential generator without their lower 16 bits.
use Rattle.std.specs.Prelude.{ℕ, zero, suc, ◌+◌, ◌*◌, ◌/◌, ◌%◌}

abbrev pub next_state : ℕ → ℕ
next_state state = (1103515245 * state + 12345) % 2147483648

-- the state after k steps, from the seed n
unfoldable pub state_after : ℕ → ℕ → ℕ
state_after n zero = n
state_after n (suc k) = next_state (state_after n k)

-- draw number k, counted from 1
abbrev pub draw : ℕ → ℕ → ℕ
draw n k = state_after n k / 65536
