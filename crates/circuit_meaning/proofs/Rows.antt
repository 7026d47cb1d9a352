-- Worked examples, computed from the definitions.
use Rattle.std.proofs.Common.{◌≡◌, ℕ, refl, [], ◌∷◌, Some, None, map}
use Rattle.gate_values.specs.declared.Value.{Value}
use Rattle.gate_values.specs.declared.Value.TheVariants.{Zero, One, X, Z}
use Rattle.gate_values.specs.declared.Kind.{Kind}
use Rattle.gate_values.specs.declared.Kind.TheVariants.{And, Nand, Or, Nor, Xor, Not, Buff}
use Rattle.circuit_meaning.specs.Circuit.{Setting, Pin, Driver, Input, Gate, Flop, Circuit}
use Rattle.circuit_meaning.specs.Forward.{rows_below, row_at, last_setting, value, wave}
use Rattle.circuit_meaning.specs.declared.Run.{Run}
use Rattle.circuit_meaning.specs.Edges.{last_edge}
use Rattle.valid_intervals.specs.declared.Point.{Point}
use Rattle.circuit_meaning.specs.Need.{children}
use Rattle.circuit_meaning.specs.Base.{base_answer, cell_with}
use Rattle.circuit_meaning.specs.Cells.{span, least_delay, next_setting}
use Rattle.valid_intervals.specs.Spans.{from_to}

abbrev pub set : ℕ → Value → Setting
set t v = record { time = t; value = v }

abbrev pub pin : ℕ → ℕ → Pin
pin s d = record { signal = s; delay = d }

abbrev pub run : ℕ → Value → Run
run t v = record { time = t; value = v }

abbrev pub point : ℕ → ℕ → Point
point s t = record { signal = s; time = t }

-- y = NOT(a) after 3, a is 0 and from 5 on 1
inverter : Circuit
inverter = record { horizon = 10; drivers = Input (set 0 Zero ∷ set 5 One ∷ []) ∷ Gate Not (pin 0 3 ∷ []) ∷ [] }

inverter-y : wave inverter 1 0 11 ≡ run 0 X ∷ run 3 One ∷ run 8 Zero ∷ []
unfolding inverter wave value row_at rows_below last_setting
inverter-y = refl

inverter-cell : span inverter 1 4 ≡ from_to 3 8
unfolding inverter span value row_at rows_below last_setting next_setting least_delay
inverter-cell = refl

-- before its delay the gate has a base answer, and then none
inverter-base : map (base_answer inverter 1) (0 ∷ 2 ∷ 3 ∷ []) ≡ Some (cell_with (from_to 0 3) X) ∷ Some (cell_with (from_to 0 3) X) ∷ None ∷ []
unfolding inverter base_answer least_delay
inverter-base = refl

-- of the input every point has one
inverter-input : map (base_answer inverter 0) (0 ∷ 4 ∷ 5 ∷ []) ≡ Some (cell_with (from_to 0 5) Zero) ∷ Some (cell_with (from_to 0 5) Zero) ∷ Some (cell_with (from_to 5 11) One) ∷ []
unfolding inverter base_answer last_setting next_setting
inverter-input = refl

-- an empty window has no run
inverter-empty : wave inverter 1 5 5 ≡ []
unfolding inverter wave
inverter-empty = refl

-- an input's cell ends at a setting, also where the value stays; its waveform does not
repeated : Circuit
repeated = record { horizon = 10; drivers = Input (set 0 One ∷ set 4 One ∷ []) ∷ [] }

repeated-cells : map (span repeated 0) (0 ∷ 3 ∷ 4 ∷ 10 ∷ []) ≡ from_to 0 4 ∷ from_to 0 4 ∷ from_to 4 11 ∷ from_to 4 11 ∷ []
unfolding repeated span row_at rows_below last_setting next_setting
repeated-cells = refl

repeated-a : wave repeated 0 0 11 ≡ run 0 One ∷ []
unfolding repeated wave value row_at rows_below last_setting
repeated-a = refl

-- c17 of ISCAS'85, all inputs 0: 1 2 3 6 7 are 0 to 4, 22 is 5, 23 is 6, 10 is 7, 11 is 8, 16 is 9, 19 is 10
unfoldable pub c17 : Circuit
c17 = record {
  horizon = 10;
  drivers =
      low ∷ low ∷ low ∷ low ∷ low ∷ nand 7 9 ∷ nand 9 10 ∷ nand 0 2 ∷ nand 2 3 ∷ nand 1 8 ∷ nand 8 4 ∷ [];
}
  where
    low : Driver
    low = Input (set 0 Zero ∷ [])

    nand : ℕ → ℕ → Driver
    nand a b = Gate Nand (pin a 1 ∷ pin b 1 ∷ [])

c17-22 : wave c17 5 0 11 ≡ run 0 X ∷ run 2 Zero ∷ []
unfolding c17 wave value row_at rows_below last_setting
c17-22 = refl

pub c17-cell : span c17 5 3 ≡ from_to 2 11
unfolding c17 span value row_at rows_below last_setting next_setting least_delay
c17-cell = refl

pub c17-children : children c17 5 3 ≡ point 7 2 ∷ point 9 2 ∷ []
unfolding c17 children value row_at rows_below last_setting
c17-children = refl

-- the first pin decides: one child each
pub c17-child : children c17 7 2 ≡ point 0 1 ∷ []
unfolding c17 children value row_at rows_below last_setting
c17-child = refl

pub c17-other_child : children c17 9 2 ≡ point 1 1 ∷ []
unfolding c17 children value row_at rows_below last_setting
c17-other_child = refl

-- a ring: y = NAND(en, y) after 2, en is 0 and from 4 on 1
ring : Circuit
ring = record { horizon = 12; drivers = Input (set 0 Zero ∷ set 4 One ∷ []) ∷ Gate Nand (pin 0 2 ∷ pin 1 2 ∷ []) ∷ [] }

ring-y : wave ring 1 0 13 ≡ run 0 X ∷ run 2 One ∷ run 6 Zero ∷ run 8 One ∷ run 10 Zero ∷ run 12 One ∷ []
unfolding ring wave value row_at rows_below last_setting
ring-y = refl

ring-cell : span ring 1 9 ≡ from_to 8 10
unfolding ring span value row_at rows_below last_setting next_setting least_delay
ring-cell = refl

-- y = BUFF(a) after 5, a is 1 for one instant: no pulse is swallowed
pulse : Circuit
pulse = record { horizon = 20; drivers = Input (set 0 Zero ∷ set 7 One ∷ set 8 Zero ∷ []) ∷ Gate Buff (pin 0 5 ∷ []) ∷ [] }

pulse-y : wave pulse 1 0 21 ≡ run 0 X ∷ run 5 Zero ∷ run 12 One ∷ run 13 Zero ∷ []
unfolding pulse wave value row_at rows_below last_setting
pulse-y = refl

-- y = AND(a, b), a is z and b is 1: an input may have the value z, a pin reads it as x
floating : Circuit
floating = record { horizon = 5; drivers = Input (set 0 Z ∷ []) ∷ Input (set 0 One ∷ []) ∷ Gate And (pin 0 1 ∷ pin 1 1 ∷ []) ∷ [] }

floating-values : value floating 0 0 ∷ value floating 2 3 ∷ [] ≡ Z ∷ X ∷ []
unfolding floating value row_at rows_below last_setting
floating-values = refl

-- q = DFF(a), edges at 10, 20, 30
sampled : Circuit
sampled = record {
  horizon = 30;
  drivers = Input (set 0 Zero ∷ set 10 One ∷ []) ∷
      Flop (record { pin = 0; delay = 1; clock = Some (record { first = 10; period = 10 }); initial = X }) ∷ [];
}

sampled-q : wave sampled 1 0 31 ≡ run 0 X ∷ run 11 One ∷ []
unfolding sampled wave value row_at rows_below last_setting last_edge
sampled-q = refl

sampled-cell : span sampled 1 25 ≡ from_to 21 31
unfolding sampled span value row_at rows_below last_setting next_setting least_delay last_edge
sampled-cell = refl

-- it reads its pin at the edge itself, and before its first shown edge it has a base answer
sampled-children : map (children sampled 1) (11 ∷ 25 ∷ []) ≡ (point 0 10 ∷ []) ∷ (point 0 20 ∷ []) ∷ []
unfolding sampled children last_edge
sampled-children = refl

sampled-base : map (base_answer sampled 1) (0 ∷ 10 ∷ 11 ∷ []) ≡ Some (cell_with (from_to 0 11) X) ∷ Some (cell_with (from_to 0 11) X) ∷ None ∷ []
unfolding sampled base_answer last_edge
sampled-base = refl

-- a flip-flop without a clock keeps its initial value
unclocked : Circuit
unclocked = record { horizon = 30; drivers = Input (set 0 Zero ∷ set 10 One ∷ []) ∷ Flop (record { pin = 0; delay = 1; clock = None; initial = X }) ∷ [] }

unclocked-q : wave unclocked 1 0 31 ≡ run 0 X ∷ []
unfolding unclocked wave value row_at rows_below last_setting
unclocked-q = refl

unclocked-base : base_answer unclocked 1 20 ≡ Some (cell_with (from_to 0 31) X)
unfolding unclocked base_answer
unclocked-base = refl

-- y = AND(a, b), pin 0 after 2 and pin 1 after 5
skewed : Circuit
skewed = record { horizon = 10; drivers = Input (set 0 One ∷ set 6 Zero ∷ []) ∷ Input (set 0 One ∷ []) ∷ Gate And (pin 0 2 ∷ pin 1 5 ∷ []) ∷ [] }

skewed-y : wave skewed 2 0 11 ≡ run 0 X ∷ run 5 One ∷ run 8 Zero ∷ []
unfolding skewed wave value row_at rows_below last_setting
skewed-y = refl

skewed-cells : map (span skewed 2) (0 ∷ 2 ∷ 4 ∷ 5 ∷ 7 ∷ 8 ∷ 10 ∷ []) ≡ from_to 0 2 ∷ from_to 2 5 ∷ from_to 2 5 ∷ from_to 5 8 ∷ from_to 5 8 ∷ from_to 8 11 ∷ from_to 8 11 ∷ []
unfolding skewed span value row_at rows_below last_setting next_setting least_delay
skewed-cells = refl

-- z = XOR(a, b), pin 0 after 5 and pin 1 after 1
late_first : Circuit
late_first = record { horizon = 10; drivers = Input (set 0 Zero ∷ []) ∷ Input (set 0 One ∷ []) ∷ Gate Xor (pin 0 5 ∷ pin 1 1 ∷ []) ∷ [] }

late_first-z : wave late_first 2 0 11 ≡ run 0 X ∷ run 5 One ∷ []
unfolding late_first wave value row_at rows_below last_setting
late_first-z = refl

late_first-cells : map (span late_first 2) (0 ∷ 1 ∷ 4 ∷ 5 ∷ 10 ∷ []) ≡ from_to 0 1 ∷ from_to 1 5 ∷ from_to 1 5 ∷ from_to 5 11 ∷ from_to 5 11 ∷ []
unfolding late_first span value row_at rows_below last_setting next_setting least_delay
late_first-cells = refl

-- q and r are flip-flops of a, at the edges 10, 20 and at 3, 7, 11, 15, 19
clocks : Circuit
clocks = record { horizon = 20; drivers = Input (set 0 Zero ∷ set 5 One ∷ []) ∷ flop 10 10 ∷ flop 3 4 ∷ [] }
  where
    flop : ℕ → ℕ → Driver
    flop f p = Flop (record { pin = 0; delay = 1; clock = Some (record { first = f; period = p }); initial = X })

clocks-q : wave clocks 1 0 21 ≡ run 0 X ∷ run 11 One ∷ []
unfolding clocks wave value row_at rows_below last_setting last_edge
clocks-q = refl

clocks-r : wave clocks 2 0 21 ≡ run 0 X ∷ run 4 Zero ∷ run 8 One ∷ []
unfolding clocks wave value row_at rows_below last_setting last_edge
clocks-r = refl

-- r has five cells after its first edge is shown
clocks-cells : map (span clocks 2) (3 ∷ 4 ∷ 8 ∷ 12 ∷ 16 ∷ 20 ∷ []) ≡ from_to 0 4 ∷ from_to 4 8 ∷ from_to 8 12 ∷ from_to 12 16 ∷ from_to 16 20 ∷ from_to 20 21 ∷ []
unfolding clocks span last_edge row_at rows_below
clocks-cells = refl

-- s27 of ISCAS'89, G0 to G3 are 0, G3 is 1 from 12 on: G0 G1 G2 G3 G17 G5 G10 G6 G11 G7 G13 G14 G8 G15 G12 G16 G9 are 0 to 16
s27 : Circuit
s27 = record {
  horizon = 30;
  drivers =
      Input (set 0 Zero ∷ []) ∷ Input (set 0 Zero ∷ []) ∷ Input (set 0 Zero ∷ []) ∷ Input (set 0 Zero ∷ set 12 One ∷ []) ∷
      one Not 8 ∷ dff 6 ∷ two Nor 11 8 ∷ dff 8 ∷ two Nor 5 16 ∷ dff 10 ∷ two Nor 2 14 ∷ one Not 0 ∷ two And 11 7 ∷
      two Or 14 12 ∷ two Nor 1 9 ∷ two Or 3 12 ∷ two Nand 15 13 ∷ [];
}
  where
    one : Kind → ℕ → Driver
    one k a = Gate k (pin a 1 ∷ [])

    two : Kind → ℕ → ℕ → Driver
    two k a b = Gate k (pin a 1 ∷ pin b 1 ∷ [])

    dff : ℕ → Driver
    dff a = Flop (record { pin = a; delay = 1; clock = Some (record { first = 10; period = 10 }); initial = Zero })

s27-g17 : wave s27 4 0 31 ≡ run 0 X ∷ run 5 One ∷ run 16 Zero ∷ []
unfolding s27 wave value row_at rows_below last_setting last_edge
s27-g17 = refl
