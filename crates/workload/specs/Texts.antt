-- The texts of workload number n. Its draws are used in order: one for each gate, then one for each setting, then two for each
-- query.
use Rattle.std.specs.Prelude.{ℕ, ◌+◌, ◌-◌, ◌*◌, ◌/◌, ◌%◌, ◌==◌, List, [], ◌∷◌, ◌++◌, slice_index_or, flat_map, codes, decimal, if◌then◌else◌}
use Rattle.std.specs.List.{range_with_len}
use Rattle.workload.specs.Draws.{draw}

abbrev pub line_feed : List ℕ
line_feed = 10 ∷ []

-- this many lines, numbered from 0
unfoldable pub lines_of : (ℕ → List ℕ) → ℕ → List ℕ
lines_of line many = flat_map line (range_with_len 0 many)

-- the name of an input
abbrev pub input_name : ℕ → List ℕ
input_name i = codes "i" ++ decimal i

-- the name of the gate at this place of this layer
abbrev pub gate : ℕ → ℕ → List ℕ
gate layer place = codes "g" ++ decimal layer ++ codes "_" ++ decimal place

-- a signal of the layer below this one, at this place modulo the size of that layer; the 16 inputs lie below layer 0
abbrev pub below : ℕ → ℕ → List ℕ
below layer place = if layer == 0 then input_name (place % 16) else gate (layer - 1) (place % 2000)

-- the kind with this number
abbrev pub kind : ℕ → List ℕ
kind k = slice_index_or (codes "AND" ∷ codes "NAND" ∷ codes "OR" ∷ codes "NOR" ∷ codes "XOR" ∷ codes "XNOR" ∷ []) k []

abbrev pub input_line : ℕ → List ℕ
input_line i = codes "INPUT(" ++ input_name i ++ codes ")" ++ line_feed

-- the two neighbours below a gate
abbrev pub pins_text : ℕ → ℕ → List ℕ
pins_text layer place = codes "(" ++ below layer place ++ codes ", " ++ below layer (place + 1) ++ codes ")" ++ line_feed

-- the gate at this place of this layer, with its kind and its pins
abbrev pub gate_text : ℕ → ℕ → ℕ → List ℕ
gate_text layer place k = gate layer place ++ codes " = " ++ kind k ++ pins_text layer place

-- the gates are numbered layer by layer
abbrev pub gate_line : ℕ → ℕ → List ℕ
gate_line n g = gate_text (g / 2000) (g % 2000) (draw n (g + 1) % 6)

abbrev pub output_line : ℕ → List ℕ
output_line place = codes "OUTPUT(" ++ gate 99 place ++ codes ")" ++ line_feed

-- 16 inputs, 100 layers of 2,000 gates, and the last layer's gates as outputs
unfoldable pub netlist_text : ℕ → List ℕ
netlist_text n = lines_of input_line 16 ++ lines_of (gate_line n) 200000 ++ lines_of output_line 2000

-- every delay is 1
abbrev pub timing_text : List ℕ
timing_text = codes "default 1" ++ line_feed

-- this input takes this value at this time
abbrev pub setting_text : ℕ → ℕ → ℕ → List ℕ
setting_text i time value = codes "set " ++ input_name i ++ codes " " ++ decimal time ++ codes " " ++ decimal value ++ line_feed

-- the settings are numbered time by time: all inputs are set at each multiple of 10
abbrev pub setting_line : ℕ → ℕ → List ℕ
setting_line n s = setting_text (s % 16) (10 * (s / 16)) (draw n (200001 + s) % 2)

-- 16 settings at each of 10,001 times up to the horizon
unfoldable pub stimulus_text : ℕ → List ℕ
stimulus_text n = codes "horizon 100000" ++ line_feed ++ lines_of (setting_line n) 160016

-- a wave over 20 instants for a gate of the last layer, and its value at one time
abbrev pub wave_text : ℕ → ℕ → List ℕ
wave_text place time =
    codes "wave " ++ gate 99 place ++ codes " " ++ decimal time ++ codes " " ++ decimal (time + 20) ++ codes " 20000" ++ line_feed

abbrev pub at_text : ℕ → ℕ → List ℕ
at_text place time = codes "at " ++ gate 99 place ++ codes " " ++ decimal time ++ codes " 20000" ++ line_feed

abbrev pub query_text : ℕ → ℕ → ℕ → List ℕ
query_text q place time = if q % 4 == 0 then wave_text place time else at_text place time

-- the place is drawn first, then the time
abbrev pub query_line : ℕ → ℕ → List ℕ
query_line n q = query_text q (draw n (360017 + 2 * q) % 2000) (90000 + draw n (360018 + 2 * q) % 9900)

unfoldable pub script_text : ℕ → List ℕ
script_text n = lines_of (query_line n) 16
