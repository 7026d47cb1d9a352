-- Worked examples: what has ended in some bytes, and which units that completes.
use Rattle.std.proofs.Common.{◌≡◌, ℕ, List, [], ◌∷◌, ◌++◌, refl}
use Rattle.std.specs.Prelude.{codes}
use Rattle.texts.specs.Text.{words}
use Rattle.query_lines.specs.declared.line.What.TheVariants.{Window, Bad}
use Rattle.query_lines.specs.declared.line.Tell.TheVariants.{At}
use Rattle.query_lines.specs.declared.unit.Unit.TheVariants.{Batch, Trim, Stats}
use Rattle.query_lines.specs.Lines.{line_of}
use Rattle.query_lines.specs.Reading.{ended_lines, completed_units}

nothing : ended_lines [] ≡ []
unfolding ended_lines
nothing = refl

under-way : ended_lines (codes "stats") ≡ []
unfolding ended_lines
under-way = refl

ended : ended_lines (codes "stats" ++ 10 ∷ 10 ∷ codes "g") ≡ codes "stats" ∷ [] ∷ []
unfolding ended_lines
ended = refl

-- `at y 5`, `stats`, `hello` and `trim 7`: each line that has ended completes what it ends, and no more
three-lines : List ℕ
three-lines = codes "at y 5" ++ 10 ∷ codes "stats" ++ 10 ∷ codes "hello" ++ 10 ∷ codes "trim 7"

before-trim : completed_units 100 three-lines ≡ Batch (record { line = 1; what = Window (record { name = codes "y"; from = 5; to = 6; budget = 50000 }) At } ∷ []) ∷ Stats ∷ []
unfolding three-lines completed_units ended_lines line_of words
before-trim = refl

behind-trim : completed_units 100 (three-lines ++ 10 ∷ []) ≡ Batch (record { line = 1; what = Window (record { name = codes "y"; from = 5; to = 6; budget = 50000 }) At } ∷ []) ∷ Stats ∷ Batch (record { line = 3; what = Bad } ∷ []) ∷ Trim 7 ∷ []
unfolding three-lines completed_units ended_lines line_of words
behind-trim = refl
