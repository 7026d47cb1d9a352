-- A line that was read, without where it lies in memory.
use Rattle.std.specs.Prelude.{ℕ, List, map}
use Rattle.std.specs.Borrow.{Bor}
use Rattle.bench_reader.specs.declared.form.Form.{Form}
use Rattle.bench_reader.specs.declared.form.Form.TheVariants as forms
use Rattle.bench_reader.specs.Lines.{Line, Blank, Malformed, Input, Output, Gate}

-- the names that these references point to
abbrev pub each_now : List (Bor (List ℕ)) → List (List ℕ)
each_now names = map (λ p. p.now) names

-- where these are the names of its list
abbrev pub view : List (Bor (List ℕ)) → Form → Line
view pins forms.Blank = Blank
view pins forms.Malformed = Malformed
view pins (forms.Input name) = Input name.now
view pins (forms.Output name) = Output name.now
view pins (forms.Gate name kind) = Gate name.now kind.now (each_now pins)
