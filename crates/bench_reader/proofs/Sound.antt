-- The lists of the reader stay sound.
use Rattle.std.proofs.Common.{◌≡◌, ℕ, ◌+◌, ◌-◌, ◌<◌, ◌≤◌, false, ltb, List, length, replicate, set, sym, ap, subst, ◌∙◌, arith, length-append}
use Rattle.std.specs.List.{All, sum_by}
use Rattle.std.proofs.Math.Nat.{mul-zero}
use Rattle.std.proofs.lemmas.Bool.{or_parts, ltb-false}
use Rattle.std.proofs.lemmas.List.{length-set, length-replicate}
use Rattle.std.proofs.lemmas.List.Elements.{All-append, All-set, All-weaker, All-replicate}
use Rattle.std.proofs.lemmas.List.Sums.{sum_by-append, sum_by-set}
use Rattle.std.proofs.lemmas.List.Folds.{sum_by-replicate}
use Rattle.bench_reader.specs.declared.netlist.Definition.{Definition}
use Rattle.bench_reader.specs.declared.netlist.Definition.TheVariants.{Missing, Input, Gate}
use Rattle.bench_reader.specs.Netlists.{exceeds}
use Rattle.bench_reader.specs.inner.KeptNetlists.{IsKeptNetlist, FitsRows, pin_count}
use Rattle.bench_reader.specs.inner.Reading.{padded_rows}

pub length-padded : (rows : List Definition) (count line : ℕ) → length rows ≤ count → length (padded_rows rows count line) ≡ count
length-padded rows count line le = length-append rows (replicate (count - length rows) (Missing line)) ∙ ap (λ (n : ℕ). length rows + n) (length-replicate (count - length rows) (Missing line)) ∙ whole
  where
    whole : length rows + (count - length rows) ≡ count
    whole = omega arith

fits_more : (few many : ℕ) → few ≤ many → (d : Definition) → FitsRows few d → FitsRows many d
fits_more few many le (Missing line) h = h
fits_more few many le Input h = h
fits_more few many le (Gate kind count start) h = record { within = omega (arith, h.within); counted = h.counted }

pub within : (names pins : ℕ) → exceeds names pins ≡ false → (names ≤ 1048576) × (pins ≤ 4194304)
within names pins h = let parts = or_parts (ltb 1048576 names) (ltb 4194304 pins) h in (ltb-false 1048576 names parts.0, ltb-false 4194304 pins parts.1)

pub total_grown : (rows : List Definition) (count line : ℕ) → sum_by pin_count (padded_rows rows count line) ≡ sum_by pin_count rows
total_grown rows count line =
    let none : sum_by pin_count (replicate (count - length rows) (Missing line)) ≡ 0 = sum_by-replicate pin_count (count - length rows) (Missing line) ∙ mul-zero (count - length rows) in
    omega (arith, sum_by-append pin_count rows (replicate (count - length rows) (Missing line)), none)

pub kept_grown : (ks new_ks : List (List ℕ)) (rows new_rows : List Definition) (pins new_pins : List ℕ) (line : ℕ) → IsKeptNetlist ks rows pins → length ks ≤ length new_ks → new_rows ≡ padded_rows rows (length new_ks) line → length pins ≤ length new_pins
    → exceeds (length new_ks) (length new_pins) ≡ false → IsKeptNetlist new_ks new_rows new_pins
kept_grown ks new_ks rows new_rows pins new_pins line kept le is more calm =
    let small = within (length new_ks) (length new_pins) calm in
    let P = FitsRows (length new_pins) in
    let old : All P rows = All-weaker (FitsRows (length pins)) P (fits_more (length pins) (length new_pins) more) rows kept.fits in
    let new : All P (replicate (length new_ks - length rows) (Missing line)) = All-replicate P (length new_ks - length rows) (Missing line) tt in
    record {
      rows_len = ap length is ∙ length-padded rows (length new_ks) line (omega (arith, kept.rows_len));
      few = small.0;
      room = small.1;
      fits = subst (All P) (sym is) (All-append P rows (replicate (length new_ks - length rows) (Missing line)) old new);
      total = omega (arith, ap (sum_by pin_count) is, total_grown rows (length new_ks) line, kept.total);
    }

-- one definition is written, whose pins are there beside those of the others
pub kept_set : (ks : List (List ℕ)) (rows : List Definition) (pins : List ℕ) (i : ℕ) (d : Definition) → IsKeptNetlist ks rows pins → i < length rows → FitsRows (length pins) d → sum_by pin_count rows + pin_count d ≤ length pins → IsKeptNetlist ks (set rows i d) pins
kept_set ks rows pins i d kept lt h room = record {
  rows_len = length-set rows i d ∙ kept.rows_len;
  few = kept.few;
  room = kept.room;
  fits = All-set (FitsRows (length pins)) rows i d h kept.fits;
  total = omega (arith, sum_by-set pin_count rows i d (Missing 0) lt);
}
