-- A line of an entry that is spelled is read again.
use Rattle.std.proofs.Common.{◌≡◌, ℕ, ◌<◌, List, ◌++◌, length, Some, refl, ap, ◌∙◌, append_assoc, arith}
use Rattle.valid_intervals.specs.declared.Cell.{Cell}
use Rattle.valid_intervals.specs.declared.Point.{Point}
use Rattle.journal_meaning.specs.declared.Entry.{Entry}
use Rattle.journal_meaning.specs.declared.Entry.TheVariants.{Told, Claimed, Filled, Evicted, Dropped, Spent}
use Rattle.texts.specs.fields.Spelling.{field, IsNumber}
use Rattle.journal_text.specs.Spelling.{point, cell, line_feed, entry_line}
use Rattle.journal_text.specs.Written.{IsPoint, IsCell, IsEntry}
use Rattle.journal_text.specs.inner.Reading.{told_at, claimed_at, filled_at, evicted_at, dropped_at, spent_at, entry_at}
use Rattle.texts.proofs.Callers.{field_again, AreSpelled}
use Rattle.journal_text.proofs.Fields.{point_again, cell_again}
use Rattle.journal_text.proofs.Entries.{entry_takes}

apart3 : (a b c rest : List ℕ) → (a ++ (b ++ c)) ++ rest ≡ a ++ (b ++ (c ++ rest))
apart3 a b c rest = append_assoc a (b ++ c) rest ∙ ap (λ (l : List ℕ). a ++ l) (append_assoc b c rest)

apart4 : (a b c d rest : List ℕ) → (a ++ (b ++ (c ++ d))) ++ rest ≡ a ++ (b ++ (c ++ (d ++ rest)))
apart4 a b c d rest = apart3 a b (c ++ d) rest ∙ ap (λ (l : List ℕ). a ++ (b ++ l)) (append_assoc c d rest)

told_again : (q : ℕ) (p : Point) (c : Cell) (rest : List ℕ) → IsNumber q → IsPoint p → IsCell c → told_at ((field q ++ (point p ++ (cell c ++ line_feed))) ++ rest) ≡ Some (Told q p c, rest)
unfolding told_at
told_again q p c rest qs ps cs =
    let one = field_again q (point p ++ (cell c ++ (line_feed ++ rest))) qs refl in
    let two = point_again p (cell c ++ (line_feed ++ rest)) ps refl in
    let three = cell_again c (line_feed ++ rest) cs in
    ap told_at (apart4 (field q) (point p) (cell c) line_feed rest) ∙ rw (one, two, three) refl

filled_again : (q : ℕ) (p : Point) (c : Cell) (rest : List ℕ) → IsNumber q → IsPoint p → IsCell c → filled_at ((field q ++ (point p ++ (cell c ++ line_feed))) ++ rest) ≡ Some (Filled q p c, rest)
unfolding filled_at
filled_again q p c rest qs ps cs =
    let one = field_again q (point p ++ (cell c ++ (line_feed ++ rest))) qs refl in
    let two = point_again p (cell c ++ (line_feed ++ rest)) ps refl in
    let three = cell_again c (line_feed ++ rest) cs in
    ap filled_at (apart4 (field q) (point p) (cell c) line_feed rest) ∙ rw (one, two, three) refl

claimed_again : (q : ℕ) (p : Point) (rest : List ℕ) → IsNumber q → IsPoint p → claimed_at ((field q ++ (point p ++ line_feed)) ++ rest) ≡ Some (Claimed q p, rest)
unfolding claimed_at
claimed_again q p rest qs ps =
    let one = field_again q (point p ++ (line_feed ++ rest)) qs refl in
    let two = point_again p (line_feed ++ rest) ps refl in
    ap claimed_at (apart3 (field q) (point p) line_feed rest) ∙ rw (one, two) refl

dropped_again : (q : ℕ) (p : Point) (rest : List ℕ) → IsNumber q → IsPoint p → dropped_at ((field q ++ (point p ++ line_feed)) ++ rest) ≡ Some (Dropped q p, rest)
unfolding dropped_at
dropped_again q p rest qs ps =
    let one = field_again q (point p ++ (line_feed ++ rest)) qs refl in
    let two = point_again p (line_feed ++ rest) ps refl in
    ap dropped_at (apart3 (field q) (point p) line_feed rest) ∙ rw (one, two) refl

evicted_again : (signal start : ℕ) (rest : List ℕ) → IsNumber signal → IsNumber start → evicted_at ((field signal ++ (field start ++ line_feed)) ++ rest) ≡ Some (Evicted signal start, rest)
unfolding evicted_at
evicted_again signal start rest ss ts =
    let one = field_again signal (field start ++ (line_feed ++ rest)) ss refl in
    let two = field_again start (line_feed ++ rest) ts refl in
    ap evicted_at (apart3 (field signal) (field start) line_feed rest) ∙ rw (one, two) refl

spent_again : (q : ℕ) (p : Point) (held : ℕ) (rest : List ℕ) → IsNumber q → IsPoint p → IsNumber held → spent_at ((field q ++ (point p ++ (field held ++ line_feed))) ++ rest) ≡ Some (Spent q p held, rest)
unfolding spent_at
spent_again q p held rest qs ps hs =
    let one = field_again q (point p ++ (field held ++ (line_feed ++ rest))) qs refl in
    let two = point_again p (field held ++ (line_feed ++ rest)) ps refl in
    let three = field_again held (line_feed ++ rest) hs refl in
    ap spent_at (apart4 (field q) (point p) (field held) line_feed rest) ∙ rw (one, two, three) refl

entry_again : (e : Entry) (rest : List ℕ) → IsEntry e → entry_at (entry_line e ++ rest) ≡ Some (e, rest)
unfolding entry_at
entry_again (Told q p c) rest is = told_again q p c rest is.0 is.1 is.2
entry_again (Claimed q p) rest is = claimed_again q p rest is.0 is.1
entry_again (Filled q p c) rest is = filled_again q p c rest is.0 is.1 is.2
entry_again (Evicted signal start) rest is = evicted_again signal start rest is.0 is.1
entry_again (Dropped q p) rest is = dropped_again q p rest is.0 is.1
entry_again (Spent q p held) rest is = spent_again q p held rest is.0 is.1 is.2

-- a line has at least a byte
line_some : (e : Entry) → 0 < length (entry_line e)
line_some (Told q p c) = omega arith
line_some (Claimed q p) = omega arith
line_some (Filled q p c) = omega arith
line_some (Evicted signal start) = omega arith
line_some (Dropped q p) = omega arith
line_some (Spent q p held) = omega arith

pub spelling : AreSpelled entry_at entry_line IsEntry
spelling = record { takes = entry_takes; again = entry_again; some = line_some }
