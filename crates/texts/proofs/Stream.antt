-- A text that comes byte by byte: the lines of a line under way and of what follows it.
use Rattle.std.proofs.Common.{◌≡◌, ℕ, ◌<◌, ◌≢◌, Bool, true, false, not, ◌&&◌, List, [], ◌∷◌, ◌++◌, length, refl, ap, ◌∙◌, arith}
use Rattle.std.specs.List.{slice_split, onto_first, list_all}
use Rattle.std.proofs.lemmas.Bool.{ne_eqb}
use Rattle.std.proofs.lemmas.List.Folds.{list_all-append}
use Rattle.std.proofs.lemmas.List.Splits.{length-slice_split}
use Rattle.texts.specs.Text.{is_feed, lines, less_empty_last}
use Rattle.texts.proofs.Cuts.{keeps_first}

-- no line feed
abbrev pub is_plain : List ℕ → Bool
is_plain bytes = list_all (λ b. not (is_feed b)) bytes

and_true : (a b : Bool) → (not a && b) ≡ true → (a ≡ false) × (b ≡ true)
and_true true b h = absurd cc
and_true false b h = (refl, h)

split_front : (line rest : List ℕ) → is_plain line ≡ true → slice_split is_feed (line ++ 10 ∷ rest) ≡ line ∷ slice_split is_feed rest
split_front [] rest h = refl
split_front (b ∷ line) rest h = let both = and_true (is_feed b) (is_plain line) h in rw both.0 (ap (onto_first b) (split_front line rest both.1))

split_whole : (line : List ℕ) → is_plain line ≡ true → slice_split is_feed line ≡ line ∷ []
split_whole [] h = refl
split_whole (b ∷ line) h = let both = and_true (is_feed b) (is_plain line) h in rw both.0 (ap (onto_first b) (split_whole line both.1))

-- a line that a line feed ends
pub line_front : (line rest : List ℕ) → is_plain line ≡ true → lines (line ++ 10 ∷ rest) ≡ line ∷ lines rest
unfolding lines
line_front line rest h =
    let more : 0 < length (slice_split is_feed rest) = omega (arith, length-slice_split is_feed rest) in
    ap less_empty_last (split_front line rest h) ∙ keeps_first line (slice_split is_feed rest) more

-- a last line that no line feed ends
pub line_last : (line : List ℕ) → is_plain line ≡ true → 0 < length line → lines line ≡ line ∷ []
unfolding lines
line_last [] h some = absurd (omega arith)
line_last (b ∷ line) h some = ap less_empty_last (split_whole (b ∷ line) h)

pub no_line : lines [] ≡ []
unfolding lines
no_line = refl

-- a byte that is no line feed makes the line under way longer
pub plain_push : (line : List ℕ) (b : ℕ) → is_plain line ≡ true → is_feed b ≡ false → is_plain (line ++ b ∷ []) ≡ true
plain_push line b h e = list_all-append (λ x. not (is_feed x)) line (b ∷ []) ∙ rw (h, e) refl

pub not_feed : (b : ℕ) → b ≢ 10 → is_feed b ≡ false
not_feed b h = ne_eqb b 10 h
