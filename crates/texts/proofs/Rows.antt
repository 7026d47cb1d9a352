-- What one more line gives.
use Rattle.std.proofs.Common.{◌≡◌, ℕ, ◌+◌, List, [], ◌∷◌, ◌++◌, length, sym, ap, ◌∙◌, append_assoc, arith}
use Rattle.std.proofs.lemmas.List.{append-nil}
use Rattle.texts.specs.line_faults.Rows.{rows_from}

rows-append : {L X : Type 0} (row_of : ℕ → L → List X) (n : ℕ) (a b : List L) → rows_from row_of n (a ++ b) ≡ rows_from row_of n a ++ rows_from row_of (n + length a) b
rows-append row_of n [] b = ap (λ (k : ℕ). rows_from row_of k b) (omega arith)
rows-append {L} {X} row_of n (x ∷ a) b =
    let k : (n + 1) + length a ≡ n + length (x ∷ a) = omega arith in
    ap (λ (l : List X). row_of n x ++ l) (rows-append row_of (n + 1) a b ∙ ap (λ (k : ℕ). rows_from row_of (n + 1) a ++ rows_from row_of k b) k) ∙ sym (append_assoc (row_of n x) (rows_from row_of (n + 1) a) (rows_from row_of (n + length (x ∷ a)) b))

pub rows-push : {L X : Type 0} (row_of : ℕ → L → List X) (before : List L) (line : L) (n : ℕ) → length before + 1 ≡ n → rows_from row_of 1 (before ++ line ∷ []) ≡ rows_from row_of 1 before ++ row_of n line
rows-push {L} {X} row_of before line n is =
    let k : 1 + length before ≡ n = omega (arith, is) in
    rows-append row_of 1 before (line ∷ []) ∙ ap (λ (l : List X). rows_from row_of 1 before ++ l) (append-nil (row_of (1 + length before) line)) ∙ ap (λ (k : ℕ). rows_from row_of 1 before ++ row_of k line) k
