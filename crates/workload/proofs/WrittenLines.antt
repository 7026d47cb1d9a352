-- Lines that are written one after another.
use Rattle.std.proofs.Common.{◌≡◌, ℕ, ◌+◌, zero, suc, List, [], ◌++◌, refl, sym, ap, ◌∙◌, add-one, append_assoc, append-nil, arith}
use Rattle.std.specs.List.{flat_map, range_with_len}
use Rattle.workload.specs.Texts.{lines_of}

flat-more : (line : ℕ → List ℕ) (first many : ℕ) → flat_map line (range_with_len first (suc many)) ≡ flat_map line (range_with_len first many) ++ line (first + many)
flat-more line first zero = append-nil (line first) ∙ ap line (let e : first ≡ first + 0 = omega arith in e)
flat-more line first (suc many) =
    let rest : List ℕ = flat_map line (range_with_len (first + 1) many) in
    let last : first + 1 + many ≡ first + suc many = omega arith in
    ap (λ l. line first ++ l) (flat-more line (first + 1) many)
    ∙ sym (append_assoc (line first) rest (line (first + 1 + many)))
    ∙ ap (λ m. line first ++ rest ++ line m) last

-- no line
pub lines-none : (line : ℕ → List ℕ) → lines_of line 0 ≡ []
unfolding lines_of
lines-none line = refl

-- one line more
pub lines-more : (line : ℕ → List ℕ) (many : ℕ) → lines_of line (many + 1) ≡ lines_of line many ++ line many
unfolding lines_of
lines-more line many =
    let same : 0 + many ≡ many = omega arith in
    ap (λ m. flat_map line (range_with_len 0 m)) (add-one many)
    ∙ flat-more line 0 many
    ∙ ap (λ m. flat_map line (range_with_len 0 many) ++ line m) same

-- before the first line the text is what it was
pub start-written : (line : ℕ → List ℕ) (text : List ℕ) → text ≡ text ++ lines_of line 0
start-written line text = sym (ap (λ l. text ++ l) (lines-none line) ∙ append-nil text)

-- after one line more
pub more-written : (line : ℕ → List ℕ) (many : ℕ) (start text more : List ℕ) → text ≡ start ++ lines_of line many → more ≡ text ++ line many → more ≡ start ++ lines_of line (many + 1)
more-written line many start text more so_far one =
    one
    ∙ ap (λ l. l ++ line many) so_far
    ∙ append_assoc start (lines_of line many) (line many)
    ∙ ap (λ l. start ++ l) (sym (lines-more line many))
