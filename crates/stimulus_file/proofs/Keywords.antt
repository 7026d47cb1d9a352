-- Lines by their keywords.
use Rattle.std.proofs.Common.{◌≡◌, ℕ, true, List, [], ◌∷◌, ◌++◌, take, drop, refl, sym, ap, ◌∙◌}
use Rattle.std.specs.Prelude.{codes}
use Rattle.std.specs.Str.{bytes_eq}
use Rattle.std.proofs.lemmas.List.{take-append-drop}
use Rattle.std.proofs.lemmas.Slice.Eq.{bytes_eq-Decides}
use Rattle.texts.specs.Text.{words}
use Rattle.stimulus_file.specs.Forms.{Other, by_words}

-- `set` and a space
pub set_words : (bytes rest : List ℕ) → bytes_eq (take 4 bytes) (codes "set ") ≡ true → rest ≡ drop 4 bytes → words bytes ≡ codes "set" ∷ words rest
unfolding words
set_words bytes rest front is =
    ap words (sym (take-append-drop 4 bytes) ∙ ap (λ (l : List ℕ). l ++ drop 4 bytes) ((bytes_eq-Decides (take 4 bytes) (codes "set ")).0 front))
    ∙ ap (λ (l : List ℕ). codes "set" ∷ words l) (sym is)

-- more than a word after `horizon`
pub no_horizon : (horizon word : List ℕ) (more : List (List ℕ)) → by_words (codes "horizon" ∷ horizon ∷ word ∷ more) ≡ Other
no_horizon horizon word [] = refl
no_horizon horizon word (w ∷ []) = refl
no_horizon horizon word (w ∷ v ∷ more) = refl
