-- Files make one design or are refused, and no two answers are right.
use Rattle.std.proofs.Common.{◌≡◌, Result, Ok, Err, sym, ◌∙◌, ◌≤◌, ◌<◌, inl, inr, ℕ, List, length, refl, subst, arith}
use Rattle.design.specs.Joined.{Joined}
use Rattle.circuit_files.specs.declared.refusal.FileRefusal.{FileRefusal}
use Rattle.why_proofs.specs.Laws.{VerdictsAreFixed}
use Rattle.why_proofs.specs.Verdicts.{IsVerdict}
use Rattle.why_proofs.specs.declared.checker.Checked.TheVariants.{Yes, No, Bad}
use Rattle.backsim_check.specs.Given.{Given}
use Rattle.backsim_check.specs.Answers.{IsYes, OfDesign, IsProved, IsUnproved}
use Rattle.backsim_check.specs.Refused.{IsRefused}
use Rattle.backsim_check.specs.inner.Judged.{IsOther}

pub ok-not-err : (said : Result Joined FileRefusal) (design : Joined) (refusal : FileRefusal) → said ≡ Ok design → said ≡ Err refusal → ⊥
ok-not-err said design refusal ok err = let same : Ok design ≡ Err refusal = sym ok ∙ err in cc

pub same-design : (said : Result Joined FileRefusal) (a b : Joined) → said ≡ Ok a → said ≡ Ok b → a ≡ b
same-design said a b p q = cc

yes-verdict : (d : Joined) (text line : List ℕ) (is : IsYes d text line) → IsVerdict d text (Yes is.signal is.proof.time is.proof.value)
yes-verdict d text line is = record { yes = (is.proof, is.spelled, is.justified, refl, refl); no = tt; bad = tt }

-- a justified proof is no other text
yes-other : VerdictsAreFixed → (d : Joined) (text line line' : List ℕ) → IsYes d text line → IsOther d text line' → ⊥
yes-other fixed d text line line' is (inl other) =
    let same : Yes is.signal is.proof.time is.proof.value ≡ No other.number =
    fixed d text _ (No other.number) (yes-verdict d text line is) (record { yes = tt; no = (other.proof, other.spelled, other.unjustified); bad = tt }) in
    cc
yes-other fixed d text line line' is (inr other) =
    let same : Yes is.signal is.proof.time is.proof.value ≡ Bad other.number =
    fixed d text _ (Bad other.number) (yes-verdict d text line is) (record { yes = tt; no = tt; bad = other.broken }) in
    cc

pub proved-not-unproved : VerdictsAreFixed → (given : Given) (proof line line' : List ℕ) → IsProved given proof line → IsUnproved given proof line' → ⊥
proved-not-unproved fixed given proof line line' is other =
    let same : is.1.design ≡ other.1.design = same-design _ is.1.design other.1.design is.1.accepted other.1.accepted in
    yes-other fixed other.1.design proof line line' (subst (λ (d : Joined). IsYes d proof line) same is.1.holds) other.1.holds

-- what is judged is not refused
design-not-refused : (given : Given) (proof line : List ℕ) (says : Joined → Type 0) → length proof ≤ 268435456 → OfDesign given says → IsRefused given proof line → ⊥
design-not-refused given proof line says short of (inl refused) = ok-not-err _ of.design refused.refusal of.accepted refused.refused
design-not-refused given proof line says short of (inr long) = let more : 268435456 < length proof = long.long in omega (arith, more, short)

pub proved-not-refused : (given : Given) (proof line line' : List ℕ) → IsProved given proof line → IsRefused given proof line' → ⊥
proved-not-refused given proof line line' is refused = design-not-refused given proof line' (λ d. IsYes d proof line) is.0 is.1 refused

pub unproved-not-refused : (given : Given) (proof line line' : List ℕ) → IsUnproved given proof line → IsRefused given proof line' → ⊥
unproved-not-refused given proof line line' is refused = design-not-refused given proof line' (λ d. IsOther d proof line) is.0 is.1 refused
