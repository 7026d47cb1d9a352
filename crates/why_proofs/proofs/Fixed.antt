-- For each text just one answer is right.
use Rattle.std.proofs.Common.{◌≡◌, ℕ, ◌+◌, ◌<◌, List, sym, ap, subst, ◌∙◌, arith, inl, inr}
use Rattle.std.proofs.lemmas.Bool.{cases_lt}
use Rattle.std.proofs.lemmas.Option.{same_Some}
use Rattle.gate_values.specs.declared.Value.{Value}
use Rattle.design.specs.Joined.{Joined}
use Rattle.why_proofs.specs.Spelling.{Proof}
use Rattle.why_proofs.specs.Broken.{IsBroken}
use Rattle.why_proofs.specs.Justified.{IsClaimed, IsJustifiedProof}
use Rattle.why_proofs.specs.Verdicts.{IsTextOf, IsFirstUnjustified, IsUnjustified, IsVerdict}
use Rattle.why_proofs.specs.declared.checker.Checked.{Checked}
use Rattle.why_proofs.specs.declared.checker.Checked.TheVariants.{Yes, No, Bad}
use Rattle.why_proofs.proofs.Breaks.{one-proof}

same-proof : (text : List ℕ) (p q : Proof) → IsTextOf text p → IsTextOf text q → p ≡ q
same-proof text p q a b = one-proof p q a.proof b.proof (sym a.spelled ∙ b.spelled)

-- two numbers of which neither is below the other
apart : (m n : ℕ) → (m < n → ⊥) → (n < m → ⊥) → m ≡ n
apart m n a b = elim (cases_lt m n) [
  | inl l ↦ absurd (a l)
  | inr l ↦ elim (cases_lt n m) [ inl k ↦ absurd (b k) | inr k ↦ omega arith ]
]

same-signal : (d : Joined) (p : Proof) (s u : ℕ) → IsClaimed d p s → IsClaimed d p u → s ≡ u
same-signal d p s u a b = same_Some s u (sym a.name ∙ b.name)

first-same : (d : Joined) (p : Proof) (k j : ℕ) → IsFirstUnjustified d p k → IsFirstUnjustified d p j → k ≡ j
first-same d p k j a b = apart k j (λ l. a.not (b.above k l)) (λ l. b.not (a.above j l))

unjustified-same : (d : Joined) (p : Proof) (m n : ℕ) → IsUnjustified d p m → IsUnjustified d p n → m ≡ n
unjustified-same d p m n (inl a) (inl b) = a.0 ∙ sym b.0
unjustified-same d p m n (inl a) (inr (k, e, b)) = absurd (b.not (a.1.cells k b.within))
unjustified-same d p m n (inr (k, e, a)) (inl b) = absurd (a.not (b.1.cells k a.within))
unjustified-same d p m n (inr (k, e, a)) (inr (j, f, b)) = e ∙ ap (λ i. i + 2) (first-same d p k j a b) ∙ sym f

not-both : (d : Joined) (p : Proof) (s n : ℕ) → IsJustifiedProof d p s → IsUnjustified d p n → ⊥
not-both d p s n j (inl a) = a.1.not s j.claim
not-both d p s n j (inr (k, e, a)) = a.not (j.cells k a.within)

broken-same : (text : List ℕ) (m n : ℕ) → IsBroken text m → IsBroken text n → m ≡ n
broken-same text m n a b = apart m n (λ l. a.there (b.before m l)) (λ l. b.there (a.before n l))

not-broken : (text : List ℕ) (p : Proof) (n : ℕ) → IsTextOf text p → IsBroken text n → ⊥
not-broken text p n a b = b.none p a.proof a.spelled

yes-same : (s t s' t' : ℕ) (v v' : Value) → s ≡ s' → t ≡ t' → v ≡ v' → Yes s t v ≡ Yes s' t' v'
yes-same s t s' t' v v' a b c = ap (λ x. Yes x t v) a ∙ ap (λ x. Yes s' x v) b ∙ ap (Yes s' t') c

pub verdict-fixed : (d : Joined) (text : List ℕ) (r q : Checked) → IsVerdict d text r → IsVerdict d text q → r ≡ q
verdict-fixed d text (Yes s t v) (Yes s' t' v') a b =
    let (p, ip, jp, tp, vp) = a.yes in
    let (q, iq, jq, tq, vq) = b.yes in
    let same = same-proof text p q ip iq in
    let signal : s ≡ s' = same-signal d q s s' (subst (λ x. IsClaimed d x s) same jp.claim) jq.claim in
    yes-same s t s' t' v v' signal (tp ∙ ap (λ (x : Proof). x.time) same ∙ sym tq) (vp ∙ ap (λ (x : Proof). x.value) same ∙ sym vq)
verdict-fixed d text (Yes s t v) (No n) a b =
    let (p, ip, jp, tp, vp) = a.yes in
    let (q, iq, u) = b.no in
    absurd (not-both d q s n (subst (λ x. IsJustifiedProof d x s) (same-proof text p q ip iq) jp) u)
verdict-fixed d text (Yes s t v) (Bad n) a b = let (p, ip, jp, tp, vp) = a.yes in absurd (not-broken text p n ip b.bad)
verdict-fixed d text (No m) (Yes s t v) a b =
    let (q, iq, u) = a.no in
    let (p, ip, jp, tp, vp) = b.yes in
    absurd (not-both d q s m (subst (λ x. IsJustifiedProof d x s) (same-proof text p q ip iq) jp) u)
verdict-fixed d text (No m) (No n) a b =
    let (p, ip, u) = a.no in
    let (q, iq, w) = b.no in
    ap No (unjustified-same d q m n (subst (λ x. IsUnjustified d x m) (same-proof text p q ip iq) u) w)
verdict-fixed d text (No m) (Bad n) a b = let (p, ip, u) = a.no in absurd (not-broken text p n ip b.bad)
verdict-fixed d text (Bad m) (Yes s t v) a b = let (p, ip, jp, tp, vp) = b.yes in absurd (not-broken text p m ip a.bad)
verdict-fixed d text (Bad m) (No n) a b = let (p, ip, u) = b.no in absurd (not-broken text p m ip a.bad)
verdict-fixed d text (Bad m) (Bad n) a b = ap Bad (broken-same text m n a.bad b.bad)
