-- The keys of the set of what was seen.
use Rattle.std.proofs.Common.{◌≡◌, ◌||◌, Bool, true, false, cond, List, [], ◌∷◌, refl, sym, ap₂, ◌∙◌, arith}
use Rattle.std.specs.Bool.{OnTrue}
use Rattle.std.specs.List.{list_any}
use Rattle.std.specs.Ordering.{is_eq}
use Rattle.std.specs.BTreeSet.{BTreeSet, contains}
use Rattle.std.proofs.lemmas.Cmp.{eq_by_cmp_equiv}
use Rattle.timing_file.specs.declared.statement.Subject.{Subject}
use Rattle.timing_file.specs.declared.statement.Subject.TheVariants as keys
use Rattle.timing_file.specs.contracts.statement.SubjectPartialEq.TheImpl.{eq-value}
use Rattle.timing_file.specs.contracts.statement.SubjectOrd.TheImpl.{cmp-value}
use Rattle.timing_file.specs.contracts.statement.SubjectOrd.TheImpl.Laws.{matches_eq-law, total-law}
use Rattle.timing_file.specs.inner.Views.{is_alike}

-- the derived equality is that of the subjects
pub eq-is : (a b : Subject) → eq-value.it a b ≡ is_alike a b
eq-is keys.CommonClock b = grind arith
eq-is (keys.NamedClock name) b = grind arith
eq-is keys.Default b = grind arith
eq-is (keys.DefaultOf kind) b = grind arith
eq-is (keys.DelayOf name) b = grind arith
eq-is (keys.InitOf name) b = grind arith
eq-is (keys.PinOf name place) b = grind arith
eq-is (keys.ClockOf flop) b = grind arith

-- two subjects that the derived order does not tell apart
tied : (a b : Subject) → is_eq (cmp-value.it a b) ≡ is_alike a b
tied a b = sym (matches_eq-law a b) ∙ eq-is a b

pub is_seen : (key : Subject) (seen : BTreeSet Subject) → contains cmp-value.it seen key ≡ list_any (is_alike key) seen.keys
is_seen key seen = each seen.keys
  where
    each : (keys : List Subject) → list_any (λ k. is_eq (cmp-value.it key k)) keys ≡ list_any (is_alike key) keys
    each [] = refl
    each (k ∷ keys) = ap₂ (λ (a b : Bool). a || b) (tied key k) (each keys)

joined : (a b : Bool) → cond a true b ≡ (a || b)
joined true b = refl
joined false b = refl

-- a key that is new stands beside the others
pub grown : (key : Subject) (old new : BTreeSet Subject) (added : Bool) → ((q : Subject) → contains cmp-value.it new q ≡ cond (is_eq (cmp-value.it key q)) true (contains cmp-value.it old q))
    → OnTrue added ((q : Subject) → list_any (is_alike q) new.keys ≡ (is_alike q key || list_any (is_alike q) old.keys))
grown key old new true puts = λ q.
    sym (is_seen q new) ∙ puts q ∙ ap₂ (λ (a b : Bool). cond a true b) ((eq_by_cmp_equiv total-law).symm key q ∙ tied q key) (is_seen q old) ∙ joined (is_alike q key) (list_any (is_alike q) old.keys)
grown key old new false puts = tt
