-- The place that the lists have for a key, and what a cell more and a cell less change there.
use Rattle.std.proofs.Common.{◌≡◌, ⊎_elim, ℕ, zero, suc, Bool, true, false, cond, nat_eq, List, [], ◌∷◌, Option, Some, None, refl, sym, ap, ◌∙◌, true≢false, arith}
use Rattle.std.proofs.lemmas.Bool.Decides.{nat_tests}
use Rattle.std.specs.Ordering.{is_eq}
use Rattle.std.proofs.lemmas.Option.{same_Some}
use Rattle.std.proofs.lemmas.Bool.{eqb-false}
use Rattle.cell_store.specs.declared.Key.{Key}
use Rattle.cell_store.specs.declared.index.Place.{Place}
use Rattle.cell_store.specs.declared.index.Node.{Node}
use Rattle.cell_store.specs.inner.Index.{key_cmp}
use Rattle.cell_store.specs.inner.Lists.{held_in, held_at, place_if, is_of, listed, or_else}
use Rattle.cell_store.proofs.Keys.{equal_keys}
use Rattle.cell_store.proofs.Found.{none_some}
use Rattle.cell_store.proofs.Links.{Same, Cell, Held, cell_same, same_or_not, still_held, was_held, left}

pub key_itself : (k : Key) → is_eq (key_cmp k k) ≡ true
key_itself k = grind (arith, nat_tests)

abbrev pub Once : Held → Type 0
Once held = (i j : ℕ) (k : Key) (p q : Place) → held i ≡ Some (k, p) → held j ≡ Some (k, q) → i ≡ j

once_behind : (n : Node) (nodes : List Node) → Once (held_at (n ∷ nodes)) → Once (held_at nodes)
once_behind n nodes once i j k p q a b = let same = once (suc i) (suc j) k p q a b in omega (arith, same)

pub found_at : (nodes : List Node) (i : ℕ) (k : Key) (p : Place) → Once (held_at nodes) → held_at nodes i ≡ Some (k, p) → listed nodes k ≡ Some p
found_at [] i k p once h = none_some (k, p) h
found_at (n ∷ nodes) zero k p once h =
    ap (λ (o : Option Cell). place_if k o (listed nodes k)) h ∙ ap (λ (b : Bool). cond b (Some p) (listed nodes k)) (key_itself k)
found_at (n ∷ nodes) (suc i) k p once h =
    (elim (held_in n) as (λ o. held_in n ≡ o → place_if k o (listed nodes k) ≡ Some p) [
      | None ↦ λ t. found_at nodes i k p (once_behind n nodes once) h
      | Some e ↦ λ t.
          (elim (is_of k e.0) as (λ b. is_of k e.0 ≡ b → cond b (Some e.1) (listed nodes k) ≡ Some p) [
            | true ↦ λ is.
                let same : e.0 ≡ k = equal_keys e.0 k is in
                let at : held_in n ≡ Some (k, e.1) = t ∙ ap (λ (j : Key). Some (j, e.1)) same in
                let one : zero ≡ suc i = once zero (suc i) k e.1 p at h in
                absurd (omega (arith, one))
            | false ↦ λ is. found_at nodes i k p (once_behind n nodes once) h
          ]) refl
    ]) refl

pub found_from : (nodes : List Node) (k : Key) (p : Place) → listed nodes k ≡ Some p → (i : ℕ) × (held_at nodes i ≡ Some (k, p))
found_from [] k p h = none_some p h
found_from (n ∷ nodes) k p h =
    (elim (held_in n) as (λ o. held_in n ≡ o → place_if k o (listed nodes k) ≡ Some p → (i : ℕ) × (held_at (n ∷ nodes) i ≡ Some (k, p))) [
      | None ↦ λ t d. let r = found_from nodes k p d in (suc r.0, r.1)
      | Some e ↦ λ t d.
          (elim (is_of k e.0) as (λ b. is_of k e.0 ≡ b → cond b (Some e.1) (listed nodes k) ≡ Some p → (i : ℕ) × (held_at (n ∷ nodes) i ≡ Some (k, p))) [
            | true ↦ λ is g.
                let same : e.0 ≡ k = equal_keys e.0 k is in
                let place : e.1 ≡ p = same_Some e.1 p g in
                (zero, t ∙ ap (λ (j : Key). Some (j, e.1)) same ∙ ap (λ (q : Place). Some (k, q)) place)
            | false ↦ λ is g. let r = found_from nodes k p g in (suc r.0, r.1)
          ]) refl d
    ]) refl h

-- what a list of nodes has for a key is what it is told to have
pub listed_is : (nodes : List Node) (k : Key) (o : Option Place) → Once (held_at nodes)
    → ((p : Place) → o ≡ Some p → (i : ℕ) × (held_at nodes i ≡ Some (k, p)))
    → ((i : ℕ) (p : Place) → held_at nodes i ≡ Some (k, p) → o ≡ Some p)
    → listed nodes k ≡ o
listed_is nodes k o once has from =
    (elim o as (λ v. o ≡ v → listed nodes k ≡ v) [
      | Some p ↦ λ e. let r = has p e in found_at nodes r.0 k p once r.1
      | None ↦ λ e.
          (elim (listed nodes k) as (λ v. listed nodes k ≡ v → v ≡ None) [
            | None ↦ λ t. refl
            | Some p ↦ λ t. let r = found_from nodes k p t in none_some p (sym e ∙ from r.0 p r.1)
          ]) refl
    ]) refl

pub listed_same : (nodes new : List Node) → Once (held_at nodes) → Once (held_at new) → ((j : ℕ) → held_at new j ≡ held_at nodes j) → (q : Key) → listed new q ≡ listed nodes q
listed_same nodes new once once' same q =
    listed_is new q (listed nodes q) once' (λ p e. let r = found_from nodes q p e in (r.0, same r.0 ∙ r.1)) (λ i p at. found_at nodes i q p once (sym (same i) ∙ at))

unequal : (k q : Key) → is_eq (key_cmp k q) ≡ false → k ≡ q → ⊥
unequal k q not_so e = true≢false (sym (ap (λ (d : Key). is_eq (key_cmp k d)) (sym e) ∙ key_itself k) ∙ not_so)

module _ (nodes new : List Node) (once : Once (held_at nodes)) (once' : Once (held_at new)) (i : ℕ) (k : Key) (p : Place) where
  pub listed_more : held_at nodes i ≡ None → held_at new i ≡ Some (k, p) → ((j : ℕ) → nat_eq i j ≡ false → held_at new j ≡ held_at nodes j)
      → (q : Key) → listed new q ≡ cond (is_eq (key_cmp k q)) (Some p) (listed nodes q)
  listed_more free is others q =
      (elim (is_eq (key_cmp k q)) as (λ b. is_eq (key_cmp k q) ≡ b → listed new q ≡ cond b (Some p) (listed nodes q)) [
        | true ↦ λ t. let same : k ≡ q = equal_keys k q t in found_at new i q p once' (is ∙ ap (λ (d : Key). Some (d, p)) same)
        | false ↦ λ t.
            listed_is new q (listed nodes q) once' (λ r e. let f = found_from nodes q r e in (f.0, still_held (held_at nodes) (held_at new) i k p free is others f.0 (q, r) f.1))
            (λ j r at.
            ⊎_elim
            (λ (e : (i ≡ j) × Same (q, r) (k, p)). absurd (unequal k q t (sym (ap (λ (c : Cell). c.0) e.1))))
            (λ (e : held_at nodes j ≡ Some (q, r)). found_at nodes j q r once e)
            (was_held (held_at nodes) (held_at new) i k p free is others j (q, r) at))
      ]) refl

  pub listed_less : held_at nodes i ≡ Some (k, p) → held_at new i ≡ None → ((j : ℕ) → nat_eq i j ≡ false → held_at new j ≡ held_at nodes j)
      → (q : Key) → listed new q ≡ cond (is_eq (key_cmp k q)) None (listed nodes q)
  listed_less was gone others q =
      (elim (is_eq (key_cmp k q)) as (λ b. is_eq (key_cmp k q) ≡ b → listed new q ≡ cond b None (listed nodes q)) [
        | true ↦ λ t.
            let same : k ≡ q = equal_keys k q t in
            listed_is new q None once' (λ r e. none_some r e)
            (λ j r at.
            let l = left (held_at nodes) (held_at new) i k p was gone others once j (q, r) at in
            absurd (eqb-false i j l.0 (once i j q p r (was ∙ ap (λ (d : Key). Some (d, p)) same) l.1)))
        | false ↦ λ t.
            listed_is new q (listed nodes q) once'
            (λ r e.
            let f = found_from nodes q r e in (
              f.0,
              ⊎_elim (λ (s : i ≡ f.0). absurd (unequal k q t (cell_same k q p r (sym was ∙ ap (held_at nodes) s ∙ f.1)).0)) (λ (s : nat_eq i f.0 ≡ false). others f.0 s ∙ f.1) (same_or_not i f.0),
            ))
            (λ j r at. found_at nodes j q r once (left (held_at nodes) (held_at new) i k p was gone others once j (q, r) at).1)
      ]) refl

-- ---- with the map beside
pub else_more : (b : Bool) (p : Place) (l m : Option Place) → or_else (cond b (Some p) l) m ≡ cond b (Some p) (or_else l m)
else_more true p l m = refl
else_more false p l m = refl

pub else_less : (b : Bool) (l m : Option Place) → (b ≡ true → m ≡ None) → or_else (cond b None l) m ≡ cond b None (or_else l m)
else_less true l m none = none refl
else_less false l m none = refl

pub else_changed : (b : Bool) (o l m : Option Place) → (b ≡ true → l ≡ None) → or_else l (cond b o m) ≡ cond b o (or_else l m)
else_changed true o l m none = ap (λ (x : Option Place). or_else x o) (none refl)
else_changed false o l m none = refl
