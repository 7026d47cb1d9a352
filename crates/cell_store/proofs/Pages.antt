-- The table of heads: what a page more and a longer page keep, and what a write of a head changes.
use Rattle.std.proofs.Common.{◌≡◌, inl, inr, ⊎_elim, ℕ, zero, suc, ◌+◌, ◌*◌, ◌/◌, ◌%◌, ◌<◌, ◌≤◌, Bool, true, false, cond, nat_eq, nat_lt, List, [], ◌∷◌, ◌++◌, length, Option, Some, None, vec_len, refl, sym, ap, ap₂, ◌∙◌, true≢false, eq-eqb, eqb-true, arith}
use Rattle.std.proofs.lemmas.Option.{slice_get_within, same_Some}
use Rattle.std.proofs.Math.Nat.{div-add-mod, mod-lt}
use Rattle.std.specs.Global.{Vec}
use Rattle.std.specs.List.{slice_get, slice_set}
use Rattle.std.proofs.lemmas.Bool.{eqb-false}
use Rattle.cell_store.specs.declared.heads.Head.{Head}
use Rattle.cell_store.specs.inner.Heads.{local_of, no_head, elsewhere, or_none, head_on, on_page, head_at, HasHead, HasPlace}
use Rattle.cell_store.proofs.Found.{none_some}
use Rattle.cell_store.proofs.Links.{same_or_not}
use Rattle.cell_store.proofs.Nodes.{get_set}

pub push_same : (page : List Head) (h : Head) → h ≡ no_head → (i : ℕ) → head_on (page ++ h ∷ []) i ≡ head_on page i
push_same [] h none zero = none
push_same [] h none (suc i) = refl
push_same (x ∷ page) h none zero = refl
push_same (x ∷ page) h none (suc i) = push_same page h none i

push_at : (pages : List (Vec Head)) (page : Vec Head) → page.items ≡ [] → (n i : ℕ) → on_page (slice_get (pages ++ page ∷ []) n) i ≡ on_page (slice_get pages n) i
push_at [] page none zero i = ap (λ (l : List Head). head_on l i) none
push_at [] page none (suc n) i = refl
push_at (x ∷ pages) page none zero i = refl
push_at (x ∷ pages) page none (suc n) i = push_at pages page none n i

pub push_page : (pages : List (Vec Head)) (page : Vec Head) → page.items ≡ [] → (k : ℕ) → head_at (pages ++ page ∷ []) (Some k) ≡ head_at pages (Some k)
push_page pages page none k = push_at pages page none (k / 64) (k % 64)

-- a page becomes longer
module _ (pages : List (Vec Head)) (n : ℕ) (page longer : Vec Head) (at : slice_get pages n ≡ Some page) (same : (i : ℕ) → head_on longer.items i ≡ head_on page.items i) where
  within : n < length pages
  within = slice_get_within pages n page at

  pub longer_same : (k : ℕ) → head_at (slice_set pages n longer) (Some k) ≡ head_at pages (Some k)
  longer_same k =
      ap (λ (o : Option (Vec Head)). on_page o (k % 64)) (get_set pages n longer (k / 64) within)
      ∙ ⊎_elim
      (λ (e : n ≡ k / 64).
      ap (λ (b : Bool). on_page (cond b (Some longer) (slice_get pages (k / 64))) (k % 64)) (eq-eqb n (k / 64) e) ∙ same (k % 64)
      ∙ sym (ap (λ (o : Option (Vec Head)). on_page o (k % 64)) (ap (slice_get pages) (sym e) ∙ at)))
      (λ (h : nat_eq n (k / 64) ≡ false). ap (λ (b : Bool). on_page (cond b (Some longer) (slice_get pages (k / 64))) (k % 64)) h)
      (same_or_not n (k / 64))

  pub longer_place : (k : ℕ) → n ≡ k / 64 → 64 ≤ vec_len longer → HasPlace (slice_set pages n longer) k
  longer_place k e long = record {
    page = longer;
    is = ap (slice_get (slice_set pages n longer)) (sym e) ∙ get_set pages n longer n within ∙ ap (λ (b : Bool). cond b (Some longer) (slice_get pages n)) (eq-eqb n n refl);
    long = let m : k % 64 < 64 = mod-lt k (omega arith) in omega (arith, m, long);
  }

no_head_has : {P : Type 0} → HasHead no_head → P
no_head_has (inl some) = absurd (omega (arith, some))
no_head_has (inr own) = absurd (true≢false (sym own))

-- a head that says something has its place
pub has_place : (pages : List (Vec Head)) (k : ℕ) → HasHead (head_at pages (Some k)) → HasPlace pages k
has_place pages k some =
    (elim (slice_get pages (k / 64)) as (λ o. slice_get pages (k / 64) ≡ o → HasHead (on_page o (k % 64)) → HasPlace pages k) [
      | None ↦ λ e s. no_head_has s
      | Some page ↦ λ e s. record {
        page = page;
        is = e;
        long = (elim (slice_get page.items (k % 64)) as (λ o. slice_get page.items (k % 64) ≡ o → HasHead (or_none o) → k % 64 < vec_len page) [
          | None ↦ λ f t. no_head_has t
          | Some h ↦ λ f t. omega (arith, slice_get_within page.items (k % 64) h f, page_len page)
        ]) refl s;
      }
    ]) refl some
  where
    page_len : (v : Vec Head) → vec_len v ≡ length v.items
    page_len v = search arith

-- ---- the numbers of signals
pub record IsLocal (stride residue s l : ℕ) : Type 0 where
  pub quotient : s / stride ≡ l
  pub rest : s % stride ≡ residue

pub is_local : (stride residue s l : ℕ) → local_of stride residue s ≡ Some l → IsLocal stride residue s l
is_local stride residue s l h =
    (elim (nat_eq stride 0) as (λ a. cond a None (cond (nat_eq (s % stride) residue) (cond (nat_lt (s / stride / 64) 65536) (Some (s / stride)) None) None) ≡ Some l → IsLocal stride residue s l) [
      | true ↦ λ d. none_some l d
      | false ↦ λ d.
          (elim (nat_eq (s % stride) residue) as (λ b. nat_eq (s % stride) residue ≡ b → cond b (cond (nat_lt (s / stride / 64) 65536) (Some (s / stride)) None) None ≡ Some l → IsLocal stride residue s l) [
            | true ↦ λ t e.
                (elim (nat_lt (s / stride / 64) 65536) as (λ c. cond c (Some (s / stride)) None ≡ Some l → IsLocal stride residue s l) [
                  | true ↦ λ f. record { quotient = same_Some (s / stride) l f; rest = eqb-true (s % stride) residue t }
                  | false ↦ λ f. none_some l f
                ]) e
            | false ↦ λ t e. none_some l e
          ]) refl d
    ]) h

pub one_signal : (stride residue s t l : ℕ) → local_of stride residue s ≡ Some l → local_of stride residue t ≡ Some l → s ≡ t
one_signal stride residue s t l a b =
    let x = is_local stride residue s l a in
    let y = is_local stride residue t l b in
    sym (div-add-mod s stride) ∙ ap₂ (λ (q r : ℕ). stride * q + r) (x.quotient ∙ sym y.quotient) (x.rest ∙ sym y.rest) ∙ div-add-mod t stride

-- a head that is written is that of one signal
pub written_head : (pages new : List (Vec Head)) (stride residue signal local : ℕ) (head : Head) → local_of stride residue signal ≡ Some local
    → ((k : ℕ) → head_at new (Some k) ≡ cond (nat_eq local k) head (head_at pages (Some k)))
    → (s : ℕ) → head_at new (local_of stride residue s) ≡ cond (nat_eq signal s) head (head_at pages (local_of stride residue s))
written_head pages new stride residue signal local head is written s =
    (elim (local_of stride residue s) as (λ o. local_of stride residue s ≡ o → head_at new o ≡ cond (nat_eq signal s) head (head_at pages o)) [
      | None ↦ λ e.
          let other : nat_eq signal s ≡ false = ⊎_elim (λ (d : signal ≡ s). none_some local (sym e ∙ ap (local_of stride residue) (sym d) ∙ is)) (λ d. d) (same_or_not signal s) in
          sym (ap (λ (b : Bool). cond b head elsewhere) other)
      | Some k ↦ λ e.
          written k
          ∙ ap (λ (b : Bool). cond b head (head_at pages (Some k)))
          (⊎_elim
          (λ (d : local ≡ k). eq-eqb local k d ∙ sym (eq-eqb signal s (one_signal stride residue signal s k (is ∙ ap (λ (n : ℕ). Some n) d) e)))
          (λ (d : nat_eq local k ≡ false).
          d
          ∙ sym
          (⊎_elim
          (λ (f : signal ≡ s). absurd (eqb-false local k d (same_Some local k (sym is ∙ ap (local_of stride residue) f ∙ e))))
          (λ (f : nat_eq signal s ≡ false). f)
          (same_or_not signal s)))
          (same_or_not local k))
    ]) refl

pub same_pages : (pages new : List (Vec Head)) (o : Option ℕ) → ((k : ℕ) → head_at new (Some k) ≡ head_at pages (Some k)) → head_at new o ≡ head_at pages o
same_pages pages new None same = refl
same_pages pages new (Some k) same = same k
