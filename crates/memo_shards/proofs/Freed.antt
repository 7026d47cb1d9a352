-- Claims that are given up one after another.
use Rattle.std.proofs.Common.{◌≡◌, ℕ, suc, ◌+◌, ◌*◌, ◌≤◌, true, false, cond, List, [], ◌∷◌, ◌++◌, length, map, refl, ap, ap₂, find, sym, ◌∙◌, subst, append_assoc, append-nil, Some, option_map, arith}
use Rattle.std.specs.BTreeMap.{is_at}
use Rattle.std.specs.List.Sorted.{IsStrictlySortedBy}
use Rattle.std.specs.Map.{keys_of}
use Rattle.std.proofs.lemmas.Map.Keys.{sorted_tail}
use Rattle.valid_intervals.specs.declared.Point.{Point}
use Rattle.valid_intervals.specs.declared.SignalCell.{SignalCell}
use Rattle.valid_intervals.specs.Cells.{same_point, point_cmp}
use Rattle.cell_store.specs.Recency.{Contents}
use Rattle.journal_meaning.specs.declared.Entry.{Entry}
use Rattle.journal_meaning.specs.declared.Entry.TheVariants as entry
use Rattle.journal_meaning.specs.States as states
use Rattle.journal_meaning.specs.States.{fresh, holder}
use Rattle.journal_meaning.specs.Batches.{Batch}
use Rattle.journal_meaning.proofs.Callers.{no-claims, replay-more}
use Rattle.claim_waiters.specs.Claims.{WaitedClaim, Claims, IsInOrder, claim_at, holder_in, first_of, without_claim}
use Rattle.valid_intervals.proofs.Callers.{same_point-itself}
use Rattle.claim_waiters.proofs.Callers.{at-same}
use Rattle.demand_points.specs.Demands.{Demand}
use Rattle.memo_shards.specs.KeptShards.{shard_at}
use Rattle.memo_shards.specs.inner.KeptShards.{waits_in}
use Rattle.memo_shards.specs.inner.View.{Agrees}
use Rattle.memo_shards.specs.Ends.{FreesAll, recorded_all}
use Rattle.memo_shards.specs.inner.Ends.{drop_of}
use Rattle.memo_shards.proofs.Entries.{shown, shown_with}
use Rattle.memo_shards.proofs.Endings.{dropped-agrees}

pub itself-at : (p : Point) → is_at (point_cmp p) p ≡ true
itself-at p = at-same p p ∙ same_point-itself p

-- so many are gone, each with its entry
pub record IsFreed (all now : Claims Demand) (before after : List Entry) (len capacity : ℕ) : Type 0 where
  pub gone : Claims Demand
  pub split : all ≡ gone ++ now
  pub items : after ≡ before ++ map drop_of gone
  pub room : len + 2 * length now ≤ capacity

pub freed-none : (all : Claims Demand) (es : List Entry) (len capacity : ℕ) → len + 2 * length all ≤ capacity → IsFreed all all es es len capacity
freed-none all es len capacity h = record { gone = []; split = refl; items = sym (append-nil es); room = h }

map-snoc : (gone : Claims Demand) (e : Point × WaitedClaim Demand) → map drop_of (gone ++ e ∷ []) ≡ map drop_of gone ++ drop_of e ∷ []
map-snoc [] e = refl
map-snoc (x ∷ gone) e = ap (λ l. drop_of x ∷ l) (map-snoc gone e)

less-room : (less more len capacity long wide : ℕ) → len + 2 * suc more ≤ capacity → less ≡ more → long ≡ len + 1 → wide ≡ capacity → long + 2 * less ≤ wide
less-room less more len capacity long wide room l m w = omega arith

pub freed-more : (all now : Claims Demand) (before after : List Entry) (len capacity : ℕ) → IsFreed all now before after len capacity → (q : ℕ) (p : Point) → first_of now ≡ Some (q, p)
    → (left : Claims Demand) → left ≡ without_claim now p → (then : List Entry) → then ≡ after ++ entry.Dropped q p ∷ [] → (long wide : ℕ) → long ≡ len + 1 → wide ≡ capacity → IsFreed all left before then long wide
freed-more all [] before after len capacity is q p f left l then e long wide m w = absurd (cc f)
freed-more all (x ∷ now) before after len capacity is q p f left l then e long wide m w =
    let pair : (x.1.q, x.0) ≡ (q, p) = cc f in
    let point : x.0 ≡ p = ap (λ (z : ℕ × Point). z.1) pair in
    let number : x.1.q ≡ q = ap (λ (z : ℕ × Point). z.0) pair in
    let rest : without_claim (x ∷ now) p ≡ now = subst (λ z. without_claim (x ∷ now) z ≡ now) point (rw (itself-at x.0) refl) in
    let less : length left ≡ length now = ap length (l ∙ rest) in
    record {
      gone = is.gone ++ x ∷ [];
      split = is.split ∙ sym (append_assoc is.gone (x ∷ []) now) ∙ ap (λ r. (is.gone ++ x ∷ []) ++ r) (sym (l ∙ rest));
      items = e ∙ ap (λ r. r ++ entry.Dropped q p ∷ []) is.items ∙ append_assoc before (map drop_of is.gone) (entry.Dropped q p ∷ [])
          ∙ ap (λ r. before ++ r) (ap₂ (λ a y. map drop_of is.gone ++ entry.Dropped a y ∷ []) (sym number) (sym point) ∙ sym (map-snoc is.gone x));
      room = less-room (length left) (length now) len capacity long wide is.room less m w;
    }

pub freed-all : (all : Claims Demand) (before after : List Entry) (len capacity : ℕ) → IsFreed all [] before after len capacity → after ≡ before ++ map drop_of all
freed-all all before after len capacity is = is.items ∙ ap (λ (l : Claims Demand). before ++ map drop_of l) (sym (is.split ∙ append-nil is.gone))

-- the claims of a table, as a state has them
abbrev listed : Claims Demand → List states.Claim
listed claims = map (λ e. record { query = e.1.q; point = e.0 }) claims

listed-points : (claims : Claims Demand) → map (λ (c : states.Claim). c.point) (listed claims) ≡ keys_of claims
listed-points [] = refl
listed-points (e ∷ claims) = ap (λ l. e.0 ∷ l) (listed-points claims)

listed-drops : (claims : Claims Demand) → map (λ (c : states.Claim). entry.Dropped c.query c.point) (listed claims) ≡ map drop_of claims
listed-drops [] = refl
listed-drops (e ∷ claims) = ap (λ l. drop_of e ∷ l) (listed-drops claims)

listed-holder : (claims : Claims Demand) (p : Point) → holder (listed claims) p ≡ holder_in claims p
listed-holder [] p = refl
listed-holder (e ∷ claims) p = rw (at-same p e.0)
    (elim (same_point p e.0) as (λ t. option_map (λ (c : states.Claim). c.query) (cond t (Some (record { query = e.1.q; point = e.0 })) (find (λ c. same_point p c.point) (listed claims))) ≡ option_map (λ (c : WaitedClaim Demand). c.q) (cond t (Some e.1) (claim_at claims p))) [
      | true ↦ refl
      | false ↦ listed-holder claims p
    ])

module _ (b : Batch) (opening : List SignalCell) (n : ℕ) (store : Contents) where
  pub freed-agrees : (claims : Claims Demand) → IsInOrder claims → (es : List Entry) → Agrees b opening n store claims es → Agrees b opening n store [] (es ++ map drop_of claims)
  freed-agrees [] o es is = subst (Agrees b opening n store []) (sym (append-nil es)) is
  freed-agrees (e ∷ cs) o es is =
      let at : holder_in (e ∷ cs) e.0 ≡ Some e.1.q = rw (itself-at e.0) refl in
      let held : holder (shard_at opening es).state.claims e.0 ≡ Some e.1.q = sym (is.holders e.0) ∙ at in
      let step = dropped-agrees b opening n store (e ∷ cs) es is e.1.q e.0 held o in
      let rest : without_claim (e ∷ cs) e.0 ≡ cs = rw (itself-at e.0) refl in
      subst (λ l. Agrees b opening n store [] l) (append_assoc es (drop_of e ∷ []) (map drop_of cs))
      (freed-agrees cs (sorted_tail point_cmp e.0 (keys_of cs) o) (es ++ drop_of e ∷ []) (subst (λ l. Agrees b opening n store l (es ++ drop_of e ∷ [])) rest step))

  recorded-all : (fs es : List Entry) → shard_at opening (es ++ fs) ≡ recorded_all fs (shard_at opening es)
  recorded-all [] es = ap (shard_at opening) (append-nil es)
  recorded-all (f ∷ fs) es =
      ap (shard_at opening) (sym (append_assoc es (f ∷ []) fs)) ∙ recorded-all fs (es ++ f ∷ [])
      ∙ ap (λ s. recorded_all fs (record { state = s; journal = es ++ f ∷ [] })) (replay-more (fresh opening) es f)

  pub freed-shown : (claims : Claims Demand) → IsInOrder claims → (es : List Entry) (is : Agrees b opening n store claims es) (left : Claims Demand) → left ≡ [] → (fs : List Entry) → fs ≡ es ++ map drop_of claims
      → FreesAll (shown b opening n store claims es is) (shown_with b opening n store claims es is fs left)
  freed-shown claims o es is left none fs items =
      let done = subst (λ l. Agrees b opening n store [] l) (sym items) (freed-agrees claims o es is) in
      record {
        claims = listed claims;
        order = subst (IsStrictlySortedBy point_cmp) (sym (listed-points claims)) o;
        all = λ p. listed-holder claims p ∙ is.holders p;
        number = refl;
        shard = ap (shard_at opening) items ∙ recorded-all (map drop_of claims) es ∙ ap (λ l. recorded_all l (shard_at opening es)) (sym (listed-drops claims));
        free = no-claims (shard_at opening fs).state.claims (λ p. sym (done.holders p));
        waiting = ap waits_in none;
      }
