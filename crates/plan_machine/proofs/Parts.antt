-- The parts of a plan follow its turns.
use Rattle.std.proofs.Common.{◌≡◌, ℕ, zero, suc, ◌+◌, ◌<◌, ◌⊎◌, true, false, cond, List, [], ◌∷◌, ◌++◌, length, map, slice_get, slice_set, refl, ap, sym, ◌∙◌, subst, arith, inl, inr, Option, Some, None}
use Rattle.std.proofs.Math.ListN.{length-set, length-map}
use Rattle.std.proofs.lemmas.Bool.{cases_eq}
use Rattle.std.proofs.lemmas.Option.{slice_get_within}
use Rattle.std.proofs.lemmas.Bool.Decides.{eqb_tells}
use Rattle.valid_intervals.specs.declared.Point.{Point}
use Rattle.plan_machine.specs.declared.strand.Next.TheVariants.{Ask}
use Rattle.plan_machine.specs.Strands.{Strand, next, waiting, awake, after_answer}
use Rattle.plan_machine.specs.Plans.{asks, woken_strand}
use Rattle.plan_machine.specs.Parts.{NumberedStrand, IsAmong, AreParts, put_back, with_waiters, waiter_at, placed_at, strands_from}
use Rattle.journal_meaning.proofs.Callers.{cases_point}
use Rattle.plan_machine.proofs.Links.{set-here, set-other, map-get}
use Rattle.plan_machine.proofs.Measure.{woken-itself}

-- lists are equal where their places are
same-lists : {A : Type 0} (xs ys : List A) → ((i : ℕ) → slice_get xs i ≡ slice_get ys i) → xs ≡ ys
same-lists [] [] h = refl
same-lists [] (y ∷ ys) h = let k : None ≡ Some y = h 0 in absurd (cc k)
same-lists (x ∷ xs) [] h = let k : Some x ≡ None = h 0 in absurd (cc k)
same-lists (x ∷ xs) (y ∷ ys) h = let e : x ≡ y = let k : Some x ≡ Some y = h 0 in cc k in let r : xs ≡ ys = same-lists xs ys (λ i. h (suc i)) in cc (e, r)

got-or_not : {A : Type 0} (xs : List A) (i : ℕ) → (length xs ≡ length xs) × ((slice_get xs i ≡ None) ⊎ ((a : A) × (slice_get xs i ≡ Some a)))
got-or_not [] i = (refl, inl refl)
got-or_not (x ∷ xs) zero = (refl, inr (x, refl))
got-or_not (x ∷ xs) (suc i) = (refl, (got-or_not xs i).1)

past-both : {A B : Type 0} (xs : List A) (ys : List B) (i : ℕ) → length xs ≡ length ys → slice_get xs i ≡ None → slice_get ys i ≡ None
past-both xs [] i e h = refl
past-both [] (y ∷ ys) i e h = absurd (omega arith)
past-both (x ∷ xs) (y ∷ ys) zero e h = absurd (cc h)
past-both (x ∷ xs) (y ∷ ys) (suc i) e h = past-both xs ys i (omega arith) h

-- the parts tell the strands
place-of : (places : List (Option Strand)) (waiters : Point → List NumberedStrand) (xs ys : List Strand) → AreParts places waiters xs → AreParts places waiters ys → (i : ℕ) (o : Option (Option Strand)) → slice_get places i ≡ o → slice_get xs i ≡ slice_get ys i
place-of places waiters xs ys a b i None e = past-both places xs i a.length e ∙ sym (past-both places ys i b.length e)
place-of places waiters xs ys a b i (Some None) e =
    let g = a.gap i e in
    let k = (a.waiter g.0 g.1.0 g.1.1.0).1 in
    let l = (b.waiter g.0 g.1.0 g.1.1.0).1 in
    subst (λ j. slice_get xs j ≡ slice_get ys j) g.1.1.1 (k ∙ sym l)
place-of places waiters xs ys a b i (Some (Some s)) e = (a.ready i s e).0 ∙ sym (b.ready i s e).0

pub parts-tell : (places : List (Option Strand)) (waiters : Point → List NumberedStrand) (xs ys : List Strand) → AreParts places waiters xs → AreParts places waiters ys → xs ≡ ys
parts-tell places waiters xs ys a b = same-lists xs ys (λ i. place-of places waiters xs ys a b i (slice_get places i) refl)

module _ (places : List (Option Strand)) (waiters : Point → List NumberedStrand) (xs : List Strand) (parts : AreParts places waiters xs) (i : ℕ) (s : Strand) (at : slice_get places i ≡ Some (Some s)) where
  -- no waiter has the number of a strand that stands in its place
  not-waiter : (p : Point) (w : NumberedStrand) → IsAmong w (waiters p) → w.number ≡ i → ⊥
  not-waiter p w h e = let k = (parts.waiter p w h).0 in let l : slice_get places w.number ≡ Some (Some s) = ap (slice_get places) e ∙ at in cc (k, l)

  -- it is put back changed
  pub put-parts : (t : Strand) → t.waits ≡ false → AreParts (slice_set places i (Some t)) waiters (slice_set xs i t)
  put-parts t quiet = record {
    length = length-set places i (Some t) ∙ parts.length ∙ sym (length-set xs i t);
    ready = λ j r e. elim (cases_eq j i) [
      | inl k ↦
          let now : slice_get (slice_set places i (Some t)) j ≡ Some (Some t) = subst (λ l. slice_get (slice_set places i (Some t)) l ≡ Some (Some t)) (sym k) (set-here places i (Some s) (Some t) at) in
          let same : t ≡ r = cc (now, e) in
          (subst (λ l. slice_get (slice_set xs i t) l ≡ Some r) (sym k) (set-here xs i s t (parts.ready i s at).0 ∙ ap Some same), subst (λ (z : Strand). z.waits ≡ false) same quiet)
      | inr k ↦
          let o = parts.ready j r (sym (set-other places i j (Some t) k) ∙ e) in
          (set-other xs i j t k ∙ o.0, o.1)
    ];
    gap = λ j e. elim (cases_eq j i) [
      | inl k ↦
          let now : slice_get (slice_set places i (Some t)) j ≡ Some (Some t) = subst (λ l. slice_get (slice_set places i (Some t)) l ≡ Some (Some t)) (sym k) (set-here places i (Some s) (Some t) at) in
          absurd (cc (now, e))
      | inr k ↦ parts.gap j (sym (set-other places i j (Some t) k) ∙ e)
    ];
    waiter = λ p w h.
        let k = parts.waiter p w h in
        let ne = not-waiter p w h in
        (set-other places i w.number (Some t) ne ∙ k.0, set-other xs i w.number t ne ∙ k.1, k.2, k.3);
  }

  among-end : (ws : List NumberedStrand) (w x : NumberedStrand) → IsAmong x (ws ++ w ∷ []) → IsAmong x ws ⊎ (w ≡ x)
  among-end [] w x (inl e) = inr e
  among-end [] w x (inr h) = absurd h
  among-end (y ∷ ys) w x (inl e) = inl (inl e)
  among-end (y ∷ ys) w x (inr h) = elim (among-end ys w x h) [ inl k ↦ inl (inr k) | inr k ↦ inr k ]

  end-among : (ws : List NumberedStrand) (w : NumberedStrand) → IsAmong w (ws ++ w ∷ [])
  end-among [] w = inl refl
  end-among (y ∷ ys) w = inr (end-among ys w)

  among-more : (ws : List NumberedStrand) (w x : NumberedStrand) → IsAmong x ws → IsAmong x (ws ++ w ∷ [])
  among-more [] w x h = absurd h
  among-more (y ∷ ys) w x (inl e) = inl e
  among-more (y ∷ ys) w x (inr h) = inr (among-more ys w x h)

  -- it stays with the shard, at the point that it asks for
  pub wait-parts : (p : Point) → next s ≡ Ask p
      → AreParts (slice_set places i None) (with_waiters waiters p (waiters p ++ record { number = i; strand = s } ∷ [])) (slice_set xs i (waiting s))
  wait-parts p asks =
      let w : NumberedStrand = record { number = i; strand = s } in
      let all : Point → List NumberedStrand = with_waiters waiters p (waiters p ++ w ∷ []) in
      let r = parts.ready i s at in
      let here : slice_get (slice_set places i None) i ≡ Some None = set-here places i (Some s) None at in
      let now : slice_get (slice_set xs i (waiting s)) i ≡ Some (waiting s) = set-here xs i s (waiting s) r.0 in
      let old = λ (x : Point) (v : NumberedStrand) (h : IsAmong v (waiters x)). let k = parts.waiter x v h in let ne = not-waiter x v h in
      let fact : (slice_get (slice_set places i None) v.number ≡ Some None) × (slice_get (slice_set xs i (waiting s)) v.number ≡ Some (waiting v.strand)) × (next v.strand ≡ Ask x) × (v.strand.waits ≡ false)
      = (set-other places i v.number None ne ∙ k.0, set-other xs i v.number (waiting s) ne ∙ k.1, k.2, k.3) in fact in
      record {
        length = length-set places i None ∙ parts.length ∙ sym (length-set xs i (waiting s));
        ready = λ j t e. elim (cases_eq j i) [
          | inl k ↦ let l : slice_get (slice_set places i None) j ≡ Some None = subst (λ z. slice_get (slice_set places i None) z ≡ Some None) (sym k) here in absurd (cc (l, e))
          | inr k ↦ let o = parts.ready j t (sym (set-other places i j None k) ∙ e) in (set-other xs i j (waiting s) k ∙ o.0, o.1)
        ];
        gap = λ j e. elim (cases_eq j i) [
          | inl k ↦ (p, (w, (elim (cases_point p p) [ inl l ↦ rw l.0 (end-among (waiters p) w) | inr l ↦ absurd (l.1 refl) ], sym k)))
          | inr k ↦
              let g = parts.gap j (sym (set-other places i j None k) ∙ e) in (
                g.0,
                (
                  g.1.0,
                  (
                    elim (cases_point p g.0) [
                      | inl l ↦ rw l.0 (among-more (waiters p) w g.1.0 (subst (λ z. IsAmong g.1.0 (waiters z)) (sym l.1) g.1.1.0))
                      | inr l ↦ rw l.0 g.1.1.0
                    ],
                    g.1.1.1,
                  ),
                ),
              )
        ];
        waiter = λ x v. elim (cases_point p x) [
          | inl l ↦ rw l.0 (λ h. elim (among-end (waiters p) w v h) [
            | inl k ↦ old x v (subst (λ z. IsAmong v (waiters z)) l.1 k)
            | inr k ↦ subst (λ (z : NumberedStrand). (slice_get (slice_set places i None) z.number ≡ Some None) × (slice_get (slice_set xs i (waiting s)) z.number ≡ Some (waiting z.strand)) × (next z.strand ≡ Ask x) × (z.strand.waits ≡ false)) k
                (here, now, asks ∙ ap (λ z. Ask z) l.1, r.1)
          ])
          | inr l ↦ rw l.0 (λ h. old x v h)
        ];
      }

pub set-low : {A : Type 0} (xs : List A) (i : ℕ) (a : A) → i < length xs → slice_get (slice_set xs i a) i ≡ Some a
set-low [] i a h = absurd (omega arith)
set-low (x ∷ xs) zero a h = refl
set-low (x ∷ xs) (suc i) a h = set-low xs i a (omega arith)

module _ (f : Strand → Strand) where
  -- a place after all went back: one of them stands there, or it is as before
  pub record Went (places after : List (Option Strand)) (ws : List NumberedStrand) (j : ℕ) : Type 0 where
    pub waiter : NumberedStrand
    pub among : IsAmong waiter ws
    pub number : waiter.number ≡ j
    pub now : slice_get after j ≡ Some (Some (f waiter.strand))

  pub record Stayed (places after : List (Option Strand)) (ws : List NumberedStrand) (j : ℕ) : Type 0 where
    pub none : (w : NumberedStrand) → IsAmong w ws → w.number ≡ j → ⊥
    pub now : slice_get after j ≡ slice_get places j

  pub put-get : (places : List (Option Strand)) (ws : List NumberedStrand) → ((w : NumberedStrand) → IsAmong w ws → w.number < length places) → (j : ℕ) → Went places (put_back f places ws) ws j ⊎ Stayed places (put_back f places ws) ws j
  put-get places [] low j = inr (record { none = λ w h. absurd h; now = refl })
  put-get places (w ∷ ws) low j =
      let next = slice_set places w.number (Some (f w.strand)) in
      let len : length next ≡ length places = length-set places w.number (Some (f w.strand)) in
      elim (put-get next ws (λ v h. let k = low v (inr h) in omega arith) j) [
        | inl k ↦ inl (record { waiter = k.waiter; among = inr k.among; number = k.number; now = k.now })
        | inr k ↦ elim (cases_eq j w.number) [
          | inl e ↦
              let here : slice_get next j ≡ Some (Some (f w.strand)) = subst (λ z. slice_get next z ≡ Some (Some (f w.strand))) (sym e) (set-low places w.number (Some (f w.strand)) (low w (inl refl))) in
              inl (record { waiter = w; among = inl refl; number = sym e; now = k.now ∙ here })
          | inr e ↦ inr (record {
            none = λ v h. elim h [ inl l ↦ λ m. e (sym m ∙ ap (λ (z : NumberedStrand). z.number) (sym l)) | inr l ↦ k.none v l ];
            now = k.now ∙ set-other places w.number j (Some (f w.strand)) e;
          })
        ]
      ]

  pub put-length : (places : List (Option Strand)) (ws : List NumberedStrand) → length (put_back f places ws) ≡ length places
  put-length places [] = refl
  put-length places (w ∷ ws) = put-length (slice_set places w.number (Some (f w.strand))) ws ∙ length-set places w.number (Some (f w.strand))

-- a strand that waits at the point comes out, another does not
woken-there : (f : Strand → Strand) (p : Point) (o : Strand) → next o ≡ Ask p → woken_strand f p (waiting o) ≡ awake (f (waiting o))
woken-there f p o e = elim (cases_point p p) [
  | inl k ↦ let t : asks p (next o) ≡ true = ap (asks p) e ∙ k.0 in ap (λ b. cond b (awake (f (waiting o))) (waiting o)) t
  | inr k ↦ absurd (k.1 refl)
]

woken-elsewhere : (f : Strand → Strand) (p x : Point) (o : Strand) → next o ≡ Ask x → (x ≡ p → ⊥) → woken_strand f p (waiting o) ≡ waiting o
woken-elsewhere f p x o e ne = elim (cases_point x p) [
  | inl k ↦ absurd (ne k.1)
  | inr k ↦ let t : asks p (next o) ≡ false = ap (asks p) e ∙ k.0 in ap (λ b. cond b (awake (f (waiting o))) (waiting o)) t
]

module _ (places : List (Option Strand)) (waiters : Point → List NumberedStrand) (xs : List Strand) (parts : AreParts places waiters xs) (f : Strand → Strand)
    (quiet : (o : Strand) → o.waits ≡ false → (f o).waits ≡ false) (fits : (o : Strand) → o.waits ≡ false → awake (f (waiting o)) ≡ f o) (p : Point) where
  low : (w : NumberedStrand) → IsAmong w (waiters p) → w.number < length places
  low w h = slice_get_within places w.number None (parts.waiter p w h).0

  ready-after : (j : ℕ) (r : Strand) → slice_get (put_back f places (waiters p)) j ≡ Some (Some r) → (slice_get (map (woken_strand f p) xs) j ≡ Some r) × (r.waits ≡ false)
  ready-after j r e = elim (put-get f places (waiters p) low j) [
    | inl k ↦
        let w = parts.waiter p k.waiter k.among in
        let now = k.now in
        let same : f k.waiter.strand ≡ r = cc (now, e) in
        let there : woken_strand f p (waiting k.waiter.strand) ≡ r = woken-there f p k.waiter.strand w.2 ∙ fits k.waiter.strand w.3 ∙ same in (
          subst (λ z. slice_get (map (woken_strand f p) xs) z ≡ Some r) k.number (map-get (woken_strand f p) xs k.waiter.number (waiting k.waiter.strand) w.1 ∙ ap Some there),
          subst (λ (z : Strand). z.waits ≡ false) same (quiet k.waiter.strand w.3),
        )
    | inr k ↦
        let o = parts.ready j r (sym k.now ∙ e) in
        (map-get (woken_strand f p) xs j r o.0 ∙ ap Some (woken-itself f p r o.1), o.1)
  ]

  gap-after : (j : ℕ) → slice_get (put_back f places (waiters p)) j ≡ Some None → (x : Point) × ((w : NumberedStrand) × (IsAmong w (with_waiters waiters p [] x) × (w.number ≡ j)))
  gap-after j e = elim (put-get f places (waiters p) low j) [
    | inl k ↦ let now = k.now in absurd (cc (now, e))
    | inr k ↦
        let g = parts.gap j (sym k.now ∙ e) in (
          g.0,
          (
            g.1.0,
            (
              elim (cases_point p g.0) [
                | inl l ↦ absurd (k.none g.1.0 (subst (λ z. IsAmong g.1.0 (waiters z)) (sym l.1) g.1.1.0) g.1.1.1)
                | inr l ↦ rw l.0 g.1.1.0
              ],
              g.1.1.1,
            ),
          ),
        )
  ]

  Parked : Point → NumberedStrand → Type 0
  Parked x v = (slice_get (put_back f places (waiters p)) v.number ≡ Some None) × (slice_get (map (woken_strand f p) xs) v.number ≡ Some (waiting v.strand)) × (next v.strand ≡ Ask x) × (v.strand.waits ≡ false)

  waiter-after : (x : Point) (v : NumberedStrand) → (p ≡ x → ⊥) → IsAmong v (waiters x) → Parked x v
  unfolding Parked
  waiter-after x v ne h =
      let k = parts.waiter x v h in
      let still : slice_get (put_back f places (waiters p)) v.number ≡ Some None = elim (put-get f places (waiters p) low v.number) [
        | inl m ↦
            let w = parts.waiter p m.waiter m.among in
            let here : slice_get xs v.number ≡ Some (waiting m.waiter.strand) = subst (λ z. slice_get xs z ≡ Some (waiting m.waiter.strand)) m.number w.1 in
            let there = k.1 in
            let same : waiting m.waiter.strand ≡ waiting v.strand = cc (here, there) in
            let asks : next m.waiter.strand ≡ next v.strand = ap next same in
            let one : Ask p ≡ Ask x = sym w.2 ∙ asks ∙ k.2 in
            absurd (ne (cc one))
        | inr m ↦ m.now ∙ k.0
      ] in
      (still, map-get (woken_strand f p) xs v.number (waiting v.strand) k.1 ∙ ap Some (woken-elsewhere f p x v.strand k.2 (λ e. ne (sym e))), k.2, k.3)

  -- those that waited at p are put back, after f
  pub wake-parts : AreParts (put_back f places (waiters p)) (with_waiters waiters p []) (map (woken_strand f p) xs)
  unfolding Parked
  wake-parts = record {
    length = put-length f places (waiters p) ∙ parts.length ∙ sym (length-map xs (woken_strand f p));
    ready = ready-after;
    gap = gap-after;
    waiter = λ x v. elim (cases_point p x) [
      | inl l ↦ rw l.0 (λ h. absurd h)
      | inr l ↦ rw l.0 (waiter-after x v l.1)
    ];
  }

pub heard-fits : (o : Strand) → o.waits ≡ false → awake (after_answer (waiting o)) ≡ after_answer o
heard-fits o w = ap (λ t. record (after_answer o) { waits = t }) (sym w)

-- the strands that parts stand for
strands-get : (ws : List NumberedStrand) (blank : Strand) (n : ℕ) (os : List (Option Strand)) (i : ℕ) (o : Option Strand) → slice_get os i ≡ Some o → slice_get (strands_from ws blank n os) i ≡ Some (placed_at ws blank (n + i) o)
strands-get ws blank n [] i o h = absurd (cc h)
strands-get ws blank n (x ∷ os) zero o h = let e : x ≡ o = cc h in let k : n + 0 ≡ n = omega arith in rw k (ap (λ z. Some (placed_at ws blank n z)) e)
strands-get ws blank n (x ∷ os) (suc i) o h = let k : suc n + i ≡ n + suc i = omega arith in rw (← k) (strands-get ws blank (suc n) os i o h)

-- the first waiter with a number
record IsFound (ws : List NumberedStrand) (n : ℕ) (blank : Strand) : Type 0 where
  waiter : NumberedStrand
  among : IsAmong waiter ws
  number : waiter.number ≡ n
  is : waiter_at ws n blank ≡ waiter.strand

found-waiter : (ws : List NumberedStrand) (n : ℕ) (blank : Strand) (w : NumberedStrand) → IsAmong w ws → w.number ≡ n → IsFound ws n blank
found-waiter [] n blank w h = absurd h
found-waiter (x ∷ ws) n blank w h = elim (eqb_tells x.number n) [
  | inl k ↦ λ e. record { waiter = x; among = inl refl; number = k.1; is = rw k.0 refl }
  | inr k ↦ λ e. elim h [
    | inl l ↦ absurd (k.1 (ap (λ (z : NumberedStrand). z.number) l ∙ e))
    | inr l ↦ let r = found-waiter ws n blank w l e in record { waiter = r.waiter; among = inr r.among; number = r.number; is = rw k.0 r.is }
  ]
]

strands-past : (ws : List NumberedStrand) (blank : Strand) (n : ℕ) (os : List (Option Strand)) → length (strands_from ws blank n os) ≡ length os
strands-past ws blank n [] = refl
strands-past ws blank n (x ∷ os) = let k = strands-past ws blank (suc n) os in omega arith

module _ (places : List (Option Strand)) (waiters : Point → List NumberedStrand) (xs : List Strand) (parts : AreParts places waiters xs)
    (ws : List NumberedStrand) (blank : Strand) (all : (p : Point) (w : NumberedStrand) → IsAmong w (waiters p) → IsAmong w ws) (only : (w : NumberedStrand) → IsAmong w ws → (p : Point) × IsAmong w (waiters p)) where
  strand-is : (i : ℕ) (o : Option (Option Strand)) → slice_get places i ≡ o → slice_get (strands_from ws blank 0 places) i ≡ slice_get xs i
  strand-is i None e = past-both places (strands_from ws blank 0 places) i (sym (strands-past ws blank 0 places)) e ∙ sym (past-both places xs i parts.length e)
  strand-is i (Some (Some s)) e = strands-get ws blank 0 places i (Some s) e ∙ sym (parts.ready i s e).0
  strand-is i (Some None) e =
      let g = parts.gap i e in
      let f = found-waiter ws i blank g.1.0 (all g.0 g.1.0 g.1.1.0) g.1.1.1 in
      let o = only f.waiter f.among in
      let k : slice_get xs f.waiter.number ≡ Some (waiting f.waiter.strand) = (parts.waiter o.0 f.waiter o.1).1 in
      let zero_first : 0 + i ≡ i = omega arith in
      strands-get ws blank 0 places i None e ∙ ap (λ j. Some (waiting (waiter_at ws j blank))) zero_first ∙ ap (λ z. Some (waiting z)) f.is ∙ sym (subst (λ j. slice_get xs j ≡ Some (waiting f.waiter.strand)) f.number k)

  pub strands-are : strands_from ws blank 0 places ≡ xs
  strands-are = same-lists (strands_from ws blank 0 places) xs (λ i. strand-is i (slice_get places i) refl)
