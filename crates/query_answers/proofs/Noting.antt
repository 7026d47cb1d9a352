-- The cells of sources are noted, one after another.
use Rattle.std.proofs.Common.{◌≡◌, ◌<◌, List, [], ◌∷◌, ◌++◌, Contains, Option, Some, None, get_or, take, length, refl, sym, ap, subst, ◌∙◌, arith, inl, inr}
use Rattle.std.proofs.lemmas.List.{take_more}
use Rattle.std.proofs.lemmas.List.Elements.{Contains-append_left, Contains-append_right}
use Rattle.valid_intervals.specs.declared.Cell.{Cell}
use Rattle.valid_intervals.specs.declared.Point.{Point}
use Rattle.circuit_meaning.specs.Circuit.{Circuit}
use Rattle.journal_meaning.specs.declared.Entry.{Entry}
use Rattle.journal_meaning.proofs.Callers.{each-append, each-imply}
use Rattle.design.specs.declared.pin_walk.PinWalk.{PinWalk}
use Rattle.design.specs.PinWalks.{LooksOn, looked_at, next_point}
use Rattle.query_answers.specs.declared.explanations.waiting.LinePlace.{LinePlace}
use Rattle.query_answers.specs.declared.explanations.waiting.Asked.{Asked}
use Rattle.query_answers.specs.explanations.inner.Waiting.{point_of, place_of, Places, Adds}
use Rattle.query_answers.specs.explanations.inner.Gathered.{IsTold, IsSourceAdded, IsOfSource, Notes}

module _ (c : Circuit) where
  -- what an entry tells, it tells among more entries
  pub told-grows : (es fs : List Entry) → ((e : Entry) → Contains es e → Contains fs e) → (a : Asked) → IsTold c es a → IsTold c fs a
  told-grows es fs grows a h = record { evaluable = h.evaluable; right = h.right; told = (h.told.0, grows h.told.0 h.told.1, h.told.2) }

  of-grows : (es fs : List Entry) → ((e : Entry) → Contains es e → Contains fs e) → (os more : List (Option Point)) → ((o : Option Point) → Contains os o → Contains more o) → (k : LinePlace) (a : Asked) → IsOfSource c es os k a → IsOfSource c fs more k a
  of-grows es fs grows os more f k a h = record { place = h.place; told = told-grows es fs grows a h.told; source = f (Some (point_of a)) h.source }

  added-kept : (old new : Places) → ((k : LinePlace) (a : Asked) → old k ≡ Some a → new k ≡ Some a) → (o : Option Point) → IsSourceAdded c old o → IsSourceAdded c new o
  added-kept old new kept None h = tt
  added-kept old new kept (Some p) (inl never) = inl never
  added-kept old new kept (Some p) (inr h) = inr (h.0, kept _ h.0 h.1)

  -- nothing is noted
  pub notes-none : (es : List Entry) (now : Places) → Notes c es now now []
  notes-none es now = record { kept = λ k a e. e; only = λ k a e. inl e; sources = tt }

  -- a source that needs no line
  pub notes-known : (es : List Entry) (now : Places) (o : Option Point) → IsSourceAdded c now o → Notes c es now now (o ∷ [])
  notes-known es now o h = record { kept = λ k a e. e; only = λ k a e. inl e; sources = (h, tt) }

  -- a source whose cell was told, and waits
  pub notes-told : (es : List Entry) (old new : Places) (a : Asked) → IsTold c es a → Adds old a new → Notes c es old new (Some (point_of a) ∷ [])
  notes-told es old new a told adds = record {
    kept = adds.kept;
    only = λ k x e. elim (adds.only k x e) [
      | inl was ↦ inl was
      | inr is ↦ inr (subst (IsOfSource c es (Some (point_of a) ∷ []) k) (sym is.1) (record { place = is.0; told = told; source = (0, omega arith, refl) }))
    ];
    sources = (inr (adds.there.0, subst (λ (x : Cell). new (place_of (record { signal = a.signal; cell = x })) ≡ Some adds.there.0) told.right adds.there.1), tt);
  }

  -- one source more
  notes-more : (es fs : List Entry) → ((e : Entry) → Contains es e → Contains fs e) → (old now new : Places) (os : List (Option Point)) (o : Option Point) → Notes c es old now os → Notes c fs now new (o ∷ []) → Notes c fs old new (os ++ o ∷ [])
  notes-more es fs grows old now new os o a b = record {
    kept = λ k x e. b.kept k x (a.kept k x e);
    only = λ k x e. elim (b.only k x e) [
      | inl was ↦ elim (a.only k x was) [
        | inl first ↦ inl first
        | inr s ↦ inr (of-grows es fs grows os (os ++ o ∷ []) (Contains-append_left os (o ∷ [])) k x s)
      ]
      | inr s ↦ inr (of-grows fs fs (λ e h. h) (o ∷ []) (os ++ o ∷ []) (Contains-append_right os (o ∷ [])) k x s)
    ];
    sources = each-append (IsSourceAdded c new) os (o ∷ []) (each-imply (IsSourceAdded c now) (IsSourceAdded c new) (added-kept now new b.kept) os a.sources) b.sources;
  }

  -- that of the pin that is looked at
  pub notes-pin : (es fs : List Entry) → ((e : Entry) → Contains es e → Contains fs e) → (p : Point) (walk next : PinWalk) → walk.point ≡ p → LooksOn c walk next → (old now new : Places) → Notes c es old now (take walk.looked (looked_at c p)) → Notes c fs now new (next_point c walk ∷ []) → Notes c fs old new (take next.looked (looked_at c p))
  notes-pin es fs grows p walk next at on old now new before one =
      let l : List (Option Point) = looked_at c p in
      let n = walk.looked in
      let size : length (looked_at c next.point) ≡ length l = ap (λ (z : Point). length (looked_at c z)) (on.point ∙ at) in
      let low : n < length l = (let k = on.walk.looked in let m = on.looked in omega arith) in
      let more : take next.looked l ≡ take n l ++ get_or l n None ∷ [] = ap (λ k. take k l) on.looked ∙ take_more l n None low in
      let here : Notes c fs now new (get_or l n None ∷ []) = subst (λ (z : Point). Notes c fs now new (get_or (looked_at c z) n None ∷ [])) at one in
      subst (Notes c fs old new) (sym more) (notes-more es fs grows old now new (take n l) (get_or l n None) before here)
