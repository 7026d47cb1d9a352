-- Texts, each in its place.
use Rattle.std.proofs.Common.{◌≡◌, ℕ, zero, suc, ◌+◌, ◌-◌, ◌<◌, ◌≤◌, List, [], ◌∷◌, ◌++◌, length, map, take, drop, get_or, Some, refl, sym, ap, ap₂, subst, ◌∙◌, arith, length-append}
use Rattle.std.specs.Prelude.{Result, Ok, Err, OnErr}
use Rattle.std.specs.List.{slice_get}
use Rattle.std.proofs.lemmas.List.{append-nil, map-append, take-append-le, drop-append-le, length-drop, length-map, take_at, drop_at}
use Rattle.std.proofs.lemmas.List.Elements.{All-nil, All-cons, All-head, All-tail, All-get_or, All-append, All-weaker}
use Rattle.bench_reader.specs.declared.text_list.Place.{Place}
use Rattle.bench_reader.specs.declared.text_list.Place.TheVariants.{Short, Long}
use Rattle.bench_reader.specs.inner.TextLists.{text_at, IsPlace, LieWithin}

-- more bytes behind a text
kept : (bytes more : List ℕ) (place : Place) → IsPlace (length bytes) place → text_at (bytes ++ more) place ≡ text_at bytes place
kept bytes more (Short len short) h = refl
kept bytes more (Long start end) h =
    let first : start ≤ length bytes = omega (arith, h.ordered, h.within) in
    let room : end - start ≤ length (drop start bytes) = omega (arith, h.within, length-drop start bytes) in
    ap (take (end - start)) (drop-append-le start bytes more first) ∙ take-append-le (end - start) (drop start bytes) more room

pub all_kept : (bytes more : List ℕ) (places : List Place) → LieWithin bytes places → map (text_at (bytes ++ more)) places ≡ map (text_at bytes) places
all_kept bytes more [] h = refl
all_kept bytes more (place ∷ places) h =
    ap₂ (λ (x : List ℕ) (xs : List (List ℕ)). x ∷ xs) (kept bytes more place (All-head (IsPlace (length bytes)) place places h)) (all_kept bytes more places (All-tail (IsPlace (length bytes)) place places h))

place_more : (few many : ℕ) → few ≤ many → (place : Place) → IsPlace few place → IsPlace many place
place_more few many le (Short len short) h = h
place_more few many le (Long start end) h = record { ordered = h.ordered; within = omega (arith, h.within) }

pub within_more : (bytes more : List ℕ) (places : List Place) → LieWithin bytes places → LieWithin (bytes ++ more) places
within_more bytes more places h = All-weaker (IsPlace (length bytes)) (IsPlace (length (bytes ++ more))) (place_more (length bytes) (length (bytes ++ more)) (omega (arith, length-append bytes more))) places h

-- one more text, by its place
pub place_pushed : (bytes : List ℕ) (places : List Place) (place : Place) → LieWithin bytes places → IsPlace (length bytes) place → LieWithin bytes (places ++ place ∷ [])
place_pushed bytes places place h p = All-append (IsPlace (length bytes)) places (place ∷ []) h (All-cons (IsPlace (length bytes)) place [] p (All-nil (IsPlace (length bytes))))

text_pushed : (bytes text : List ℕ) (places : List Place) (place : Place) → text_at bytes place ≡ text → map (text_at bytes) (places ++ place ∷ []) ≡ map (text_at bytes) places ++ text ∷ []
text_pushed bytes text places place is = map-append (text_at bytes) places (place ∷ []) ∙ ap (λ (x : List ℕ). map (text_at bytes) places ++ x ∷ []) is

-- a long text
last_text : (bytes text : List ℕ) (start end : ℕ) → start ≡ length bytes → end ≡ length bytes + length text → take (end - start) (drop start (bytes ++ text)) ≡ text
last_text bytes text start end s e =
    let count : end - start ≡ length text = omega arith in
    ap (take (end - start)) (drop_at bytes text start (sym s)) ∙ ap (take (end - start)) (sym (append-nil text)) ∙ take_at text [] (end - start) (sym count)

pub long_pushed : (bytes text : List ℕ) (places : List Place) (start end : ℕ) → LieWithin bytes places → start ≡ length bytes → end ≡ length bytes + length text
    → map (text_at (bytes ++ text)) (places ++ Long start end ∷ []) ≡ map (text_at bytes) places ++ text ∷ []
long_pushed bytes text places start end h s e =
    text_pushed (bytes ++ text) text places (Long start end) (last_text bytes text start end s e) ∙ ap (λ (xs : List (List ℕ)). xs ++ text ∷ []) (all_kept bytes text places h)

pub long_within : (bytes text : List ℕ) (places : List Place) (start end : ℕ) → LieWithin bytes places → start ≡ length bytes → end ≡ length bytes + length text → LieWithin (bytes ++ text) (places ++ Long start end ∷ [])
long_within bytes text places start end h s e = place_pushed (bytes ++ text) places (Long start end) (within_more bytes text places h) (record { ordered = omega arith; within = omega (arith, length-append bytes text) })

-- the text with a number
shown_at : (bytes : List ℕ) (places : List Place) (number : ℕ) (place : Place) → number < length (map (text_at bytes) places) → place ≡ get_or places number place → slice_get (map (text_at bytes) places) number ≡ Some (text_at bytes place)
shown_at bytes [] number place lt e = absurd (omega arith)
shown_at bytes (p ∷ places) zero place lt e = ap (λ (x : Place). Some (text_at bytes x)) (sym e)
shown_at bytes (p ∷ places) (suc number) place lt e = shown_at bytes places number place (omega arith) e

pub text_shown : (bytes : List ℕ) (places : List Place) (shown : List (List ℕ)) (number : ℕ) (place here : Place) → map (text_at bytes) places ≡ shown → number < length shown → place ≡ get_or places number place → place ≡ here → slice_get shown number ≡ Some (text_at bytes here)
text_shown bytes places shown number place here view lt at is =
    subst (λ (v : List (List ℕ)). slice_get v number ≡ Some (text_at bytes here)) view
    (shown_at bytes places number place (omega (arith, lt, ap length view)) at ∙ ap (λ (x : Place). Some (text_at bytes x)) is)

pub short_len : (bytes : List ℕ) (places : List Place) (shown : List (List ℕ)) (number len : ℕ) (short : List ℕ) (place : Place) → LieWithin bytes places → map (text_at bytes) places ≡ shown → number < length shown → place ≡ get_or places number place → place ≡ Short len short → len ≤ 11
short_len bytes places shown number len short place h view lt at is =
    subst (IsPlace (length bytes)) is (subst (IsPlace (length bytes)) (sym at) (All-get_or (IsPlace (length bytes)) places number place (omega (arith, lt, ap length view, length-map places (text_at bytes))) h))

pub on_err : {T E : Type 0} {P : Type 0} (r : Result T E) → P → OnErr r P
on_err (Ok x) p = tt
on_err (Err e) p = p
