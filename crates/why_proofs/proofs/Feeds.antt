-- Lines of a text, each with one line feed at its end.
use Rattle.std.proofs.Common.{◌≡◌, ℕ, zero, suc, ◌≤◌, Bool, true, false, cond, eqb, List, [], ◌∷◌, ◌++◌, Option, Some, None, option_map, refl, sym, ap, subst, ◌∙◌, append_assoc, arith, eqb-true}
use Rattle.std.specs.Prelude.{codes, decimal}
use Rattle.std.specs.List.{AllByRecursion, list_all}
use Rattle.std.specs.Char.{is_ascii_digit}
use Rattle.std.specs.Str.{all_ascii_digits}
use Rattle.std.proofs.lemmas.Fmt.{digits_decimal}
use Rattle.std.proofs.lemmas.Option.{same_Some}
use Rattle.std.proofs.lemmas.Bool.{and_parts}
use Rattle.gate_values.specs.declared.Value.{Value}
use Rattle.gate_values.specs.declared.Value.TheVariants.{Zero, One, X, Z}
use Rattle.gate_values.specs.Spelling.{byte_of_value}
use Rattle.texts.specs.Text.{is_name, is_name_byte, is_filled}
use Rattle.valid_intervals.specs.declared.SignalCell.{SignalCell}
use Rattle.texts.specs.fields.Spelling.{field, IsNumber}
use Rattle.why_proofs.specs.Spelling.{last_field, claim_line, cell_line, IsLine}
use Rattle.why_proofs.specs.Broken.{first_lines}
use Rattle.texts.proofs.Callers.{own}

-- no line feed is among the bytes
abbrev pub HasNoFeed : List ℕ → Type 0
HasNoFeed bytes = AllByRecursion (λ b. eqb b 10 ≡ false) bytes

-- bytes and a line feed behind them
pub record IsWholeLine (bytes : List ℕ) : Type 0 where
  pub content : List ℕ
  pub line : bytes ≡ content ++ 10 ∷ []
  pub free : HasNoFeed content

free-append : (xs ys : List ℕ) → HasNoFeed xs → HasNoFeed ys → HasNoFeed (xs ++ ys)
free-append [] ys h k = k
free-append (x ∷ xs) ys h k = (h.0, free-append xs ys h.1 k)

-- a byte that passes a test which a line feed does not
free-byte : (test : ℕ → Bool) → test 10 ≡ false → (b : ℕ) → test b ≡ true → eqb b 10 ≡ false
free-byte test feed b h = go (eqb b 10) refl
  where
    go : (s : Bool) → eqb b 10 ≡ s → s ≡ false
    go true e = let here : test 10 ≡ true = subst (λ c. test c ≡ true) (eqb-true b 10 e) h in absurd (cc (here, feed))
    go false e = refl

free-digits : (ds : List ℕ) → all_ascii_digits ds ≡ true → HasNoFeed ds
free-digits [] h = tt
free-digits (d ∷ ds) h = let both = and_parts (is_ascii_digit d) (all_ascii_digits ds) h in (free-byte is_ascii_digit refl d both.0, free-digits ds both.1)

free-name : (name : List ℕ) → list_all is_name_byte name ≡ true → HasNoFeed name
free-name [] h = tt
free-name (b ∷ name) h = let both = and_parts (is_name_byte b) (list_all is_name_byte name) h in (free-byte is_name_byte refl b both.0, free-name name both.1)

free-field : (n : ℕ) → IsNumber n → HasNoFeed (field n)
free-field n small = (refl, free-digits (decimal n) (digits_decimal own n (omega (arith, small))))

free-value : (v : Value) → HasNoFeed (32 ∷ byte_of_value v ∷ [])
free-value Zero = (refl, (refl, tt))
free-value One = (refl, (refl, tt))
free-value X = (refl, (refl, tt))
free-value Z = (refl, (refl, tt))

free-cell : HasNoFeed (codes "cell")
free-cell = (refl, (refl, (refl, (refl, tt))))

free-why : HasNoFeed (codes "why ")
free-why = (refl, (refl, (refl, (refl, tt))))

free-end : HasNoFeed (codes "end")
free-end = (refl, (refl, (refl, tt)))

-- a line's last field ends it
ends : (a : List ℕ) (v : Value) → a ++ last_field v ≡ (a ++ 32 ∷ byte_of_value v ∷ []) ++ 10 ∷ []
ends a v = sym (append_assoc a (32 ∷ byte_of_value v ∷ []) (10 ∷ []))

pub claim-whole : (name : List ℕ) (time : ℕ) (v : Value) → is_name name ≡ true → IsNumber time → IsWholeLine (claim_line name time v)
claim-whole name time v is small =
    let front = codes "why " ++ (name ++ field time) in
    let both = and_parts (is_filled name) (list_all is_name_byte name) is in
    record {
      content = front ++ 32 ∷ byte_of_value v ∷ [];
      line = ap (λ (l : List ℕ). codes "why " ++ l) (sym (append_assoc name (field time) (last_field v))) ∙ ends front v;
      free = free-append front (32 ∷ byte_of_value v ∷ []) (free-append (codes "why ") (name ++ field time) free-why (free-append name (field time) (free-name name both.1) (free-field time small))) (free-value v);
    }

pub cell-whole : (x : SignalCell) → IsLine x → IsWholeLine (cell_line x)
cell-whole x is =
    let s = x.signal in
    let a = x.cell.span.start in
    let b = x.cell.span.stop in
    let v = x.cell.value in
    let front = codes "cell" ++ (field s ++ (field a ++ field b)) in
    record {
      content = front ++ 32 ∷ byte_of_value v ∷ [];
      line = ap (λ (l : List ℕ). codes "cell" ++ l) (ap (λ (l : List ℕ). field s ++ l) (sym (append_assoc (field a) (field b) (last_field v))) ∙ sym (append_assoc (field s) (field a ++ field b) (last_field v))) ∙ ends front v;
      free = free-append front (32 ∷ byte_of_value v ∷ []) (free-append (codes "cell") (field s ++ (field a ++ field b)) free-cell (free-append (field s) (field a ++ field b) (free-field s is.signal) (free-append (field a) (field b) (free-field a is.start) (free-field b is.stop)))) (free-value v);
    }

pub end-whole : IsWholeLine (codes "end\n")
end-whole = record { content = codes "end"; line = refl; free = free-end }

-- ---- two texts whose first lines are the same

content-same : (u v x y : List ℕ) → HasNoFeed u → HasNoFeed v → u ++ 10 ∷ x ≡ v ++ 10 ∷ y → (u ≡ v) × (x ≡ y)
content-same [] [] x y h k e = (refl, cc)
content-same [] (c ∷ v) x y h k e = let same : 10 ≡ c = cc in let no-feed : eqb 10 10 ≡ false = subst (λ b. eqb b 10 ≡ false) (sym same) k.0 in absurd (cc no-feed)
content-same (b ∷ u) [] x y h k e = let same : b ≡ 10 = cc in let no-feed : eqb 10 10 ≡ false = subst (λ b. eqb b 10 ≡ false) same h.0 in absurd (cc no-feed)
content-same (b ∷ u) (c ∷ v) x y h k e =
    let same : b ≡ c = cc in
    let rest : u ++ 10 ∷ x ≡ v ++ 10 ∷ y = cc in
    let more = content-same u v x y h.1 k.1 rest in
    (cc (same, more.0), more.1)

pub line-same : (a b x y : List ℕ) → IsWholeLine a → IsWholeLine b → a ++ x ≡ b ++ y → (a ≡ b) × (x ≡ y)
line-same a b x y la lb e =
    let u = la.content in
    let v = lb.content in
    let apart : u ++ 10 ∷ x ≡ v ++ 10 ∷ y = sym (append_assoc u (10 ∷ []) x) ∙ ap (λ (l : List ℕ). l ++ x) (sym la.line) ∙ e ∙ ap (λ (l : List ℕ). l ++ y) lb.line ∙ append_assoc v (10 ∷ []) y in
    let both = content-same u v x y la.free lb.free apart in
    (la.line ∙ ap (λ (l : List ℕ). l ++ 10 ∷ []) both.0 ∙ sym lb.line, both.1)

-- ---- the first lines

map-map : (b : ℕ) (l : List ℕ) (o : Option (List ℕ)) → option_map (λ r. b ∷ r) (option_map (λ r. l ++ r) o) ≡ option_map (λ r. (b ∷ l) ++ r) o
map-map b l None = refl
map-map b l (Some r) = refl

first-content : (n : ℕ) (u text : List ℕ) → HasNoFeed u → first_lines (suc n) (u ++ 10 ∷ text) ≡ option_map (λ r. (u ++ 10 ∷ []) ++ r) (first_lines n text)
unfolding first_lines
first-content n [] text h = refl
first-content n (b ∷ u) text h = rw h.0 (ap (λ o. option_map (λ r. b ∷ r) o) (first-content n u text h.1) ∙ map-map b (u ++ 10 ∷ []) (first_lines n text))

pub first-line : (n : ℕ) (l text : List ℕ) → IsWholeLine l → first_lines (suc n) (l ++ text) ≡ option_map (λ r. l ++ r) (first_lines n text)
first-line n l text is =
    let u = is.content in
    ap (λ (a : List ℕ). first_lines (suc n) (a ++ text)) is.line ∙ ap (first_lines (suc n)) (append_assoc u (10 ∷ []) text) ∙ first-content n u text is.free
    ∙ ap (λ (a : List ℕ). option_map (λ r. a ++ r) (first_lines n text)) (sym is.line)

pub first-none : (text : List ℕ) → first_lines zero text ≡ Some []
unfolding first_lines
first-none text = refl

-- the first line of a text
pub record IsFirstLine (text l : List ℕ) : Type 0 where
  pub whole : IsWholeLine l
  pub rest : List ℕ
  pub parts : text ≡ l ++ rest

mapped : (b : ℕ) (o : Option (List ℕ)) (l : List ℕ) → option_map (λ r. b ∷ r) o ≡ Some l → (r : List ℕ) × (o ≡ Some r) × (b ∷ r ≡ l)
mapped b None l e = absurd (cc e)
mapped b (Some r) l e = (r, refl, same_Some (b ∷ r) l e)

pub first-shape : (text l : List ℕ) → first_lines 1 text ≡ Some l → IsFirstLine text l
unfolding first_lines
first-shape [] l e = absurd (cc e)
first-shape (b ∷ text) l e = go (eqb b 10) refl (first-shape text) e
  where
    go : (s : Bool) → eqb b 10 ≡ s → ((r : List ℕ) → first_lines 1 text ≡ Some r → IsFirstLine text r) → option_map (λ r. b ∷ r) (cond s (first_lines 0 text) (first_lines 1 text)) ≡ Some l → IsFirstLine (b ∷ text) l
    go true is more e =
        let feed : b ≡ 10 = eqb-true b 10 is in
        let one : b ∷ [] ≡ l = same_Some (b ∷ []) l e in
        let line : l ≡ 10 ∷ [] = sym one ∙ ap (λ c. c ∷ []) feed in
        record { whole = record { content = []; line = line; free = tt }; rest = text; parts = ap (λ (r : List ℕ). r ++ text) one }
    go false is more e =
        let (r, found, same) = mapped b (first_lines 1 text) l e in
        let f = more r found in
        record {
          whole = record { content = b ∷ f.whole.content; line = sym same ∙ ap (λ (x : List ℕ). b ∷ x) f.whole.line; free = (is, f.whole.free) };
          rest = f.rest;
          parts = ap (λ (x : List ℕ). b ∷ x) f.parts ∙ ap (λ (x : List ℕ). x ++ f.rest) same;
        }

-- fewer lines are the front of more
pub record IsFront (m : ℕ) (text l : List ℕ) : Type 0 where
  pub front : List ℕ
  pub found : first_lines m text ≡ Some front
  pub behind : List ℕ
  pub parts : l ≡ front ++ behind

pub first-fewer : (text : List ℕ) (m n : ℕ) (l : List ℕ) → m ≤ n → first_lines n text ≡ Some l → IsFront m text l
unfolding first_lines
first-fewer [] zero n l h e = record { front = []; found = refl; behind = l; parts = refl }
first-fewer (b ∷ text) zero n l h e = record { front = []; found = refl; behind = l; parts = refl }
first-fewer text (suc m) zero l h e = absurd (omega arith)
first-fewer [] (suc m) (suc n) l h e = absurd (cc e)
first-fewer (b ∷ text) (suc m) (suc n) l h e =
    let f = go (eqb b 10) (λ r. first-fewer text m n r (omega arith)) (λ r. first-fewer text (suc m) (suc n) r h) e in
    record { front = f.0; found = f.1; behind = f.2.0; parts = f.2.1 }
  where
    go : (s : Bool) → ((r : List ℕ) → first_lines n text ≡ Some r → IsFront m text r) → ((r : List ℕ) → first_lines (suc n) text ≡ Some r → IsFront (suc m) text r)
        → option_map (λ r. b ∷ r) (cond s (first_lines n text) (first_lines (suc n) text)) ≡ Some l
        → (a : List ℕ) × (option_map (λ r. b ∷ r) (cond s (first_lines m text) (first_lines (suc m) text)) ≡ Some a) × ((z : List ℕ) × (l ≡ a ++ z))
    go true one two e =
        let (r, found, same) = mapped b (first_lines n text) l e in
        let f = one r found in
        (b ∷ f.front, ap (option_map (λ r. b ∷ r)) f.found, (f.behind, sym same ∙ ap (λ (x : List ℕ). b ∷ x) f.parts))
    go false one two e =
        let (r, found, same) = mapped b (first_lines (suc n) text) l e in
        let f = two r found in
        (b ∷ f.front, ap (option_map (λ r. b ∷ r)) f.found, (f.behind, sym same ∙ ap (λ (x : List ℕ). b ∷ x) f.parts))
