-- A line that is read is spelled so, and what is spelled so is read.
use Rattle.std.proofs.Common.{◌≡◌, ℕ, zero, suc, ◌<◌, Bool, true, false, cond, eqb, nat_lt, List, [], ◌∷◌, ◌++◌, length, take, drop, position, Some, None, refl, sym, ap, ap₂, subst, ◌∙◌, append_assoc, length-append, arith, lt-ltb, eqb-true}
use Rattle.std.specs.Prelude.{codes, decimal}
use Rattle.std.specs.List.{position_or_len, list_all}
use Rattle.std.proofs.lemmas.Option.{cond_some, same_Some}
use Rattle.std.proofs.lemmas.Bool.{and_parts}
use Rattle.gate_values.specs.Spelling.{byte_of_value}
use Rattle.gate_values.specs.declared.Value.{Value}
use Rattle.gate_values.specs.declared.Value.TheVariants.{Zero, One, X, Z}
use Rattle.texts.specs.Text.{is_name, is_name_byte, is_filled}
use Rattle.valid_intervals.specs.declared.SignalCell.{SignalCell}
use Rattle.texts.specs.fields.Spelling.{field, IsNumber}
use Rattle.why_proofs.specs.Spelling.{last_field, claim_line, cell_line, IsLine}
use Rattle.texts.specs.fields.Reading.{◌>>=◌, after_word, field_at, value_at}
use Rattle.why_proofs.specs.inner.Reading.{last_field_at, is_space, name_before, name_at, Claim, claim_at, cell_at, line_of}
use Rattle.texts.proofs.Callers.{AreSpelled, bind_some, after_takes, field_takes, field_again, value_takes}

-- ---- the end of a line

pub last_takes : (text : List ℕ) (v : Value) (rest : List ℕ) → last_field_at text ≡ Some (v, rest) → text ≡ last_field v ++ rest
unfolding last_field_at
last_takes text v rest e =
    let (blank, one, more) = bind_some (after_word (32 ∷ []) text) (λ b. value_at b >>= (λ v. after_word (10 ∷ []) v.1 >>= (λ r. Some (v.0, r)))) (v, rest) e in
    let (value, two, more2) = bind_some (value_at blank) (λ v. after_word (10 ∷ []) v.1 >>= (λ r. Some (v.0, r))) (v, rest) more in
    let (behind, three, is) = bind_some (after_word (10 ∷ []) value.1) (λ r. Some (value.0, r)) (v, rest) more2 in
    let parts : text ≡ last_field value.0 ++ behind =
    after_takes (32 ∷ []) text blank one ∙ ap (λ (l : List ℕ). 32 ∷ l) (value_takes blank value.0 value.1 two ∙ ap (λ (l : List ℕ). byte_of_value value.0 ∷ l) (after_takes (10 ∷ []) value.1 behind three)) in
    subst (λ (r : Value × List ℕ). text ≡ last_field r.0 ++ r.1) (same_Some _ _ is) parts

pub last_again : (v : Value) (text : List ℕ) → last_field_at (last_field v ++ text) ≡ Some (v, text)
unfolding last_field_at
last_again Zero text = refl
last_again One text = refl
last_again X text = refl
last_again Z text = refl

-- ---- names

take-drop : (n : ℕ) (xs : List ℕ) → xs ≡ take n xs ++ drop n xs
take-drop zero [] = refl
take-drop zero (x ∷ xs) = refl
take-drop (suc n) [] = refl
take-drop (suc n) (x ∷ xs) = ap (λ l. x ∷ l) (take-drop n xs)

take-front : (xs ys : List ℕ) → take (length xs) (xs ++ ys) ≡ xs
take-front [] [] = refl
take-front [] (y ∷ ys) = refl
take-front (x ∷ xs) ys = ap (λ l. x ∷ l) (take-front xs ys)

drop-front : (xs ys : List ℕ) → drop (length xs) (xs ++ ys) ≡ ys
drop-front [] [] = refl
drop-front [] (y ∷ ys) = refl
drop-front (x ∷ xs) ys = drop-front xs ys

pub name_takes : (text name rest : List ℕ) → name_at text ≡ Some (name, rest) → (text ≡ name ++ rest) × (is_name name ≡ true)
unfolding name_at
name_takes text name rest e =
    let (n, at, is) = bind_some (position is_space text) (name_before text) (name, rest) e in
    let both = cond_some (is_name (take n text)) (take n text, drop n text) (name, rest) is in
    subst (λ (r : List ℕ × List ℕ). (text ≡ r.0 ++ r.1) × (is_name r.0 ≡ true)) both.1 (take-drop n text, both.0)

no-space : (b : ℕ) → is_name_byte b ≡ true → is_space b ≡ false
no-space b h = go (eqb b 32) refl
  where
    go : (s : Bool) → eqb b 32 ≡ s → s ≡ false
    go true e = let here : is_name_byte 32 ≡ true = subst (λ c. is_name_byte c ≡ true) (eqb-true b 32 e) h in absurd (cc here)
    go false e = refl

space-behind : (name text : List ℕ) → list_all is_name_byte name ≡ true → position_or_len is_space (name ++ 32 ∷ text) ≡ length name
space-behind [] text h = refl
space-behind (b ∷ name) text h =
    let both = and_parts (is_name_byte b) (list_all is_name_byte name) h in
    let more = space-behind name text both.1 in
    rw (no-space b both.0) (omega (arith, more))

pub name_again : (name text : List ℕ) → is_name name ≡ true → name_at (name ++ 32 ∷ text) ≡ Some (name, 32 ∷ text)
unfolding name_at
name_again name text h =
    let whole = name ++ 32 ∷ text in
    let both = and_parts (is_filled name) (list_all is_name_byte name) h in
    let place : position_or_len is_space whole ≡ length name = space-behind name text both.1 in
    let short : nat_lt (length name) (length whole) ≡ true = lt-ltb _ _ (omega (arith, length-append name (32 ∷ text))) in
    let found : position is_space whole ≡ Some (length name) = ap (λ n. cond (nat_lt n (length whole)) (Some n) None) place ∙ ap (λ b. cond b (Some (length name)) None) short in
    ap (λ o. o >>= name_before whole) found
    ∙ ap₂ (λ (a b : List ℕ). cond (is_name a) (Some (a, b)) None) (take-front name (32 ∷ text)) (drop-front name (32 ∷ text))
    ∙ ap (λ b. cond b (Some (name, 32 ∷ text)) None) h

-- ---- the first line

pub record IsClaimLine (text : List ℕ) (claim : Claim) (rest : List ℕ) : Type 0 where
  pub spelled : text ≡ claim_line claim.0 claim.1 claim.2 ++ rest
  pub name : is_name claim.0 ≡ true
  pub time : IsNumber claim.1

claim-joined : (name : List ℕ) (time : ℕ) (v : Value) (rest : List ℕ) → codes "why " ++ (name ++ (field time ++ (last_field v ++ rest))) ≡ claim_line name time v ++ rest
claim-joined name time v rest =
    ap (λ (l : List ℕ). codes "why " ++ l) (sym (append_assoc name (field time ++ last_field v) rest ∙ ap (λ (l : List ℕ). name ++ l) (append_assoc (field time) (last_field v) rest)))

pub claim_takes : (text : List ℕ) (claim : Claim) (rest : List ℕ) → claim_at text ≡ Some (claim, rest) → IsClaimLine text claim rest
unfolding claim_at
claim_takes text claim rest e =
    let (word, one, more) = bind_some (after_word (codes "why ") text) (λ w. name_at w >>= (λ n. field_at n.1 >>= (λ t. last_field_at t.1 >>= (λ v. Some ((n.0, t.0, v.0), v.1))))) (claim, rest) e in
    let (name, two, more2) = bind_some (name_at word) (λ n. field_at n.1 >>= (λ t. last_field_at t.1 >>= (λ v. Some ((n.0, t.0, v.0), v.1)))) (claim, rest) more in
    let (time, three, more3) = bind_some (field_at name.1) (λ t. last_field_at t.1 >>= (λ v. Some ((name.0, t.0, v.0), v.1))) (claim, rest) more2 in
    let (value, four, is) = bind_some (last_field_at time.1) (λ v. Some ((name.0, time.0, v.0), v.1)) (claim, rest) more3 in
    let n = name_takes word name.0 name.1 two in
    let t = field_takes name.1 time.0 time.1 three in
    let v = last_takes time.1 value.0 value.1 four in
    let parts : text ≡ claim_line name.0 time.0 value.0 ++ value.1 =
    after_takes (codes "why ") text word one
    ∙ ap (λ (l : List ℕ). codes "why " ++ l) (n.0 ∙ ap (λ (l : List ℕ). name.0 ++ l) (t.0 ∙ ap (λ (l : List ℕ). field time.0 ++ l) v))
    ∙ claim-joined name.0 time.0 value.0 value.1 in
    let whole : IsClaimLine text (name.0, time.0, value.0) value.1 = record { spelled = parts; name = n.1; time = t.1 } in
    subst (λ (r : Claim × List ℕ). IsClaimLine text r.0 r.1) (same_Some _ _ is) whole

pub claim_again : (name : List ℕ) (time : ℕ) (v : Value) (rest : List ℕ) → is_name name ≡ true → IsNumber time → claim_at (claim_line name time v ++ rest) ≡ Some ((name, time, v), rest)
unfolding claim_at
claim_again name time v rest is small =
    let n = name_again name (decimal time ++ (last_field v ++ rest)) is in
    let t = field_again time (last_field v ++ rest) small refl in
    ap claim_at (sym (claim-joined name time v rest)) ∙ rw (n, t, last_again v rest) refl

-- ---- a cell line

pub record IsCellLine (text : List ℕ) (x : SignalCell) (rest : List ℕ) : Type 0 where
  pub spelled : text ≡ cell_line x ++ rest
  pub line : IsLine x

cell-joined : (s a b : ℕ) (v : Value) (rest : List ℕ) → codes "cell" ++ (field s ++ (field a ++ (field b ++ (last_field v ++ rest)))) ≡ cell_line (line_of s a b v) ++ rest
cell-joined s a b v rest =
    ap (λ (l : List ℕ). codes "cell" ++ l) (sym (append_assoc (field s) (field a ++ (field b ++ last_field v)) rest
    ∙ ap (λ (l : List ℕ). field s ++ l) (append_assoc (field a) (field b ++ last_field v) rest ∙ ap (λ (l : List ℕ). field a ++ l) (append_assoc (field b) (last_field v) rest))))

pub cell_takes : (text : List ℕ) (x : SignalCell) (rest : List ℕ) → cell_at text ≡ Some (x, rest) → IsCellLine text x rest
unfolding cell_at
cell_takes text x rest e =
    let (word, one, more) = bind_some (after_word (codes "cell") text) (λ w. field_at w >>= (λ s. field_at s.1 >>= (λ a. field_at a.1 >>= (λ b. last_field_at b.1 >>= (λ v. Some (line_of s.0 a.0 b.0 v.0, v.1)))))) (x, rest) e in
    let (s, two, more2) = bind_some (field_at word) (λ s. field_at s.1 >>= (λ a. field_at a.1 >>= (λ b. last_field_at b.1 >>= (λ v. Some (line_of s.0 a.0 b.0 v.0, v.1))))) (x, rest) more in
    let (a, three, more3) = bind_some (field_at s.1) (λ a. field_at a.1 >>= (λ b. last_field_at b.1 >>= (λ v. Some (line_of s.0 a.0 b.0 v.0, v.1)))) (x, rest) more2 in
    let (b, four, more4) = bind_some (field_at a.1) (λ b. last_field_at b.1 >>= (λ v. Some (line_of s.0 a.0 b.0 v.0, v.1))) (x, rest) more3 in
    let (v, five, is) = bind_some (last_field_at b.1) (λ v. Some (line_of s.0 a.0 b.0 v.0, v.1)) (x, rest) more4 in
    let ss = field_takes word s.0 s.1 two in
    let aa = field_takes s.1 a.0 a.1 three in
    let bb = field_takes a.1 b.0 b.1 four in
    let vv = last_takes b.1 v.0 v.1 five in
    let parts : text ≡ cell_line (line_of s.0 a.0 b.0 v.0) ++ v.1 =
    after_takes (codes "cell") text word one
    ∙ ap (λ (l : List ℕ). codes "cell" ++ l) (ss.0 ∙ ap (λ (l : List ℕ). field s.0 ++ l) (aa.0 ∙ ap (λ (l : List ℕ). field a.0 ++ l) (bb.0 ∙ ap (λ (l : List ℕ). field b.0 ++ l) vv)))
    ∙ cell-joined s.0 a.0 b.0 v.0 v.1 in
    let whole : IsCellLine text (line_of s.0 a.0 b.0 v.0) v.1 = record { spelled = parts; line = record { signal = ss.1; start = aa.1; stop = bb.1 } } in
    subst (λ (r : SignalCell × List ℕ). IsCellLine text r.0 r.1) (same_Some _ _ is) whole

pub cell_again : (x : SignalCell) (rest : List ℕ) → IsLine x → cell_at (cell_line x ++ rest) ≡ Some (x, rest)
unfolding cell_at
cell_again x rest is =
    let s = x.signal in
    let a = x.cell.span.start in
    let b = x.cell.span.stop in
    let v = x.cell.value in
    let ss = field_again s (field a ++ (field b ++ (last_field v ++ rest))) is.signal refl in
    let aa = field_again a (field b ++ (last_field v ++ rest)) is.start refl in
    let bb = field_again b (last_field v ++ rest) is.stop refl in
    ap cell_at (sym (cell-joined s a b v rest)) ∙ rw (ss, aa, bb, last_again v rest) refl

pub cell_none_end : (rest : List ℕ) → cell_at (codes "end\n" ++ rest) ≡ None
unfolding cell_at
cell_none_end rest = refl

line_some : (x : SignalCell) → 0 < length (cell_line x)
line_some x = omega arith

pub spelling : AreSpelled cell_at cell_line IsLine
spelling = record { takes = λ text x rest is. let line = cell_takes text x rest is in (line.spelled, line.line); again = cell_again; some = line_some }
