-- Where a text stops being that of a proof.
use Rattle.std.proofs.Common.{◌≡◌, ℕ, suc, ◌+◌, ◌<◌, ◌≤◌, List, [], ◌∷◌, ◌++◌, length, get_or, Option, Some, None, option_map, refl, sym, ap, subst, ◌∙◌, append_assoc, append-nil, length-append, arith}
use Rattle.std.specs.Prelude.{flat_map, codes}
use Rattle.std.specs.List.{AllByRecursion}
use Rattle.std.proofs.lemmas.Option.{same_Some}
use Rattle.gate_values.specs.declared.Value.TheVariants.{X}
use Rattle.valid_intervals.specs.declared.SignalCell.{SignalCell}
use Rattle.why_proofs.specs.Spelling.{claim_line, cell_line, Proof, text_of, IsLine, IsProof}
use Rattle.why_proofs.specs.Broken.{first_lines, GoesOn, IsBroken}
use Rattle.texts.specs.fields.Reading.{after_word}
use Rattle.why_proofs.specs.inner.Reading.{Claim, claim_at, cell_at, cells_at}
use Rattle.texts.proofs.Callers.{after_takes, items_again}
use Rattle.why_proofs.proofs.Lines.{claim_again, cell_again, cell_none_end, spelling}
use Rattle.why_proofs.proofs.Feeds.{IsWholeLine, claim-whole, cell-whole, end-whole, line-same, first-line, first-none, first-shape, first-fewer}

abbrev end : List ℕ
end = codes "end\n"

abbrev cells-text : List SignalCell → List ℕ
cells-text xs = flat_map cell_line xs

-- what stands behind the first line of a proof's text
abbrev tail-of : Proof → List ℕ
tail-of p = cells-text p.cells ++ end

abbrev claim-of : Proof → Claim
claim-of p = (p.name, p.time, p.value)

claim-read : (p : Proof) (rest : List ℕ) → IsProof p → claim_at (claim_line p.name p.time p.value ++ rest) ≡ Some (claim-of p, rest)
claim-read p rest is = claim_again p.name p.time p.value rest is.name is.time

cells-read : (p : Proof) (rest : List ℕ) → IsProof p → cells_at (length (cells-text p.cells ++ (end ++ rest))) (cells-text p.cells ++ (end ++ rest)) ≡ (p.cells, end ++ rest)
cells-read p rest is = items_again spelling (length (cells-text p.cells ++ (end ++ rest))) p.cells (end ++ rest) is.cells (cell_none_end rest) (omega arith)

-- ---- no text is that of two proofs

proof-is : (p q : Proof) → claim-of p ≡ claim-of q → p.cells ≡ q.cells → p ≡ q
proof-is p q e f = let at : Claim → List SignalCell → Proof = λ c xs. record { name = c.0; time = c.1; value = c.2; cells = xs } in ap (λ c. at c p.cells) e ∙ ap (at (claim-of q)) f

same-tail : (p q : Proof) (x y : List ℕ) → IsProof p → IsProof q → claim_line p.name p.time p.value ++ x ≡ claim_line q.name q.time q.value ++ y → (claim-of p ≡ claim-of q) × (x ≡ y)
same-tail p q x y hp hq e =
    let both : (claim-of p, x) ≡ (claim-of q, y) = same_Some (claim-of p, x) (claim-of q, y) (sym (claim-read p x hp) ∙ ap claim_at e ∙ claim-read q y hq) in
    (ap (λ (r : Claim × List ℕ). r.0) both, ap (λ (r : Claim × List ℕ). r.1) both)

tail-read : (p : Proof) → IsProof p → cells_at (length (tail-of p)) (tail-of p) ≡ (p.cells, end)
tail-read p is = items_again spelling (length (tail-of p)) p.cells end is.cells (cell_none_end []) (omega arith)

pub one-proof : (p q : Proof) → IsProof p → IsProof q → text_of p ≡ text_of q → p ≡ q
one-proof p q hp hq e =
    let both = same-tail p q (tail-of p) (tail-of q) hp hq e in
    let read : (p.cells, end) ≡ (q.cells, end) = sym (tail-read p hp) ∙ ap (λ (l : List ℕ). cells_at (length l) l) both.1 ∙ tail-read q hq in
    proof-is p q both.0 (ap (λ (r : List SignalCell × List ℕ). r.0) read)

-- ---- what comes after lines of a proof

-- the next line of a proof's text is `end` or a cell line
pub data NextLine (l : List ℕ) : Type 0 where
  AtEnd : l ≡ end → NextLine l
  AtCell : (x : SignalCell) → IsLine x → l ≡ cell_line x → NextLine l

not-cell : (x : SignalCell) (a b : List ℕ) → end ++ a ≡ cell_line x ++ b → ⊥
not-cell x a b e = let first : 101 ≡ 99 = ap (λ (l : List ℕ). get_or l 0 0) e in absurd (omega (arith, first))

-- behind the cells xs, a proof's text goes on with one of these
next-line : (xs ys : List SignalCell) (l rest : List ℕ) → AllByRecursion IsLine xs → AllByRecursion IsLine ys → IsWholeLine l → cells-text ys ++ end ≡ cells-text xs ++ (l ++ rest) → NextLine l
next-line [] [] l rest hx hy whole e = AtEnd (line-same l end rest [] whole end-whole (sym e)).0
next-line [] (y ∷ ys) l rest hx hy whole e = AtCell y hy.0 (line-same l (cell_line y) rest (cells-text ys ++ end) whole (cell-whole y hy.0) (sym e ∙ append_assoc (cell_line y) (cells-text ys) end)).0
next-line (x ∷ xs) [] l rest hx hy whole e = absurd (not-cell x [] (cells-text xs ++ (l ++ rest)) (e ∙ append_assoc (cell_line x) (cells-text xs) (l ++ rest)))
next-line (x ∷ xs) (y ∷ ys) l rest hx hy whole e =
    let apart : cell_line y ++ (cells-text ys ++ end) ≡ cell_line x ++ (cells-text xs ++ (l ++ rest)) = sym (append_assoc (cell_line y) (cells-text ys) end) ∙ e ∙ append_assoc (cell_line x) (cells-text xs) (l ++ rest) in
    next-line xs ys l rest hx.1 hy.1 whole (line-same (cell_line y) (cell_line x) (cells-text ys ++ end) (cells-text xs ++ (l ++ rest)) (cell-whole y hy.0) (cell-whole x hx.0) apart).1

-- ---- the first lines of a text that begins like a proof

first-cells : (n : ℕ) (xs : List SignalCell) (text : List ℕ) → AllByRecursion IsLine xs → first_lines (length xs + n) (cells-text xs ++ text) ≡ option_map (λ r. cells-text xs ++ r) (first_lines n text)
first-cells n [] text h = ap (λ k. first_lines k text) (let none : length {A = SignalCell} [] + n ≡ n = omega arith in none) ∙ same (first_lines n text)
  where
    same : (o : Option (List ℕ)) → o ≡ option_map (λ r. [] ++ r) o
    same None = refl
    same (Some r) = refl
first-cells n (x ∷ xs) text h =
    ap (first_lines (suc (length xs) + n)) (append_assoc (cell_line x) (cells-text xs) text)
    ∙ ap (λ k. first_lines k (cell_line x ++ (cells-text xs ++ text))) (let one : suc (length xs) + n ≡ suc (length xs + n) = omega arith in one)
    ∙ first-line (length xs + n) (cell_line x) (cells-text xs ++ text) (cell-whole x h.0)
    ∙ ap (option_map (λ r. cell_line x ++ r)) (first-cells n xs text h.1)
    ∙ joined (first_lines n text)
  where
    joined : (o : Option (List ℕ)) → option_map (λ r. cell_line x ++ r) (option_map (λ r. cells-text xs ++ r) o) ≡ option_map (λ r. cells-text (x ∷ xs) ++ r) o
    joined None = refl
    joined (Some r) = ap Some (sym (append_assoc (cell_line x) (cells-text xs) r))

module _ (q : Proof) (is : IsProof q) where
  -- the claim and the cells
  pub head : List ℕ
  head = claim_line q.name q.time q.value ++ cells-text q.cells

  pub head-is : head ≡ claim_line q.name q.time q.value ++ cells-text q.cells
  unfolding head
  head-is = refl

  first-head : (n : ℕ) (text : List ℕ) → first_lines (length q.cells + 1 + n) (head ++ text) ≡ option_map (λ r. head ++ r) (first_lines n text)
  unfolding head
  first-head n text =
      let claim = claim_line q.name q.time q.value in
      ap (first_lines (length q.cells + 1 + n)) (append_assoc claim (cells-text q.cells) text)
      ∙ ap (λ k. first_lines k (claim ++ (cells-text q.cells ++ text))) (let one : length q.cells + 1 + n ≡ suc (length q.cells + n) = omega arith in one)
      ∙ first-line (length q.cells + n) claim (cells-text q.cells ++ text) (claim-whole q.name q.time q.value is.name is.time)
      ∙ ap (option_map (λ r. claim ++ r)) (first-cells n q.cells text is.cells)
      ∙ joined (first_lines n text)
    where
      joined : (o : Option (List ℕ)) → option_map (λ r. claim_line q.name q.time q.value ++ r) (option_map (λ r. cells-text q.cells ++ r) o) ≡ option_map (λ r. (claim_line q.name q.time q.value ++ cells-text q.cells) ++ r) o
      joined None = refl
      joined (Some r) = ap Some (sym (append_assoc (claim_line q.name q.time q.value) (cells-text q.cells) r))

  text-head : text_of q ≡ head ++ end
  unfolding head
  text-head = sym (append_assoc (claim_line q.name q.time q.value) (cells-text q.cells) end)

  -- a proof's text that begins with the head and goes on
  behind-head : (p : Proof) (rest : List ℕ) → IsProof p → text_of p ≡ head ++ rest → cells-text p.cells ++ end ≡ cells-text q.cells ++ rest
  unfolding head
  behind-head p rest hp e = (same-tail p q (tail-of p) (cells-text q.cells ++ rest) hp is (e ∙ append_assoc (claim_line q.name q.time q.value) (cells-text q.cells) rest)).1

  -- lines that are the front of its text go on
  goes : (text l : List ℕ) (n m : ℕ) (rest : List ℕ) → first_lines n text ≡ Some l → text_of q ≡ l ++ rest → m ≤ n → GoesOn m text
  goes text l n m rest found begun less =
      let f = first-fewer text m n l less found in
      (f.front, f.found, (q, f.behind ++ rest, is, begun ∙ ap (λ (x : List ℕ). x ++ rest) f.parts ∙ append_assoc f.front f.behind rest))

  module _ (text r1 r2 : List ℕ) (claim-found : claim_at text ≡ Some (claim-of q, r1)) (cells-found : cells_at (length r1) r1 ≡ (q.cells, r2)) (spelled : text ≡ head ++ r2) where
    -- a proof of this text has these lines, and ends behind them
    end-behind : (p : Proof) → IsProof p → text ≡ text_of p → r2 ≡ end
    end-behind p hp e =
        let one : (claim-of q, r1) ≡ (claim-of p, tail-of p) = same_Some (claim-of q, r1) (claim-of p, tail-of p) (sym claim-found ∙ ap claim_at e ∙ claim-read p (tail-of p) hp) in
        let rest : r1 ≡ tail-of p = ap (λ (r : Claim × List ℕ). r.1) one in
        let two : (q.cells, r2) ≡ (p.cells, end) = sym cells-found ∙ ap (λ (l : List ℕ). cells_at (length l) l) rest ∙ tail-read p hp in
        ap (λ (r : List SignalCell × List ℕ). r.1) two

    first-two : (n : ℕ) → first_lines (length q.cells + 1 + n) text ≡ option_map (λ r. head ++ r) (first_lines n r2)
    first-two n = ap (first_lines (length q.cells + 1 + n)) spelled ∙ first-head n r2

    map-some : (o : Option (List ℕ)) (l : List ℕ) → option_map (λ r. head ++ r) o ≡ Some l → (r : List ℕ) × (o ≡ Some r) × (head ++ r ≡ l)
    map-some None l e = absurd (cc e)
    map-some (Some r) l e = (r, refl, same_Some (head ++ r) l e)

    -- neither a cell line nor `end` stands behind the cells
    pub no-end : cell_at r2 ≡ None → after_word end r2 ≡ None → IsBroken text (length q.cells + 2)
    no-end no-cell no-word = record {
      none = λ p hp e. let at-end = end-behind p hp e in ended (sym no-word ∙ ap (after_word end) at-end);
      some = omega arith;
      before = λ n l.
          let found : first_lines (length q.cells + 1 + 0) text ≡ Some (head ++ []) = first-two 0 ∙ ap (option_map (λ r. head ++ r)) (first-none r2) in
          goes text (head ++ []) (length q.cells + 1 + 0) n end found (text-head ∙ ap (λ (x : List ℕ). x ++ end) (sym (append-nil head))) (omega arith);
      there = λ h.
          let (bytes, found, (p, rest, hp, begun)) = h in
          let count : length q.cells + 2 ≡ length q.cells + 1 + 1 = omega arith in
          let (l, one, same) = map-some (first_lines 1 r2) bytes (sym (first-two 1) ∙ ap (λ k. first_lines k text) (sym count) ∙ found) in
          let f = first-shape r2 l one in
          let after-head : text_of p ≡ head ++ (l ++ rest) = begun ∙ ap (λ (x : List ℕ). x ++ rest) (sym same) ∙ append_assoc head l rest in
          clash f.rest l f.parts (next-line q.cells p.cells l rest is.cells hp.cells f.whole (behind-head p (l ++ rest) hp after-head));
    }
      where
        ended : None ≡ after_word end end → ⊥
        ended e = cc e

        clash : (rest l : List ℕ) → r2 ≡ l ++ rest → NextLine l → ⊥
        clash rest l parts (AtEnd e) =
            let word : after_word end r2 ≡ Some rest = ap (after_word end) (parts ∙ ap (λ (x : List ℕ). x ++ rest) e) in
            cc (word, no-word)
        clash rest l parts (AtCell x hx e) =
            let cell : cell_at r2 ≡ Some (x, rest) = ap cell_at (parts ∙ ap (λ (y : List ℕ). y ++ rest) e) ∙ cell_again x rest hx in
            cc (cell, no-cell)

    -- `end` stands there, and something behind it
    pub more-behind : (r3 : List ℕ) → after_word end r2 ≡ Some r3 → 0 < length r3 → IsBroken text (length q.cells + 2 + 1)
    more-behind r3 word some-left =
        let ends : r2 ≡ end ++ r3 = after_takes end r2 r3 word in
        record {
          none = λ p hp e. empty (sym (end-behind p hp e) ∙ ends);
          some = omega arith;
          before = λ n l. goes text (head ++ (end ++ [])) (length q.cells + 1 + 1) n [] (found-end ends) (text-head ∙ sym (append-nil (head ++ (end ++ [])))) (omega arith);
          there = λ h.
              let (bytes, found, (p, rest, hp, begun)) = h in
              let count : length q.cells + 2 + 1 ≡ length q.cells + 1 + 2 = omega arith in
              let (l2, two, same) = map-some (first_lines 2 r2) bytes (sym (first-two 2) ∙ ap (λ k. first_lines k text) (sym count) ∙ found) in
              let (l, one, same-end) = after-end (first_lines 1 r3) l2 (sym (ap (first_lines 2) ends ∙ first-line 1 end r3 end-whole) ∙ two) in
              let f = first-shape r3 l one in
              let after-head : text_of p ≡ head ++ (end ++ (l ++ rest)) =
              begun ∙ ap (λ (x : List ℕ). x ++ rest) (sym same ∙ ap (λ (x : List ℕ). head ++ x) (sym same-end)) ∙ append_assoc head (end ++ l) rest ∙ ap (λ (x : List ℕ). head ++ x) (append_assoc end l rest) in
              nothing-left q.cells p.cells l rest is.cells hp.cells f.whole (behind-head p (end ++ (l ++ rest)) hp after-head);
        }
      where
        empty : end ≡ end ++ r3 → ⊥
        empty e = omega (arith, ap length e, length-append end r3, some-left)

        found-end : r2 ≡ end ++ r3 → first_lines (length q.cells + 1 + 1) text ≡ Some (head ++ (end ++ []))
        found-end ends = first-two 1 ∙ ap (option_map (λ r. head ++ r)) (ap (first_lines 1) ends ∙ first-line 0 end r3 end-whole ∙ ap (option_map (λ r. end ++ r)) (first-none r3))

        after-end : (o : Option (List ℕ)) (l : List ℕ) → option_map (λ r. end ++ r) o ≡ Some l → (r : List ℕ) × (o ≡ Some r) × (end ++ r ≡ l)
        after-end None l e = absurd (cc e)
        after-end (Some r) l e = (r, refl, same_Some (end ++ r) l e)

        line-long : (l : List ℕ) → IsWholeLine l → 0 < length l
        line-long l w = omega (arith, ap length w.line, length-append w.content (10 ∷ []))

        nothing-left : (xs ys : List SignalCell) (l rest : List ℕ) → AllByRecursion IsLine xs → AllByRecursion IsLine ys → IsWholeLine l → cells-text ys ++ end ≡ cells-text xs ++ (end ++ (l ++ rest)) → ⊥
        nothing-left [] [] l rest hx hy w e = omega (arith, ap length e, length-append end (l ++ rest), length-append l rest, line-long l w)
        nothing-left [] (y ∷ ys) l rest hx hy w e = not-cell y (l ++ rest) (cells-text ys ++ end) (sym e ∙ append_assoc (cell_line y) (cells-text ys) end)
        nothing-left (x ∷ xs) [] l rest hx hy w e = not-cell x [] (cells-text xs ++ (end ++ (l ++ rest))) (e ∙ append_assoc (cell_line x) (cells-text xs) (end ++ (l ++ rest)))
        nothing-left (x ∷ xs) (y ∷ ys) l rest hx hy w e =
            let apart : cell_line y ++ (cells-text ys ++ end) ≡ cell_line x ++ (cells-text xs ++ (end ++ (l ++ rest))) = sym (append_assoc (cell_line y) (cells-text ys) end) ∙ e ∙ append_assoc (cell_line x) (cells-text xs) (end ++ (l ++ rest)) in
            nothing-left xs ys l rest hx.1 hy.1 w (line-same (cell_line y) (cell_line x) (cells-text ys ++ end) (cells-text xs ++ (end ++ (l ++ rest))) (cell-whole y hy.0) (cell-whole x hx.0) apart).1

-- ---- a text without a first line

any-proof : Proof
any-proof = record { name = 97 ∷ []; time = 0; value = X; cells = [] }

any-is : IsProof any-proof
unfolding any-proof
any-is = record { name = refl; time = omega arith; cells = tt }

pub no-claim : (text : List ℕ) → claim_at text ≡ None → IsBroken text 1
no-claim text none-found = record {
  none = λ p hp e. let read = ap claim_at e ∙ claim-read p (tail-of p) hp in cc (read, none-found);
  some = omega arith;
  before = λ n l. let zero-lines : n ≡ 0 = omega arith in subst (λ k. GoesOn k text) (sym zero-lines) ([], first-none text, (any-proof, text_of any-proof, any-is, refl));
  there = λ h.
      let (bytes, found, (p, rest, hp, begun)) = h in
      let f = first-shape text bytes found in
      let same = (line-same (claim_line p.name p.time p.value) bytes (tail-of p) rest (claim-whole p.name p.time p.value hp.name hp.time) f.whole begun).0 in
      let read : claim_at text ≡ Some (claim-of p, f.rest) = ap claim_at (f.parts ∙ ap (λ (x : List ℕ). x ++ f.rest) (sym same)) ∙ claim-read p f.rest hp in
      cc (read, none-found);
}
