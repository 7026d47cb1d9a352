use Rattle.std.proofs.Common.{◌≡◌, ℕ, List, ◌<◌, ◌∷◌, [], length, get_or, true, refl, sym, ap, ◌∙◌, arith}
use Rattle.std.proofs.lemmas.Bool.{eqb-true, eqb-false}
use Rattle.texts.specs.Text.{is_mark, line_tokens}
use Rattle.texts.proofs.Tokens.{empty_left, no_mark_front, mark_front}
use Rattle.texts.proofs.token.next_mark.Goals as goal

pub returns-then-is_empty : goal.returns-then-is_empty
returns-then-is_empty c =
    let none : length c.after_blanks-bytes.result.now ≡ 0 = eqb-true _ _ (sym c.is_empty.ensures ∙ c.if-is_empty.true) in
    rw (sym c.after_blanks-bytes.ensures.tokens) (rw (empty_left c.after_blanks-bytes.result.now none) refl)

pub returns-then-not-is_mark : goal.returns-then-not-is_mark
returns-then-not-is_mark c =
    let some : 0 < length c.after_blanks-bytes.result.now = omega (arith, eqb-false (length c.after_blanks-bytes.result.now) 0 (sym c.is_empty.ensures ∙ c.if-is_empty.false)) in
    rw (sym c.after_blanks-bytes.ensures.tokens) (no_mark_front c.after_blanks-bytes.result.now some (c.after_blanks-bytes.ensures.filled some) (sym c.is_mark.ensures ∙ c.if-not-is_mark.true))

pub returns : goal.returns
returns c =
    let bytes = c.after_blanks-bytes.result.now in
    let some : 0 < length bytes = omega (arith, eqb-false (length bytes) 0 (sym c.is_empty.ensures ∙ c.if-is_empty.false)) in
    let is : is_mark (get_or bytes 0 0) ≡ true = sym c.is_mark.ensures ∙ c.if-not-is_mark.false in (
      sym c.after_blanks-bytes.ensures.tokens ∙ mark_front bytes some (c.after_blanks-bytes.ensures.filled some) is ∙ ap (λ (l : List ℕ). (get_or bytes 0 0 ∷ []) ∷ line_tokens l) (sym c.split_at.ensures.back),
      is,
    )
