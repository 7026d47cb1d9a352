-- The numbers that the words name are in their ranges.
use Rattle.std.proofs.Common.{◌≡◌, ℕ, ◌≤◌, ◌<◌, Bool, true, false, ◌&&◌, nat_le, List, [], ◌∷◌, length, Option, Some, None, sym, arith, lit≤, cond, is_some, ◌||◌}
use Rattle.std.proofs.lemmas.Bool.{and_parts, leb-true}
use Rattle.std.proofs.lemmas.Option.{cond_some, option_and_then_some, none-some, same_Some}
use Rattle.texts.specs.Text.{is_number, decimal_value}
use Rattle.command_words.specs.Words.{Text, Workers, Shards, Cells, Work, Said, Form, Session, Workload, nothing_said, read, number_in, number_at, number_or, session_of, workload_of, first_form, form_by, form_of, words_of}

-- as many as a session may have
pub record InRange (w s c : ℕ) : Type 0 where
  pub workers : (0 < w) × (w ≤ 64)
  pub shards : (0 < s) × (s ≤ 64)
  pub cells : (0 < c) × (c ≤ 65536)

within : (most a n : ℕ) → a ≡ n → 1 ≤ a → a ≤ most → (0 < n) × (n ≤ most)
within most a n is least some = (omega (arith, is, least), omega (arith, is, some))

in-bounds : (digits short : Bool) (most value : ℕ) → (digits && short && nat_le 1 value && nat_le value most) ≡ true → (1 ≤ value) × (value ≤ most)
in-bounds digits short most value is =
    let upper = and_parts (digits && short && nat_le 1 value) (nat_le value most) is in
    let lower = and_parts (digits && short) (nat_le 1 value) upper.0 in
    (leb-true 1 value lower.1, leb-true value most upper.1)

number-within : (most : ℕ) (text : Text) (n : ℕ) → number_in 1 most text ≡ Some n → (0 < n) × (n ≤ most)
number-within most text n is =
    let found = cond_some (is_number text && nat_le (length text) 10 && nat_le 1 (decimal_value text) && nat_le (decimal_value text) most) (decimal_value text) n is in
    let bounds = in-bounds (is_number text) (nat_le (length text) 10) most (decimal_value text) found.0 in
    within most (decimal_value text) n found.1 bounds.0 bounds.1

workers-within : (text : Option Text) (n : ℕ) → number_or Workers 4 text ≡ Some n → (0 < n) × (n ≤ 64)
workers-within None n is = within 64 4 n (same_Some 4 n is) (lit≤ tt) (lit≤ tt)
workers-within (Some text) n is = number-within 64 text n is

shards-within : (text : Option Text) (n : ℕ) → number_or Shards 8 text ≡ Some n → (0 < n) × (n ≤ 64)
shards-within None n is = within 64 8 n (same_Some 8 n is) (lit≤ tt) (lit≤ tt)
shards-within (Some text) n is = number-within 64 text n is

cells-within : (text : Option Text) (n : ℕ) → number_or Cells 16384 text ≡ Some n → (0 < n) × (n ≤ 65536)
cells-within None n is = within 65536 16384 n (same_Some 16384 n is) (lit≤ tt) (lit≤ tt)
cells-within (Some text) n is = number-within 65536 text n is

session-numbers : (names : List Text) (a b c : ℕ) (netlist timing stimulus journal : Text) (workers shards cells : ℕ)
    → session_of names a b c ≡ Some (Session netlist timing stimulus journal workers shards cells) → InRange a b c → InRange workers shards cells
session-numbers [] a b c netlist timing stimulus journal workers shards cells is within = absurd (none-some _ is)
session-numbers (n ∷ []) a b c netlist timing stimulus journal workers shards cells is within = absurd (none-some _ is)
session-numbers (n ∷ t ∷ []) a b c netlist timing stimulus journal workers shards cells is within = absurd (none-some _ is)
session-numbers (n ∷ t ∷ s ∷ []) a b c netlist timing stimulus journal workers shards cells is within = absurd (none-some _ is)
session-numbers (n ∷ t ∷ s ∷ j ∷ []) a b c netlist timing stimulus journal workers shards cells is within =
    let same_a : a ≡ workers = cc in
    let same_b : b ≡ shards = cc in
    let same_c : c ≡ cells = cc in
    rw (sym same_a, sym same_b, sym same_c) within
session-numbers (n ∷ t ∷ s ∷ j ∷ x ∷ xs) a b c netlist timing stimulus journal workers shards cells is within = absurd (none-some _ is)

first-within : (said : Said) (netlist timing stimulus journal : Text) (workers shards cells : ℕ)
    → first_form said ≡ Some (Session netlist timing stimulus journal workers shards cells) → InRange workers shards cells
first-within said netlist timing stimulus journal workers shards cells is =
    option_and_then_some _ (number_or Workers 4 said.workers) _ is (λ a workers_are by_workers.
    option_and_then_some _ (number_or Shards 8 said.shards) _ by_workers (λ b shards_are by_shards.
    option_and_then_some _ (number_or Cells 16384 said.cells) _ by_shards (λ c cells_are named.
    session-numbers said.names a b c netlist timing stimulus journal workers shards cells named
    (record { workers = workers-within said.workers a workers_are; shards = shards-within said.shards b shards_are; cells = cells-within said.cells c cells_are }))))

no-workload : (names : List Text) (n m : ℕ) (netlist timing stimulus journal : Text) (workers shards cells : ℕ)
    → workload_of names n m ≡ Some (Session netlist timing stimulus journal workers shards cells) → ⊥
no-workload [] n m netlist timing stimulus journal workers shards cells is = none-some _ is
no-workload (j ∷ []) n m netlist timing stimulus journal workers shards cells is =
    let same : Workload n j m ≡ Session netlist timing stimulus journal workers shards cells = same_Some _ _ is in cc
no-workload (j ∷ x ∷ xs) n m netlist timing stimulus journal workers shards cells is = none-some _ is

no-second : (alone : Bool) (form : Option Form) (other : Form) → cond alone None form ≡ Some other → form ≡ Some other
no-second true form other is = absurd (none-some _ is)
no-second false form other is = is

form-within : (number : Option Text) (said : Said) (netlist timing stimulus journal : Text) (workers shards cells : ℕ)
    → form_by number said ≡ Some (Session netlist timing stimulus journal workers shards cells) → InRange workers shards cells
form-within None said netlist timing stimulus journal workers shards cells is = first-within said netlist timing stimulus journal workers shards cells is
form-within (Some number) said netlist timing stimulus journal workers shards cells is =
    option_and_then_some _ (number_at Work number) _ (no-second (is_some said.shards || is_some said.cells) _ _ is) (λ n number_is by_number.
    option_and_then_some _ (number_or Workers 4 said.workers) _ by_number (λ m workers_are named.
    absurd (no-workload said.names n m netlist timing stimulus journal workers shards cells named)))

-- words that ask for a session name numbers in their ranges
pub session-in-range : (words : List Text) (netlist timing stimulus journal : Text) (workers shards cells : ℕ)
    → Some (Session netlist timing stimulus journal workers shards cells) ≡ words_of words → InRange workers shards cells
session-in-range words netlist timing stimulus journal workers shards cells is =
    option_and_then_some form_of (read words None nothing_said) _ (sym is) (λ said are form.
    form-within said.work said netlist timing stimulus journal workers shards cells form)

-- Words that ask for the workload.

-- what such words name
pub record IsWorkInRange (n w : ℕ) : Type 0 where
  pub number : n ≤ 2147483647
  pub workers : (0 < w) × (w ≤ 64)

work-number-within : (text : Text) (n : ℕ) → number_at Work text ≡ Some n → n ≤ 2147483647
work-number-within text n is =
    let found = cond_some (is_number text && nat_le (length text) 10 && nat_le 0 (decimal_value text) && nat_le (decimal_value text) 2147483647) (decimal_value text) n is in
    let upper = and_parts (is_number text && nat_le (length text) 10 && nat_le 0 (decimal_value text)) (nat_le (decimal_value text) 2147483647) found.0 in
    let below : decimal_value text ≤ 2147483647 = leb-true (decimal_value text) 2147483647 upper.1 in
    let same : decimal_value text ≡ n = found.1 in
    omega (arith, below, same)

no-session-of : (names : List Text) (a b c number : ℕ) (journal : Text) (workers : ℕ) → session_of names a b c ≡ Some (Workload number journal workers) → ⊥
no-session-of [] a b c number journal workers is = none-some _ is
no-session-of (n ∷ []) a b c number journal workers is = none-some _ is
no-session-of (n ∷ t ∷ []) a b c number journal workers is = none-some _ is
no-session-of (n ∷ t ∷ s ∷ []) a b c number journal workers is = none-some _ is
no-session-of (n ∷ t ∷ s ∷ j ∷ []) a b c number journal workers is =
    let same : Session n t s j a b c ≡ Workload number journal workers = same_Some _ _ is in cc
no-session-of (n ∷ t ∷ s ∷ j ∷ x ∷ xs) a b c number journal workers is = none-some _ is

workload-numbers : (names : List Text) (n m number : ℕ) (journal : Text) (workers : ℕ)
    → workload_of names n m ≡ Some (Workload number journal workers) → IsWorkInRange n m → IsWorkInRange number workers
workload-numbers [] n m number journal workers is within = absurd (none-some _ is)
workload-numbers (j ∷ []) n m number journal workers is within =
    let same : Workload n j m ≡ Workload number journal workers = same_Some _ _ is in
    let same_n : n ≡ number = cc in
    let same_m : m ≡ workers = cc in
    rw (sym same_n, sym same_m) within
workload-numbers (j ∷ x ∷ xs) n m number journal workers is within = absurd (none-some _ is)

work-form-within : (text : Option Text) (said : Said) (number : ℕ) (journal : Text) (workers : ℕ)
    → form_by text said ≡ Some (Workload number journal workers) → IsWorkInRange number workers
work-form-within None said number journal workers is =
    option_and_then_some _ (number_or Workers 4 said.workers) _ is (λ a workers_are by_workers.
    option_and_then_some _ (number_or Shards 8 said.shards) _ by_workers (λ b shards_are by_shards.
    option_and_then_some _ (number_or Cells 16384 said.cells) _ by_shards (λ c cells_are named.
    absurd (no-session-of said.names a b c number journal workers named))))
work-form-within (Some text) said number journal workers is =
    option_and_then_some _ (number_at Work text) _ (no-second (is_some said.shards || is_some said.cells) _ _ is) (λ n number_is by_number.
    option_and_then_some _ (number_or Workers 4 said.workers) _ by_number (λ m workers_are named.
    workload-numbers said.names n m number journal workers named
    (record { number = work-number-within text n number_is; workers = workers-within said.workers m workers_are })))

-- words that ask for the workload name numbers in their ranges
pub workload-in-range : (words : List Text) (number : ℕ) (journal : Text) (workers : ℕ)
    → Some (Workload number journal workers) ≡ words_of words → IsWorkInRange number workers
workload-in-range words number journal workers is =
    option_and_then_some form_of (read words None nothing_said) _ (sym is) (λ said are form.
    work-form-within said.work said number journal workers form)
