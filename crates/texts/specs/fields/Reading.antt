-- How a line is read: each function gives what stands at the front of the bytes, and the bytes after it.
use Rattle.std.specs.Prelude.{ℕ, zero, suc, ◌+◌, ◌-◌, ◌*◌, ◌^◌, Bool, ◌&&◌, ◌||◌, not, nat_lt, nat_le, ◌==◌, List, [], ◌∷◌, length, slice_index_or, Option, Some, None, if◌then◌else◌}
use Rattle.std.specs.Borrow.{Bor}
use Rattle.std.specs.Option.{option_map_or}
use Rattle.std.specs.Char.{is_ascii_digit}
use Rattle.gate_values.specs.declared.Value.{Value}
use Rattle.gate_values.specs.declared.Value.TheVariants.{Zero, One, X, Z}

-- what was read, without where the bytes after it lie
abbrev pub read_is : {A : Type 0} → Option (A × Bor (List ℕ)) → Option (A × List ℕ)
read_is (Some read) = Some (read.0, read.1.now)
read_is None = None

abbrev pub behind_is : Option (Bor (List ℕ)) → Option (List ℕ)
behind_is (Some rest) = Some rest.now
behind_is None = None

infixl 10 ◌>>=◌
abbrev pub ◌>>=◌ : {A B : Type 0} → Option A → (A → Option B) → Option B
(Some x) >>= f = f x
None >>= f = None

-- the bytes after a word
abbrev pub after_word : List ℕ → List ℕ → Option (List ℕ)
after_word [] text = Some text
after_word (b ∷ word) [] = None
after_word (b ∷ word) (c ∷ text) = if c == b then after_word word text else None

-- the digits at the front, after digits of this value
abbrev pub digits_at : ℕ → List ℕ → ℕ × List ℕ
digits_at n [] = (n, [])
digits_at n (c ∷ text) = if is_ascii_digit c then digits_at (10 * n + (c - 48)) text else (n, c ∷ text)

-- at least one digit, no leading zero, and at most 4,294,967,295
abbrev pub is_number_at : List ℕ → ℕ × List ℕ → Bool
is_number_at text read = nat_lt (length read.1) (length text) && (not (slice_index_or text 0 0 == 48) || nat_le (length text) (length read.1 + 1)) && nat_lt read.0 (2 ^ 32)

unfoldable pub number_at : List ℕ → Option (ℕ × List ℕ)
number_at text = if is_number_at text (digits_at 0 text) then Some (digits_at 0 text) else None

unfoldable pub field_at : List ℕ → Option (ℕ × List ℕ)
field_at text = after_word (32 ∷ []) text >>= number_at

-- the value at the front
abbrev pub value_at : List ℕ → Option (Value × List ℕ)
value_at [] = None
value_at (b ∷ text) = if b == 48 then Some (Zero, text) else (if b == 49 then Some (One, text) else (if b == 120 then Some (X, text) else (if b == 122 then Some (Z, text) else None)))

-- an item in front of those that are read after it
abbrev pub put_first : {A : Type 0} → A → List A × List ℕ → List A × List ℕ
put_first x read = (x ∷ read.0, read.1)

-- the items at the front, at most so many, up to what is none
abbrev pub items_at : {A : Type 0} → (List ℕ → Option (A × List ℕ)) → ℕ → List ℕ → List A × List ℕ
items_at item_at zero text = ([], text)
items_at item_at (suc most) text = option_map_or (λ read. put_first read.0 (items_at item_at most read.1)) (item_at text) ([], text)
