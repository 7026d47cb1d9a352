-- The table of heads: which signals have a place in it, and where.
use Rattle.std.specs.Prelude.{◌≡◌, ◌⊎◌, Bool, vec_len, ℕ, ◌/◌, ◌%◌, ◌<◌, nat_eq, nat_lt, true, false, if◌then◌else◌, List, Option, Some, None, slice_get}
use Rattle.std.specs.Global.{Vec}
use Rattle.cell_store.specs.declared.heads.Head.{Head}
use Rattle.cell_store.specs.declared.heads.Heads.{Heads}
use Rattle.cell_store.specs.declared.heads.More.{More}
use Rattle.cell_store.specs.declared.heads.More.TheVariants.{Nothing, Own, Common}

-- the number of a signal among those of the table, where it is one
abbrev pub local_of : ℕ → ℕ → ℕ → Option ℕ
local_of stride residue signal =
    if nat_eq stride 0 then None
    else if nat_eq (signal % stride) residue then (if nat_lt (signal / stride / 64) 65536 then Some (signal / stride) else None)
    else None

-- the head of a signal of which nothing is stored
abbrev pub no_head : Head
no_head = record { first = 0; many = 0; more = Nothing }

-- that of a signal with no place: its cells are in the common map
abbrev pub elsewhere : Head
elsewhere = record { first = 0; many = 0; more = Common }

-- a map of its own
abbrev pub is_own : More → Bool
is_own Nothing = false
is_own Own = true
is_own Common = false

-- a map beside the list
abbrev pub has_map : More → Bool
has_map Nothing = false
has_map Own = true
has_map Common = true

-- something of the signal is stored, and not in the common map alone
abbrev pub HasHead : Head → Type 0
HasHead head = (0 < head.many) ⊎ (is_own head.more ≡ true)

abbrev pub or_none : Option Head → Head
or_none (Some head) = head
or_none None = no_head

abbrev pub head_on : List Head → ℕ → Head
head_on page i = or_none (slice_get page i)

abbrev pub on_page : Option (Vec Head) → ℕ → Head
on_page (Some page) i = head_on page.items i
on_page None i = no_head

abbrev pub head_at : List (Vec Head) → Option ℕ → Head
head_at pages (Some l) = on_page (slice_get pages (l / 64)) (l % 64)
head_at pages None = elsewhere

-- a page has the place of this number
pub record HasPlace (pages : List (Vec Head)) (local : ℕ) : Type 0 where
  pub page : Vec Head
  pub is : slice_get pages (local / 64) ≡ Some page
  pub long : local % 64 < vec_len page

abbrev pub head_for : Heads → ℕ → Head
head_for heads signal = head_at heads.pages.items (local_of heads.stride heads.residue signal)
