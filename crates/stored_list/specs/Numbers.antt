-- Texts in hex, decimal numbers, and lists of numbers. Assumes nothing.
use Rattle.std.specs.Prelude.{ℕ, ◌+◌, ◌-◌, ◌*◌, cond, ◌&&◌, List, [], ◌∷◌, leb, map, drop, Option, Some, None}
use Rattle.std.specs.Option.{option_and_then, unwrap_or}
use Rattle.spec.specs.Bytes.{within}
use Rattle.stored_list.specs.Fields.{fields_of}

-- the value of a hex digit; 0 for any other byte
unfoldable pub hex_digit : ℕ → ℕ
hex_digit b =
    let letter = cond (within 97 102 b) (b - 87) 0 in
    cond (within 48 57 b) (b - 48) letter

-- the byte that two hex digits stand for
unfoldable pub hex_pair : ℕ → ℕ → ℕ
hex_pair c d = 16 * hex_digit c + hex_digit d

-- the bytes that pairs of hex digits stand for; a byte left over stands for nothing
unfoldable pub hex_bytes : List ℕ → List ℕ
hex_bytes [] = []
hex_bytes (c ∷ []) = []
hex_bytes (c ∷ d ∷ cs) = hex_pair c d ∷ hex_bytes cs

-- the number n with one more digit behind it; none if b is no digit or n has seven digits
unfoldable pub with_digit : ℕ → ℕ → Option ℕ
with_digit n b = cond (within 48 57 b && leb n 999999) (Some (10 * n + (b - 48))) None

-- the number n with more digits behind it
unfoldable pub with_digits : ℕ → List ℕ → Option ℕ
with_digits n [] = Some n
with_digits n (b ∷ bs) = option_and_then (λ m. with_digits m bs) (with_digit n b)

-- the value of a decimal field; none if it is empty, has a byte that is no digit or is too large
unfoldable pub number_of : List ℕ → Option ℕ
number_of [] = None
number_of (b ∷ bs) = with_digits 0 (b ∷ bs)

-- what a field that is no number counts as, where a number is wanted
abbrev pub no_number : ℕ
no_number = 99999999

abbrev pub counted : List ℕ → ℕ
counted digits = unwrap_or (number_of digits) no_number

-- the numbers of the fields behind the first
abbrev pub numbers_of : List ℕ → List ℕ
numbers_of line = map counted (drop 1 (fields_of line))
