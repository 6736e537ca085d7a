-- Document 01's byte sets, letter case, and texts compared byte by byte. Assumes nothing.
use Rattle.std.specs.Prelude.{ℕ, ◌-◌, Bool, true, false, cond, not, ◌&&◌, ◌||◌, List, [], ◌∷◌, leb, ltb, eqb}
use Prim.Native.Char.{code}
use Prim.Native.String.{String}

-- the bytes of a quoted text
abbrev pub ascii : String → List ℕ
ascii String.[] = []
ascii (String.◌∷◌ c s) = code c ∷ ascii s

-- lo ≤ b ≤ hi
unfoldable pub within : ℕ → ℕ → ℕ → Bool
within lo hi b = leb lo b && leb b hi

unfoldable pub is_digit : ℕ → Bool
is_digit b = within 48 57 b

unfoldable pub is_lower : ℕ → Bool
is_lower b = within 97 122 b

unfoldable pub is_upper : ℕ → Bool
is_upper b = within 65 90 b

-- an identifier byte: a letter, a digit or `_`
unfoldable pub is_ident : ℕ → Bool
is_ident b = is_lower b || (is_upper b || (is_digit b || eqb b 95))

-- a scanner word byte: an identifier byte or `$`
unfoldable pub is_word : ℕ → Bool
is_word b = is_ident b || eqb b 36

-- W: bytes 9 to 13 and 32
unfoldable pub is_w : ℕ → Bool
is_w b = within 9 13 b || eqb b 32

-- N: W without 11
unfoldable pub is_n : ℕ → Bool
is_n b = is_w b && not (eqb b 11)

-- a single or a double quote
unfoldable pub is_quote : ℕ → Bool
is_quote b = eqb b 39 || eqb b 34

-- a byte over 127
unfoldable pub is_high : ℕ → Bool
is_high b = ltb 127 b

-- a letter in capitals, any other byte as it is: ASCII case is ignored by comparing these
unfoldable pub upper : ℕ → ℕ
upper b = cond (is_lower b) (b - 32) b

-- the bytes c d are the pair x y
unfoldable pub is_pair : ℕ → ℕ → ℕ → ℕ → Bool
is_pair x y c d = eqb c x && eqb d y

-- w stands at the front of xs where bytes are compared by f
unfoldable pub prefix_by : (ℕ → ℕ) → List ℕ → List ℕ → Bool
prefix_by f [] xs = true
prefix_by f (a ∷ w) [] = false
prefix_by f (a ∷ w) (x ∷ xs) =
    let more = prefix_by f w xs in
    eqb (f x) (f a) && more

-- p stands at the front of xs
unfoldable pub is_prefix : List ℕ → List ℕ → Bool
is_prefix [] xs = true
is_prefix (a ∷ p) [] = false
is_prefix (a ∷ p) (x ∷ xs) =
    let more = is_prefix p xs in
    eqb x a && more

-- xs and ys are the same bytes
unfoldable pub is_same : List ℕ → List ℕ → Bool
is_same [] [] = true
is_same [] (y ∷ ys) = false
is_same (x ∷ xs) [] = false
is_same (x ∷ xs) (y ∷ ys) =
    let more = is_same xs ys in
    eqb x y && more

-- xs comes before ys in byte order
unfoldable pub is_before : List ℕ → List ℕ → Bool
is_before [] [] = false
is_before [] (y ∷ ys) = true
is_before (x ∷ xs) [] = false
is_before (x ∷ xs) (y ∷ ys) =
    let more = is_before xs ys in
    ltb x y || (eqb x y && more)
