-- One part of the declarations by places in its text. Assumes nothing.
use Rattle.std.specs.Prelude.{ℕ, ◌+◌, ◌-◌, ◌≤◌, Bool, true, false, cond, not, ◌&&◌, ◌||◌, List, [], ◌∷◌, reverse, eqb, leb, length, get_or, take, drop, Option, Some, None, is_some, ◌≡◌}
use Rattle.std.specs.Option.{unwrap_or}
use Rattle.spec.specs.Bytes.{ascii, is_w, upper, prefix_by, is_prefix, is_same}
use Rattle.spec.specs.Lists.{take_while, drop_end}
use Rattle.spec.specs.Parts.{part}
use Rattle.spec.specs.Map.{Marked}
use Rattle.spec.specs.Search.{first}
use Rattle.spec.specs.Declarations.{Declared, delimiter_of, requoted_default, default_here, key_length, one_if}
use Rattle.runs.specs.Places.{piece_at}
use Rattle.runs.specs.declared.Place.{Place}
use Rattle.declared_parts.specs.declared.Cut.{Cut}
use Rattle.declared_parts.specs.declared.TypePlaces.{TypePlaces}
use Rattle.declared_parts.specs.declared.DeclarationPlaces.{DeclarationPlaces}

-- b is `:`, `=`, `D` or `d`, which a default key starts with
unfoldable pub starts_key : ℕ → Bool
starts_key b = eqb b 58 || (eqb b 61 || eqb (upper b) 68)

-- how many bytes the default key at i has, if one stands there
unfoldable pub key_at : List Marked → ℕ → Option ℕ
key_at t i = cond (default_here (reverse (take i t)) (drop i t)) (Some (key_length (drop i t))) None

-- the words of a text that does not start with W, joined by single spaces; g: W stood before
unfoldable pub spaced : Bool → List ℕ → List ℕ
spaced g [] = []
spaced g (c ∷ cs) =
    let gap = spaced true cs in
    let here = c ∷ spaced false cs in
    let after : List ℕ = 32 ∷ here in
    let plain = cond g after here in
    cond (is_w c) gap plain

-- the cut for the default key at i, if one stands there
abbrev pub cut_by : ℕ → Option ℕ → Option Cut
cut_by i (Some n) = Some (record { head = i; rest = Some (i + n) })
cut_by i None = None

unfoldable pub cut_at : List Marked → ℕ → Option Cut
cut_at t i = cut_by i (key_at t i)

-- the default of t by the place of its key
abbrev pub cut_of : Option ℕ → List Marked → Cut
cut_of (Some i) t = record { head = i; rest = Some (i + key_length (drop i t)) }
cut_of None t = record { head = length t; rest = None }

unfoldable pub cut_in : List Marked → Cut
cut_in t = cut_of (first default_here 0 t) t

-- its two parts stand within n bytes
pub record Fits (c : Cut) (n : ℕ) : Type 0 where
  pub head : c.head ≤ n
  pub ordered : (r : ℕ) → c.rest ≡ Some r → c.head ≤ r
  pub within : (r : ℕ) → c.rest ≡ Some r → r ≤ n

-- where a default stands without W at both ends, which begins in the text xs at that place behind `from` and ends at `to`
abbrev pub trimmed_place : List ℕ → ℕ → ℕ → Place
trimmed_place xs from to =
    let at = from + length (take_while is_w (part from to xs)) in
    record { at = at; len = length (drop_end is_w (part at to xs)) }

abbrev pub value_place : List ℕ → ℕ → ℕ → Option ℕ → Option Place
value_place xs from to (Some r) = Some (trimmed_place xs (from + r) to)
value_place xs from to None = None

-- a mark is set if it is not 0
abbrev pub is_set : ℕ → Bool
is_set n = not (eqb n 0)

-- the text xs is the word w, in any letter case
unfoldable pub is_text : List ℕ → List ℕ → Bool
is_text w xs = eqb (length xs) (length w) && prefix_by upper w xs

abbrev pub not_w : ℕ → Bool
not_w b = not (is_w b)

-- how many bytes CONSTANT and the W behind it take at the front of xs, if its first word is CONSTANT
unfoldable pub constant_len : List ℕ → Option ℕ
constant_len xs =
    let n = length (take_while not_w xs) in
    let behind = n + length (take_while is_w (drop n xs)) in
    cond (is_text (ascii "CONSTANT") (take n xs)) (Some behind) None

-- where the last word of xs stands
unfoldable pub last_word : List ℕ → Place
last_word xs =
    let n = length (drop_end is_w xs) in
    let from = length (drop_end not_w (take n xs)) in
    record { at = from; len = n - from }

-- the last word of xs is w
unfoldable pub ends_in : List ℕ → List ℕ → Bool
ends_in w xs = is_text w (piece_at xs (last_word xs))

-- how many bytes of xs stand ahead of NOT NULL, if its last two words are these
unfoldable pub type_len : List ℕ → Option ℕ
type_len xs =
    let front = take (last_word xs).at xs in
    let ahead = (last_word front).at in
    cond (ends_in (ascii "NULL") xs && ends_in (ascii "NOT") front) (Some ahead) None

-- the type in the text xs, which stands behind a name
unfoldable pub type_in : List ℕ → TypePlaces
type_in xs =
    let start = length (take_while is_w xs) in
    let constant = constant_len (drop start xs) in
    let from = start + unwrap_or constant 0 in
    let rest = drop from xs in
    let ahead = type_len rest in
    record {
      words = record { at = from; len = unwrap_or ahead (length rest) };
      constant = is_some constant;
      not_null = is_some ahead;
    }

-- a default, if one is there
abbrev pub value_of : Bool → List ℕ → Option (List ℕ)
value_of present text = cond present (Some (requoted_default text)) None

-- the place that two of a record's numbers are, from number j on
abbrev pub place_at : List ℕ → ℕ → Place
place_at ns j = record { at = get_or ns j 0; len = get_or ns (j + 1) 0 }

-- ten numbers as of a record, but the places are those of the name, the type's words and the default in the text xs
unfoldable pub default_by : List ℕ → List ℕ → Option (List ℕ)
default_by xs ns = value_of (is_set (get_or ns 5 0)) (piece_at xs (place_at ns 6))

unfoldable pub declared_by : List ℕ → List ℕ → Declared
declared_by xs ns =
    record {
      name = piece_at xs (place_at ns 1);
      type = spaced false (piece_at xs (place_at ns 3));
      default = default_by xs ns;
      constant = is_set (get_or ns 8 0);
      not_null = is_set (get_or ns 9 0);
    }

-- where a default stands, 0 and 0 if there is none
abbrev pub place_or : Option Place → Place
place_or None = record { at = 0; len = 0 }
place_or (Some v) = v

unfoldable pub part_numbers : DeclarationPlaces → List ℕ
part_numbers p =
    let v = place_or p.value in
    0
    ∷ p.name.at
    ∷ p.name.len
    ∷ p.kind.at
    ∷ p.kind.len
    ∷ one_if (is_some p.value)
    ∷ v.at
    ∷ v.len
    ∷ one_if p.constant
    ∷ one_if p.not_null
    ∷ []

-- what a part declares; without a type it declares nothing
unfoldable pub read_of : List ℕ → DeclarationPlaces → Option Declared
read_of xs p = cond (eqb p.kind.len 0) None (Some (declared_by xs (part_numbers p)))

-- a place and a length that are at most n, if there are any
abbrev pub PlaceWithin : ℕ → Option Place → Type 0
PlaceWithin n v = ((place_or v).at ≤ n) × ((place_or v).len ≤ n)

-- its places and lengths are at most n
pub record Within (n : ℕ) (p : DeclarationPlaces) : Type 0 where
  pub name : p.name.at ≤ n
  pub name_len : p.name.len ≤ n
  pub kind : p.kind.at ≤ n
  pub kind_len : p.kind.len ≤ n
  pub value : PlaceWithin n p.value

-- the text xs is wholly d, an inside, d
unfoldable pub is_whole : List ℕ → List ℕ → Bool
is_whole d xs =
    let rest = drop (length d) xs in
    let n = length rest - length d in
    is_prefix d xs && (leb (length d) (length rest) && is_same (drop n rest) d)

-- what stands inside the text xs, if it is wholly a delimiter, an inside, the delimiter
unfoldable pub inside_of : List ℕ → Option (List ℕ)
inside_of xs =
    let n = length (delimiter_of xs) in
    let inside = take (length xs - n - n) (drop n xs) in
    cond (is_whole (delimiter_of xs) xs) (Some inside) None
