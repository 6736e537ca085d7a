-- Document 01, "The declaration records", Note 2, where a default begins, and Note 5, the words around a type. Assumes
-- nothing.
use Rattle.std.specs.Prelude.{ℕ, zero, suc, ◌+◌, ◌-◌, ◌*◌, Bool, true, false, cond, not, ◌&&◌, ◌||◌, List, [], ◌∷◌, ◌++◌, eqb, ltb, leb, length, get_or, take, drop, replicate, Option, Some, None}
use Rattle.spec.specs.Bytes.{ascii, is_ident, is_w, is_prefix, is_same, is_before}
use Rattle.spec.specs.Lists.{is_empty, take_while, keep}
use Rattle.spec.specs.Map.{Marked, bytes, marked_text, front_byte, front_live}
use Rattle.spec.specs.Search.{Test, first, keyword_here, byte_here, pieces, is_word_text}
use Rattle.spec.specs.Requote.{single_quoted}
use Rattle.spec.specs.Assignments.{assign_here, lone_equals}
use Rattle.spec.specs.Parts.{trim, part}

-- how many numbers a record has (Note 5: ten), and how many records may be declared
unfoldable pub record_width : ℕ
record_width = 10

unfoldable pub record_limit : ℕ
record_limit = 512

-- the numbers that are lent for the records and the head
unfoldable pub record_numbers : ℕ
record_numbers = record_width * (record_limit + 1)

-- a declared variable; the default may be absent, or present and empty; CONSTANT stood before the type, NOT NULL closed it
pub record Declared : Type 0 where
  pub name : List ℕ
  pub type : List ℕ
  pub default : Option (List ℕ)
  pub constant : Bool
  pub not_null : Bool

-- a default that is wholly `$tag$..$tag$`, its delimiter d in front: the tag may start with a digit and the inside may
-- hold `$tag$` again
unfoldable pub requoted_by : List ℕ → List ℕ → List ℕ
requoted_by d xs =
    let rest = drop (length d) xs in
    let n = length rest - length d in
    let whole = is_prefix d xs && (leb (length d) (length rest) && is_same (drop n rest) d) in
    let text = single_quoted (take n rest) in
    cond whole text xs

-- the delimiter that a default would have: `$`, identifier bytes, `$`
unfoldable pub delimiter_of : List ℕ → List ℕ
delimiter_of xs = 36 ∷ (take_while is_ident (drop 1 xs) ++ (36 ∷ []))

unfoldable pub requoted_default : List ℕ → List ℕ
requoted_default xs = requoted_by (delimiter_of xs) xs

-- what stands ahead is split on W
unfoldable pub words : List Marked → List (List Marked)
words t = keep (λ (p : List Marked). not (is_empty p)) (pieces (λ (back u : List Marked). is_w (front_byte u)) t)

-- joined by single spaces
unfoldable pub join_words : List (List Marked) → List ℕ
join_words [] = []
join_words (w ∷ []) = bytes w
join_words (w ∷ v ∷ ws) = bytes w ++ (32 ∷ join_words (v ∷ ws))

-- the words are these, in any letter case
unfoldable pub are_words : List (List ℕ) → List (List Marked) → Bool
are_words [] [] = true
are_words [] (w ∷ ws) = false
are_words (a ∷ texts) [] = false
are_words (a ∷ texts) (w ∷ ws) =
    let more = are_words texts ws in
    is_word_text a w && more

-- Note 5: CONSTANT stood before the type: it is the first word behind the name
unfoldable pub is_constant : List (List Marked) → Bool
is_constant ws = are_words (ascii "CONSTANT" ∷ []) (take 1 ws)

-- Note 5: NOT NULL closed it: these are the last two words of what is left
unfoldable pub is_not_null : List (List Marked) → Bool
is_not_null ws = are_words (ascii "NOT" ∷ ascii "NULL" ∷ []) (drop (length ws - 2) ws)

-- Note 5: those words leave the type
unfoldable pub behind_constant : List (List Marked) → List (List Marked)
behind_constant ws = cond (is_constant ws) (drop 1 ws) ws

unfoldable pub ahead_of_not_null : List (List Marked) → List (List Marked)
ahead_of_not_null ws = cond (is_not_null ws) (take (length ws - 2) ws) ws

-- name, then type; fewer than two words or, by Note 5, no type left: no record
unfoldable pub declared_of : List (List Marked) → Option (List ℕ) → Option Declared
declared_of [] d = None
declared_of (n ∷ ws) d =
    let rest = behind_constant ws in
    let type = ahead_of_not_null rest in
    let made : Declared = record {
      name = bytes n;
      type = join_words type;
      default = d;
      constant = is_constant ws;
      not_null = is_not_null rest;
    } in
    cond (is_empty type) None (Some made)

-- Note 2: lone here means no `=` on either side and no `>` behind; what is behind is pass 3's question too
unfoldable pub is_lone : Test
is_lone back t = lone_equals t && not (eqb (front_byte back) 61)

-- a live lone `=` stands here
unfoldable pub equals_here : Test
equals_here back t = front_live t && is_lone back t

-- Note 2: what begins a default, PostgreSQL's default key: a live `:=`, a live lone `=` or a live keyword DEFAULT
unfoldable pub default_here : Test
default_here back t = assign_here back t || (equals_here back t || keyword_here (ascii "DEFAULT") back t)

-- how many bytes the default key in front of t has: `:` starts `:=`, `=` stands alone, another byte starts DEFAULT
unfoldable pub key_length : List Marked → ℕ
key_length t = cond (eqb (front_byte t) 58) 2 (cond (eqb (front_byte t) 61) 1 7)

-- the part with its default key at this place, or with no default
unfoldable pub part_at : Option ℕ → List Marked → Option Declared
part_at (Some i) t =
    let behind = drop (i + key_length (drop i t)) t in
    declared_of (words (take i t)) (Some (requoted_default (bytes (trim behind))))
part_at None t = declared_of (words t) None

-- Note 2: the default begins after the leftmost default key; the part is trimmed of W first
unfoldable pub declaration : List Marked → Option Declared
declaration part = let t = trim part in part_at (first default_here 0 t) t

-- records stand in order of first declaration; a repeated name replaces the contents
unfoldable pub declare : Declared → List Declared → List Declared
declare d [] = d ∷ []
declare d (e ∷ es) =
    let replaced = d ∷ es in
    let kept = e ∷ declare d es in
    cond (is_same d.name e.name) replaced kept

unfoldable pub declare_maybe : Option Declared → List Declared → List Declared
declare_maybe None ds = ds
declare_maybe (Some d) ds = declare d ds

unfoldable pub declare_all : List (List Marked) → List Declared → List Declared
declare_all [] ds = ds
declare_all (p ∷ ps) ds = declare_all ps (declare_maybe (declaration p) ds)

-- the text between DECLARE at d and BEGIN at b, if DECLARE comes before BEGIN
unfoldable pub declare_section : Option ℕ → Option ℕ → List Marked → List Marked
declare_section None b t = []
declare_section (Some d) None t = []
declare_section (Some d) (Some b) t = cond (ltb d b) (part (d + 7) b t) []

-- the records of a text: the section is cut at live `;`
unfoldable pub records_of : List ℕ → List Declared
records_of xs =
    let t = marked_text xs in
    let found = declare_section (first (keyword_here (ascii "DECLARE")) 0 t) (first (keyword_here (ascii "BEGIN")) 0 t) t in
    declare_all (pieces (byte_here 59) found) []

-- text before BEGIN is dropped from the body; without BEGIN the body is all
unfoldable pub body_from : Option ℕ → List ℕ → List ℕ
body_from None xs = xs
body_from (Some b) xs = drop b xs

unfoldable pub body_of : List ℕ → List ℕ
body_of xs = body_from (first (keyword_here (ascii "BEGIN")) 0 (marked_text xs)) xs

abbrev pub text_or : Option (List ℕ) → List ℕ
text_or None = []
text_or (Some xs) = xs

-- texts are packed from offset 0 in record order, each record's name, type, default
unfoldable pub packed_record : Declared → List ℕ
packed_record d = d.name ++ (d.type ++ text_or d.default)

unfoldable pub packed : List Declared → List ℕ
packed [] = []
packed (d ∷ ds) = packed_record d ++ packed ds

-- a record's number, and its name; number 0 is no record
pub record Place : Type 0 where
  pub number : ℕ
  pub name : List ℕ

-- the first in byte order of names among those whose name passes the test; the records are numbered from i
unfoldable pub first_in_order : (List ℕ → Bool) → ℕ → List Declared → Place
first_in_order f i [] = record { number = 0; name = [] }
first_in_order f i (d ∷ ds) =
    let later = first_in_order f (suc i) ds in
    let here : Place = record { number = i; name = d.name } in
    cond (f d.name && (eqb later.number 0 || is_before d.name later.name)) here later

-- the head's next: the first record in byte order of names
unfoldable pub head_next : List Declared → ℕ
head_next ds = (first_in_order (λ (n : List ℕ). true) 1 ds).number

-- a record's next: the one that follows it in byte order of names; zero ends the chain
unfoldable pub next_of : List Declared → List ℕ → ℕ
next_of ds name = (first_in_order (is_before name) 1 ds).number

-- 1 if a default is present else 0, default start, default length (0, 0 if absent)
unfoldable pub default_numbers : Option (List ℕ) → ℕ → List ℕ
default_numbers None at = 0 ∷ 0 ∷ 0 ∷ []
default_numbers (Some xs) at = 1 ∷ at ∷ length xs ∷ []

-- 1 if so, else 0
abbrev pub one_if : Bool → ℕ
one_if b = cond b 1 0

-- Note 5: 1 if CONSTANT stood before the type, and 1 if NOT NULL closed it, else 0
abbrev pub mark_numbers : Declared → List ℕ
mark_numbers d = one_if d.constant ∷ one_if d.not_null ∷ []

-- a record whose texts are packed from this offset: next, name start and length, type start and length, the default's three;
-- Note 5: the two new ones at its end
unfoldable pub record_at : List Declared → ℕ → Declared → List ℕ
record_at all at d =
    let type_at = at + length d.name in
    next_of all d.name
    ∷ at
    ∷ length d.name
    ∷ type_at
    ∷ length d.type
    ∷ (default_numbers d.default (type_at + length d.type) ++ mark_numbers d)

unfoldable pub records_at : List Declared → ℕ → List Declared → List ℕ
records_at all at [] = []
records_at all at (d ∷ ds) = record_at all at d ++ records_at all (at + length (packed_record d)) ds

-- all numbers: record 0 is the head, its other numbers 0
unfoldable pub numbers_of : List Declared → List ℕ
numbers_of ds = head_next ds ∷ (replicate (record_width - 1) 0 ++ records_at ds 0 ds)

-- the records that a chain of next numbers visits from record i on, at most n of them; zero ends it
unfoldable pub chain_from : ℕ → List ℕ → ℕ → List ℕ
chain_from zero numbers i = []
chain_from (suc n) numbers i =
    let rest = i ∷ chain_from n numbers (get_or numbers (record_width * i) 0) in
    cond (eqb i 0) [] rest

-- the chain from the head
unfoldable pub chain : List Declared → List ℕ
chain ds = chain_from (length ds) (numbers_of ds) (get_or (numbers_of ds) 0 0)
