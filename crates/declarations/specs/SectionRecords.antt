-- The records' nexts, their packed texts and their numbers, by the records as they are read. Assumes nothing.
use Rattle.std.specs.Prelude.{◌≡◌, ℕ, zero, suc, ◌+◌, ◌*◌, ◌≤◌, ◌<◌, cond, List, [], ◌∷◌, ◌++◌, eqb, ltb, length, get_or, take, drop, Option, Some, None, Result, Err, Ok}
use Rattle.std.specs.Borrow.{Bor}
use Rattle.std.proofs.lemmas.List.Edits.{sets}
use Rattle.spec.specs.Bytes.{ascii}
use Rattle.spec.specs.Map.{Marked}
use Rattle.spec.specs.Search.{first, keyword_here, byte_here, pieces}
use Rattle.spec.specs.Declarations.{Declared, requoted_default, declare_all, declare_section, packed_record, packed, head_next, next_of, default_numbers, mark_numbers, numbers_of}
use Rattle.runs.specs.Places.{place_between}
use Rattle.runs.specs.declared.Place.{Place}
use Rattle.declared_parts.specs.declared.DeclarationPlaces.{DeclarationPlaces}
use Rattle.declared_records.specs.Held.{record_in, records_from}
use Rattle.declarations.specs.declared.DeclaredSizes.{DeclaredSizes}
use Rattle.spec.specs.declared.Refusal.{Refusal}
use Rattle.spec.specs.declared.Refusal.TheVariants.{TooManyNames}

-- the records of a text with its map
unfoldable pub records_of_section : List Marked → List Declared
records_of_section t = declare_all (pieces (byte_here 59) t) []

unfoldable pub records_in : List Marked → List Declared
records_in t =
    records_of_section (declare_section (first (keyword_here (ascii "DECLARE")) 0 t) (first (keyword_here (ascii "BEGIN")) 0 t) t)

-- where the first DECLARE ends, 0 if there is none
abbrev pub declare_end : Option ℕ → ℕ
declare_end (Some d) = d + 7
declare_end None = 0

-- the section by the first DECLARE and the first BEGIN
abbrev pub section_of : Option ℕ → Option ℕ → Option Place
section_of (Some d) (Some b) = place_between (d + 7) b
section_of (Some d) None = None
section_of None f = None

-- s is where the section of t stands
pub record SectionIn (t : List Marked) (s : Place) : Type 0 where
  pub within : s.at + s.len ≤ length t
  pub found :
      take s.len (drop s.at t)
      ≡ declare_section (first (keyword_here (ascii "DECLARE")) 0 t) (first (keyword_here (ascii "BEGIN")) 0 t) t

-- the answer
unfoldable pub parsed_of : List Declared → Result DeclaredSizes Refusal
parsed_of ds = cond (ltb 512 (length ds)) (Err TooManyNames) (Ok (record { records = length ds; bytes = length (packed ds) }))

-- a default, requoted, and the text that it has
abbrev pub requoted : Option (Bor (List ℕ)) → Option (List ℕ)
requoted None = None
requoted (Some v) = Some (requoted_default v.now)

abbrev pub text_in : Option (Bor (List ℕ)) → List ℕ
text_in None = []
text_in (Some v) = v.now

-- where a default stands that is packed from this offset, and where the texts of a record
abbrev pub value_from : ℕ → Option (List ℕ) → Option Place
value_from at None = None
value_from at (Some xs) = Some (record { at = at; len = length xs })

unfoldable pub packed_places : ℕ → Declared → DeclarationPlaces
packed_places at d =
    let type_at = at + length d.name in
    record {
      name = record { at = at; len = length d.name };
      kind = record { at = type_at; len = length d.type };
      value = value_from (type_at + length d.type) d.default;
      constant = d.constant;
      not_null = d.not_null;
    }

-- a record's next, the head's for record 0
unfoldable pub next_number : List ℕ → List ℕ → ℕ → ℕ → ℕ
next_number xs rs count k =
    let ds = records_from xs rs 1 count in
    cond (eqb k 0) (head_next ds) (next_of ds (record_in xs rs k).name)

-- each of the records has its next, and their contents are the same
pub record Linked (xs rs : List ℕ) (count : ℕ) (rs' : List ℕ) : Type 0 where
  pub next : (k : ℕ) → k ≤ count → get_or rs' (10 * k) 0 ≡ next_number xs rs count k
  pub same : (k : ℕ) → record_in xs rs' k ≡ record_in xs rs k

-- the numbers of a record but for its next, its texts packed from `at`
unfoldable pub other_numbers : ℕ → Declared → List ℕ
other_numbers at d =
    let type_at = at + length d.name in
    at
    ∷ length d.name
    ∷ type_at
    ∷ length d.type
    ∷ (default_numbers d.default (type_at + length d.type) ++ mark_numbers d)

-- the numbers of record k, its next as it is, and of n records from record k on
unfoldable pub record_numbers : List ℕ → List ℕ → ℕ → ℕ → List ℕ
record_numbers xs rs at k = get_or rs (10 * k) 0 ∷ other_numbers at (record_in xs rs k)

unfoldable pub final_numbers : List ℕ → List ℕ → ℕ → ℕ → ℕ → List ℕ
final_numbers xs rs at k zero = []
final_numbers xs rs at k (suc n) =
    record_numbers xs rs at k ++ final_numbers xs rs (at + length (packed_record (record_in xs rs k))) (suc k) n

-- what the lent buffers hold of up to 512 records: the texts and nothing else, and the numbers in front
pub record Packed (ds : List Declared) (declared declared' records' : List ℕ) : Type 0 where
  pub texts : declared' ≡ sets declared 0 (packed ds)
  pub front : take (length (packed ds)) declared' ≡ packed ds
  pub numbers : take (length (numbers_of ds)) records' ≡ numbers_of ds

-- with too many records no text is written; no number is written behind the room for 512
pub record Holds (ds : List Declared) (declared declared' records records' : List ℕ) : Type 0 where
  pub accepted : length ds ≤ 512 → Packed ds declared declared' records'
  pub refused : 512 < length ds → declared' ≡ declared
  pub behind : drop 5130 records' ≡ drop 5130 records
