-- The records while they are read: ten numbers each, as of a record, but the places are in the text of the section, and
-- the first number is the name's hash. Assumes nothing.
use Rattle.std.specs.Prelude.{◌≡◌, ℕ, zero, suc, ◌+◌, ◌*◌, ◌%◌, ◌≤◌, ◌<◌, cond, List, [], ◌∷◌, length, get_or, drop, Result, Ok, Err}
use Rattle.spec.specs.Bytes.{is_same}
use Rattle.spec.specs.Map.{Marked}
use Rattle.spec.specs.Search.{byte_here, pieces}
use Rattle.spec.specs.Declarations.{Declared, declare_maybe, declare_all}
use Rattle.declared_parts.specs.DeclaredParts.{declared_by, part_numbers, read_of}
use Rattle.declared_parts.specs.declared.DeclarationPlaces.{DeclarationPlaces}
use Rattle.spec.specs.declared.Refusal.{Refusal}
use Rattle.spec.specs.declared.Refusal.TheVariants.{TooManyNames}

-- record k, and n records from record k on
abbrev pub record_in : List ℕ → List ℕ → ℕ → Declared
record_in xs rs k = declared_by xs (drop (10 * k) rs)

unfoldable pub records_from : List ℕ → List ℕ → ℕ → ℕ → List Declared
records_from xs rs k zero = []
records_from xs rs k (suc n) = record_in xs rs k ∷ records_from xs rs (suc k) n

-- how many records stand ahead of the first of this name
unfoldable pub place_of : List ℕ → List Declared → ℕ
place_of n [] = 0
place_of n (d ∷ ds) =
    let more = suc (place_of n ds) in
    cond (is_same n d.name) 0 more

-- the hash of bytes that stand behind others whose hash is h; no document asks for it
unfoldable pub hash_from : ℕ → List ℕ → ℕ
hash_from h [] = h
hash_from h (b ∷ bs) = hash_from ((h * 16777619 + b) % 4294967296) bs

-- a name's hash
abbrev pub name_hash : List ℕ → ℕ
name_hash xs = hash_from 0 xs

-- a part's numbers with this number in front: its next, or its name's hash where the next will stand
abbrev pub held_numbers : ℕ → DeclarationPlaces → List ℕ
held_numbers front p = front ∷ drop 1 (part_numbers p)

-- record k, and each of `count` records, has its name's hash in front
abbrev pub HashIn : List ℕ → List ℕ → ℕ → Type 0
HashIn xs rs k = get_or (drop (10 * k) rs) 0 0 ≡ name_hash (record_in xs rs k).name

abbrev pub Hashed : List ℕ → List ℕ → ℕ → Type 0
Hashed xs rs count = (k : ℕ) → 1 ≤ k → k ≤ count → HashIn xs rs k

-- the r records in rs are ds, and each has its name's hash in front
pub record HeldAre (xs : List ℕ) (ds : List Declared) (rs : List ℕ) (r : ℕ) : Type 0 where
  pub number : r ≡ length ds
  pub within : r ≤ 512
  pub records : records_from xs rs 1 r ≡ ds
  pub hashed : Hashed xs rs r

-- the answer o: the records in rs are ds, or ds are too many
abbrev pub HeldIn : List ℕ → List Declared → List ℕ → Result ℕ Refusal → Type 0
HeldIn xs ds rs (Ok r) = HeldAre xs ds rs r
HeldIn xs ds rs (Err e) = (e ≡ TooManyNames) × (512 < length ds)

-- the records in rs' are what a part makes of `count` records
abbrev pub Added : List ℕ → List ℕ → ℕ → DeclarationPlaces → List ℕ → Result ℕ Refusal → Type 0
Added xs rs count p rs' o = HeldIn xs (declare_maybe (read_of xs p) (records_from xs rs 1 count)) rs' o

-- the records in rs are those of the section t
abbrev pub Gathered : List ℕ → List Marked → List ℕ → Result ℕ Refusal → Type 0
Gathered xs t rs o = HeldIn xs (declare_all (pieces (byte_here 59) t) []) rs o
