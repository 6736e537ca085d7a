-- The declaration records: which names there are, what a repeated name does, and that the texts are packed without gaps where
-- the records' numbers say. Assumes nothing.
use mathlib.Core.Option as maybe
use Rattle.std.specs.Prelude.{Option, Some, None}
use Rattle.std.proofs.lemmas.Bool.{cond_both, and_from, and_parts}
use mathlib.Core.Path.{◌≡◌, refl, sym, ap, ◌∙◌}
use mathlib.Core.Bool.{Bool, true, false, cond, not, ◌&&◌, ◌||◌, or-false, false≢true, or_self_left}
use mathlib.Core.List.{List, [], ◌∷◌, ◌++◌, map, append-nil, append_assoc}
use Prim.Native.Nat.{ℕ, zero, suc, ◌+◌, ◌*◌, ◌≤◌, ◌<◌}
use native.Mathlib.Omega.{arith}
use lib.ListN.{length, get_or, get_elem?, take, drop, replicate, length-append, length-map, get_or-replicate, get_or-append}
use lib.Seq.{take-length, take-take, take_all, take_at, drop_at, get_or-append-add}
use Rattle.spec.proofs.Choice.{by}
use Rattle.spec.proofs.NameOrder.{same_eq, same_refl, same_sym}
use Rattle.spec.specs.Bytes.{ascii, is_same}
use Rattle.spec.specs.Lists.{any}
use Rattle.spec.specs.Map.{Marked, marked_text}
use Rattle.spec.specs.Search.{first, keyword_here, byte_here, pieces}
use Rattle.spec.specs.Declarations.{Declared, declaration, declare, declare_maybe, declare_all, declare_section, records_of, record_width, packed_record, packed, text_or, head_next, next_of, default_numbers, mark_numbers, one_if, record_at, records_at, numbers_of}

-- the record has this name
abbrev pub named : List ℕ → Declared → Bool
named n d = is_same n d.name

-- no two records have the same name
unfoldable pub distinct : List Declared → Bool
distinct [] = true
distinct (d ∷ ds) = not (any (named d.name) ds) && distinct ds

-- the first record of this name
unfoldable pub record_named : List ℕ → List Declared → Option Declared
record_named n [] = None
record_named n (d ∷ ds) =
    let more = record_named n ds in
    cond (named n d) (Some d) more

-- the names, in the records' order
unfoldable pub names : List Declared → List (List ℕ)
names ds = map (λ (d : Declared). d.name) ds

same_both : (n a b : List ℕ) → is_same a b ≡ true → is_same n a ≡ is_same n b
same_both n a b h = rw (same_eq a b h)

-- a declaration adds its name and takes none away
pub declare_any : (n : List ℕ) (d : Declared) (ds : List Declared) → any (named n) (declare d ds) ≡ (named n d || any (named n) ds)
unfolding declare any
declare_any n d [] = refl
declare_any n d (e ∷ es) =
    by (named d.name e)
    (λ h. rw (h, sym (same_both n d.name e.name h)) (sym (or_self_left (is_same n d.name) (any (named n) es))))
    (λ h. rw (h, declare_any n d es) (swap (is_same n e.name) (is_same n d.name) (any (named n) es)))
  where
    swap : (a b c : Bool) → (a || (b || c)) ≡ (b || (a || c))
    swap true true c = refl
    swap true false c = refl
    swap false b c = refl

-- and keeps the names different
pub declare_distinct : (d : Declared) (ds : List Declared) → distinct ds ≡ true → distinct (declare d ds) ≡ true
unfolding declare distinct any
declare_distinct d [] h = refl
declare_distinct d (e ∷ es) h =
    let new : not (any (named e.name) es) ≡ true = (and_parts (not (any (named e.name) es)) (distinct es) h).0 in
    let rest : distinct es ≡ true = (and_parts (not (any (named e.name) es)) (distinct es) h).1 in
    by (named d.name e)
    (λ k. rw (k, same_eq d.name e.name k) h)
    (λ k. rw (k, declare_any e.name d es, other d.name e.name k)
    (and_from (not (any (named e.name) es)) _ new (declare_distinct d es rest)))
  where
    other : (a b : List ℕ) → is_same a b ≡ false → is_same b a ≡ false
    other a b h = by (is_same b a) (λ k. absurd (false≢true (sym h ∙ same_sym b a k))) (λ k. k)

-- a new name is added last; a repeated one leaves the names and their order as they were
pub declare_names : (d : Declared) (ds : List Declared)
    → names (declare d ds) ≡ cond (any (named d.name) ds) (names ds) (names ds ++ (d.name ∷ []))
unfolding declare names any
declare_names d [] = refl
declare_names d (e ∷ es) =
    by (named d.name e) (λ h. rw (h, same_eq d.name e.name h))
    (λ h. rw (h, declare_names d es) (push (any (named d.name) es) (names es) (names es ++ (d.name ∷ []))))
  where
    push : (b : Bool) (u v : List (List ℕ)) → e.name ∷ cond b u v ≡ cond b (e.name ∷ u) (e.name ∷ v)
    push true u v = refl
    push false u v = refl

-- so there is one more record exactly if the name is new
pub declare_length : (d : Declared) (ds : List Declared)
    → length (declare d ds) ≡ cond (any (named d.name) ds) (length ds) (suc (length ds))
unfolding declare any
declare_length d [] = refl
declare_length d (e ∷ es) =
    by (named d.name e) (λ h. rw h)
    (λ h. rw (h, declare_length d es) (push (any (named d.name) es)))
  where
    push : (b : Bool) → suc (cond b (length es) (suc (length es))) ≡ cond b (suc (length es)) (suc (suc (length es)))
    push true = refl
    push false = refl

-- the record of the declared name has the contents declared
pub declare_same : (d : Declared) (ds : List Declared) → record_named d.name (declare d ds) ≡ Some d
unfolding declare record_named
declare_same d [] = rw (same_refl d.name)
declare_same d (e ∷ es) =
    by (named d.name e) (λ h. rw (h, same_refl d.name)) (λ h. rw (h, h) (declare_same d es))

-- and the records of other names are as before
pub declare_other : (n : List ℕ) (d : Declared) (ds : List Declared) → named n d ≡ false → record_named n (declare d ds) ≡ record_named n ds
unfolding declare record_named
declare_other n d [] k = rw k
declare_other n d (e ∷ es) k =
    by (named d.name e) (λ h. rw (h, k, sym (same_both n d.name e.name h), k))
    (λ h. rw (h, declare_other n d es k))

-- a declaration of this name; a part that is one
abbrev pub declares : List ℕ → Option Declared → Bool
declares n None = false
declares n (Some d) = named n d

abbrev pub part_declares : List ℕ → List Marked → Bool
part_declares n p = declares n (declaration p)

maybe_any : (n : List ℕ) (o : Option Declared) (ds : List Declared) → any (named n) (declare_maybe o ds) ≡ (declares n o || any (named n) ds)
unfolding declare_maybe
maybe_any n None ds = refl
maybe_any n (Some d) ds = declare_any n d ds

maybe_distinct : (o : Option Declared) (ds : List Declared) → distinct ds ≡ true → distinct (declare_maybe o ds) ≡ true
unfolding declare_maybe
maybe_distinct None ds h = h
maybe_distinct (Some d) ds h = declare_distinct d ds h

maybe_named : (n : List ℕ) (o : Option Declared) (ds : List Declared)
    → record_named n (declare_maybe o ds) ≡ cond (declares n o) o (record_named n ds)
unfolding declare_maybe
maybe_named n None ds = refl
maybe_named n (Some d) ds =
    by (named n d)
    (λ h. rw (h, same_eq n d.name h) (declare_same d ds))
    (λ h. rw h (declare_other n d ds h))

-- a name has a record exactly if it had one or some part declares it
pub all_any : (n : List ℕ) (ps : List (List Marked)) (ds : List Declared)
    → any (named n) (declare_all ps ds) ≡ (any (named n) ds || any (part_declares n) ps)
unfolding declare_all any
all_any n [] ds = sym (or-false (any (named n) ds))
all_any n (p ∷ ps) ds =
    rw (all_any n ps (declare_maybe (declaration p) ds), maybe_any n (declaration p) ds)
    (turn (part_declares n p) (any (named n) ds) (any (part_declares n) ps))
  where
    turn : (a b c : Bool) → ((a || b) || c) ≡ (b || (a || c))
    turn true true c = refl
    turn true false c = refl
    turn false b c = refl

-- different names stay different
pub all_distinct : (ps : List (List Marked)) (ds : List Declared) → distinct ds ≡ true → distinct (declare_all ps ds) ≡ true
unfolding declare_all
all_distinct [] ds h = h
all_distinct (p ∷ ps) ds h = all_distinct ps (declare_maybe (declaration p) ds) (maybe_distinct (declaration p) ds h)

-- what the last of these parts to declare the name gives it; r if none does
unfoldable pub last_named : List ℕ → List (List Marked) → Option Declared → Option Declared
last_named n [] r = r
last_named n (p ∷ ps) r = last_named n ps (cond (part_declares n p) (declaration p) r)

-- the last declaration of a name decides its contents
pub all_named : (n : List ℕ) (ps : List (List Marked)) (ds : List Declared)
    → record_named n (declare_all ps ds) ≡ last_named n ps (record_named n ds)
unfolding declare_all last_named
all_named n [] ds = refl
all_named n (p ∷ ps) ds = rw (all_named n ps (declare_maybe (declaration p) ds), maybe_named n (declaration p) ds)

-- the parts that a text's declarations are cut into
unfoldable pub parts_of : List ℕ → List (List Marked)
parts_of xs =
    let t = marked_text xs in
    pieces (byte_here 59)
    (declare_section (first (keyword_here (ascii "DECLARE")) 0 t) (first (keyword_here (ascii "BEGIN")) 0 t) t)

pub records_parts : (xs : List ℕ) → records_of xs ≡ declare_all (parts_of xs) []
unfolding records_of parts_of
records_parts xs = refl

-- of a text: no two records have the same name
pub records_distinct : (xs : List ℕ) → distinct (records_of xs) ≡ true
unfolding distinct
records_distinct xs = rw (records_parts xs) (all_distinct (parts_of xs) [] refl)

-- a name has a record exactly if some part declares it
pub records_any : (n xs : List ℕ) → any (named n) (records_of xs) ≡ any (part_declares n) (parts_of xs)
unfolding any
records_any n xs = rw (records_parts xs) (all_any n (parts_of xs) [])

-- and the record of a name is what the last part to declare it gives
pub records_named : (n xs : List ℕ) → record_named n (records_of xs) ≡ last_named n (parts_of xs) None
unfolding record_named
records_named n xs = rw (records_parts xs) (all_named n (parts_of xs) [])

pub length_names : (ds : List Declared) → length (names ds) ≡ length ds
unfolding names
length_names ds = length-map ds (λ (d : Declared). d.name)

pub maybe_longer : (o : Option Declared) (ds : List Declared) → length ds ≤ length (declare_maybe o ds)
unfolding declare_maybe
maybe_longer None ds = omega arith
maybe_longer (Some d) ds =
    rw (declare_length d ds)
    (cond_both (any (named d.name) ds) _ _ (λ n. length ds ≤ n) (λ _. omega arith) (λ _. omega arith))

maybe_places : (o : Option Declared) (ds : List Declared) → take (length ds) (names (declare_maybe o ds)) ≡ names ds
unfolding declare_maybe
maybe_places None ds = take_all (length ds) (names ds) (omega (arith, length_names ds))
maybe_places (Some d) ds =
    rw (declare_names d ds)
    (cond_both (any (named d.name) ds) _ _ (λ l. take (length ds) l ≡ names ds)
    (λ _. take_all (length ds) (names ds) (omega (arith, length_names ds)))
    (λ _. take_at (names ds) (d.name ∷ []) (length ds) (length_names ds)))

-- the records that there were keep their places; new ones come behind
pub all_places : (ps : List (List Marked)) (ds : List Declared) → take (length ds) (names (declare_all ps ds)) ≡ names ds
unfolding declare_all
all_places [] ds = take_all (length ds) (names ds) (omega (arith, length_names ds))
all_places (p ∷ ps) ds =
    let es = declare_maybe (declaration p) ds in
    sym (take-take (length ds) (length es) (names (declare_all ps es)) (maybe_longer (declaration p) ds))
    ∙ (rw (all_places ps es) (maybe_places (declaration p) ds))

-- ---- the numbers and the packed texts

-- number j of record k; record 0 is the head
unfoldable pub number_at : List Declared → ℕ → ℕ → ℕ
number_at ds k j = get_or (numbers_of ds) (record_width * k + j) 0

-- where the texts of the element at index i start: behind those of the elements ahead of it
unfoldable pub start_of : List Declared → ℕ → ℕ
start_of ds i = length (packed (take i ds))

-- a default has three numbers, a record ten
pub default_three : (o : Option (List ℕ)) (at : ℕ) → length (default_numbers o at) ≡ 3
unfolding default_numbers
default_three None at = refl
default_three (Some xs) at = refl

pub record_length : (all : List Declared) (at : ℕ) (d : Declared) → length (record_at all at d) ≡ record_width
unfolding record_at record_width
record_length all at d =
    let n = at + length d.name + length d.type in
    omega (arith, length-append (default_numbers d.default n) (mark_numbers d), default_three d.default n)

records_length : (all : List Declared) (at : ℕ) (ds : List Declared) → length (records_at all at ds) ≡ record_width * length ds
unfolding records_at record_width
records_length all at [] = refl
records_length all at (d ∷ ds) =
    omega (
      arith,
      length-append (record_at all at d) (records_at all (at + length (packed_record d)) ds),
      record_length all at d,
      records_length all (at + length (packed_record d)) ds,
    )

-- and so has the head
pub numbers_length : (ds : List Declared) → length (numbers_of ds) ≡ record_width * (length ds + 1)
unfolding numbers_of record_width
numbers_length ds = omega (arith, records_length ds 0 ds)

-- number j of the element at index i, its texts packed behind those of the elements ahead
records_number : (all : List Declared) (at : ℕ) (ds : List Declared) (i j : ℕ) (d : Declared)
    → get_elem? ds i ≡ maybe.some d → j < record_width
    → get_or (records_at all at ds) (record_width * i + j) 0 ≡ get_or (record_at all (at + start_of ds i) d) j 0
unfolding records_at record_width start_of packed
records_number all at [] i j d h l = let z : ◌≡◌ {A = ℕ} 0 1 = cc in absurd (omega arith)
records_number all at (e ∷ es) zero j d h l =
    let q : e ≡ d = cc in
    let n : 10 * 0 + j ≡ j = omega arith in
    let m : at + 0 ≡ at = omega arith in
    rw (n, m, q) (get_or-append (record_at all at d) _ 0 j (rw (record_length all at d) l))
records_number all at (e ∷ es) (suc i) j d h l =
    let n : 10 * suc i + j ≡ length (record_at all at e) + (10 * i + j) = omega (arith, record_length all at e) in
    let m : at + length (packed_record e ++ packed (take i es)) ≡ at + length (packed_record e) + length (packed (take i es)) =
    omega (arith, length-append (packed_record e) (packed (take i es))) in
    rw (n, m, get_or-append-add (record_at all at e) (records_at all (at + length (packed_record e)) es) (10 * i + j) 0)
    (records_number all (at + length (packed_record e)) es i j d h l)

-- the numbers of record i + 1 are those of the element at index i
pub number_of : (ds : List Declared) (i j : ℕ) (d : Declared) → get_elem? ds i ≡ maybe.some d → j < record_width
    → number_at ds (suc i) j ≡ get_or (record_at ds (start_of ds i) d) j 0
unfolding number_at numbers_of record_width
number_of ds i j d h l =
    let front : List ℕ = head_next ds ∷ replicate 9 0 in
    let n : 10 * suc i + j ≡ 10 + (10 * i + j) = omega arith in
    let m : 0 + start_of ds i ≡ start_of ds i = omega arith in
    rw (n, ← m) (get_or-append-add front (records_at ds 0 ds) (10 * i + j) 0 ∙ records_number ds 0 ds i j d h l)

-- the packed texts, cut around the element at index i
packed_around : (ds : List Declared) (i : ℕ) (d : Declared) → get_elem? ds i ≡ maybe.some d
    → packed ds ≡ packed (take i ds) ++ (packed_record d ++ packed (drop (suc i) ds))
unfolding packed
packed_around [] i d h = let z : ◌≡◌ {A = ℕ} 0 1 = cc in absurd (omega arith)
packed_around (e ∷ es) zero d h = let q : e ≡ d = cc in rw q
packed_around (e ∷ es) (suc i) d h =
    rw (packed_around es i d h) (sym (append_assoc (packed_record e) (packed (take i es)) _))

-- the texts of the next element start behind those of this one
start_suc : (ds : List Declared) (i : ℕ) (d : Declared) → get_elem? ds i ≡ maybe.some d
    → start_of ds (suc i) ≡ start_of ds i + length (packed_record d)
unfolding packed start_of
start_suc [] i d h = let z : ◌≡◌ {A = ℕ} 0 1 = cc in absurd (omega arith)
start_suc (e ∷ es) zero d h = let q : e ≡ d = cc in rw (q, append-nil) (omega arith)
start_suc (e ∷ es) (suc i) d h =
    omega (arith, start_suc es i d h, length-append (packed_record e) (packed (take (suc i) es)), length-append (packed_record e) (packed (take i es)))

-- v stands in the list at the length of what is ahead
text_at : (u v w : List ℕ) (n m : ℕ) → length u ≡ n → length v ≡ m → take m (drop n (u ++ (v ++ w))) ≡ v
text_at u v w n m h k = rw (drop_at u (v ++ w) n h) (take_at v w m k)

-- the element d at index i is record i + 1
module _ (ds : List Declared) (i : ℕ) (d : Declared) (h : get_elem? ds i ≡ maybe.some d) where
  -- its first five numbers
  pub number_next : number_at ds (suc i) 0 ≡ next_of ds d.name
  unfolding record_at record_width
  number_next = number_of ds i 0 d h (omega arith)

  pub number_name : number_at ds (suc i) 1 ≡ start_of ds i
  unfolding record_at record_width
  number_name = number_of ds i 1 d h (omega arith)

  pub number_name_length : number_at ds (suc i) 2 ≡ length d.name
  unfolding record_at record_width
  number_name_length = number_of ds i 2 d h (omega arith)

  pub number_type : number_at ds (suc i) 3 ≡ start_of ds i + length d.name
  unfolding record_at record_width
  number_type = number_of ds i 3 d h (omega arith)

  pub number_type_length : number_at ds (suc i) 4 ≡ length d.type
  unfolding record_at record_width
  number_type_length = number_of ds i 4 d h (omega arith)

  -- its name, type and default stand in the packed texts where its numbers say
  pub name_text : take (number_at ds (suc i) 2) (drop (number_at ds (suc i) 1) (packed ds)) ≡ d.name
  unfolding start_of packed_record
  name_text =
      let u = packed (take i ds) in
      let w = (d.type ++ text_or d.default) ++ packed (drop (suc i) ds) in
      let cut : packed ds ≡ u ++ (d.name ++ w) = packed_around ds i d h ∙ simp append_assoc in
      rw cut (text_at u d.name w _ _ (sym number_name) (sym number_name_length))

  pub type_text : take (number_at ds (suc i) 4) (drop (number_at ds (suc i) 3) (packed ds)) ≡ d.type
  unfolding start_of packed_record
  type_text =
      let u = packed (take i ds) in
      let w = text_or d.default ++ packed (drop (suc i) ds) in
      let cut : packed ds ≡ (u ++ d.name) ++ (d.type ++ w) = packed_around ds i d h ∙ simp append_assoc in
      rw cut (text_at (u ++ d.name) d.type w _ _ (length-append u d.name ∙ sym number_type) (sym number_type_length))

  abbrev default_at : ℕ
  default_at = start_of ds i + length d.name + length d.type

  -- the default's three numbers, and the marks behind them
  default_numbers_lem : (j : ℕ) → j < 3 → number_at ds (suc i) (5 + j) ≡ get_or (default_numbers d.default default_at) j 0
  unfolding record_at record_width
  default_numbers_lem j l =
      number_of ds i (5 + j) d h (omega arith)
      ∙ (get_or-append-add (take 5 (record_at ds (start_of ds i) d)) (default_numbers d.default default_at ++ mark_numbers d) j 0
      ∙ get_or-append (default_numbers d.default default_at) (mark_numbers d) 0 j (rw (default_three d.default default_at) l))

  mark_numbers_lem : (j : ℕ) → j < 2 → number_at ds (suc i) (8 + j) ≡ get_or (mark_numbers d) j 0
  unfolding record_at record_width
  mark_numbers_lem j l =
      let n : 8 + j ≡ 5 + (length (default_numbers d.default default_at) + j) = omega (arith, default_three d.default default_at) in
      number_of ds i (8 + j) d h (omega arith)
      ∙ (rw n (get_or-append-add (take 5 (record_at ds (start_of ds i) d)) (default_numbers d.default default_at ++ mark_numbers d) (length (default_numbers d.default default_at) + j) 0)
      ∙ get_or-append-add (default_numbers d.default default_at) (mark_numbers d) j 0)

  -- 1, start and length where a default is present, empty or not
  pub default_flag : (xs : List ℕ) → d.default ≡ Some xs → number_at ds (suc i) 5 ≡ 1
  unfolding default_numbers
  default_flag xs e = rw e at (default_numbers_lem 0 (omega arith))

  pub default_start : (xs : List ℕ) → d.default ≡ Some xs → number_at ds (suc i) 6 ≡ number_at ds (suc i) 3 + number_at ds (suc i) 4
  unfolding default_numbers
  default_start xs e = rw (number_type, number_type_length) (rw e at (default_numbers_lem 1 (omega arith)))

  pub default_length : number_at ds (suc i) 7 ≡ length (text_or d.default)
  unfolding default_numbers
  default_length = default_numbers_lem 2 (omega arith) ∙ last d.default (start_of ds i + length d.name + length d.type)
    where
      last : (o : Option (List ℕ)) (n : ℕ) → get_or (default_numbers o n) 2 0 ≡ length (text_or o)
      last None n = refl
      last (Some xs) n = refl

  pub default_text : (xs : List ℕ) → d.default ≡ Some xs
      → take (number_at ds (suc i) 7) (drop (number_at ds (suc i) 6) (packed ds)) ≡ xs
  unfolding start_of packed_record
  default_text xs e =
      let u = packed (take i ds) in
      let w = packed (drop (suc i) ds) in
      let s : number_at ds (suc i) 6 ≡ length ((u ++ d.name) ++ d.type) =
      omega (arith, default_start xs e, number_type, number_type_length, length-append (u ++ d.name) d.type, length-append u d.name) in
      let cut : packed ds ≡ ((u ++ d.name) ++ d.type) ++ (xs ++ w) =
      packed_around ds i d h ∙ (rw e (simp append_assoc)) in
      let n : length xs ≡ number_at ds (suc i) 7 = sym (rw e at default_length) in
      rw cut (text_at ((u ++ d.name) ++ d.type) xs w _ _ (sym s) n)

  -- three zeros where it is absent
  pub no_default : d.default ≡ None → (j : ℕ) → j < 3 → number_at ds (suc i) (5 + j) ≡ 0
  unfolding default_numbers
  no_default e j l = (rw e at (default_numbers_lem j l)) ∙ get_or-replicate 3 j 0 0 l

  -- Note 5: its last two numbers are its marks
  pub number_constant : number_at ds (suc i) 8 ≡ one_if d.constant
  number_constant = mark_numbers_lem 0 (omega arith)

  pub number_not_null : number_at ds (suc i) 9 ≡ one_if d.not_null
  number_not_null = mark_numbers_lem 1 (omega arith)

  -- no gaps: the type stands behind the name
  pub type_start : number_at ds (suc i) 3 ≡ number_at ds (suc i) 1 + number_at ds (suc i) 2
  type_start = rw (number_name, number_name_length) number_type

  -- the record ends where the texts of the elements up to it end
  pub record_end : number_at ds (suc i) 3 + (number_at ds (suc i) 4 + number_at ds (suc i) 7) ≡ start_of ds (suc i)
  unfolding packed_record
  record_end =
      omega (
        arith,
        number_type,
        number_type_length,
        default_length,
        start_suc ds i d h,
        length-append d.name (d.type ++ text_or d.default),
        length-append d.type (text_or d.default),
      )

  -- the first record starts at 0
  pub first_start : i ≡ 0 → number_at ds (suc i) 1 ≡ 0
  unfolding start_of packed
  first_start z = number_name ∙ rw z

  -- the last ends at the end of the packed texts
  pub last_end : suc i ≡ length ds → number_at ds (suc i) 3 + (number_at ds (suc i) 4 + number_at ds (suc i) 7) ≡ length (packed ds)
  unfolding start_of
  last_end z = record_end ∙ rw z (ap (λ l. length (packed l)) (take-length ds))

-- each other record starts where the one before ends
pub next_start : (ds : List Declared) (i : ℕ) (d e : Declared) → get_elem? ds i ≡ maybe.some d → get_elem? ds (suc i) ≡ maybe.some e
    → number_at ds (suc (suc i)) 1 ≡ number_at ds (suc i) 3 + (number_at ds (suc i) 4 + number_at ds (suc i) 7)
next_start ds i d e h k = number_name ds (suc i) e k ∙ sym (record_end ds i d h)

-- the head: its next is the first record in byte order, its other numbers are 0
pub head_next_lem : (ds : List Declared) → number_at ds 0 0 ≡ head_next ds
unfolding number_at numbers_of record_width
head_next_lem ds = refl

pub head_zeros : (ds : List Declared) (j : ℕ) → suc j < record_width → number_at ds 0 (suc j) ≡ 0
unfolding number_at numbers_of record_width
head_zeros ds j h =
    let n : 10 * 0 + suc j ≡ suc j = omega arith in
    rw n (get_or-append (replicate 9 0) (records_at ds 0 ds) 0 j (omega arith) ∙ get_or-replicate 9 j 0 0 (omega arith))
