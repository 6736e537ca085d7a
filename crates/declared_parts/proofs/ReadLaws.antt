-- What a part declares, by the places that are read in its text. Assumes nothing.
use Rattle.std.specs.Prelude.{Option, Some, None, is_some}
use mathlib.Core.Path.{◌≡◌, refl, sym, ap, subst, ◌∙◌}
use mathlib.Core.Bool.{Bool, true, false}
use mathlib.Core.List.{List, []}
use Prim.Native.Nat.{ℕ, ◌+◌, ◌-◌, ◌≤◌}
use native.Mathlib.Omega.{arith}
use lib.ListN.{length, take, drop}
use lib.Seq.{take_all}
use Rattle.spec.proofs.BytesLaws.{bytes_take, bytes_drop, while_length_bytes, end_length_bytes}
use Rattle.spec.proofs.ListLaws.{drop_end_le}
use Rattle.spec.proofs.RefusalBounds.{bytes_length}
use Rattle.spec.proofs.WalkLaws.{while_take, while_length}
use Rattle.spec.specs.Bytes.{is_w}
use Rattle.spec.specs.Lists.{is_empty, keep, take_while, drop_while, drop_end}
use Rattle.spec.specs.Map.{Marked, bytes, of_byte}
use Rattle.spec.specs.Search.{first, first_from, pieces, pieces_from}
use Rattle.spec.specs.Parts.{trim, trim_end, part}
use Rattle.spec.specs.Declarations.{requoted_default, words, declared_of, default_here, part_at, declaration, one_if}
use Rattle.runs.specs.Places.{piece_at}
use Rattle.declared_parts.specs.DeclaredParts.{not_w, is_set, cut_of, cut_in, type_in, value_place, value_of, default_by, declared_by, place_or, part_numbers, read_of}
use Rattle.declared_parts.specs.declared.Cut.{Cut}
use Rattle.declared_parts.specs.declared.DeclarationPlaces.{DeclarationPlaces}
use Rattle.declared_parts.specs.declared.TypePlaces.{TypePlaces}
use Rattle.declared_parts.proofs.BetweenLaws.{front_end, end_len, between_length, drop_between, take_between, behind_front, ahead_of_end}
use Rattle.declared_parts.proofs.WordsLaws.{space, in_word}
use Rattle.declared_parts.proofs.TypeLaws.{type_read, declared_words}

-- ---- a marked text and its bytes

pub bytes_between : (t : List Marked) (a b : ℕ) → bytes (part a b t) ≡ part a b (bytes t)
bytes_between t a b = bytes_take (b - a) (drop a t) ∙ ap (take (b - a)) (bytes_drop a t)

module _ (t : List Marked) (a b : ℕ) where
  front_same : (f : ℕ → Bool) → front_end (of_byte f) t a b ≡ front_end f (bytes t) a b
  front_same f = ap (λ n. a + n) (while_length_bytes f (part a b t) ∙ ap (λ l. length (take_while f l)) (bytes_between t a b))

  end_same : (f : ℕ → Bool) → end_len (of_byte f) t a b ≡ end_len f (bytes t) a b
  end_same f = end_length_bytes f (part a b t) ∙ ap (λ l. length (drop_end f l)) (bytes_between t a b)

  -- behind the front, ahead of the end, trimmed
  skipped : (f : ℕ → Bool) → drop_while (of_byte f) (part a b t) ≡ part (front_end f (bytes t) a b) b t
  skipped f = behind_front (of_byte f) t a b ∙ ap (λ n. part n b t) (front_same f)

  ended : (f : ℕ → Bool) → a + end_len f (bytes t) a b ≤ b → drop_end (of_byte f) (part a b t) ≡ part a (a + end_len f (bytes t) a b) t
  ended f h =
      let k = end_same f in
      ahead_of_end (of_byte f) t a b (omega arith) ∙ ap (λ n. part a (a + n) t) k

  -- the front itself
  front_text : (f : ℕ → Bool) (e : ℕ) → e ≡ front_end f (bytes t) a b → e ≤ b → bytes (take_while (of_byte f) (part a b t)) ≡ take (e - a) (drop a (bytes t))
  front_text f e p h =
      let n = length (take_while (of_byte f) (part a b t)) in
      let s : a + n ≡ e = front_same f ∙ sym p in
      ap bytes (while_take (of_byte f) (part a b t) ∙ (take_between t a b n (omega arith) ∙ ap (λ k. part a k t) s))
      ∙ bytes_between t a e

trimmed : (t : List Marked) (a b s e : ℕ) → s ≡ front_end is_w (bytes t) a b → e ≡ s + end_len is_w (bytes t) s b → e ≤ b
    → trim (part a b t) ≡ part s e t
unfolding trim trim_end
trimmed t a b s e p q h =
    ap (drop_end space) (skipped t a b is_w ∙ ap (λ n. part n b t) (sym p))
    ∙ (ended t s b is_w (omega arith) ∙ ap (λ n. part s n t) (sym q))

-- ---- one part

-- the default that begins there
abbrev pub default_behind : Option ℕ → List Marked → Option (List ℕ)
default_behind (Some r) t = Some (requoted_default (bytes (trim (drop r t))))
default_behind None t = None

cut_part : (f : Option ℕ) (t : List Marked)
    → part_at f t ≡ declared_of (words (take (cut_of f t).head t)) (default_behind (cut_of f t).rest t)
unfolding part_at
cut_part (Some i) t = refl
cut_part None t = rw (take_all (length t) t (omega arith)) refl

pub cut_declaration : (part t : List Marked) (c : Cut) → trim part ≡ t → c ≡ cut_in t
    → declaration part ≡ declared_of (words (take c.head t)) (default_behind c.rest t)
unfolding declaration cut_in
cut_declaration part t c e k = rw (e, k) (cut_part (first default_here 0 t) t)

-- the places that are read, each by the one before
pub record Places (xs : List ℕ) (from to start end : ℕ) (c : Cut) (k : TypePlaces) (p : DeclarationPlaces) : Type 0 where
  pub starts : start ≡ front_end is_w xs from to
  pub ends : end ≡ start + end_len is_w xs start to
  pub inside : end ≤ to
  pub within : to ≤ length xs
  pub ordered : start + c.head ≤ end
  pub name : p.name.at ≡ front_end is_w xs start (start + c.head)
  pub name_end : p.name.at + p.name.len ≡ front_end not_w xs p.name.at (start + c.head)
  pub name_inside : p.name.at + p.name.len ≤ start + c.head
  pub typed : k ≡ type_in (part (p.name.at + p.name.len) (start + c.head) xs)
  pub kind : p.kind.at ≡ p.name.at + p.name.len + k.words.at
  pub kind_len : p.kind.len ≡ k.words.len
  pub constant : p.constant ≡ k.constant
  pub not_null : p.not_null ≡ k.not_null
  pub value : p.value ≡ value_place xs start end c.rest
  pub value_inside : (r : ℕ) → c.rest ≡ Some r → start + r ≤ end

-- n bytes at i of the text between two places
piece_between : (xs : List ℕ) (a b i n : ℕ) → a ≤ b → b ≤ length xs → i + n ≤ length (part a b xs) → take n (drop i (part a b xs)) ≡ take n (drop (a + i) xs)
piece_between xs a b i n h l w =
    let m = between_length xs a b h l in
    let k : a + i + n - (a + i) ≡ n = omega arith in
    ap (take n) (drop_between xs a b i) ∙ (take_between xs (a + i) b n (omega arith) ∙ rw k refl)

-- the default, by the place that is read of it
module _ (t : List Marked) (start end : ℕ) (within : end ≤ length (bytes t)) where
  abbrev xs : List ℕ
  xs = bytes t

  -- it ends within the part
  place_ends : (a : ℕ) → a ≤ end → front_end is_w xs a end + end_len is_w xs (front_end is_w xs a end) end ≤ end
  place_ends a h =
      let at = front_end is_w xs a end in
      let f : at ≤ end = omega (arith, while_length is_w (part a end xs), between_length xs a end h within) in
      omega (arith, drop_end_le is_w (part at end xs), between_length xs at end f within)

  pub default_read : (o : Option ℕ) → ((r : ℕ) → o ≡ Some r → start + r ≤ end)
      → value_of (is_set (one_if (is_some (value_place xs start end o)))) (take (place_or (value_place xs start end o)).len (drop (place_or (value_place xs start end o)).at xs))
      ≡ default_behind o (part start end t)
  default_read None h = refl
  default_read (Some r) h =
      let at = front_end is_w xs (start + r) end in
      let len = end_len is_w xs at end in
      let i : at + len - at ≡ len = omega arith in
      let trimmed_there = trimmed t (start + r) end at (at + len) refl refl (place_ends (start + r) (h r refl)) in
      let z : bytes (trim (drop r (part start end t))) ≡ take len (drop at xs) =
      ap (λ u. bytes (trim u)) (drop_between t start end r)
      ∙ (ap bytes trimmed_there ∙ (bytes_between t at (at + len) ∙ ap (λ k. take k (drop at xs)) i)) in
      ap (λ u. Some (requoted_default u)) (sym z)

set_one : (b : Bool) → is_set (one_if b) ≡ b
set_one true = refl
set_one false = refl

-- what a part declares
part_read : (m : List Marked) (from to start end : ℕ) (c : Cut) (k : TypePlaces) (p : DeclarationPlaces) → Places (bytes m) from to start end c k p
    → c ≡ cut_in (part start end m)
    → declaration (part from to m) ≡ read_of (bytes m) p
unfolding read_of declared_by default_by part_numbers
part_read m from to start end c k p l cut =
    let xs = bytes m in
    let t = part start end m in
    let head = start + c.head in
    let name_end = p.name.at + p.name.len in
    let rest = part name_end head m in
    let o = default_behind c.rest t in
    let i : name_end - p.name.at ≡ p.name.len = omega arith in
    let h : take c.head t ≡ part start head m = take_between m start end c.head l.ordered in
    let v : part p.name.at head m ≡ drop_while space (part start head m) = rw l.name (sym (skipped m start head is_w)) in
    let r : rest ≡ drop_while in_word (part p.name.at head m) = rw l.name_end (sym (skipped m p.name.at head not_w)) in
    let b : bytes rest ≡ part name_end head xs = bytes_between m name_end head in
    let q : type_in (bytes rest) ≡ k = ap type_in b ∙ sym l.typed in
    let w = rw q at (type_read rest) in
    let n : bytes (take_while in_word (part p.name.at head m)) ≡ take p.name.len (drop p.name.at xs) =
    front_text m p.name.at head not_w name_end l.name_end l.name_inside ∙ ap (λ i. take i (drop p.name.at xs)) i in
    let y : piece_at (part name_end head xs) k.words ≡ take k.words.len (drop (name_end + k.words.at) xs) =
    piece_between xs name_end head k.words.at k.words.len l.name_inside (omega (arith, l.within, l.inside, l.ordered))
    (omega (arith, w.within, bytes_length rest, ap length b)) in
    let d : value_of (is_set (one_if (is_some p.value))) (take (place_or p.value).len (drop (place_or p.value).at xs)) ≡ o =
    rw l.value (default_read m start end (omega (arith, l.within, l.inside)) c.rest l.value_inside) in
    cut_declaration (part from to m) t c (trimmed m from to start end l.starts l.ends l.inside) cut
    ∙ (ap (λ u. declared_of (words u) o) h
    ∙ (declared_words o (part start head m) (part p.name.at head m) rest v r
    ∙ rw (q, n, b, y, l.kind, l.kind_len, d, l.constant, l.not_null, set_one k.constant, set_one k.not_null) refl))

-- the same by the bytes that the code reads
pub bytes_read : (m : List Marked) (ys : List ℕ) (from to start end : ℕ) (c : Cut) (k : TypePlaces) (p : DeclarationPlaces) → ys ≡ bytes m → Places ys from to start end c k p
    → c ≡ cut_in (part start end m)
    → declaration (part from to m) ≡ read_of (bytes m) p
bytes_read m ys from to start end c k p e l cut = part_read m from to start end c k p (subst (λ zs. Places zs from to start end c k p) e l) cut

-- W alone declares nothing
pub blank_read : (m : List Marked) (ys : List ℕ) (from to start : ℕ) → ys ≡ bytes m → start ≡ from + length (take_while is_w (part from to ys)) → start ≡ to
    → declaration (part from to m) ≡ None
unfolding declaration trim trim_end part_at drop_end first first_from words keep pieces pieces_from declared_of is_empty
blank_read m ys from to start e s z =
    let at : front_end is_w (bytes m) from to ≡ to = rw e at (sym s ∙ z) in
    let none : to - to ≡ 0 = omega arith in
    let d : drop_while (of_byte is_w) (part from to m) ≡ [] = skipped m from to is_w ∙ rw (at, none) refl in
    rw d refl
