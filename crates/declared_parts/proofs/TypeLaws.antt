-- The type in a text behind a name, by its places, and what a text's words declare. Assumes nothing.
use Rattle.std.specs.Prelude.{Option, Some, None, is_some}
use Rattle.std.specs.Option.{unwrap_or}
use mathlib.Core.Path.{◌≡◌, refl, sym, ap, ◌∙◌}
use mathlib.Core.Bool.{false, cond}
use mathlib.Core.List.{List, [], ◌∷◌}
use Prim.Native.Nat.{ℕ, zero, suc, ◌+◌, ◌≤◌}
use native.Mathlib.Omega.{arith}
use borrow.Author.Tests.{eq-eqb}
use lib.Dec.{eqb}
use lib.ListN.{length, take, drop, length-drop}
use lib.Seq.{drop-drop, length-take-le}
use Rattle.spec.proofs.BytesLaws.{bytes_take, bytes_drop, while_length_bytes}
use Rattle.spec.proofs.Choice.{by}
use Rattle.spec.proofs.ListLaws.{empty_length}
use Rattle.spec.proofs.RefusalBounds.{bytes_length}
use Rattle.spec.proofs.WalkLaws.{while_drop, while_length}
use Rattle.spec.specs.Bytes.{is_w}
use Rattle.spec.specs.Lists.{is_empty, take_while, drop_while}
use Rattle.spec.specs.Map.{Marked, bytes}
use Rattle.spec.specs.Declarations.{Declared, words, join_words, is_constant, is_not_null, behind_constant, ahead_of_not_null, declared_of}
use Rattle.runs.specs.Places.{piece_at}
use Rattle.declared_parts.specs.DeclaredParts.{constant_len, type_len, type_in, spaced}
use Rattle.declared_parts.specs.declared.TypePlaces.{TypePlaces}
use Rattle.declared_parts.proofs.ConstantPlaces.{ConstantRead, constant_read, skip_twice}
use Rattle.declared_parts.proofs.NotNullPlaces.{NotNullRead, not_null_read}
use Rattle.declared_parts.proofs.WordsLaws.{space, in_word, words_front, words_skip, none_behind, shorter, joined_words, empty_words}

no_front : (k : ℕ) (v : List Marked) → drop_while space v ≡ v → drop_while space (take k v) ≡ take k v
unfolding drop_while
no_front zero v h = refl
no_front (suc k) [] h = refl
no_front (suc k) (x ∷ v) h = by (space x) (λ e. absurd (shorter x v (rw e at h))) (λ e. rw e refl)

-- the places p are those of the type in r
pub record TypeRead (r : List Marked) (p : TypePlaces) : Type 0 where
  pub constant : is_constant (words r) ≡ p.constant
  pub not_null : is_not_null (behind_constant (words r)) ≡ p.not_null
  pub type : join_words (ahead_of_not_null (behind_constant (words r))) ≡ spaced false (piece_at (bytes r) p.words)
  pub empty : is_empty (ahead_of_not_null (behind_constant (words r))) ≡ eqb p.words.len 0
  pub within : p.words.at + p.words.len ≤ length r

-- W, then CONSTANT, then the type's words, then NOT NULL
module _ (r : List Marked) (s : ℕ) (o p : Option ℕ) (v : List Marked) (low : s ≤ length r) (front_w : drop s r ≡ drop_while space r) (c : ConstantRead (drop_while space r) o) (d : drop (unwrap_or o 0) (drop_while space r) ≡ v) (m : NotNullRead v p) where
  abbrev f : ℕ
  f = unwrap_or o 0

  abbrev n : ℕ
  n = unwrap_or p (length v)

  at_v : drop (s + f) r ≡ v
  at_v = sym (drop-drop f s r) ∙ (ap (drop f) front_w ∙ d)

  behind_words : behind_constant (words r) ≡ words v
  behind_words = ap behind_constant (sym (words_skip r)) ∙ (sym c.rest ∙ ap words d)

  type_words_lem : ahead_of_not_null (behind_constant (words r)) ≡ words (take n v)
  type_words_lem = ap ahead_of_not_null behind_words ∙ sym m.ahead

  plain : drop_while space (take n v) ≡ take n v
  plain = no_front n v (rw d at c.front)

  places_read : TypeRead r record { words = record { at = s + f; len = n }; constant = is_some o; not_null = is_some p }
  places_read =
      let b : take n (drop (s + f) (bytes r)) ≡ bytes (take n v) =
      sym (bytes_take n v ∙ ap (take n) (ap bytes (sym at_v) ∙ bytes_drop (s + f) r)) in
      let l : length (take n v) ≡ n = length-take-le n v m.within in
      record {
        constant = ap is_constant (sym (words_skip r)) ∙ c.mark;
        not_null = ap is_not_null behind_words ∙ m.mark;
        type = ap join_words type_words_lem ∙ (joined_words (take n v) plain ∙ rw b refl);
        empty = ap is_empty type_words_lem ∙ (empty_words (take n v) plain ∙ (empty_length (take n v) ∙ rw l refl));
        within = omega (arith, m.within, c.within, ap length at_v, length-drop (s + f) r, length-drop s r, ap length front_w);
      }

pub type_read : (r : List Marked) → TypeRead r (type_in (bytes r))
unfolding type_in
type_read r =
    let u = drop_while space r in
    let s = length (take_while space r) in
    let n : length (take_while is_w (bytes r)) ≡ s = sym (while_length_bytes is_w r) in
    let d : drop s r ≡ u = sym (while_drop space r) in
    let b : drop s (bytes r) ≡ bytes u = sym (bytes_drop s r) ∙ ap bytes d in
    let o = constant_len (bytes u) in
    let f = unwrap_or o 0 in
    let v = drop f u in
    let c = constant_read u (skip_twice r) in
    let e : drop (s + f) (bytes r) ≡ bytes v = sym (bytes_drop (s + f) r) ∙ ap bytes (sym (drop-drop f s r) ∙ ap (drop f) d) in
    rw (n, b, e, bytes_length v) (places_read r s o (type_len (bytes v)) v (while_length space r) d c refl (not_null_read v))

-- ---- what the words declare

-- the name, and the type at the places p of the text xs
abbrev pub declared_at : Option (List ℕ) → List ℕ → List ℕ → TypePlaces → Option Declared
declared_at o name xs p =
    cond
    (eqb p.words.len 0)
    None
    (Some record {
      name = name;
      type = spaced false (piece_at xs p.words);
      default = o;
      constant = p.constant;
      not_null = p.not_null;
    })

no_name : (o : Option (List ℕ)) → declared_of [] o ≡ None
unfolding declared_of
no_name o = refl

named : (o : Option (List ℕ)) (n r : List Marked) (p : TypePlaces) → TypeRead r p → declared_of (n ∷ words r) o ≡ declared_at o (bytes n) (bytes r) p
unfolding declared_of
named o n r p q = rw (q.empty, q.type, q.constant, q.not_null) refl

-- name, then type, by the fronts of the text
pub declared_words : (o : Option (List ℕ)) (t v r : List Marked) → v ≡ drop_while space t → r ≡ drop_while in_word v
    → declared_of (words t) o ≡ declared_at o (bytes (take_while in_word v)) (bytes r) (type_in (bytes r))
unfolding is_empty
declared_words o t [] r p q =
    let e : words t ≡ [] = words_front t ∙ rw (sym p) refl in
    let k = type_read r in
    let z : (type_in (bytes r)).words.len ≡ 0 = omega (arith, k.within, ap length (q ∙ none_behind in_word)) in
    rw (e, eq-eqb _ 0 z) (no_name o)
declared_words o t (x ∷ v) r p q =
    let e : words t ≡ take_while in_word (x ∷ v) ∷ words (drop_while in_word (x ∷ v)) = words_front t ∙ rw (sym p) refl in
    rw (e, sym q) (named o (take_while in_word (x ∷ v)) r (type_in (bytes r)) (type_read r))
