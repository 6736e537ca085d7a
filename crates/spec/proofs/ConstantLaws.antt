-- Note 5 in its own words: which words mark a declaration CONSTANT and NOT NULL; put back around the record's type they give
-- the words that stood behind the name, letter case aside; and there is no record exactly if no other word stood there.
-- Assumes nothing.
use mathlib.Core.Option as maybe
use Rattle.std.specs.Prelude.{Option, Some, None}
use Rattle.std.proofs.lemmas.Bool.{and_from, and_parts}
use mathlib.Core.Path.{◌≡◌, refl, sym, ap, ◌∙◌}
use mathlib.Core.Bool.{Bool, true, false, cond, ◌&&◌, and-true, false≢true}
use mathlib.Core.List.{List, [], ◌∷◌, ◌++◌, map, append-nil, map-append}
use mathlib.Core.Logic.{◌↔◌}
use Prim.Native.Nat.{ℕ, suc, ◌-◌}
use native.Mathlib.Omega.{arith}
use borrow.Author.Tests.{eqb-true}
use lib.Dec.{eqb}
use lib.ListN.{length, take, drop, get_elem?, length-append, take-append-drop}
use lib.Seq.{drop_at}
use Rattle.spec.proofs.Apart.{apart}
use Rattle.spec.proofs.Choice.{by, made_some, made_none}
use Rattle.spec.proofs.ListLaws.{empty_nil, concat_append}
use Rattle.spec.proofs.RecordLaws.{record_named, part_declares, last_named, parts_of, records_named}
use Rattle.spec.specs.Bytes.{ascii, upper, is_lower, within}
use Rattle.spec.specs.Lists.{is_empty, concat}
use Rattle.spec.specs.Map.{Marked, byte, bytes}
use Rattle.spec.specs.Parts.{trim}
use Rattle.spec.specs.Search.{first, starts_ignoring_case, is_word_text}
use Rattle.spec.specs.Declarations.{Declared, words, join_words, are_words, is_constant, is_not_null, behind_constant, ahead_of_not_null, declared_of, default_here, part_at, declaration, records_of}

-- ---- the marks

-- words that are no texts: there are none
none_are : (ws : List (List Marked)) → are_words [] ws ≡ true → ws ≡ []
unfolding are_words
none_are [] h = refl
none_are (w ∷ ws) h = absurd (false≢true h)

-- words that are some texts: the first is the first of them, those behind it are the others
first_is : (a : List ℕ) (texts : List (List ℕ)) (ws : List (List Marked)) → are_words (a ∷ texts) ws ≡ true
    → (w : List Marked) × (us : List (List Marked)) × (ws ≡ w ∷ us) × (is_word_text a w ≡ true) × (are_words texts us ≡ true)
unfolding are_words
first_is a texts [] h = absurd (false≢true h)
first_is a texts (w ∷ us) h = (w, us, refl, (and_parts (is_word_text a w) (are_words texts us) h).0, (and_parts (is_word_text a w) (are_words texts us) h).1)

-- words that are two texts
two_are : (a b : List ℕ) (ws : List (List Marked)) → are_words (a ∷ b ∷ []) ws ≡ true
    → (v : List Marked) × (w : List Marked) × (ws ≡ v ∷ w ∷ []) × (is_word_text a v ≡ true) × (is_word_text b w ≡ true)
two_are a b ws h =
    let f = first_is a (b ∷ []) ws h in
    let g = first_is b [] f.1 f.4 in
    (f.0, g.0, cc (f.2, g.2, none_are g.1 g.4), f.3, g.3)

-- the first word decides, and the last two
pub constant_first : (w : List Marked) (us : List (List Marked)) → is_constant (w ∷ us) ≡ is_word_text (ascii "CONSTANT") w
unfolding is_constant are_words
constant_first w us = and-true (is_word_text (ascii "CONSTANT") w)

pub not_null_last : (us : List (List Marked)) (v w : List Marked)
    → is_not_null (us ++ (v ∷ w ∷ [])) ≡ (is_word_text (ascii "NOT") v && is_word_text (ascii "NULL") w)
unfolding is_not_null are_words
not_null_last us v w =
    let n : length (us ++ (v ∷ w ∷ [])) - 2 ≡ length us = omega (arith, length-append us (v ∷ w ∷ [])) in
    rw (n, drop_at us (v ∷ w ∷ []) (length us) refl, and-true (is_word_text (ascii "NULL") w)) refl

-- a declaration is marked CONSTANT exactly if the first word behind its name is CONSTANT
pub constant_says : (ws : List (List Marked)) → (is_constant ws ≡ true)
    ↔ ((w : List Marked) × (us : List (List Marked)) × (ws ≡ w ∷ us) × (is_word_text (ascii "CONSTANT") w ≡ true))
unfolding is_constant are_words
constant_says ws = (
  λ h.
      let f = first_is (ascii "CONSTANT") [] (take 1 ws) h in
      (f.0, f.1 ++ drop 1 ws, sym (take-append-drop 1 ws) ∙ ap (λ (l : List (List Marked)). l ++ drop 1 ws) f.2, f.3),
  λ s. ap is_constant s.2 ∙ (constant_first s.0 s.1 ∙ s.3),
)

-- and NOT NULL exactly if the last two words of what is left are NOT and NULL
pub not_null_says : (ws : List (List Marked)) → (is_not_null ws ≡ true)
    ↔ ((us : List (List Marked)) × (v : List Marked) × (w : List Marked) × (ws ≡ us ++ (v ∷ w ∷ []))
    × (is_word_text (ascii "NOT") v ≡ true) × (is_word_text (ascii "NULL") w ≡ true))
unfolding is_not_null are_words
not_null_says ws =
    let i = length ws - 2 in (
      λ h.
          let f = two_are (ascii "NOT") (ascii "NULL") (drop i ws) h in
          (take i ws, f.0, f.1, sym (take-append-drop i ws) ∙ ap (λ (l : List (List Marked)). take i ws ++ l) f.2, f.3, f.4),
      λ s.
          ap is_not_null s.3
          ∙ (not_null_last s.0 s.1 s.2 ∙ and_from (is_word_text (ascii "NOT") s.1) (is_word_text (ascii "NULL") s.2) s.4 s.5),
    )

-- ---- the words that stood behind the name

-- the words that a mark stands for
abbrev pub constant_texts : Bool → List (List ℕ)
constant_texts b = cond b (ascii "CONSTANT" ∷ []) []

abbrev pub not_null_texts : Bool → List (List ℕ)
not_null_texts b = cond b (ascii "NOT" ∷ ascii "NULL" ∷ []) []

-- the words ws stood behind the name of d: in front CONSTANT if d is marked so, at the end NOT NULL if it is marked so, in any
-- letter case, and between them one or more words, which are the type; d is marked so exactly if they stood there
pub record Stood (ws : List (List Marked)) (d : Declared) : Type 0 where
  pub front : List (List Marked)
  pub kept : List (List Marked)
  pub end : List (List Marked)
  pub whole : ws ≡ front ++ (kept ++ end)
  pub type : d.type ≡ join_words kept
  pub not_empty : is_empty kept ≡ false
  pub front_words : are_words (constant_texts d.constant) front ≡ true
  pub end_words : are_words (not_null_texts d.not_null) end ≡ true
  pub constant : d.constant ≡ is_constant ws
  pub not_null : d.not_null ≡ is_not_null (kept ++ end)

-- where words are tested for texts and taken if they pass, those taken are the texts, or there are none of either
taken : (texts : List (List ℕ)) (vs : List (List Marked)) → are_words (cond (are_words texts vs) texts []) (cond (are_words texts vs) vs []) ≡ true
unfolding are_words
taken texts vs = by (are_words texts vs) (λ h. rw h h) (λ h. rw h)

-- a list cut at i if b, else left whole: the two parts are the list
module _ {A : Type 0} (b : Bool) (i : ℕ) (l : List A) where
  cut_front : cond b (take i l) [] ++ cond b (drop i l) l ≡ l
  cut_front = by b (λ h. rw h (take-append-drop i l)) (λ h. rw h)

  cut_end : cond b (take i l) l ++ cond b (drop i l) [] ≡ l
  cut_end = by b (λ h. rw h (take-append-drop i l)) (λ h. rw h (append-nil l))

-- the words behind a name, cut where the definitions cut them
module _ (ws : List (List Marked)) where
  abbrev rest : List (List Marked)
  rest = behind_constant ws

  abbrev front : List (List Marked)
  front = cond (is_constant ws) (take 1 ws) []

  abbrev end : List (List Marked)
  end = cond (is_not_null rest) (drop (length rest - 2) rest) []

  left : rest ≡ ahead_of_not_null rest ++ end
  unfolding ahead_of_not_null
  left = sym (cut_end (is_not_null rest) (length rest - 2) rest)

  whole : ws ≡ front ++ (ahead_of_not_null rest ++ end)
  unfolding behind_constant
  whole = sym (rw (← left) (cut_front (is_constant ws) 1 ws))

  front_are : are_words (constant_texts (is_constant ws)) front ≡ true
  unfolding is_constant
  front_are = taken (ascii "CONSTANT" ∷ []) (take 1 ws)

  end_are : are_words (not_null_texts (is_not_null rest)) end ≡ true
  unfolding is_not_null
  end_are = taken (ascii "NOT" ∷ ascii "NULL" ∷ []) (drop (length rest - 2) rest)

module _ (n : List Marked) (ws : List (List Marked)) (o : Option (List ℕ)) where
  -- behind the name of a record stood its type, and around it the words that its marks say
  pub words_stood : (d : Declared) → declared_of (n ∷ ws) o ≡ Some d → Stood ws d
  unfolding declared_of
  words_stood d e =
      let m = made_some (is_empty (ahead_of_not_null (rest ws))) _ d e in
      rw (← m.1)
      (record {
        front = front ws;
        kept = ahead_of_not_null (rest ws);
        end = end ws;
        whole = whole ws;
        type = refl;
        not_empty = m.0;
        front_words = front_are ws;
        end_words = end_are ws;
        constant = refl;
        not_null = ap is_not_null (left ws);
      })

-- ---- where no type is left

-- words of two lists, one after the other
are_both : (a b : List (List ℕ)) (us vs : List (List Marked)) → are_words a us ≡ true → are_words b vs ≡ true → are_words (a ++ b) (us ++ vs) ≡ true
unfolding are_words
are_both [] b us vs h k = rw (none_are us h) k
are_both (x ∷ a) b us vs h k =
    let f = first_is x a us h in
    rw f.2 (and_from (is_word_text x f.0) _ f.3 (are_both a b f.1 vs f.4 k))

-- a word that is a text has its length, and matches it
pub word_is : (a : List ℕ) (w : List Marked) → is_word_text a w ≡ true → (length w ≡ length a) × (starts_ignoring_case a w ≡ true)
unfolding is_word_text
word_is a w h =
    let e = eqb (length w) (length a) in
    (eqb-true (length w) (length a) ((and_parts e (starts_ignoring_case a w) h).0), (and_parts e (starts_ignoring_case a w) h).1)

-- words that are NOT NULL, or none: CONSTANT is not in front, and ahead of NOT NULL is nothing
nothing_ahead : (m : Bool) (ws : List (List Marked)) → are_words (not_null_texts m) ws ≡ true → (is_constant ws ≡ false) × (ahead_of_not_null ws ≡ [])
unfolding is_constant ahead_of_not_null is_not_null are_words is_word_text
nothing_ahead false ws h = rw (none_are ws h) (refl, refl)
nothing_ahead true ws h =
    let f = two_are (ascii "NOT") (ascii "NULL") ws h in
    rw f.2 (rw (word_is (ascii "NOT") f.0 f.3).0, rw (f.3, f.4))

-- with CONSTANT ahead of them, or without: they stand behind it
nothing_between : (c m : Bool) (ws : List (List Marked)) → are_words (constant_texts c ++ not_null_texts m) ws ≡ true → are_words (not_null_texts m) (behind_constant ws) ≡ true
unfolding behind_constant
nothing_between false m ws h = rw (nothing_ahead m ws h).0 h
nothing_between true m ws h =
    let f = first_is (ascii "CONSTANT") (not_null_texts m) ws h in
    rw ((constant_says ws).1 (f.0, f.1, f.2, f.3), f.2) f.4

module _ (n : List Marked) (ws : List (List Marked)) (o : Option (List ℕ)) where
  -- there is no record exactly if behind the name stand no words, CONSTANT, NOT NULL, or CONSTANT NOT NULL
  pub no_type_left : (declared_of (n ∷ ws) o ≡ None) ↔ ((c : Bool) × (m : Bool) × (are_words (constant_texts c ++ not_null_texts m) ws ≡ true))
  unfolding declared_of is_empty
  no_type_left = (
    λ e.
        let c = is_constant ws in
        let m = is_not_null (rest ws) in
        let k = empty_nil (ahead_of_not_null (rest ws)) (made_none (is_empty (ahead_of_not_null (rest ws))) _ e) in
        let w : ws ≡ front ws ++ end ws = rw k at (whole ws) in
        (c, m, ap (are_words (constant_texts c ++ not_null_texts m)) w ∙ are_both (constant_texts c) (not_null_texts m) (front ws) (end ws) (front_are ws) (end_are ws)),
    λ s. rw (nothing_ahead s.1 (rest ws) (nothing_between s.0 s.1 ws s.2)).1,
  )

-- ---- the words put back

-- each text behind a space
abbrev behind_spaces : List (List ℕ) → List ℕ
behind_spaces texts = concat (map (λ (u : List ℕ). 32 ∷ u) texts)

-- texts joined by single spaces: each behind one, but for the first
unfoldable pub join_texts : List (List ℕ) → List ℕ
join_texts texts = drop 1 (behind_spaces texts)

-- this is how words are joined
pub join_words_lem : (ws : List (List Marked)) → join_words ws ≡ join_texts (map bytes ws)
unfolding join_words join_texts concat
join_words_lem [] = refl
join_words_lem (w ∷ []) = sym (append-nil (bytes w))
join_words_lem (w ∷ v ∷ ws) = ap (λ (l : List ℕ). bytes w ++ (32 ∷ l)) (join_words_lem (v ∷ ws))

-- words among texts may be joined first, if there are any
join_inside : (us vs : List (List ℕ)) (ws : List (List Marked)) → is_empty ws ≡ false
    → join_texts (us ++ (join_words ws ∷ vs)) ≡ join_texts (us ++ (map bytes ws ++ vs))
unfolding join_texts concat is_empty
join_inside us vs [] h = absurd (false≢true (sym h))
join_inside us vs (w ∷ ws) h = rw (join_words_lem (w ∷ ws)) (simp (map-append, concat_append))

-- texts may be put in capitals first
behind_capitals : (texts : List (List ℕ)) → map upper (behind_spaces texts) ≡ behind_spaces (map (map upper) texts)
unfolding concat upper is_lower within
behind_capitals [] = refl
behind_capitals (u ∷ us) = rw (map-append upper u (behind_spaces us), behind_capitals us)

join_capitals : (texts : List (List ℕ)) → map upper (join_texts texts) ≡ join_texts (map (map upper) texts)
unfolding join_texts concat
join_capitals [] = refl
join_capitals (u ∷ us) = ap (drop 1) (behind_capitals (u ∷ us))

-- a word that is a text in any letter case is the text once both are in capitals; so of a list
word_capitals : (a : List ℕ) (w : List Marked) → length w ≡ length a → starts_ignoring_case a w ≡ true → map upper (bytes w) ≡ map upper a
unfolding starts_ignoring_case bytes
word_capitals [] [] l h = refl
word_capitals [] (x ∷ w) l h = absurd (omega arith)
word_capitals (b ∷ a) [] l h = absurd (omega arith)
word_capitals (b ∷ a) (x ∷ w) l h =
    let p = eqb (upper (byte x)) (upper b) in
    let e = eqb-true (upper (byte x)) (upper b) ((and_parts p (starts_ignoring_case a w) h).0) in
    let m = word_capitals a w (omega arith) ((and_parts p (starts_ignoring_case a w) h).1) in
    cc

are_capitals : (texts : List (List ℕ)) (ws : List (List Marked)) → are_words texts ws ≡ true → map (map upper) (map bytes ws) ≡ map (map upper) texts
are_capitals [] ws h = rw (none_are ws h)
are_capitals (a ∷ texts) ws h =
    let f = first_is a texts ws h in
    let e = word_is a f.0 f.3 in
    rw (f.2, word_capitals a f.0 e.0 e.1, are_capitals texts f.1 f.4)

-- CONSTANT if marked, the type, NOT NULL if marked, joined by single spaces
unfoldable pub put_back : Declared → List ℕ
put_back d = join_texts (constant_texts d.constant ++ (d.type ∷ not_null_texts d.not_null))

-- the words as they stood around the type, letter for letter
pub stood_exactly : (ws : List (List Marked)) (d : Declared) (s : Stood ws d)
    → join_words ws ≡ join_texts (map bytes s.front ++ (d.type ∷ map bytes s.end))
stood_exactly ws d s =
    rw (s.type, join_inside (map bytes s.front) (map bytes s.end) s.kept s.not_empty, join_words_lem ws)
    (ap (λ (l : List (List Marked)). join_texts (map bytes l)) s.whole ∙ simp map-append refl)

-- so put back, they give the words that stood there, letter case aside
pub stood_back : (ws : List (List Marked)) (d : Declared) → Stood ws d → map upper (put_back d) ≡ map upper (join_words ws)
unfolding put_back
stood_back ws d s =
    let us = constant_texts d.constant in
    let vs = not_null_texts d.not_null in
    rw (s.type, join_inside us vs s.kept s.not_empty, join_words_lem ws, s.whole)
    (simp (join_capitals, map-append) (rw (are_capitals us s.front s.front_words, are_capitals vs s.end s.end_words)))

-- ---- of a part, and of a text

-- what stands ahead of the default key, all of it if there is none
abbrev pub ahead_of : Option ℕ → List Marked → List Marked
ahead_of (Some i) t = take i t
ahead_of None t = t

-- the words behind a part's name, ahead of its leftmost default key; joined by single spaces they were its type before Note 5
abbrev pub type_words : List Marked → List (List Marked)
type_words part = drop 1 (words (ahead_of (first default_here 0 (trim part)) (trim part)))

unfoldable pub type_before : List Marked → List ℕ
type_before part = join_words (type_words part)

named_stood : (ws : List (List Marked)) (o : Option (List ℕ)) (d : Declared) → declared_of ws o ≡ Some d → Stood (drop 1 ws) d
unfolding declared_of
named_stood [] o d e = absurd (apart (cc))
named_stood (n ∷ ws) o d e = words_stood n ws o d e

-- of a part with a record: its type, and around it the words that its marks say
pub part_stood : (part : List Marked) (d : Declared) → declaration part ≡ Some d → Stood (type_words part) d
unfolding declaration part_at
part_stood part d e = go (first default_here 0 (trim part)) e
  where
    go : (f : Option ℕ) → part_at f (trim part) ≡ Some d → Stood (drop 1 (words (ahead_of f (trim part)))) d
    go (Some i) q = named_stood _ _ d q
    go None q = named_stood _ None d q

-- so the words put back give the type of before Note 5
pub part_put_back : (part : List Marked) (d : Declared) → declaration part ≡ Some d → map upper (put_back d) ≡ map upper (type_before part)
unfolding type_before
part_put_back part d e = stood_back (type_words part) d (part_stood part d e)

-- a name's record is that of some part, or was there before
last_part : {P : Type 0} (n : List ℕ) (ps : List (List Marked)) (r : Option Declared) (d : Declared) → last_named n ps r ≡ Some d
    → (r ≡ Some d → P) → ((i : ℕ) (p : List Marked) → get_elem? ps i ≡ maybe.some p → declaration p ≡ Some d → P) → P
unfolding last_named
last_part n [] r d e f g = f e
last_part n (p ∷ ps) r d e f g =
    last_part n ps (cond (part_declares n p) (declaration p) r) d e
    (by (part_declares n p) (λ h. rw h (g 0 p refl)) (λ h. rw h f))
    (λ i. g (suc i))

-- every record of a text is that of some part: so these words stood there, and put back they give the type of before Note 5
pub record_put_back : (n xs : List ℕ) (d : Declared) → record_named n (records_of xs) ≡ Some d
    → (i : ℕ) × (p : List Marked) × (get_elem? (parts_of xs) i ≡ maybe.some p) × (declaration p ≡ Some d) × Stood (type_words p) d
    × (map upper (put_back d) ≡ map upper (type_before p))
record_put_back n xs d e =
    last_part n (parts_of xs) None d (sym (records_named n xs) ∙ e) (λ h. absurd (apart (cc)))
    (λ i p a b. (i, p, a, b, part_stood p d b, part_put_back p d b))
