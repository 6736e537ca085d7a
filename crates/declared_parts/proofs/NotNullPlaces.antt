-- NOT NULL at the end of a text, by its place. Assumes nothing.
use Rattle.std.specs.Prelude.{Option, Some, None, is_some}
use Rattle.std.specs.Option.{unwrap_or}
use mathlib.Core.Path.{◌≡◌, refl, sym, ap, ◌∙◌}
use mathlib.Core.Bool.{Bool, true, false, cond, ◌&&◌, and-false, and_comm}
use mathlib.Core.List.{List, [], ◌∷◌, ◌++◌, append_assoc}
use Prim.Native.Nat.{ℕ, ◌-◌, ◌≤◌}
use native.Mathlib.Omega.{arith}
use lib.ListN.{length, take, drop, length-append, drop_of_length-le}
use lib.Seq.{take_all, take_at, take-take}
use Rattle.spec.proofs.AheadLaws.{drop_take}
use Rattle.spec.proofs.BytesLaws.{bytes_take, bytes_drop, end_length_bytes}
use Rattle.spec.proofs.Choice.{by}
use Rattle.spec.proofs.ConstantLaws.{not_null_last}
use Rattle.spec.proofs.EndLaws.{drop_end_take}
use Rattle.spec.proofs.ListLaws.{empty_nil, drop_end_le}
use Rattle.spec.specs.Bytes.{ascii, is_w}
use Rattle.spec.specs.Lists.{is_empty, drop_end}
use Rattle.spec.specs.Map.{Marked, bytes}
use Rattle.spec.specs.Search.{is_word_text}
use Rattle.spec.specs.Declarations.{words, are_words, is_not_null, ahead_of_not_null}
use Rattle.declared_parts.specs.DeclaredParts.{not_w, last_word, ends_in, type_len}
use Rattle.declared_parts.proofs.LastWordLaws.{ahead_of_last, last_of, words_last}
use Rattle.declared_parts.proofs.ConstantPlaces.{text_same, no_word}
use Rattle.declared_parts.proofs.WordsLaws.{space, in_word}

module _ (us : List (List Marked)) (v w : List Marked) where
  abbrev are_not_null : Bool
  are_not_null = is_word_text (ascii "NOT") v && is_word_text (ascii "NULL") w

  two_less : length (us ++ (v ∷ w ∷ [])) - 2 ≡ length us
  two_less = omega (arith, length-append us (v ∷ w ∷ []))

  pair_ahead : ahead_of_not_null (us ++ (v ∷ w ∷ [])) ≡ cond are_not_null us (us ++ (v ∷ w ∷ []))
  unfolding ahead_of_not_null
  pair_ahead = rw (not_null_last us v w, two_less, take_at us (v ∷ w ∷ []) (length us) refl) refl

-- fewer than two words
none_mark : is_not_null [] ≡ false
unfolding is_not_null are_words
none_mark = refl

one_mark : (w : List Marked) → is_not_null (w ∷ []) ≡ false
unfolding is_not_null are_words
one_mark w = and-false (is_word_text (ascii "NOT") w)

unmarked_ahead : (ws : List (List Marked)) → is_not_null ws ≡ false → ahead_of_not_null ws ≡ ws
unfolding ahead_of_not_null
unmarked_ahead ws e = rw e refl

-- the last word of a text without words is no text
last_none : (t : List Marked) (a : ℕ) (w : List ℕ) → is_empty (drop_end space t) ≡ true → is_word_text (a ∷ w) (last_of t) ≡ false
unfolding last_of
last_none t a w e =
    let n = length (ahead_of_last t) in
    let l : length {A = Marked} [] ≤ n = omega arith in
    let z : drop n (drop_end space t) ≡ [] = ap (drop n) (empty_nil (drop_end space t) e) ∙ drop_of_length-le [] l in
    rw z (no_word a w)

module _ (v : List Marked) where
  abbrev ends_in_not_null : Bool
  ends_in_not_null = is_word_text (ascii "NOT") (last_of (ahead_of_last v)) && is_word_text (ascii "NULL") (last_of v)

  -- by the last two words
  record EndsInNotNull : Type 0 where
    mark : is_not_null (words v) ≡ ends_in_not_null
    ahead : ahead_of_not_null (words v) ≡ cond ends_in_not_null (words (ahead_of_last (ahead_of_last v))) (words v)

  not_ended : ends_in_not_null ≡ false → is_not_null (words v) ≡ false → EndsInNotNull
  not_ended e m = record { mark = m ∙ sym e; ahead = rw e (unmarked_ahead (words v) m) }

  ended : EndsInNotNull
  ended =
      by (is_empty (drop_end space v))
      (λ e.
      let s : words v ≡ [] = words_last v ∙ rw e refl in
      not_ended (rw (last_none v 78 (ascii "ULL") e) (and-false (is_word_text (ascii "NOT") (last_of (ahead_of_last v))))) (rw s none_mark))
      (λ e.
      let s : words v ≡ words (ahead_of_last v) ++ (last_of v ∷ []) = words_last v ∙ rw e refl in
      by (is_empty (drop_end space (ahead_of_last v)))
      (λ f.
      let r : words (ahead_of_last v) ≡ [] = words_last (ahead_of_last v) ∙ rw f refl in
      not_ended (rw (last_none (ahead_of_last v) 78 (ascii "OT") f) refl) (rw (s, r) (one_mark (last_of v))))
      (λ f.
      let r : words (ahead_of_last v) ≡ words (ahead_of_last (ahead_of_last v)) ++ (last_of (ahead_of_last v) ∷ []) = words_last (ahead_of_last v) ∙ rw f refl in
      let us = words (ahead_of_last (ahead_of_last v)) in
      let q : words v ≡ us ++ (last_of (ahead_of_last v) ∷ last_of v ∷ []) = s ∙ rw r (append_assoc us (last_of (ahead_of_last v) ∷ []) (last_of v ∷ [])) in
      record {
        mark = rw q (not_null_last us (last_of (ahead_of_last v)) (last_of v));
        ahead = rw q (pair_ahead us (last_of (ahead_of_last v)) (last_of v));
      }))

-- where the last word stands
module _ (t : List Marked) where
  abbrev trimmed : List Marked
  trimmed = drop_end space t

  abbrev from : ℕ
  from = length (ahead_of_last t)

  from_le : from ≤ length trimmed
  unfolding ahead_of_last
  from_le = drop_end_le in_word trimmed

  last_places : last_word (bytes t) ≡ record { at = from; len = length trimmed - from }
  unfolding last_word ahead_of_last
  last_places =
      let n : length (drop_end is_w (bytes t)) ≡ length trimmed = sym (end_length_bytes is_w t) in
      let k : take (length trimmed) (bytes t) ≡ bytes trimmed = sym (bytes_take (length trimmed) t) ∙ ap bytes (sym (drop_end_take space t)) in
      rw (n, k, sym (end_length_bytes not_w trimmed)) refl

  ends_same : (w : List ℕ) → ends_in w (bytes t) ≡ is_word_text w (last_of t)
  unfolding ends_in last_of
  ends_same w =
      let n = length trimmed - from in
      let k : take n (drop from (bytes t)) ≡ bytes (take n (drop from t)) = sym (bytes_take n (drop from t) ∙ ap (take n) (bytes_drop from t)) in
      let d : take n (drop from t) ≡ drop from trimmed = sym (ap (drop from) (drop_end_take space t) ∙ drop_take from (length trimmed) t) in
      rw (last_places, k, d) (sym (text_same w (drop from trimmed)))

  ahead_take : take from t ≡ ahead_of_last t
  unfolding ahead_of_last
  ahead_take =
      sym (drop_end_take in_word trimmed ∙ (ap (take from) (drop_end_take space t) ∙ take-take from (length trimmed) t from_le))

  front_same : take (last_word (bytes t)).at (bytes t) ≡ bytes (ahead_of_last t)
  front_same = rw last_places (sym (bytes_take from t) ∙ ap bytes ahead_take)

  from_place : (last_word (bytes t)).at ≡ from
  from_place = rw last_places refl

module _ (v : List Marked) where
  abbrev front : List Marked
  front = ahead_of_last (ahead_of_last v)

  type_len_lem : type_len (bytes v) ≡ cond (is_word_text (ascii "NULL") (last_of v) && is_word_text (ascii "NOT") (last_of (ahead_of_last v))) (Some (length front)) None
  unfolding type_len
  type_len_lem =
      rw (front_same v, ends_same v (ascii "NULL"), ends_same (ahead_of_last v) (ascii "NOT"), from_place (ahead_of_last v)) refl

  front_le : length front ≤ length (ahead_of_last v)
  front_le = omega (arith, from_le (ahead_of_last v), drop_end_le space (ahead_of_last v))

  ahead_le : length (ahead_of_last v) ≤ length v
  ahead_le = omega (arith, from_le v, drop_end_le space v)

  front_take : take (length front) v ≡ front
  front_take =
      sym (sym (ahead_take (ahead_of_last v))
      ∙ (ap (take (length front)) (sym (ahead_take v)) ∙ take-take (length front) (length (ahead_of_last v)) v front_le))

  -- what is read of NOT NULL, which has so many bytes of the text ahead of it if it is there
  pub record NotNullRead (o : Option ℕ) : Type 0 where
    pub ahead : words (take (unwrap_or o (length v)) v) ≡ ahead_of_not_null (words v)
    pub mark : is_not_null (words v) ≡ is_some o
    pub within : unwrap_or o (length v) ≤ length v

  pub not_null_read : NotNullRead (type_len (bytes v))
  not_null_read =
      let c = ended v in
      let swap = and_comm (is_word_text (ascii "NULL") (last_of v)) (is_word_text (ascii "NOT") (last_of (ahead_of_last v))) in
      by (ends_in_not_null v)
      (λ e.
      let k : type_len (bytes v) ≡ Some (length front) = type_len_lem ∙ rw (swap, e) refl in
      rw k
      (record {
        ahead = rw front_take (sym (c.ahead ∙ rw e refl));
        mark = c.mark ∙ e;
        within = omega (arith, front_le, ahead_le);
      }))
      (λ e.
      let k : type_len (bytes v) ≡ None = type_len_lem ∙ rw (swap, e) refl in
      rw k
      (record {
        ahead = rw (take_all (length v) v (omega arith)) (sym (c.ahead ∙ rw e refl));
        mark = c.mark ∙ e;
        within = omega arith;
      }))
