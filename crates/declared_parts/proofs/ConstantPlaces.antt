-- CONSTANT at the front of a text, by its place. Assumes nothing.
use Rattle.std.specs.Prelude.{Option, Some, None, is_some}
use Rattle.std.specs.Option.{unwrap_or}
use mathlib.Core.Path.{◌≡◌, refl, sym, ap, ◌∙◌}
use mathlib.Core.Bool.{Bool, true, false, cond, and-false}
use mathlib.Core.List.{List, [], ◌∷◌}
use Prim.Native.Nat.{ℕ, ◌+◌, ◌≤◌}
use native.Mathlib.Omega.{arith}
use lib.Dec.{eqb}
use lib.ListN.{length, take, drop}
use lib.Seq.{drop-drop}
use Rattle.spec.proofs.BytesLaws.{bytes_take, bytes_drop, while_length_bytes}
use Rattle.spec.proofs.Choice.{by}
use Rattle.spec.proofs.ConstantLaws.{constant_first}
use Rattle.spec.proofs.HandlerPlaces.{word_text_lem}
use Rattle.spec.proofs.ListLaws.{empty_nil, while_sum}
use Rattle.spec.proofs.WalkLaws.{while_take, while_drop, while_length}
use Rattle.spec.specs.Bytes.{ascii, is_w}
use Rattle.spec.specs.Lists.{is_empty, take_while, drop_while}
use Rattle.spec.specs.Map.{Marked, bytes}
use Rattle.spec.specs.Search.{starts_ignoring_case, is_word_text}
use Rattle.spec.specs.Declarations.{words, are_words, is_constant, behind_constant}
use Rattle.declared_parts.specs.DeclaredParts.{not_w, is_text, constant_len}
use Rattle.declared_parts.proofs.WordsLaws.{space, in_word, words_front, words_skip}

-- a word is compared as its text
pub text_same : (w : List ℕ) (t : List Marked) → is_word_text w t ≡ is_text w (bytes t)
unfolding is_text
text_same w t = word_text_lem w t

-- the empty text is no word
pub no_word : (a : ℕ) (w : List ℕ) → is_word_text (a ∷ w) [] ≡ false
unfolding is_word_text starts_ignoring_case
no_word a w = and-false (eqb (length {A = Marked} []) (length (a ∷ w)))

module _ (u : List Marked) where
  abbrev first : List Marked
  first = take_while in_word u

  abbrev behind : List Marked
  behind = drop_while in_word u

  constant_len_lem : constant_len (bytes u) ≡ cond (is_word_text (ascii "CONSTANT") first) (Some (length first + length (take_while space behind))) None
  unfolding constant_len
  constant_len_lem =
      let n : length (take_while not_w (bytes u)) ≡ length first = sym (while_length_bytes not_w u) in
      let t : take (length first) (bytes u) ≡ bytes first = sym (bytes_take (length first) u) ∙ ap bytes (sym (while_take in_word u)) in
      let d : drop (length first) (bytes u) ≡ bytes behind = sym (bytes_drop (length first) u) ∙ ap bytes (sym (while_drop in_word u)) in
      let m : length (take_while is_w (bytes behind)) ≡ length (take_while space behind) = sym (while_length_bytes is_w behind) in
      rw (n, t, d, m, text_same (ascii "CONSTANT") first) refl

  -- what is read of CONSTANT, which takes so many bytes of the text if it is there
  pub record ConstantRead (o : Option ℕ) : Type 0 where
    pub rest : words (drop (unwrap_or o 0) u) ≡ behind_constant (words u)
    pub mark : is_constant (words u) ≡ is_some o
    pub front : drop_while space (drop (unwrap_or o 0) u) ≡ drop (unwrap_or o 0) u
    pub within : unwrap_or o 0 ≤ length u

pub skip_twice : (t : List Marked) → drop_while space (drop_while space t) ≡ drop_while space t
unfolding drop_while
skip_twice [] = refl
skip_twice (x ∷ t) = by (space x) (λ e. rw e (skip_twice t)) (λ e. rw (e, e) refl)

-- of no words, and of some
constant_none : is_constant [] ≡ false
unfolding is_constant are_words
constant_none = refl

rest_none : behind_constant [] ≡ []
unfolding behind_constant is_constant are_words
rest_none = refl

rest_some : (w : List Marked) (ws : List (List Marked)) (b : Bool) → is_word_text (ascii "CONSTANT") w ≡ b
    → behind_constant (w ∷ ws) ≡ cond b ws (w ∷ ws)
unfolding behind_constant
rest_some w ws b e = rw (constant_first w ws, e) refl

module _ (u : List Marked) (h : drop_while space u ≡ u) where
  -- no word, or the first one and those behind it
  no_words : is_empty u ≡ true → words u ≡ []
  no_words e = words_front u ∙ rw (h, e) refl

  some_words : is_empty u ≡ false → words u ≡ first u ∷ words (behind u)
  some_words e = words_front u ∙ rw (h, e) refl

  none_first : u ≡ [] → is_word_text (ascii "CONSTANT") (first u) ≡ false
  unfolding take_while
  none_first e = rw e (no_word 67 (ascii "ONSTANT"))

  constant_stays : constant_len (bytes u) ≡ None → is_constant (words u) ≡ false → behind_constant (words u) ≡ words u → ConstantRead u (constant_len (bytes u))
  constant_stays z m r = rw z (record { rest = sym r; mark = m; front = h; within = omega arith })

  pub constant_read : ConstantRead u (constant_len (bytes u))
  constant_read =
      by (is_empty u)
      (λ e.
      let n = no_words e in
      let f : is_word_text (ascii "CONSTANT") (first u) ≡ false = none_first (empty_nil u e) in
      constant_stays (constant_len_lem u ∙ rw f refl) (rw n constant_none) (rw n rest_none))
      (λ e.
      let s = some_words e in
      by (is_word_text (ascii "CONSTANT") (first u))
      (λ f.
      let k : constant_len (bytes u) ≡ Some (length (first u) + length (take_while space (behind u))) = constant_len_lem u ∙ rw f refl in
      let d : drop (length (first u) + length (take_while space (behind u))) u ≡ drop_while space (behind u) =
      sym (while_drop space (behind u) ∙ (ap (drop (length (take_while space (behind u)))) (while_drop in_word u) ∙ drop-drop (length (take_while space (behind u))) (length (first u)) u)) in
      rw k
      (record {
        rest = rw (d, s, rest_some (first u) (words (behind u)) true f) (words_skip (behind u));
        mark = rw (s, constant_first (first u) (words (behind u)), f) refl;
        front = rw d (skip_twice (behind u));
        within = omega (arith, while_length space (behind u), while_sum in_word u);
      }))
      (λ f.
      constant_stays (constant_len_lem u ∙ rw f refl) (rw (s, constant_first (first u) (words (behind u))) f)
      (rw (s, rest_some (first u) (words (behind u)) false f) refl)))
