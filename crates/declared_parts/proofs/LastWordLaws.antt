-- The words of a text by its last one. Assumes nothing.
use mathlib.Core.Path.{◌≡◌, refl, ap, ◌∙◌}
use mathlib.Core.Bool.{Bool, true, false, cond, not}
use mathlib.Core.List.{List, [], ◌∷◌, ◌++◌, reverse, append-nil, append_assoc, reverse-cons, reverse-reverse}
use native.Mathlib.Omega.{arith}
use lib.ListN.{length, drop}
use lib.Seq.{drop_at}
use Rattle.spec.proofs.Choice.{by}
use Rattle.spec.proofs.EndLaws.{some_behind, last_passes, last_fails}
use Rattle.spec.specs.Bytes.{is_w}
use Rattle.spec.specs.Lists.{is_empty, take_while, drop_while, drop_end}
use Rattle.spec.specs.Map.{Marked, byte, of_byte}
use Rattle.spec.specs.Declarations.{words}
use Rattle.declared_parts.proofs.WordsLaws.{space, in_word, while_byte, behind_byte, nothing, words_cut, words_one}

-- a byte is W or in a word
space_of : (x : Marked) (b : Bool) → is_w (byte x) ≡ b → space x ≡ b
unfolding of_byte
space_of x b e = e

word_of : (x : Marked) (b : Bool) → is_w (byte x) ≡ b → in_word x ≡ not b
unfolding of_byte
word_of x b e = rw e refl

-- in what follows l is a text read backwards

-- what stands ahead of word bytes at the end
abbrev front : List Marked → List Marked
front t = drop_end in_word t

-- a text that ends in the word bytes y ∷ w
ends : (l : List Marked) (y : Marked) (w : List Marked) → is_w (byte y) ≡ false → take_while in_word w ≡ w → drop_while in_word w ≡ []
    → words (reverse l ++ (y ∷ w)) ≡ words (front (reverse l)) ++ (drop (length (front (reverse l))) (reverse l ++ (y ∷ w)) ∷ [])
unfolding drop_end
ends [] y w e p q = rw (words_one y w e p q, nothing) refl
ends (x ∷ l) y w e p q =
    by (is_w (byte x))
    (λ h.
    let u = reverse l ++ (x ∷ []) in
    let z : u ++ (y ∷ w) ≡ reverse l ++ (x ∷ y ∷ w) = append_assoc (reverse l) (x ∷ []) (y ∷ w) in
    rw (reverse-cons x l, last_fails in_word x (reverse l) (word_of x true h), drop_at u (y ∷ w) (length u) refl)
    (ap words z
    ∙ (words_cut (reverse l) x (y ∷ w) h
    ∙ rw (words_one y w e p q, words_cut (reverse l) x [] h, nothing, append-nil) refl)))
    (λ h.
    rw (reverse-cons x l, last_passes in_word x (reverse l) (word_of x false h), append_assoc (reverse l) (x ∷ []) (y ∷ w))
    (ends l x (y ∷ w) h (while_byte y w e ∙ ap (λ (t : List Marked). y ∷ t) p) (behind_byte y w e ∙ q)))

-- the last word of t, and what stands ahead of it; W at the end is passed over
unfoldable pub ahead_of_last : List Marked → List Marked
ahead_of_last t = front (drop_end space t)

unfoldable pub last_of : List Marked → List Marked
last_of t = drop (length (ahead_of_last t)) (drop_end space t)

backwards : (l : List Marked)
    → words (reverse l)
    ≡ cond (is_empty (drop_end space (reverse l))) [] (words (ahead_of_last (reverse l)) ++ (last_of (reverse l) ∷ []))
unfolding drop_end is_empty take_while drop_while ahead_of_last last_of
backwards [] = nothing
backwards (x ∷ l) =
    by (is_w (byte x))
    (λ e.
    rw (reverse-cons x l, last_passes space x (reverse l) (space_of x true e), words_cut (reverse l) x [] e, nothing, append-nil)
    (backwards l))
    (λ e.
    rw (reverse-cons x l, last_fails space x (reverse l) (space_of x false e), some_behind space (reverse l) (x ∷ []) (omega arith), last_passes in_word x (reverse l) (word_of x false e))
    (ends l x [] e refl refl))

-- the words of a text are those ahead of its last one, and that one; a text of W has none
pub words_last : (t : List Marked) → words t ≡ cond (is_empty (drop_end space t)) [] (words (ahead_of_last t) ++ (last_of t ∷ []))
words_last t = let e = backwards (reverse t) in rw reverse-reverse at e
