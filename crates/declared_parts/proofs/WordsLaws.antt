-- What stands ahead of a default, split on W: its words by the fronts of the text. Assumes nothing.
use mathlib.Core.Path.{◌≡◌, refl, sym, ap, ◌∙◌}
use mathlib.Core.Bool.{Bool, true, false, cond, not}
use mathlib.Core.List.{List, [], ◌∷◌, ◌++◌, append-nil}
use Prim.Native.Nat.{ℕ}
use native.Mathlib.Omega.{arith}
use lib.ListN.{length, drop}
use Rattle.spec.proofs.Choice.{by}
use Rattle.spec.proofs.JoinedPieces.{pieces_any, pieces_at_lem}
use Rattle.spec.proofs.ListLaws.{drop_while_le}
use Rattle.spec.specs.Bytes.{is_w}
use Rattle.spec.specs.Lists.{is_empty, take_while, drop_while, keep}
use Rattle.spec.specs.Map.{Marked, byte, bytes, front_byte, of_byte}
use Rattle.spec.specs.Search.{Test, onto_first, pieces_from, pieces}
use Rattle.spec.specs.Declarations.{words, join_words}
use Rattle.declared_parts.specs.DeclaredParts.{not_w, spaced}

-- the tests on marked bytes
abbrev pub space : Marked → Bool
space x = of_byte is_w x

abbrev pub in_word : Marked → Bool
in_word x = of_byte not_w x

abbrev cut_here : Test
cut_here back u = is_w (front_byte u)

abbrev full : List Marked → Bool
full p = not (is_empty p)

abbrev cuts : List Marked → List Marked → List (List Marked)
cuts back t = pieces_from cut_here back t

-- the test looks at the front byte alone
front_w : (back t : List Marked) (x : Marked) → cut_here back (x ∷ t) ≡ space x
unfolding front_byte of_byte
front_w back t x = refl

cuts_w : (b : List Marked) (x : Marked) (t : List Marked) → is_w (byte x) ≡ true → cuts b (x ∷ t) ≡ [] ∷ cuts b t
unfolding pieces_from front_byte
cuts_w b x t e = rw (e, pieces_any cut_here space front_w (x ∷ b) b t) refl

cuts_byte : (b : List Marked) (x : Marked) (t : List Marked) → is_w (byte x) ≡ false → cuts b (x ∷ t) ≡ onto_first x (cuts b t)
unfolding pieces_from front_byte
cuts_byte b x t e = rw (e, pieces_any cut_here space front_w (x ∷ b) b t) refl

while_w : (x : Marked) (t : List Marked) → is_w (byte x) ≡ true → take_while in_word (x ∷ t) ≡ []
unfolding take_while of_byte
while_w x t e = rw e refl

pub while_byte : (x : Marked) (t : List Marked) → is_w (byte x) ≡ false → take_while in_word (x ∷ t) ≡ x ∷ take_while in_word t
unfolding take_while of_byte
while_byte x t e = rw e refl

behind_w : (x : Marked) (t : List Marked) → is_w (byte x) ≡ true → drop_while in_word (x ∷ t) ≡ x ∷ t
unfolding drop_while of_byte
behind_w x t e = rw e refl

pub behind_byte : (x : Marked) (t : List Marked) → is_w (byte x) ≡ false → drop_while in_word (x ∷ t) ≡ drop_while in_word t
unfolding drop_while of_byte
behind_byte x t e = rw e refl

skip_w : (x : Marked) (t : List Marked) → is_w (byte x) ≡ true → drop_while space (x ∷ t) ≡ drop_while space t
unfolding drop_while of_byte
skip_w x t e = rw e refl

skip_byte : (x : Marked) (t : List Marked) → is_w (byte x) ≡ false → drop_while space (x ∷ t) ≡ x ∷ t
unfolding drop_while of_byte
skip_byte x t e = rw e refl

first_none : cuts [] [] ≡ take_while in_word [] ∷ drop 1 (cuts [] [])
unfolding pieces_from take_while
first_none = refl

-- the first piece is the front without W
first_piece : (t : List Marked) → cuts [] t ≡ take_while in_word t ∷ drop 1 (cuts [] t)
unfolding onto_first
first_piece [] = first_none
first_piece (x ∷ t) =
    by (is_w (byte x))
    (λ e. rw (cuts_w [] x t e, while_w x t e) refl)
    (λ e. rw (cuts_byte [] x t e, while_byte x t e, first_piece t) refl)

pub words_w : (x : Marked) (t : List Marked) → is_w (byte x) ≡ true → words (x ∷ t) ≡ words t
unfolding words pieces keep is_empty
words_w x t e = rw (cuts_w [] x t e) refl

later_none : keep full (drop 1 (cuts [] [])) ≡ words (drop_while in_word [])
unfolding pieces_from drop_while words pieces keep is_empty
later_none = refl

words_cuts : (t : List Marked) → keep full (cuts [] t) ≡ words t
unfolding words pieces
words_cuts t = refl

-- the other pieces are those behind it
later : (t : List Marked) → keep full (drop 1 (cuts [] t)) ≡ words (drop_while in_word t)
unfolding onto_first
later [] = later_none
later (x ∷ t) =
    by (is_w (byte x))
    (λ e. rw (cuts_w [] x t e, behind_w x t e, words_w x t e) (words_cuts t))
    (λ e. rw (cuts_byte [] x t e, behind_byte x t e, first_piece t) (later t))

keep_some : (x : Marked) (u : List Marked) (l : List (List Marked)) → keep full ((x ∷ u) ∷ l) ≡ (x ∷ u) ∷ keep full l
unfolding keep is_empty
keep_some x u l = refl

words_byte : (x : Marked) (t : List Marked) → is_w (byte x) ≡ false → words (x ∷ t) ≡ take_while in_word (x ∷ t) ∷ words (drop_while in_word (x ∷ t))
words_byte x t e =
    sym (words_cuts (x ∷ t))
    ∙ (ap (keep full) (first_piece (x ∷ t))
    ∙ (rw (while_byte x t e) (keep_some x (take_while in_word t) (drop 1 (cuts [] (x ∷ t)))
    ∙ ap (λ l. (x ∷ take_while in_word t) ∷ l) (later (x ∷ t)))))

words_none : words [] ≡ cond (is_empty (drop_while space [])) [] (take_while in_word (drop_while space []) ∷ words (drop_while in_word (drop_while space [])))
unfolding words pieces pieces_from keep is_empty drop_while
words_none = refl

some_front : (x : Marked) (t : List Marked) (l : List (List Marked)) → l ≡ cond (is_empty (x ∷ t)) [] l
unfolding is_empty
some_front x t l = refl

-- behind W at the front, a word and the words behind it
pub words_front : (t : List Marked)
    → words t ≡ cond (is_empty (drop_while space t)) [] (take_while in_word (drop_while space t) ∷ words (drop_while in_word (drop_while space t)))
words_front [] = words_none
words_front (x ∷ t) =
    by (is_w (byte x))
    (λ e. rw (skip_w x t e, words_w x t e) (words_front t))
    (λ e. rw (skip_byte x t e) (words_byte x t e ∙ some_front x t (take_while in_word (x ∷ t) ∷ words (drop_while in_word (x ∷ t)))))

pub none_behind : (f : Marked → Bool) → drop_while f [] ≡ []
unfolding drop_while
none_behind f = refl

pub nothing : words [] ≡ []
unfolding words pieces pieces_from keep is_empty
nothing = refl

-- ---- a text cut at W

keep_append : (s t : List (List Marked)) → keep full (s ++ t) ≡ keep full s ++ keep full t
unfolding keep
keep_append [] t = refl
keep_append (p ∷ s) t = by (full p) (λ e. rw (e, keep_append s t) refl) (λ e. rw (e, keep_append s t) refl)

-- and the words
pub words_cut : (u : List Marked) (x : Marked) (t : List Marked) → is_w (byte x) ≡ true → words (u ++ (x ∷ t)) ≡ words u ++ words t
unfolding pieces of_byte
words_cut u x t e =
    sym (words_cuts (u ++ (x ∷ t)))
    ∙ (ap (keep full) (pieces_at_lem cut_here space front_w [] u t x e) ∙ (keep_append (cuts [] u) (cuts [] t) ∙ rw (words_cuts u, words_cuts t) refl))

-- a text without W is one word
pub words_one : (x : Marked) (t : List Marked) → is_w (byte x) ≡ false → take_while in_word t ≡ t → drop_while in_word t ≡ [] → words (x ∷ t) ≡ (x ∷ t) ∷ []
words_one x t e w d = words_byte x t e ∙ rw (while_byte x t e, behind_byte x t e, w, d, nothing) refl

-- W in front of the words does not matter
pub words_skip : (t : List Marked) → words (drop_while space t) ≡ words t
words_skip [] = ap words (none_behind space)
words_skip (x ∷ t) =
    by (is_w (byte x)) (λ e. rw (skip_w x t e, words_w x t e) (words_skip t)) (λ e. rw (skip_byte x t e) refl)

-- a space and the words, if there are any
abbrev more : List (List Marked) → List ℕ
more [] = []
more (w ∷ ws) = 32 ∷ join_words (w ∷ ws)

join_more : (w : List Marked) (ws : List (List Marked)) → join_words (w ∷ ws) ≡ bytes w ++ more ws
unfolding join_words
join_more w [] = sym (append-nil (bytes w))
join_more w (v ∷ ws) = refl

spaced_w : (g : Bool) (x : Marked) (t : List Marked) → is_w (byte x) ≡ true → spaced g (bytes (x ∷ t)) ≡ spaced true (bytes t)
unfolding spaced bytes
spaced_w g x t e = rw e refl

spaced_gap : (x : Marked) (t : List Marked) → is_w (byte x) ≡ false → spaced true (bytes (x ∷ t)) ≡ 32 ∷ byte x ∷ spaced false (bytes t)
unfolding spaced bytes
spaced_gap x t e = rw e refl

spaced_byte : (x : Marked) (t : List Marked) → is_w (byte x) ≡ false → spaced false (bytes (x ∷ t)) ≡ byte x ∷ spaced false (bytes t)
unfolding spaced bytes
spaced_byte x t e = rw e refl

-- both states of the walk: in a word, and behind W
record Spaced (t : List Marked) : Type 0 where
  inside : bytes (take_while in_word t) ++ more (words (drop_while in_word t)) ≡ spaced false (bytes t)
  behind : more (words t) ≡ spaced true (bytes t)

inside_none : bytes (take_while in_word []) ++ more (words (drop_while in_word [])) ≡ spaced false (bytes [])
unfolding bytes take_while drop_while words pieces pieces_from keep is_empty spaced
inside_none = refl

behind_none : more (words []) ≡ spaced true (bytes [])
unfolding bytes words pieces pieces_from keep is_empty spaced
behind_none = refl

bytes_none : (l : List ℕ) → bytes [] ++ l ≡ l
unfolding bytes
bytes_none l = refl

bytes_one : (x : Marked) (u : List Marked) (l : List ℕ) → bytes (x ∷ u) ++ l ≡ byte x ∷ (bytes u ++ l)
unfolding bytes
bytes_one x u l = refl

walk : (t : List Marked) → Spaced t
walk [] = record { inside = inside_none; behind = behind_none }
walk (x ∷ t) =
    by (is_w (byte x))
    (λ e.
    record {
      inside = rw (while_w x t e, behind_w x t e, words_w x t e, spaced_w false x t e) (bytes_none (more (words t)) ∙ (walk t).behind);
      behind = rw (words_w x t e, spaced_w true x t e) (walk t).behind;
    })
    (λ e.
    let i : bytes (take_while in_word (x ∷ t)) ++ more (words (drop_while in_word (x ∷ t))) ≡ byte x ∷ spaced false (bytes t) =
    rw (while_byte x t e, behind_byte x t e) (bytes_one x (take_while in_word t) (more (words (drop_while in_word t))) ∙ ap (λ l. byte x ∷ l) (walk t).inside) in
    record {
      inside = i ∙ sym (spaced_byte x t e);
      behind = rw (words_byte x t e, join_more (take_while in_word (x ∷ t)) (words (drop_while in_word (x ∷ t))), i) (sym (spaced_gap x t e));
    })

-- what is behind W at the front is shorter
pub shorter : (x : Marked) (t : List Marked) → drop_while space t ≡ x ∷ t → ⊥
shorter x t h = omega (arith, ap length h, drop_while_le space t)

-- the words of a text that does not start with W, joined by single spaces
pub joined_words : (t : List Marked) → drop_while space t ≡ t → join_words (words t) ≡ spaced false (bytes t)
unfolding join_words spaced bytes
joined_words [] h = rw nothing refl
joined_words (x ∷ t) h =
    by (is_w (byte x))
    (λ e. absurd (shorter x t (sym (skip_w x t e) ∙ h)))
    (λ e.
    rw (words_byte x t e)
    (join_more (take_while in_word (x ∷ t)) (words (drop_while in_word (x ∷ t))) ∙ (walk (x ∷ t)).inside))

-- there are none exactly if it is empty
pub empty_words : (t : List Marked) → drop_while space t ≡ t → is_empty (words t) ≡ is_empty t
unfolding is_empty
empty_words [] h = rw nothing refl
empty_words (x ∷ t) h =
    by (is_w (byte x)) (λ e. absurd (shorter x t (sym (skip_w x t e) ∙ h))) (λ e. rw (words_byte x t e) refl)
