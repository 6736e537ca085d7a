-- The actions of the levels have a part in pass 5 only, and there in what becomes of a RAISE: where one stands, how long it
-- is and where it ends is the same with any actions. Assumes nothing.
use Rattle.std.specs.Prelude.{Option, Some, None}
use mathlib.Core.Path.{◌≡◌, refl, ap, ◌∙◌}
use mathlib.Core.List.{List, [], ◌∷◌, map}
use mathlib.Core.Logic.{◌⊎◌, inl, inr}
use Prim.Native.Nat.{ℕ, zero, suc, ◌-◌}
use lib.ListN.{drop}
use Rattle.spec.proofs.Choice.{by}
use Rattle.spec.proofs.RaisePlaces.{raise_of}
use Rattle.spec.specs.Bytes.{ascii, is_word}
use Rattle.spec.specs.Map.{Marked, byte}
use Rattle.spec.specs.Search.{word_here}
use Rattle.spec.specs.Outcome.{accepted, Rewriting}
use Rattle.spec.specs.Raise.{level_words, level_in, raised_at, Token, kept, raised, raises_from}
use Rattle.spec.specs.Body.{requote_pass, elsif_pass, assign_pass, select_pass, raise_pass, and_then, rewriting}
use Rattle.spec.specs.declared.Level.{Level}
use Rattle.spec.specs.declared.Action.{Action}

-- ---- the passes

-- passes 1 to 4, which know no action
unfoldable pub four_passes : List ℕ → Rewriting
four_passes xs = and_then (and_then (and_then (and_then (accepted xs) requote_pass) elsif_pass) assign_pass) select_pass

-- the actions have a part in pass 5 only
pub actions_in_raise : (act : Level → Action) (xs : List ℕ) → rewriting act xs ≡ and_then (four_passes xs) (raise_pass act)
unfolding rewriting four_passes
actions_in_raise act xs = refl

-- ---- a RAISE

module _ (act other : Level → Action) where
  -- a RAISE has one length
  length_at : (o : Option Level) (u : List Marked) → (raised_at act o u).length ≡ (raised_at other o u).length
  unfolding raised_at
  length_at None u = refl
  length_at (Some v) u = refl

  pub same_length : (u : List Marked) → (raise_of act u).length ≡ (raise_of other u).length
  same_length u = length_at (level_in level_words (drop 6 u)) u

  -- and what becomes of it depends on the action of its own level only
  pub same_raise : (u : List Marked) → ((v : Level) → level_in level_words (drop 6 u) ≡ Some v → act v ≡ other v)
      → raise_of act u ≡ raise_of other u
  unfolding raised_at
  same_raise u h = go (level_in level_words (drop 6 u)) refl
    where
      go : (o : Option Level) → level_in level_words (drop 6 u) ≡ o → raised_at act o u ≡ raised_at other o u
      go None e = refl
      go (Some v) e = rw (h v e) refl

-- ---- the search

-- what a token stands for: the byte that is kept, or the bytes that a RAISE takes
abbrev pub place_of : Token → Marked ⊎ ℕ
place_of (kept x) = inl x
place_of (raised r) = inr r.length

-- the same bytes are kept, and the same RAISEs are found between them
pub same_places : (act other : Level → Action) (k p : ℕ) (t : List Marked)
    → map place_of (raises_from act k p t) ≡ map place_of (raises_from other k p t)
unfolding raises_from
same_places act other k p [] = refl
same_places act other zero p (x ∷ t) =
    let n = (raise_of act (x ∷ t)).length in
    let same = same_length act other (x ∷ t) in
    by (word_here is_word (ascii "RAISE") p (x ∷ t))
    (λ e. rw e
    (ap (λ (l : List (Marked ⊎ ℕ)). inr n ∷ l) (same_places act other (n - 1) (byte x) t)
    ∙ ap (λ (m : ℕ). inr m ∷ map place_of (raises_from other (m - 1) (byte x) t)) same))
    (λ e. rw e (ap (λ (l : List (Marked ⊎ ℕ)). inl x ∷ l) (same_places act other 0 (byte x) t)))
same_places act other (suc k) p (x ∷ t) = same_places act other k (byte x) t
