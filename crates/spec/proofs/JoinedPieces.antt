-- The pieces between live separators, joined again with them, are the text. Assumes nothing.
use Rattle.std.proofs.lemmas.Bool.{cond_both}
use mathlib.Core.Path.{◌≡◌, refl, ap, ◌∙◌}
use mathlib.Core.Bool.{Bool, true, false≢true}
use mathlib.Core.List.{List, [], ◌∷◌, ◌++◌}
use Prim.Native.Nat.{ℕ}
use borrow.Author.Tests.{eqb-true}
use Rattle.spec.proofs.Choice.{by}
use Rattle.spec.specs.Map.{Marked, live, quoted, is_live_byte}
use Rattle.spec.specs.Search.{Test, byte_here, onto_first, pieces_from, pieces}

-- pieces with the live byte b between two
unfoldable pub joined : ℕ → List (List Marked) → List Marked
joined b [] = []
joined b (p ∷ []) = p
joined b (p ∷ q ∷ ps) = p ++ (live b ∷ joined b (q ∷ ps))

joined_onto : (b : ℕ) (x : Marked) (ps : List (List Marked)) → joined b (onto_first x ps) ≡ x ∷ joined b ps
unfolding joined onto_first
joined_onto b x [] = refl
joined_onto b x (p ∷ []) = refl
joined_onto b x (p ∷ q ∷ ps) = refl

-- a text has at least one piece
pub pieces_cons : (f : Test) (back t : List Marked)
    → (p : List Marked) × (ps : List (List Marked)) × (pieces_from f back t ≡ p ∷ ps)
unfolding pieces_from onto_first
pieces_cons f back [] = ([], [], refl)
pieces_cons f back (x ∷ t) =
    cond_both (f back (x ∷ t)) _ _ (λ r. (p : List Marked) × (ps : List (List Marked)) × (r ≡ p ∷ ps))
    (λ _. ([], pieces_from f (x ∷ back) t, refl))
    (λ _. onto (pieces_from f (x ∷ back) t))
  where
    onto : (r : List (List Marked)) → (p : List Marked) × (ps : List (List Marked)) × (onto_first x r ≡ p ∷ ps)
    onto [] = (x ∷ [], [], refl)
    onto (p ∷ ps) = (x ∷ p, ps, refl)

pub live_byte : (b : ℕ) (x : Marked) → is_live_byte b x ≡ true → x ≡ live b
live_byte b (live c) h = ap live (eqb-true c b h)
live_byte b (quoted c) h = absurd (false≢true h)

-- the pieces between live bytes b, joined again with b, are the text
pub pieces_joined : (b : ℕ) (back t : List Marked) → joined b (pieces_from (byte_here b) back t) ≡ t
unfolding pieces_from byte_here joined
pieces_joined b back [] = refl
pieces_joined b back (x ∷ t) =
    let rest = pieces_from (byte_here b) (x ∷ back) t in
    let more = pieces_joined b (x ∷ back) t in
    cond_both (is_live_byte b x) _ _ (λ r. joined b r ≡ x ∷ t)
    (λ e. cut rest (pieces_cons (byte_here b) (x ∷ back) t) (live_byte b x e) more)
    (λ _. joined_onto b x rest ∙ ap (λ l. x ∷ l) more)
  where
    cut : (r : List (List Marked)) → (p : List Marked) × (ps : List (List Marked)) × (r ≡ p ∷ ps)
        → x ≡ live b
        → joined b r ≡ t
        → joined b ([] ∷ r) ≡ x ∷ t
    cut r w e h = rw (e, ← h, w.2)

-- ---- a test that looks at the front byte alone

onto_append : (x : Marked) (p : List Marked) (ps qs : List (List Marked)) → onto_first x (p ∷ (ps ++ qs)) ≡ onto_first x (p ∷ ps) ++ qs
unfolding onto_first
onto_append x p ps qs = refl

module _ (p : Test) (f : Marked → Bool) (h : (back t : List Marked) (x : Marked) → p back (x ∷ t) ≡ f x) where
  -- what stands before does not matter
  pub pieces_any : (back past t : List Marked) → pieces_from p back t ≡ pieces_from p past t
  unfolding pieces_from
  pieces_any back past [] = refl
  pieces_any back past (x ∷ t) = rw (h back t x, h past t x, pieces_any (x ∷ back) (x ∷ past) t) refl

  -- a byte that passes ends the pieces before it, and those behind it start anew
  pub pieces_at_lem : (back s u : List Marked) (x : Marked) → f x ≡ true → pieces_from p back (s ++ (x ∷ u)) ≡ pieces_from p back s ++ pieces p u
  unfolding pieces_from pieces
  pieces_at_lem back [] u x e = rw (h back u x, e) (ap (λ (l : List (List Marked)). [] ∷ l) (pieces_any (x ∷ back) [] u))
  pieces_at_lem back (y ∷ s) u x e =
      let w = pieces_cons p (y ∷ back) s in
      rw (h back (s ++ (x ∷ u)) y, h back s y, pieces_at_lem (y ∷ back) s u x e)
      (by (f y)
      (λ c. rw c refl)
      (λ c. rw (c, w.2) (onto_append y w.0 w.1 (pieces_from p [] u))))
