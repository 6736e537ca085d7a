-- A text that ends in a live `;`, cut into statements and put together again. Assumes nothing.
use mathlib.Core.Path.{◌≡◌, refl, sym, ap, ◌∙◌, subst}
use mathlib.Core.Bool.{Bool, true, false≢true}
use mathlib.Core.List.{List, [], ◌∷◌, ◌++◌}
use Rattle.spec.proofs.JoinedPieces.{live_byte}
use Rattle.spec.proofs.ByteSets.{sign_not_ident}
use Rattle.spec.proofs.Choice.{by}
use Rattle.spec.specs.Bytes.{is_ident}
use Rattle.spec.specs.Map.{Marked, live, byte, is_live_byte}
use Rattle.spec.specs.Search.{byte_here, onto_first, pieces_from, pieces}
use Rattle.spec.specs.Closed.{ends_live}
use Rattle.joining.proofs.Reading.{Reads, leaves, paste, Reading}
use Rattle.joining.proofs.Parts.{Read}

-- what stands before a text does not change its end
pub ends_append : (a b : List Marked) → ends_live b ≡ true → ends_live (a ++ b) ≡ true
unfolding ends_live
ends_append [] b h = h
ends_append (x ∷ []) [] h = absurd (false≢true h)
ends_append (x ∷ []) (y ∷ b) h = h
ends_append (x ∷ y ∷ a) b h = ends_append (y ∷ a) b h

-- the end of a text behind its first byte
pub ends_rest : (x : Marked) (t : List Marked) → ends_live (x ∷ t) ≡ true → (t ≡ [] → ⊥) → ends_live t ≡ true
unfolding ends_live
ends_rest x [] h n = absurd (n refl)
ends_rest x (y ∷ t) h n = h

-- the last byte is a `;`, no identifier byte
pub ends_ident : (x : Marked) (t : List Marked) → is_ident (byte x) ≡ true → ends_live (x ∷ t) ≡ true → ends_live t ≡ true
unfolding ends_live
ends_ident x [] i h = absurd (false≢true (sym (sign_not_ident 59 refl) ∙ subst (λ (y : Marked). is_ident (byte y) ≡ true) (live_byte 59 x h) i))
ends_ident x (y ∷ t) i h = h

module _ (k : Reading) where
  -- a text that is read and ends in a live `;`
  pub record Shut (ok : k.State → Marked → Bool) (t : List Marked) : Type 0 where
    pub reads : Reads ok k.after k.start t
    pub ended : ends_live t ≡ true

  -- behind it the state is the start
  pub shut_leaves : (t : List Marked) (s : k.State) → ends_live t ≡ true → leaves k.after s t ≡ k.start
  unfolding ends_live
  shut_leaves [] s h = absurd (false≢true h)
  shut_leaves (x ∷ []) s h = ap (λ (y : Marked). k.after s y) (live_byte 59 x h) ∙ k.semi s
  shut_leaves (x ∷ y ∷ t) s h = shut_leaves (y ∷ t) (k.after s x) h

  pub shut_append : (ok : k.State → Marked → Bool) (a b : List Marked) → Shut ok a → Shut ok b → Shut ok (a ++ b)
  shut_append ok a b p q =
      record {
        reads = paste ok k.after a b k.start p.reads (rw (shut_leaves a k.start p.ended) q.reads);
        ended = ends_append a b q.ended;
      }

  -- each piece but the last is read with a `;` behind it, the last is empty
  abbrev pub Statements : List (List Marked) → Type 0
  Statements [] = ⊥
  Statements (p ∷ []) = p ≡ []
  Statements (p ∷ q ∷ ps) = Read k k.start (p ++ (live 59 ∷ [])) × Statements (q ∷ ps)

  -- the same, at least two pieces, the first one read from s
  abbrev pub FirstOf : k.State → List (List Marked) → Type 0
  FirstOf s [] = ⊥
  FirstOf s (p ∷ []) = ⊥
  FirstOf s (p ∷ q ∷ ps) = Read k s (p ++ (live 59 ∷ [])) × Statements (q ∷ ps)

  first_statements : (ps : List (List Marked)) → FirstOf k.start ps → Statements ps
  first_statements [] f = f
  first_statements (p ∷ []) f = absurd f
  first_statements (p ∷ q ∷ ps) f = f

  first_cut : (s : k.State) (ps : List (List Marked)) → k.ok s (live 59) ≡ true → Statements ps → FirstOf s ([] ∷ ps)
  first_cut s [] o f = f
  first_cut s (p ∷ ps) o f = ((o, tt), f)

  first_onto : (x : Marked) (s : k.State) (ps : List (List Marked)) → k.ok s x ≡ true → FirstOf (k.after s x) ps → FirstOf s (onto_first x ps)
  unfolding onto_first
  first_onto x s [] o f = absurd f
  first_onto x s (p ∷ []) o f = absurd f
  first_onto x s (p ∷ q ∷ ps) o f = ((o, f.0), f.1)

  cut_from : (t back : List Marked) (s : k.State) → ends_live t ≡ true → Read k s t → FirstOf s (pieces_from (byte_here 59) back t)
  unfolding ends_live pieces_from byte_here
  cut_from [] back s h r = absurd (false≢true h)
  cut_from (x ∷ []) back s h r = rw h ((rw (live_byte 59 x h) at r.0, tt), refl)
  cut_from (x ∷ y ∷ t) back s h r =
      by (is_live_byte 59 x)
      (λ e.
      let o : k.ok s (live 59) ≡ true = rw (live_byte 59 x e) at r.0 in
      let z : k.after s x ≡ k.start = ap (λ (w : Marked). k.after s w) (live_byte 59 x e) ∙ k.semi s in
      let more = cut_from (y ∷ t) (x ∷ back) k.start h (subst (λ (w : k.State). Read k w (y ∷ t)) z r.1) in
      rw e (first_cut s (pieces_from (byte_here 59) (x ∷ back) (y ∷ t)) o (first_statements (pieces_from (byte_here 59) (x ∷ back) (y ∷ t)) more)))
      (λ e. rw e (first_onto x s (pieces_from (byte_here 59) (x ∷ back) (y ∷ t)) r.0 (cut_from (y ∷ t) (x ∷ back) (k.after s x) h r.1)))

  pub statements : (t : List Marked) → Shut k.ok t → FirstOf k.start (pieces (byte_here 59) t)
  unfolding pieces
  statements t h = cut_from t [] k.start h.ended h.reads
