-- The tokens of pass 5 from an offset on, with any actions of the levels: bytes are kept up to the next RAISE, then comes that
-- RAISE, then what is behind it; and the clause of the first one that is refused. Assumes nothing.
use Rattle.std.specs.Prelude.{Option, Some, None}
use Rattle.std.proofs.lemmas.List.{drop_more}
use mathlib.Core.Path.{◌≡◌, refl, sym, ap, ◌∙◌}
use mathlib.Core.Bool.{true, false}
use mathlib.Core.List.{List, [], ◌∷◌, reverse}
use Prim.Native.Nat.{ℕ, zero, suc, ◌+◌, ◌-◌, ◌≤◌, ◌<◌}
use native.Mathlib.Omega.{arith}
use borrow.Author.Tests.{ltb-true, ltb-false}
use lib.Dec.{ltb}
use lib.ListN.{length, take, drop, get_or, drop_of_length-le}
use Rattle.spec.proofs.Choice.{by}
use Rattle.spec.proofs.CopyLaws.{copied, copied_all}
use Rattle.spec.proofs.FirstFound.{either_of, first_some}
use Rattle.spec.proofs.FirstLaws.{first_least}
use Rattle.spec.proofs.RaisePlaces.{raise_of}
use Rattle.spec.proofs.RefusalOutcomes.{fate_clause, first_clause}
use Rattle.spec.proofs.WalkLaws.{before_next, passes_at}
use Rattle.spec.specs.Bytes.{ascii, is_word}
use Rattle.spec.specs.Map.{Marked, live, byte, front_byte}
use Rattle.spec.specs.Search.{Test, first, word_here, keyword_here}
use Rattle.spec.specs.Raise.{level_words, level_in, raised_at, Token, kept, raised, raises_from}
use Rattle.spec.specs.declared.Level.{Level}
use Rattle.spec.specs.declared.Action.{Action}

-- a live RAISE stands here
abbrev pub raise_here : Test
raise_here = keyword_here (ascii "RAISE")

-- the tokens from i on
abbrev pub raises_at : (Level → Action) → List Marked → ℕ → List Token
raises_at act t i = raises_from act 0 (front_byte (reverse (take i t))) (drop i t)

raises_none : (act : Level → Action) (k p : ℕ) → raises_from act k p [] ≡ []
unfolding raises_from
raises_none act zero p = refl
raises_none act (suc k) p = refl

-- a RAISE takes some bytes
pub raised_pos : (act : Level → Action) (l : Option Level) (u : List Marked) → 0 < (raised_at act l u).length
unfolding raised_at
raised_pos act None u = omega arith
raised_pos act (Some l) u = omega arith

module _ (act : Level → Action) (p : ℕ) (u v : List Marked) (x : Marked) (q : u ≡ x ∷ v) where
  front_stays : word_here is_word (ascii "RAISE") p u ≡ false → raises_from act 0 p u ≡ kept x ∷ raises_from act 0 (byte x) v
  unfolding raises_from
  front_stays e = rw q (simp (rw q at e))

  front_goes : word_here is_word (ascii "RAISE") p u ≡ true
      → raises_from act 0 p u ≡ raised (raise_of act u) ∷ raises_from act ((raise_of act u).length - 1) (byte x) v
  unfolding raises_from
  front_goes e = rw q (simp (rw q at e))

  front_passed : (k : ℕ) → raises_from act (suc k) p u ≡ raises_from act k (byte x) v
  unfolding raises_from
  front_passed k = rw q

module _ (act : Level → Action) (t : List Marked) where
  pub raises_end : (i : ℕ) → length t ≤ i → raises_at act t i ≡ []
  raises_end i h = rw (drop_of_length-le t h) (raises_none act 0 _)

  -- k bytes to pass from i on
  raises_past : (k i : ℕ) → raises_from act k (front_byte (reverse (take i t))) (drop i t) ≡ raises_at act t (i + k)
  raises_past zero i = let z : i ≡ i + 0 = omega arith in ap (raises_at act t) z
  raises_past (suc k) i =
      let z : i + 1 + k ≡ i + suc k = omega arith in
      by (ltb i (length t))
      (λ q.
      let h = ltb-true i (length t) q in
      front_passed act (front_byte (reverse (take i t))) (drop i t) (drop (i + 1) t) (get_or t i (live 0)) (drop_more t i (live 0) h) k
      ∙ (ap (λ (p : ℕ). raises_from act k p (drop (i + 1) t)) (before_next t i h) ∙ (raises_past k (i + 1) ∙ ap (raises_at act t) z)))
      (λ q.
      let h = ltb-false i (length t) q in
      rw (drop_of_length-le t h) (raises_none act (suc k) _ ∙ sym (raises_end (i + suc k) (omega arith))))

  pub raise_kept : (i : ℕ) → i < length t → passes_at raise_here t i ≡ false
      → raises_at act t i ≡ kept (get_or t i (live 0)) ∷ raises_at act t (i + 1)
  unfolding keyword_here
  raise_kept i h e =
      front_stays act (front_byte (reverse (take i t))) (drop i t) (drop (i + 1) t) (get_or t i (live 0)) (drop_more t i (live 0) h) e
      ∙ ap (λ (p : ℕ). kept (get_or t i (live 0)) ∷ raises_from act 0 p (drop (i + 1) t)) (before_next t i h)

  pub raise_goes : (i : ℕ) → i < length t → passes_at raise_here t i ≡ true
      → raises_at act t i ≡ raised (raise_of act (drop i t)) ∷ raises_at act t (i + (raise_of act (drop i t)).length)
  unfolding keyword_here
  raise_goes i h e =
      let r = raise_of act (drop i t) in
      let z : i + 1 + (r.length - 1) ≡ i + r.length =
      omega (arith, raised_pos act (level_in level_words (drop 6 (drop i t))) (drop i t)) in
      front_goes act (front_byte (reverse (take i t))) (drop i t) (drop (i + 1) t) (get_or t i (live 0)) (drop_more t i (live 0) h) e
      ∙ ap (λ (ps : List Token). raised r ∷ ps)
      (ap (λ (p : ℕ). raises_from act (r.length - 1) p (drop (i + 1) t)) (before_next t i h)
      ∙ (raises_past (r.length - 1) (i + 1) ∙ ap (raises_at act t) z))

  -- ---- the first clause

  -- the clause of the first RAISE from i on that is refused
  abbrev pub clause_at : ℕ → Option (List ℕ)
  clause_at i = first_clause (raises_at act t i)

  clause_kept : (i : ℕ) → i < length t → passes_at raise_here t i ≡ false → clause_at i ≡ clause_at (i + 1)
  unfolding first_some
  clause_kept i h e = ap first_clause (raise_kept i h e)

  pub clause_end : (i : ℕ) → length t ≤ i → clause_at i ≡ None
  unfolding first_some
  clause_end i h = ap first_clause (raises_end i h)

  -- it is that of the next RAISE, or of those behind it
  pub clause_step : (i k : ℕ) → first raise_here i t ≡ Some k
      → clause_at i ≡ either_of (fate_clause (raise_of act (drop k t)).fate) (clause_at (k + (raise_of act (drop k t)).length))
  unfolding first_some
  clause_step i k e =
      let b = first_least raise_here t i k e in
      copied (λ (l : List Marked) (o : Option (List ℕ)). o) (λ o. refl) (λ x l o. refl) raise_here t clause_at clause_kept i k e
      ∙ ap first_clause (raise_goes k b.inside b.passes)

  -- where no RAISE is found there is none
  pub clause_last : (i : ℕ) → first raise_here i t ≡ None → clause_at i ≡ None
  clause_last =
      copied_all (λ (l : List Marked) (o : Option (List ℕ)). o) (λ o. refl) (λ x l o. refl) raise_here t clause_at clause_kept None
      clause_end
