-- What pass 5 makes of a text from an offset on: the bytes up to the next RAISE, then that RAISE, then what is behind it.
-- Assumes nothing.
use Rattle.std.specs.Prelude.{Some, None}
use mathlib.Core.Path.{◌≡◌, refl, sym, ap, ◌∙◌}
use mathlib.Core.Bool.{false}
use mathlib.Core.List.{List, [], ◌∷◌}
use Prim.Native.Nat.{ℕ, ◌+◌, ◌-◌, ◌≤◌, ◌<◌, min}
use native.Mathlib.Omega.{arith}
use borrow.Author.Tests.{leb-true, leb-false}
use lib.Dec.{leb}
use lib.ListN.{length, take, drop, get_or}
use Rattle.spec.proofs.RefusalOutcomes.{outcome_none}
use Rattle.spec.proofs.Choice.{by}
use Rattle.spec.proofs.CopyLaws.{copied, copied_all}
use Rattle.spec.proofs.FirstLaws.{first_least}
use Rattle.spec.proofs.RaisePlaces.{raise_of}
use Rattle.spec.proofs.RaiseWalk.{raise_here, raises_at, raises_end, raise_kept, raise_goes}
use Rattle.spec.proofs.WalkLaws.{passes_at}
use Rattle.spec.specs.Map.{Marked, live, front_byte}
use Rattle.spec.specs.Search.{first}
use Rattle.spec.specs.Outcome.{Outcome, accepted, refused, ◌⊕◌}
use Rattle.spec.specs.Raise.{Token, fate_text, token_text, join_tokens, raise}
use Rattle.spec.specs.declared.Level.{Level}
use Rattle.spec.specs.declared.Action.{Action}

module _ (act : Level → Action) (t : List Marked) where
  accepted_more : (x : Marked) (u : List Marked) (o : Outcome (List Marked)) → accepted (x ∷ u) ⊕ o ≡ accepted (x ∷ []) ⊕ (accepted u ⊕ o)
  unfolding ◌⊕◌
  accepted_more x u (accepted t) = refl
  accepted_more x u (refused r) = refl

  -- what is left from i on
  abbrev pub left_at : ℕ → Outcome (List Marked)
  left_at i = join_tokens (raises_at act t i)

  left_kept : (i : ℕ) → i < length t → passes_at raise_here t i ≡ false → left_at i ≡ accepted (get_or t i (live 0) ∷ []) ⊕ left_at (i + 1)
  unfolding join_tokens token_text
  left_kept i h e = ap join_tokens (raise_kept act t i h e)

  left_end : (i : ℕ) → length t ≤ i → left_at i ≡ accepted []
  unfolding join_tokens
  left_end i h = ap join_tokens (raises_end act t i h)

  pub raise_step : (i j : ℕ) → first raise_here i t ≡ Some j
      → left_at i ≡ accepted (take (j - i) (drop i t)) ⊕ (fate_text (raise_of act (drop j t)).fate ⊕ left_at (j + (raise_of act (drop j t)).length))
  unfolding join_tokens token_text
  raise_step i j e =
      let b = first_least raise_here t i j e in
      copied (λ (l : List Marked) (o : Outcome (List Marked)). accepted l ⊕ o) outcome_none accepted_more raise_here t left_at left_kept i j e
      ∙ ap (λ (ps : List Token). accepted (take (j - i) (drop i t)) ⊕ join_tokens ps) (raise_goes act t j b.inside b.passes)

  pub raise_last : (i : ℕ) → first raise_here i t ≡ None → left_at i ≡ accepted (drop i t) ⊕ accepted []
  raise_last =
      copied_all (λ (l : List Marked) (o : Outcome (List Marked)). accepted l ⊕ o) outcome_none accepted_more raise_here t left_at left_kept (accepted []) left_end

  -- past the end it does not matter how far
  pub left_min : (j n k : ℕ) → n ≡ min k (length t - j) → j ≤ length t → left_at (j + k) ≡ left_at (j + n)
  left_min j n k e h =
      by (leb k (length t - j))
      (λ q. let r = leb-true k (length t - j) q in let z : j + k ≡ j + n = omega arith in ap left_at z)
      (λ q.
      let r = leb-false k (length t - j) q in
      ap join_tokens (raises_end act t (j + k) (omega arith) ∙ sym (raises_end act t (j + n) (omega arith))))

-- from the start on it is the pass
pub raise_start : (act : Level → Action) (t : List Marked) → raise act t ≡ left_at act t 0
unfolding raise front_byte
raise_start act t = refl
