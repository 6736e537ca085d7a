-- The target of the first live `:=` that has one, from `:=` to `:=`. Assumes nothing.
use Rattle.std.specs.Prelude.{Option, Some, None}
use Rattle.std.proofs.lemmas.List.{drop_more}
use mathlib.Core.Path.{◌≡◌, refl, sym, ap, ◌∙◌}
use mathlib.Core.Bool.{true, false}
use mathlib.Core.List.{List, ◌∷◌, reverse}
use Prim.Native.Nat.{ℕ, ◌+◌, ◌≤◌, ◌<◌}
use lib.ListN.{length, take, drop, get_or, drop_of_length-le}
use Rattle.spec.specs.Bytes.{ascii}
use Rattle.spec.specs.Map.{Marked, live}
use Rattle.spec.specs.Search.{Test, first, needle_here}
use Rattle.spec.specs.Assignments.{Target, or_else, assign_here, target_before, assign_target}
use Rattle.targets.proofs.TargetNameLaws.{tells_some, tells_next}
use Rattle.targets.specs.Tells.{Tells}
use Rattle.targets.specs.declared.TargetPlaces.{TargetPlaces}
use Rattle.spec.proofs.WalkLaws.{back_step, passes_at, up_to_first, up_to_end}

-- a live `:=`, as the scanner searches for it
abbrev assign : Test
assign = needle_here (ascii ":=")

step_hit : (back u v : List Marked) (x : Marked) → u ≡ x ∷ v → assign back u ≡ true → assign_target back u ≡ or_else (target_before back) (assign_target (x ∷ back) v)
unfolding assign_target assign_here
step_hit back u v x q e = rw q (simp (rw q at e))

step_miss : (back u v : List Marked) (x : Marked) → u ≡ x ∷ v → assign back u ≡ false → assign_target back u ≡ assign_target (x ∷ back) v
unfolding assign_target assign_here
step_miss back u v x q e = rw q (simp (rw q at e))

-- the target from i on
abbrev pub assign_from : List Marked → ℕ → Option Target
assign_from t i = assign_target (reverse (take i t)) (drop i t)

module _ (t : List Marked) where
  module _ (i : ℕ) where
    assign_end : length t ≤ i → assign_from t i ≡ None
    unfolding assign_target
    assign_end h = rw (drop_of_length-le t h) refl

    module _ (h : i < length t) where
      assign_hit : passes_at assign t i ≡ true → assign_from t i ≡ or_else (target_before (reverse (take i t))) (assign_from t (i + 1))
      assign_hit e =
          step_hit (reverse (take i t)) (drop i t) (drop (i + 1) t) (get_or t i (live 0)) (drop_more t i (live 0) h) e
          ∙ ap (λ (b : List Marked). or_else (target_before (reverse (take i t))) (assign_target b (drop (i + 1) t))) (sym (back_step t i (live 0) h))

      assign_miss : passes_at assign t i ≡ false → assign_from t i ≡ assign_from t (i + 1)
      assign_miss e =
          step_miss (reverse (take i t)) (drop i t) (drop (i + 1) t) (get_or t i (live 0)) (drop_more t i (live 0) h) e
          ∙ ap (λ (b : List Marked). assign_target b (drop (i + 1) t)) (sym (back_step t i (live 0) h))

  -- no `:=`, no target
  pub assign_none : (i : ℕ) → first assign i t ≡ None → assign_from t i ≡ None
  assign_none = up_to_end assign t (λ (k : ℕ). assign_from t k ≡ None) assign_end (λ k h q e more. assign_miss k h q ∙ more)

  -- the first `:=` from i on stands at j
  assign_at : (i j : ℕ) → first assign i t ≡ Some j → assign_from t i ≡ or_else (target_before (reverse (take j t))) (assign_from t (j + 1))
  assign_at i j =
      up_to_first assign t (λ (k : ℕ). assign_from t k ≡ or_else (target_before (reverse (take j t))) (assign_from t (j + 1))) j
      (assign_hit j)
      (λ k h q e more. assign_miss k h q ∙ more)
      i

  -- it has a target before it, or the search goes on behind it
  module _ (whole : Option Target) (i j : ℕ) (w : whole ≡ assign_from t i) (e : Some j ≡ first assign i t) where
    pub assign_found : (p : TargetPlaces) → Tells t (target_before (reverse (take j t))) (Some p) → Tells t whole (Some p)
    assign_found p k = rw (w, assign_at i j (sym e)) (tells_some t _ _ p k)

    pub assign_more : Tells t (target_before (reverse (take j t))) None → whole ≡ assign_from t (j + 1)
    assign_more k = w ∙ (assign_at i j (sym e) ∙ tells_next t _ _ k)
