-- The starts of the pieces between live separators, stored one after the other. Assumes nothing.
use mathlib.Core.Path.{◌≡◌, sym, ap, ◌∙◌}
use mathlib.Core.Bool.{true, false}
use mathlib.Core.List.{List, [], ◌∷◌}
use Prim.Native.Nat.{ℕ, ◌+◌, ◌≤◌, ◌<◌, zero-le, suc-le-suc}
use native.Mathlib.Nat.{zero-add}
use native.Mathlib.Numerals.{add-one}
use native.Mathlib.Omega.{arith}
use lib.ListN.{length, get_or, set}
use lib.Seq.{sets, sets-eq}
use Rattle.spec.specs.Answers.{kept_behind}
use Rattle.spec.specs.Map.{Marked, live, is_live_byte}
use Rattle.spec.specs.Search.{Test, pieces, starts_from, byte_here}
use Rattle.scanner.proofs.ByteLaws.{byte_passes}
use Rattle.spec.proofs.Choice.{by}
use Rattle.spec.proofs.WalkLaws.{cuts_from, cuts_at, starts_cuts, cuts_end, cuts_hit, cuts_miss}

-- there are at most as many cuts as bytes
cuts_length : (p : Test) (back u : List Marked) → length (cuts_from p back u) ≤ length u
unfolding cuts_from
cuts_length p back [] = zero-le
cuts_length p back (x ∷ u) =
    let more = cuts_length p (x ∷ back) u in
    by (p back (x ∷ u)) (λ e. rw e (suc-le-suc more)) (λ e. rw e (omega arith))

module _ (t : List Marked) (b : ℕ) where
  -- all starts, and those behind i
  abbrev pub all_starts : List ℕ
  all_starts = starts_from 0 (pieces (byte_here b) t)

  abbrev pub starts_after : ℕ → List ℕ
  starts_after i = cuts_at (byte_here b) t i

  pub starts_split : all_starts ≡ 0 ∷ starts_after 0
  unfolding pieces
  starts_split = starts_cuts (byte_here b) [] t

  -- the result is all starts stored from index 0 on
  pub starts_kept : (d : List ℕ) → length t < length d → kept_behind all_starts d ≡ sets (set d 0 0) 1 (starts_after 0)
  unfolding kept_behind
  starts_kept d h =
      let n = cuts_length (byte_here b) [] t in
      rw starts_split (sym (rw zero-add at (sets-eq (0 ∷ starts_after 0) d 0 (omega arith))))

  module _ (i : ℕ) where
    pub starts_end : length t ≤ i → starts_after i ≡ []
    starts_end h = cuts_end (byte_here b) t i h

    module _ (h : i < length t) where
      pub starts_hit : is_live_byte b (get_or t i (live 0)) ≡ true → starts_after i ≡ (i + 1) ∷ starts_after (i + 1)
      starts_hit q = cuts_hit (byte_here b) t i h (byte_passes b t i h ∙ q)

      -- the next start is stored
      pub store_hit : (d : List ℕ) (n : ℕ) → is_live_byte b (get_or t i (live 0)) ≡ true → sets d n (starts_after i) ≡ sets (set d n (i + 1)) (n + 1) (starts_after (i + 1))
      store_hit d n q =
          ap (λ (l : List ℕ). sets d n l) (starts_hit q)
          ∙ ap (λ (k : ℕ). sets (set d n (i + 1)) k (starts_after (i + 1))) (sym (add-one n))

      pub starts_miss : is_live_byte b (get_or t i (live 0)) ≡ false → starts_after i ≡ starts_after (i + 1)
      starts_miss q = cuts_miss (byte_here b) t i h (byte_passes b t i h ∙ q)
