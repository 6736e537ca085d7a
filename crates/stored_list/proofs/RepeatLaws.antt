-- Runs one after the other, and the text of a run. Assumes nothing.
use mathlib.Core.Path.{◌≡◌, refl, sym, ap, ◌∙◌}
use mathlib.Core.List.{List, [], ◌++◌}
use Prim.Native.Nat.{ℕ, zero, suc, ◌+◌, ◌-◌, ◌*◌, ◌≤◌, ◌<◌, min}
use native.Mathlib.Omega.{arith}
use borrow.Author.Tests.{leb-true, leb-false, eq-eqb, ne_eqb}
use lib.Dec.{leb}
use lib.ListN.{length, take, drop, take-append-drop}
use lib.Seq.{sets, length-sets, length-take-le, take_all}
use Rattle.std.proofs.lemmas.List.{nil_from_length}
use Rattle.output.proofs.StoreLaws.{sets_append, sets_out, front_stored}
use Rattle.spec.proofs.Choice.{by}
use Rattle.spec.proofs.ListLaws.{empty_length}
use Rattle.stored_list.specs.Fields.{field_of}
use Rattle.stored_list.specs.Numbers.{counted}
use Rattle.stored_list.specs.Runs.{repeated, hex_run, run_at, runs_from}
use Rattle.stored_list.proofs.CountLaws.{one_less}

module _ (n i : ℕ) (xs : List ℕ) where
  pub repeated_step : i < n → repeated (n - i) xs ≡ xs ++ repeated (n - (i + 1)) xs
  unfolding repeated
  repeated_step h = rw (one_less n i h) refl

  pub repeated_end : n ≤ i → repeated (n - i) xs ≡ []
  unfolding repeated
  repeated_end h = let k : n - i ≡ 0 = omega arith in rw k refl

-- of no bytes there are none, however often
pub repeated_empty : (n : ℕ) (xs : List ℕ) → length xs ≡ 0 → repeated n xs ≡ []
unfolding repeated
repeated_empty zero xs e = refl
repeated_empty (suc n) xs e = ap (λ (l : List ℕ). l ++ repeated n xs) (nil_from_length xs e) ∙ repeated_empty n xs e

-- ---- the runs of a line

module _ (n j : ℕ) (line : List ℕ) where
  pub runs_end : n ≤ j → runs_from (n - j) j line ≡ []
  unfolding runs_from
  runs_end h = let k : n - j ≡ 0 = omega arith in rw k refl

  module _ (h : j < n) where
    pub runs_none : length (field_of (2 * j + 1) line) ≡ 0 → runs_from (n - j) j line ≡ []
    unfolding runs_from
    runs_none e = rw (one_less n j h, empty_length (field_of (2 * j + 1) line) ∙ eq-eqb _ 0 e) refl

    pub runs_step : (length (field_of (2 * j + 1) line) ≡ 0 → ⊥)
        → runs_from (n - j) j line ≡ run_at j line ++ runs_from (n - (j + 1)) (j + 1) line
    unfolding runs_from
    runs_step e = rw (one_less n j h, empty_length (field_of (2 * j + 1) line) ∙ ne_eqb _ 0 e) refl

-- a run from what the code computes: its fields, and what the first counts as
pub run_fields : (j : ℕ) (line times hex : List ℕ) (n : ℕ) → times ≡ field_of (2 * j + 1) line → n ≡ counted times
    → hex ≡ field_of (2 * j + 2) line → hex_run n hex ≡ run_at j line
unfolding run_at
run_fields j line times hex n p q r = rw (q, p, r) refl

-- ---- a list that a line gives: what a buffer holds of it

module _ {A : Type 0} (d d' vs : List A) (k : ℕ) (p : d' ≡ sets d 0 vs) (q : k ≡ min (length vs) (length d)) where
  pub held : take k d' ≡ take (length d) vs
  held =
      by (leb (length vs) (length d))
      (λ e. let h : length vs ≤ length d = leb-true (length vs) (length d) e in
      front_stored d d' vs k (omega arith) (omega arith) p ∙ sym (take_all (length d) vs h))
      (λ e. let h : length d < length vs = leb-false (length vs) (length d) e in
      let u = take (length d) vs in
      let l : length u ≡ length d = length-take-le (length d) vs (omega arith) in
      let s : sets d 0 vs ≡ sets (sets d 0 u) (0 + length u) (drop (length d) vs) =
      ap (λ (l : List A). sets d 0 l) (sym (take-append-drop (length d) vs)) ∙ sets_append u (drop (length d) vs) d 0 in
      front_stored d d' u k (omega arith) (omega arith) (p ∙ (s ∙ sets_out (drop (length d) vs) (sets d 0 u) (0 + length u) (omega (arith, length-sets d 0 u)))))
