-- What `copy_from_slice` and `copy_within` leave, as elements stored one after the other. Assumes nothing.
use mathlib.Core.Path.{◌≡◌, refl, sym, ap, ◌∙◌}
use mathlib.Core.List.{List, ◌++◌}
use Prim.Native.Nat.{ℕ, ◌+◌, ◌-◌, ◌≤◌, min}
use native.Mathlib.Omega.{arith}
use borrow.Author.Tests.{leb-true, leb-false}
use borrow.Rule.Slice.PartMut.{put_mid}
use lib.Dec.{leb}
use lib.ListN.{length, take, drop, take-append-drop, length-drop, length-take, drop_of_length-le}
use lib.Seq.{sets, length-sets, drop-drop}
use Rattle.std.proofs.lemmas.List.{take_min}
use Rattle.std.proofs.lemmas.List.Edits.{sets-eq}
use Rattle.std.proofs.Common.{append_assoc}
use Rattle.std.specs.List.{copy_within}
use Rattle.output.proofs.StoreLaws.{sets_append, sets_out}
use Rattle.spec.proofs.AheadLaws.{drop_take}
use Rattle.spec.proofs.Choice.{by}

module _ (d vs : List ℕ) (i k : ℕ) (h : i ≤ length d) (e : k ≡ min (length vs) (length d - i)) where
  fits : length (take k vs) ≡ k
  fits = omega (arith, length-take k vs)

  -- only as much is stored as fits
  cut : sets d i vs ≡ sets d i (take k vs)
  cut =
      let u = take k vs in
      let t = drop k vs in
      let z : sets d i vs ≡ sets (sets d i u) (i + length u) t =
      ap (λ (l : List ℕ). sets d i l) (sym (take-append-drop k vs)) ∙ sets_append u t d i in
      z ∙ by (leb (length vs) k)
      (λ p. rw (drop_of_length-le vs (leb-true (length vs) k p)) refl)
      (λ p. let n = leb-false (length vs) k p in sets_out t (sets d i u) (i + length u) (omega (arith, fits, length-sets d i u)))

  stored : sets d i vs ≡ take i d ++ (take k vs ++ drop (i + k) d)
  stored = cut ∙ (rw fits at (sets-eq (take k vs) d i (omega (arith, fits))) ∙ append_assoc (take i d) (take k vs) (drop (i + k) d))

  -- after `d[i..i + k].copy_from_slice(&vs[..k])`
  pub copied : (n : ℕ) (ys : List ℕ) → n ≡ k → ys ≡ take k vs → put_mid i n d ys ≡ sets d i vs
  copied n ys p q = rw (p, q) (sym (stored ∙ ap (λ (l : List ℕ). take i d ++ (take k vs ++ l)) (sym (drop-drop k i d))))

-- after `d.copy_within(i..j, 0)`, where i and j are cut to the length
pub moved : (d : List ℕ) (from end i j : ℕ) → j ≡ min end (length d) → i ≡ min from j
    → (copy_within d i j 0 ≡ sets d 0 (drop from (take end d))) × (j - i ≡ length (drop from (take end d)))
moved d from end i j p q =
    let us = take end d in
    let e : drop i us ≡ drop from us =
    by (leb from j)
    (λ t. let n = leb-true from j t in let k : i ≡ from = omega arith in rw k refl)
    (λ t. let n = leb-false from j t in
    drop_of_length-le us (omega (arith, length-take end d)) ∙ sym (drop_of_length-le us (omega (arith, length-take end d)))) in
    let w : take j d ≡ us = rw p (take_min end d) in
    let v : take (j - i) (drop i d) ≡ drop from us = sym (drop_take i j d) ∙ (ap (drop i) w ∙ e) in
    let n : j - i ≡ length (drop from us) = omega (arith, length-drop from us, length-take end d) in
    (rw (v, n) (sym (sets-eq (drop from us) d 0 (omega (arith, length-drop from us, length-take end d)))), n)
