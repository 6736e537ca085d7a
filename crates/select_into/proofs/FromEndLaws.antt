-- An end that is dropped twice, and that the parts of a list are trimmed. Assumes nothing.
use mathlib.Core.Path.{◌≡◌, refl}
use mathlib.Core.Bool.{Bool, false, not, ◌&&◌}
use mathlib.Core.List.{List, [], ◌∷◌, map}
use Prim.Native.Nat.{◌≤◌, ◌<◌}
use native.Mathlib.Omega.{arith}
use lib.ListN.{length}
use Rattle.spec.proofs.Choice.{by}
use Rattle.spec.specs.Bytes.{is_w}
use Rattle.spec.specs.Lists.{is_empty, drop_while, drop_end, keep}
use Rattle.spec.specs.Map.{Marked, of_byte}
use Rattle.spec.specs.Search.{pieces}
use Rattle.spec.specs.Parts.{trim, trim_end}
use Rattle.spec.specs.SelectInto.{listed, comma_here}

module _ {A : Type 0} (f : A → Bool) where
  -- once is enough
  pub drop_end_twice : (t : List A) → drop_end f (drop_end f t) ≡ drop_end f t
  unfolding drop_end
  drop_end_twice [] = refl
  drop_end_twice (x ∷ t) =
      by (f x && is_empty (drop_end f t))
      (λ e. rw e refl)
      (λ e. rw e (again x (drop_end f t) (drop_end_twice t) e))
    where
      again : (x : A) (u : List A) → drop_end f u ≡ u → (f x && is_empty u) ≡ false → drop_end f (x ∷ u) ≡ x ∷ u
      again x u r e = rw (r, e) refl

-- ---- trimmed parts

-- each of these is trimmed and not empty
abbrev pub Trimmed : List (List Marked) → Type 0
Trimmed [] = 0 ≤ 0
Trimmed (c ∷ cs) = (trim_end c ≡ c) × (0 < length c) × Trimmed cs

trim_trimmed : (t : List Marked) → trim_end (trim t) ≡ trim t
unfolding trim trim_end
trim_trimmed t = drop_end_twice (of_byte is_w) (drop_while (of_byte is_w) t)

pub listed_trimmed : (t : List Marked) → Trimmed (listed t)
unfolding listed keep is_empty
listed_trimmed t = go (pieces comma_here t)
  where
    go : (ps : List (List Marked)) → Trimmed (keep (λ (p : List Marked). not (is_empty p)) (map trim ps))
    go [] = omega arith
    go (p ∷ ps) = one (trim p) (trim_trimmed p) (go ps)
      where
        one : (q : List Marked) → trim_end q ≡ q → Trimmed (keep (λ (r : List Marked). not (is_empty r)) (map trim ps)) → Trimmed (keep (λ (r : List Marked). not (is_empty r)) (q ∷ map trim ps))
        one [] e more = more
        one (x ∷ q) e more = (e, omega arith, more)
