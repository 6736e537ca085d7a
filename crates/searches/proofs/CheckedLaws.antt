-- The checks of a search and what the lent map holds behind them. Assumes nothing.
use Rattle.std.specs.Prelude.{Ok}
use Rattle.std.proofs.lemmas.Bool.{and_parts, leb-true}
use mathlib.Core.Path.{◌≡◌, refl, ap, ◌∙◌}
use mathlib.Core.Bool.{Bool, true}
use mathlib.Core.List.{List, []}
use Prim.Native.Nat.{ℕ, ◌+◌, ◌≤◌, ◌<◌}
use native.Mathlib.Omega.{arith}
use borrow.Author.Tests.{leb-true}
use lib.Dec.{leb}
use lib.ListN.{length}
use lib.Seq.{sets, sets-eq}
use Rattle.spec.proofs.WalkLaws.{marked_kept}
use Rattle.spec.proofs.CheckLaws.{check_only}
use Rattle.spec.specs.Map.{map_of, marked, marked_text}
use Rattle.spec.specs.Answers.{search_limit, check_of, kept_behind, map_check, map_exit, split_check, text_check}

module _ (xs lent needle : List ℕ) (e : map_check xs lent needle ≡ Ok tt) where
  passed_map : map_exit xs lent needle ≡ kept_behind (map_of xs) lent
  unfolding map_exit
  passed_map = rw e refl

  -- the text beside the map that an accepted search leaves
  pub passed_marks : (m : List ℕ) → m ≡ map_exit xs lent needle → marked xs m ≡ marked_text xs
  passed_marks m h = ap (λ (l : List ℕ). marked xs l) (h ∙ passed_map) ∙ marked_kept xs lent

-- a text that passes the check is within the limit
passed_fits : (limit : ℕ) (enough : Bool) (xs needle : List ℕ) → check_of limit enough xs needle ≡ Ok tt → length xs ≤ limit
passed_fits limit enough xs needle e = (check_only limit enough xs needle (Ok tt) e).0

-- a search that passes was lent a map of the text's length or more
pub map_passed : (limit : ℕ) (xs lent needle : List ℕ) → check_of limit (leb (length xs) (length lent)) xs needle ≡ Ok tt → length xs ≤ length lent
map_passed limit xs lent needle e = leb-true _ _ (check_only limit _ xs needle (Ok tt) e).1

-- a split that passes is within the limit and was lent buffers of its length
pub split_passed : (xs lent_map lent_starts : List ℕ) → split_check xs lent_map lent_starts ≡ Ok tt
    → (length xs ≤ 65536) × (length xs ≤ length lent_map) × (length xs < length lent_starts)
unfolding split_check search_limit
split_passed xs lent_map lent_starts e =
    let k = check_only 65536 _ xs [] (Ok tt) e in
    let both = and_parts _ _ k.1 in
    (k.0, leb-true _ _ both.0, omega (arith, leb-true _ _ both.1))

-- stores of a whole result at the front
pub sets_front : (d vs : List ℕ) → length vs ≤ length d → sets d 0 vs ≡ kept_behind vs d
unfolding kept_behind
sets_front d vs h =
    let k : 0 + length vs ≡ length vs = omega arith in
    sets-eq vs d 0 (omega arith) ∙ rw k refl

-- a text that passes without a buffer is within the limit
pub within_limit : (xs : List ℕ) → text_check xs ≡ Ok tt → length xs ≤ 65536
unfolding search_limit
within_limit xs e = passed_fits 65536 true xs [] e
