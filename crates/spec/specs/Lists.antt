-- Lists by a test on their elements, and sums over them. Assumes nothing.
use Rattle.std.specs.Prelude.{ℕ, ◌+◌, Bool, true, false, cond, ◌&&◌, ◌||◌, List, [], ◌∷◌, ◌++◌}

module _ {A : Type 0} where
  unfoldable pub is_empty : List A → Bool
  is_empty [] = true
  is_empty (x ∷ t) = false

  -- the longest front whose elements all pass the test
  unfoldable pub take_while : (A → Bool) → List A → List A
  take_while f [] = []
  take_while f (x ∷ t) =
      let more = x ∷ take_while f t in
      cond (f x) more []

  -- what stands behind that front
  unfoldable pub drop_while : (A → Bool) → List A → List A
  drop_while f [] = []
  drop_while f (x ∷ t) =
      let more = drop_while f t in
      cond (f x) more (x ∷ t)

  -- without the longest end whose elements all pass the test
  unfoldable pub drop_end : (A → Bool) → List A → List A
  drop_end f [] = []
  drop_end f (x ∷ t) =
      let rest = drop_end f t in
      let kept = x ∷ rest in
      cond (f x && is_empty rest) [] kept

  -- some element passes the test
  unfoldable pub any : (A → Bool) → List A → Bool
  any f [] = false
  any f (x ∷ t) =
      let more = any f t in
      f x || more

  -- every element passes the test
  unfoldable pub all : (A → Bool) → List A → Bool
  all f [] = true
  all f (x ∷ t) =
      let more = all f t in
      f x && more

  -- the elements that pass the test
  unfoldable pub keep : (A → Bool) → List A → List A
  keep f [] = []
  keep f (x ∷ t) =
      let rest = keep f t in
      let kept = x ∷ rest in
      cond (f x) kept rest

  -- lists one after the other
  unfoldable pub concat : List (List A) → List A
  concat [] = []
  concat (l ∷ ls) = l ++ concat ls

  -- the sum of a number for each element
  unfoldable pub total : (A → ℕ) → List A → ℕ
  total f [] = 0
  total f (x ∷ t) = f x + total f t
