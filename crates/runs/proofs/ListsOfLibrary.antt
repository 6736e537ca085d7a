-- The words for lists by a test, in the library's words, by inductions on the list. Assumes nothing.
use Rattle.std.proofs.Common.{◌≡◌, refl, Bool, List, [], ◌∷◌}
use Rattle.std.specs.List.{list_any, take_while as library_take_while}
use Rattle.std.proofs.lemmas.List.Sums.{take_while-cons}
use Rattle.spec.specs.Lists.{take_while, any}

module _ {A : Type 0} (f : A → Bool) where
  pub any_of_library : (xs : List A) → any f xs ≡ list_any f xs
  unfolding any
  any_of_library [] = refl
  any_of_library (x ∷ xs) = rw (any_of_library xs) refl

  pub take_while_of_library : (xs : List A) → take_while f xs ≡ library_take_while f xs
  unfolding take_while
  take_while_of_library [] = refl
  take_while_of_library (x ∷ xs) = rw (take_while-cons f x xs, take_while_of_library xs) refl
