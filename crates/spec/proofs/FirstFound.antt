-- What is found at the first element of a list at which anything is. Assumes nothing.
use Rattle.std.specs.Prelude.{Option, Some, None}
use mathlib.Core.Path.{◌≡◌, refl}
use mathlib.Core.List.{List, [], ◌∷◌}
use Rattle.spec.proofs.Apart.{apart}

module _ {A : Type 0} where
  -- the one if there is one, else the other
  abbrev pub either_of : Option A → Option A → Option A
  either_of None o = o
  either_of (Some a) o = Some a

  pub either_none : (o p : Option A) → either_of o p ≡ None → (o ≡ None) × (p ≡ None)
  either_none None p h = (refl, h)
  either_none (Some a) p h = absurd (apart (cc))

module _ {A B : Type 0} where
  unfoldable pub first_some : (A → Option B) → List A → Option B
  first_some f [] = None
  first_some f (a ∷ l) =
      let more = first_some f l in
      either_of (f a) more
