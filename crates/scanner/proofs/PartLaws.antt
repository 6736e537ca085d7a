-- A part of a text beside what stands in its map from that part on. Assumes nothing.
use mathlib.Core.Path.{◌≡◌, refl, sym, ap, ◌∙◌}
use mathlib.Core.List.{List, [], ◌∷◌}
use Prim.Native.Nat.{ℕ, zero, suc}
use lib.ListN.{take, drop}
use Rattle.spec.proofs.WalkLaws.{marked_drop}
use Rattle.spec.specs.Map.{Marked, mark, live, marked}

front_marked : (n : ℕ) (xs ms : List ℕ) → marked (take n xs) ms ≡ take n (marked xs ms)
unfolding marked
front_marked zero xs ms = refl
front_marked (suc n) [] ms = refl
front_marked (suc n) (c ∷ cs) [] = ap (λ (t : List Marked). live c ∷ t) (front_marked n cs [])
front_marked (suc n) (c ∷ cs) (m ∷ ms) = ap (λ (t : List Marked). mark m c ∷ t) (front_marked n cs ms)

pub part_marked : (a n : ℕ) (xs ms : List ℕ) → marked (take n (drop a xs)) (drop a ms) ≡ take n (drop a (marked xs ms))
part_marked a n xs ms = front_marked n (drop a xs) (drop a ms) ∙ ap (take n) (sym (marked_drop a xs ms))
