-- The FROM part and the last line, by offsets, and the lengths of parts. Assumes nothing.
use mathlib.Core.Path.{◌≡◌, sym, ap, ◌∙◌}
use mathlib.Core.Bool.{not}
use mathlib.Core.List.{List}
use Prim.Native.Nat.{ℕ, ◌+◌, ◌≤◌}
use native.Mathlib.Omega.{arith}
use lib.Dec.{eqb}
use lib.ListN.{length, take, drop, length-take, length-drop}
use lib.Seq.{take-take}
use Rattle.spec.proofs.EndLaws.{drop_end_take, end_drop}
use Rattle.spec.proofs.ListLaws.{drop_end_le}
use Rattle.spec.specs.Bytes.{is_w}
use Rattle.spec.specs.Lists.{drop_end}
use Rattle.set_lines.specs.Lines.{Shared, shared_by}
use Rattle.spec.proofs.RunPlaces.{start_from}
use Rattle.runs.proofs.RunLaws.{start_whole}
use Rattle.select_into.specs.Pairs.{last_line, from_text}

-- it is a front of what stands from FROM on
from_front : (xs : List ℕ) → from_text xs ≡ take (length (from_text xs)) xs
unfolding from_text
from_front xs =
    let k = length (drop_end is_w xs) in
    let g = drop_end (λ c. eqb c 59) (drop_end is_w xs) in
    drop_end_take (λ c. eqb c 59) (drop_end is_w xs)
    ∙ (ap (take (length g)) (drop_end_take is_w xs) ∙ take-take (length g) k xs (drop_end_le (λ c. eqb c 59) (drop_end is_w xs)))

-- it is cut out where its W and then its `;` start
pub from_cut : (xs : List ℕ) (k r : ℕ) → k ≡ start_from is_w xs (length xs) → r ≡ start_from (λ c. eqb c 59) xs k → take r xs ≡ from_text xs
unfolding from_text
from_cut xs k r e q =
    let w = (start_whole is_w xs k e).1 in
    rw q (ap (λ (l : List ℕ). take (length (drop_end (λ c. eqb c 59) l)) xs) w ∙ sym (from_front xs))

pub from_short : (xs : List ℕ) → length (from_text xs) ≤ length xs
unfolding from_text
from_short xs = omega (arith, drop_end_le (λ c. eqb c 59) (drop_end is_w xs), drop_end_le is_w xs)

-- the last line is cut out where it starts
pub last_cut : (xs : List ℕ) (k : ℕ) → k ≡ start_from (λ c. not (eqb c 10)) xs (length xs) → drop k xs ≡ last_line xs
unfolding last_line
last_cut xs k e =
    ap (λ (n : ℕ). drop n xs) (start_whole (λ c. not (eqb c 10)) xs k e).0 ∙ sym (end_drop (λ c. not (eqb c 10)) xs)

-- a part is no longer than the list
pub part_short : {A : Type 0} (n a : ℕ) (xs : List A) → length (take n (drop a xs)) ≤ length xs
part_short n a xs = omega (arith, length-take n (drop a xs), length-drop a xs)

-- the parts that the lines share are no longer than those that they come from
pub shared_short : (h : Shared) (w from indent : List ℕ) → h ≡ shared_by w from indent
    → length h.with_text + length h.from_text + length h.indent ≤ length w + length from + length indent
shared_short h w from indent e =
    omega (
      arith,
      ap (λ (s : Shared). length s.with_text) e,
      ap (λ (s : Shared). length s.from_text) e,
      ap (λ (s : Shared). length s.indent) e,
      drop_end_le is_w from,
    )
