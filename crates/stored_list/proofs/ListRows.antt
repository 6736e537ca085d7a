-- Worked examples of the definitions, by computation. Assumes nothing.
use mathlib.Core.Path.{◌≡◌, refl}
use mathlib.Core.Bool.{true, false}
use mathlib.Core.List.{[], ◌∷◌}
use lib.Dec.{eqb}
use Rattle.std.proofs.Common.{Some, None}
use Rattle.spec.specs.Bytes.{ascii, within}
use Rattle.spec.specs.Lists.{is_empty}
use Rattle.stored_list.specs.Fault.{other, changed_at, injected}
use Rattle.stored_list.specs.Fields.{part_of, place_of, field_of}
use Rattle.stored_list.specs.Numbers.{hex_digit, hex_pair, hex_bytes, with_digit, with_digits, number_of, numbers_of}
use Rattle.stored_list.specs.Runs.{repeated, run_at, runs_from, runs_of}
use Rattle.stored_list.specs.Marks.{holds_only}
use Rattle.stored_list.specs.Tally.{noted}

fields : (field_of 0 (ascii "k 42 1") ≡ ascii "k") × (field_of 1 (ascii "k 42 1") ≡ ascii "42") × (field_of 3 (ascii "k 42 1") ≡ [])
fields = (refl, refl, refl)

places : (place_of 32 2 (ascii "k 42 1") ≡ 4) × (place_of 32 5 (ascii "k 42 1") ≡ 6) × (place_of 32 9 (ascii "k 42 1") ≡ 9)
unfolding place_of
places = (refl, refl, refl)

parts : (part_of 2 4 (ascii "k 42 1") ≡ ascii "42") × (part_of 4 2 (ascii "k 42 1") ≡ []) × (part_of 2 7 (ascii "k 42 1") ≡ [])
unfolding part_of
parts = (refl, refl, refl)

-- a number, none, one with a byte that is no digit, and one of eight digits
numbers : (number_of (ascii "9999999") ≡ Some 9999999) × (number_of [] ≡ None) × (number_of (ascii "1x") ≡ None)
    × (number_of (ascii "10000000") ≡ None)
unfolding number_of with_digits with_digit within
numbers = (refl, refl, refl, refl)

records : numbers_of (ascii "n 2 0 x") ≡ 2 ∷ 0 ∷ 99999999 ∷ []
unfolding number_of with_digits with_digit within
records = refl

-- two letters, a byte over 127, and the empty text
runs : runs_of (ascii "t 2 61 1 c8 0 61 1 -") ≡ 97 ∷ 97 ∷ 200 ∷ []
unfolding runs_of runs_from run_at repeated hex_bytes hex_pair hex_digit number_of with_digits with_digit within is_empty
runs = refl

marks : (holds_only eqb 0 1 3 (7 ∷ 0 ∷ 0 ∷ 7 ∷ []) ≡ true) × (holds_only eqb 0 1 4 (7 ∷ 0 ∷ 0 ∷ 7 ∷ []) ≡ false)
    × (holds_only eqb 0 1 9 (7 ∷ 0 ∷ []) ≡ true)
unfolding holds_only
marks = (refl, refl, refl)

tallies : (noted 1 true (record { compared = 0; differ = 0 } ∷ record { compared = 5; differ = 1 } ∷ []) ≡ record { compared = 0; differ = 0 } ∷ record { compared = 6; differ = 1 } ∷ [])
    × (noted 0 false (record { compared = 5; differ = 1 } ∷ []) ≡ record { compared = 6; differ = 2 } ∷ [])
unfolding changed_at
tallies = (refl, refl)

-- the place is changed in the buffer of that number alone, and past the end there is none
faults : (injected other 4 (Some (record { buffer = 4; place = 1 })) (7 ∷ 1 ∷ []) ≡ 7 ∷ 2 ∷ []) × (injected other 3 (Some (record { buffer = 4; place = 1 })) (7 ∷ 1 ∷ []) ≡ 7 ∷ 1 ∷ [])
    × (injected other 4 (Some (record { buffer = 4; place = 2 })) (7 ∷ 1 ∷ []) ≡ 7 ∷ 1 ∷ [])
unfolding changed_at
faults = (refl, refl, refl)
