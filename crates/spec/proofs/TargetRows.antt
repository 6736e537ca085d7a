-- Rows on which near readings of document 01's refusal 4 differ, in the words of TargetPlaces: computed by the definitions,
-- then read by TargetLaws. Assumes nothing.
use mathlib.Core.Path.{refl}
use mathlib.Core.List.{List, ◌∷◌, ◌++◌}
use Prim.Native.Nat.{ℕ}
use Prim.Native.String.{String}
use Rattle.spec.proofs.TargetLaws.{statement_target_exactly, statement_target_none}
use Rattle.spec.proofs.TargetPlaces.{IsTargetOf, HasNoTarget}
use Rattle.spec.specs.Bytes.{ascii}
use Rattle.spec.specs.Map.{lives}
use Rattle.spec.specs.Computed.{computed}

-- the live text xs has the target `q.n`
abbrev Has : List ℕ → String → String → Type 0
Has xs q n = IsTargetOf (lives xs) (record { qualifier = lives (ascii q); name = lives (ascii n) })

-- an END with none open takes nothing off the CASE behind it
never_below_zero : HasNoTarget (lives (ascii "END CASE THEN a.b = 1"))
unfolding computed
never_below_zero = (statement_target_none _).0 refl

-- byte 11 is W and not N: it may stand before `:=`, and not before q
eleven_before_assign : Has (ascii "a.b" ++ (11 ∷ ascii ":= 1")) "a" "b"
unfolding computed
eleven_before_assign = (statement_target_exactly _ _).0 refl

eleven_before_qualifier : HasNoTarget (lives (11 ∷ ascii "a.b = 1"))
unfolding computed
eleven_before_qualifier = (statement_target_none _).0 refl

-- `:=` counts before `=`, wherever it stands
assign_first : Has (ascii "a.b = c.d := 1") "c" "d"
unfolding computed
assign_first = (statement_target_exactly _ _).0 refl

-- of three names the last two stand before `:=`, and behind the first two stands no lone `=`
three_names_assign : Has (ascii "a.b.c := 1") "b" "c"
unfolding computed
three_names_assign = (statement_target_exactly _ _).0 refl

three_names_equals : HasNoTarget (lives (ascii "a.b.c = 1"))
unfolding computed
three_names_equals = (statement_target_none _).0 refl
