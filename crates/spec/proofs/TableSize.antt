-- How many lines of different levels there can be, and how long they are. Assumes nothing.
use Rattle.std.specs.Prelude.{Option, Some, None}
use mathlib.Core.Path.{◌≡◌, ap, ◌∙◌}
use mathlib.Core.List.{List, [], ◌∷◌}
use Prim.Native.Nat.{ℕ, suc, ◌*◌, ◌≤◌}
use native.Mathlib.Omega.{arith}
use lib.ListN.{length, length-append}
use Rattle.spec.proofs.LineLaws.{entry, text_size}
use Rattle.spec.proofs.ListLaws.{total_le}
use Rattle.spec.proofs.TableLines.{table_text, Stands, Different, each_level, given_none, given_some}
use Rattle.spec.specs.Bytes.{is_same}
use Rattle.spec.specs.Lists.{concat, total}
use Rattle.spec.specs.Levels.{level_name, is_level, Entry, line_text, all_levels, given_action}
use Rattle.spec.specs.declared.Level.{Level}
use Rattle.spec.specs.declared.Action.{Action}
use Rattle.spec.specs.declared.Action.TheVariants.{Drop}

abbrev counted : Option Action → ℕ
counted None = 0
counted (Some a) = 1

-- how many levels the lines give an action
abbrev level_count : List Entry → ℕ
level_count es = total (λ (l : Level). counted (given_action es l)) all_levels

counted_le : (o : Option Action) → counted o ≤ 1
counted_le None = omega arith
counted_le (Some a) = omega arith

-- a line of a new level gives one more
one_more_lem : (es : List Entry) (l : Level) (a : Action) → given_action es l ≡ None → level_count (entry l a ∷ es) ≡ suc (level_count es)
unfolding total all_levels given_action is_level level_name is_same
one_more_lem es =
    each_level (λ l. (a : Action) → given_action es l ≡ None → level_count (entry l a ∷ es) ≡ suc (level_count es))
    (λ a h. omega (arith, ap counted h))
    (λ a h. omega (arith, ap counted h))
    (λ a h. omega (arith, ap counted h))
    (λ a h. omega (arith, ap counted h))
    (λ a h. omega (arith, ap counted h))
    (λ a h. omega (arith, ap counted h))

count_length : (es : List Entry) → Different es → level_count es ≡ length es
unfolding total all_levels given_action
count_length [] d = omega arith
count_length (e ∷ es) d = one_more_lem es e.level e.action (given_none es e.level d.0) ∙ ap suc (count_length es d.1)

-- there are at most six
pub at_most_six : (es : List Entry) → Different es → length es ≤ 6
unfolding total all_levels
at_most_six es d =
    omega (arith, count_length es d, total_le (λ (l : Level). counted (given_action es l)) (λ l. 1) (λ l. counted_le (given_action es l)) all_levels)

-- and with a level missing at most five
pub at_most_five : (es : List Entry) (l : Level) → Different es → (Stands l es → ⊥) → length es ≤ 5
at_most_five es l d w = omega (arith, at_most_six (entry l Drop ∷ es) (w, d))

-- where every level stands, there are six
pub all_six : (es : List Entry) → Different es → ((l : Level) → Stands l es) → length es ≡ 6
unfolding total all_levels
all_six es d s =
    let each : (l : Level) → 1 ≤ counted (given_action es l) = λ l. omega (arith, ap counted (given_some es l (s l)).1) in
    omega (arith, count_length es d, at_most_six es d, total_le (λ (l : Level). 1) (λ l. counted (given_action es l)) each all_levels)

-- a line has at most 19 bytes
pub lines_size : (es : List Entry) → length (table_text es) ≤ 19 * length es
unfolding concat
lines_size [] = omega arith
lines_size (e ∷ es) = omega (arith, lines_size es, text_size e, length-append (line_text e) (table_text es))
