-- Document 01, "Joining": whether a body is closed, as a yes/no search answers it, and one RAISE of it. Assumes nothing.
use Rattle.std.specs.Prelude.{ℕ, Bool, not, ◌+◌, ◌&&◌, List, [], reverse, take, drop, Option, Result}
use Rattle.spec.specs.Answers.{map_check, if_passed, yes_no}
use Rattle.spec.specs.Bytes.{ascii, is_ident}
use Rattle.spec.specs.Closed.{is_closed, is_followed}
use Rattle.spec.specs.Map.{Marked, front_byte}
use Rattle.spec.specs.Search.{word_here}
use Rattle.spec.specs.declared.Refusal.{Refusal}

-- the checks of a search that is lent a map come first
unfoldable pub closed_answer : List ℕ → List ℕ → Result (Option ℕ) Refusal
closed_answer xs lent = if_passed (map_check xs lent []) (yes_no (is_closed xs))

-- a RAISE stands at i that has something else behind it
abbrev pub is_unfollowed_raise : List Marked → ℕ → Bool
is_unfollowed_raise t i = word_here is_ident (ascii "RAISE") (front_byte (reverse (take i t))) (drop i t) && not (is_followed (drop (i + 5) t))
