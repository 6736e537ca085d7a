-- Where the keywords of a SELECT INTO stand. Assumes nothing.
use Rattle.std.specs.Prelude.{◌≡◌, ℕ, ◌+◌, ◌≤◌, List, length, Option}
use Rattle.spec.specs.Map.{Marked}
use Rattle.spec.specs.SelectInto.{place_or, select_cut, select_statement}

-- the statement t is cut at SELECT, INTO and perhaps FROM, which stand in it
pub record CutAt (t : List Marked) (select into : ℕ) (from : Option ℕ) : Type 0 where
  pub cut : select_statement t ≡ select_cut select into from t
  pub select_in_bounds : select + 6 ≤ length t
  pub into_in_bounds : into + 4 ≤ length t
  pub from_in_bounds : place_or from 0 ≤ length t
