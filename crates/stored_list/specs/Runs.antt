-- Texts by run lengths: COUNT HEX COUNT HEX .. in the fields of a line behind the first. Assumes nothing.
use Rattle.std.specs.Prelude.{ℕ, zero, suc, ◌+◌, ◌*◌, cond, List, [], ◌++◌, take}
use Rattle.spec.specs.Lists.{is_empty}
use Rattle.stored_list.specs.Fields.{field_of}
use Rattle.stored_list.specs.Numbers.{hex_bytes, counted}

-- so many times the same bytes
unfoldable pub repeated : ℕ → List ℕ → List ℕ
repeated zero xs = []
repeated (suc n) xs = xs ++ repeated n xs

-- the text of a run has at most so many bytes
abbrev pub run_limit : ℕ
run_limit = 4096

-- so many times the bytes that hex digits stand for
abbrev pub hex_run : ℕ → List ℕ → List ℕ
hex_run n hex = repeated n (take run_limit (hex_bytes hex))

-- the run with this number, counted from 0: its COUNT, then its HEX
unfoldable pub run_at : ℕ → List ℕ → List ℕ
run_at j line = hex_run (counted (field_of (2 * j + 1) line)) (field_of (2 * j + 2) line)

-- n runs from this number on, or those up to an empty COUNT
unfoldable pub runs_from : ℕ → ℕ → List ℕ → List ℕ
runs_from zero j line = []
runs_from (suc n) j line =
    let more = run_at j line ++ runs_from n (j + 1) line in
    cond (is_empty (field_of (2 * j + 1) line)) [] more

-- the text of a line; it has at most 500 runs
unfoldable pub runs_of : List ℕ → List ℕ
runs_of line = runs_from 500 0 line
