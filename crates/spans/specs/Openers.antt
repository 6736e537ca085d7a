-- The bytes that a span of more than one byte can start with. Assumes nothing.
use Rattle.std.specs.Prelude.{ℕ, Bool, ◌||◌, eqb}

-- document 01, spans: `--`, `/*`, the two quotes and a dollar literal start with `-`, `/`, `'`, `"` or `$`
unfoldable pub opens_span : ℕ → Bool
opens_span b = eqb b 45 || (eqb b 47 || (eqb b 39 || (eqb b 34 || eqb b 36)))
