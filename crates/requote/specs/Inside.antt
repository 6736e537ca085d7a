-- Where the inside of a span ends. Assumes nothing.
use Rattle.std.specs.Prelude.{ℕ, ◌+◌}
use Rattle.spec.specs.declared.Span.{Span}
use Rattle.spec.specs.declared.Span.TheVariants.{Verbatim, Dollar, Code}

-- counted from the span's start; 0 for a span that has no inside
abbrev pub inside_end : Span → ℕ
inside_end (Verbatim n) = 0
inside_end (Dollar d) = d.inner_start + d.inner_len
inside_end (Code n) = 0
