-- A walk from span to span by a cursor. Assumes nothing.
use Rattle.std.specs.Prelude.{ℕ, ◌+◌, cond, List, ltb, length, drop, Option, Some, None}
use Rattle.spec.specs.Spans.{span_at, span_len}
use Rattle.spans.specs.declared.Cursor.{Cursor}
use Rattle.spec.specs.declared.Span.{Span}

-- document 01, "a cursor by value that comes back advanced": the span at an offset and the cursor behind it, or the end
unfoldable pub step_at : List ℕ → ℕ → Option (Span × Cursor)
step_at xs at =
    let s = span_at (drop at xs) in
    let next : Cursor = record { at = at + span_len s } in
    let taken = Some (s, next) in
    cond (ltb at (length xs)) taken None
