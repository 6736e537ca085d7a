-- One turn of the reading: what is said by the text that is left, which lies at an offset, by the line in front. Assumes nothing.
use Rattle.std.specs.Prelude.{Some, None, Result, Err}
use mathlib.Core.Path.{◌≡◌, sym, ap, ◌∙◌}
use mathlib.Core.Bool.{true, false≢true}
use mathlib.Core.List.{List, [], ◌∷◌, ◌++◌}
use Prim.Native.Nat.{ℕ, ◌+◌, ◌≤◌, ◌<◌}
use native.Mathlib.Omega.{arith}
use lib.ListN.{length, drop, length-append}
use Rattle.spec.proofs.LineLaws.{no_lines, text_first, from_text_lem, from_malformed}
use Rattle.spec.proofs.PrefixLaws.{prefix_split, prefix_front}
use Rattle.spec.specs.Bytes.{is_prefix}
use Rattle.spec.specs.Levels.{Entry, line_text, all_entries, lines_of, given_action, or_repeated, table_end, table_from}
use Rattle.spec.specs.declared.Action.{Action}
use Rattle.spec.specs.declared.Refusal.TheVariants.{MalformedLine, RepeatedLevel}
use Rattle.levels.specs.Lines.{ahead}
use Rattle.levels.proofs.AheadLaws.{ahead_some, no_line_lem}
use Rattle.spec.specs.declared.Refusal.{Refusal}
use Rattle.spec.specs.Raise.{Actions}

-- what is said by the text xs at offset n, behind the lines that said es
abbrev pub says : List Entry → ℕ → List ℕ → Result Actions Refusal
says es n xs = table_from es n (lines_of xs)

module _ (es : List Entry) (n : ℕ) where
  -- no line is left
  pub says_end : (xs : List ℕ) → length xs ≡ 0 → says es n xs ≡ table_end es n
  unfolding table_from
  says_end [] h = rw no_lines
  says_end (x ∷ xs) h = absurd (omega arith)

  module _ (xs : List ℕ) where
    -- no well-formed line stands there: 11
    pub says_malformed : 0 < length xs → ahead line_text all_entries xs ≡ None → says es n xs ≡ Err (MalformedLine n)
    says_malformed h m =
        from_malformed es n xs h (λ e i.
        let stands : is_prefix (line_text e) xs ≡ true = rw (text_first e xs i) (prefix_front (line_text e) _) in
        false≢true (sym (no_line_lem xs m e) ∙ stands))

    module _ (e : Entry) (m : ahead line_text all_entries xs ≡ Some e) where
      cut : xs ≡ line_text e ++ drop (length (line_text e)) xs
      cut = prefix_split (line_text e) xs (ahead_some line_text xs all_entries e m)

      -- the line stands within the text
      pub line_fits : length (line_text e) ≤ length xs
      line_fits = omega (arith, ap length cut, length-append (line_text e) (drop (length (line_text e)) xs))

      says_line : says es n xs ≡ or_repeated n (given_action es e.level) (says (e ∷ es) (n + length (line_text e)) (drop (length (line_text e)) xs))
      says_line = ap (λ (l : List ℕ). says es n l) cut ∙ from_text_lem es n e (drop (length (line_text e)) xs)

      -- its level has an action: 12, else the lines behind it decide
      pub says_repeated : (a : Action) → given_action es e.level ≡ Some a → says es n xs ≡ Err (RepeatedLevel n)
      says_repeated a g = says_line ∙ ap (λ o. or_repeated n o (says (e ∷ es) (n + length (line_text e)) (drop (length (line_text e)) xs))) g

      pub says_on : given_action es e.level ≡ None → says es n xs ≡ says (e ∷ es) (n + length (line_text e)) (drop (length (line_text e)) xs)
      says_on g = says_line ∙ ap (λ o. or_repeated n o (says (e ∷ es) (n + length (line_text e)) (drop (length (line_text e)) xs))) g
