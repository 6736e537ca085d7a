-- `declared_parts::inside_whole` meets its contract: `inside_by` by its test. Assumes nothing.
use Rattle.std.proofs.Common.{rules, arith, length, ◌≡◌, ◌+◌}
use Rattle.std.proofs.lemmas.Option.{IfSome_then}
use Rattle.std.proofs.lemmas.List.{take_rest}
use Rattle.runs.proofs.RunLaws.{end_le}
use Rattle.spec.specs.Bytes.{is_ident}
use Rattle.spec.specs.Declarations.{delimiter_of}
use Rattle.declared_parts.specs.DeclaredParts.{is_whole}
use Rattle.declared_parts.proofs.WholeLaws.{delimiter_length, inside_by, whole_short, whole_first, whole_last, whole_same}
use Rattle.declared_parts.proofs.inside_whole.Goals.{then-d-text, else-d-text, then-text-eq36, else-text-eq36, then-text-d-eq36, else-text-d-eq36}
use Rattle.declared_parts.proofs.inside_whole.Goals as goal

pub overflow_add-d : goal.overflow_add-d
overflow_add-d c = omega (arith, c.run_end.ensures.value, end_le is_ident c.args.text.now 1)

pub returns : goal.returns
returns c =
    let xs = c.args.text.now in
    let n = c.run_end.result + 1 in
    let d : n ≡ length (delimiter_of xs) = omega (arith, c.run_end.ensures.value, delimiter_length xs) in
    let test : c.if-text-d-eq36.is_whole ≡ is_whole (delimiter_of xs) xs =
    elim c.if-text-d-eq36.branch [
      | then-text-d-eq36 w ↦ elim c.if-text-eq36.branch [
        | then-text-eq36 v ↦ elim c.if-d-text.branch [ then-d-text u ↦ search (rules, take_rest, whole_short xs n d, whole_first xs n d, whole_last xs n d, whole_same xs n d) | else-d-text u ↦ search (rules, whole_short xs n d, whole_first xs n d, whole_last xs n d, whole_same xs n d) ]
        | else-text-eq36 v ↦ elim c.if-d-text.branch [ then-d-text u ↦ search (rules, take_rest, whole_short xs n d, whole_first xs n d, whole_last xs n d, whole_same xs n d) | else-d-text u ↦ search (rules, whole_short xs n d, whole_first xs n d, whole_last xs n d, whole_same xs n d) ]
      ]
      | else-text-d-eq36 w ↦ elim c.if-text-eq36.branch [
        | then-text-eq36 v ↦ elim c.if-d-text.branch [ then-d-text u ↦ search (rules, take_rest, whole_short xs n d, whole_first xs n d, whole_last xs n d, whole_same xs n d) | else-d-text u ↦ search (rules, whole_short xs n d, whole_first xs n d, whole_last xs n d, whole_same xs n d) ]
        | else-text-eq36 v ↦ elim c.if-d-text.branch [ then-d-text u ↦ search (rules, take_rest, whole_short xs n d, whole_first xs n d, whole_last xs n d, whole_same xs n d) | else-d-text u ↦ search (rules, whole_short xs n d, whole_first xs n d, whole_last xs n d, whole_same xs n d) ]
      ]
    ] in
    inside_by xs n c.if-text-d-eq36.is_whole c.then.result d test c.then.ensures.variant (IfSome_then c.then.result c.then.ensures.some (λ x p. search rules))
