-- A byte that opens no span is a live byte, and at a `$` a dollar literal alone can open. Assumes nothing.
use mathlib.Core.Path.{◌≡◌, refl}
use mathlib.Core.Bool.{false, cond}
use mathlib.Core.List.{List}
use Prim.Native.Nat.{ℕ, ◌+◌}
use native.Mathlib.Omega.{arith}
use borrow.Author.Tests.{eqb-false}
use lib.Dec.{eqb}
use lib.ListN.{drop, get_or}
use Rattle.std.proofs.lemmas.Bool.{or_parts}
use Rattle.spec.proofs.SpanLaws.{line_le, pair_two, at_line, at_block, at_single, at_double, at_opened, at_code}
use Rattle.spec.specs.Bytes.{is_pair}
use Rattle.spec.specs.Spans.{tag_len, opens_dollar, dollar_of, span_at}
use Rattle.spec.specs.declared.Span.TheVariants.{Dollar, Code}
use Rattle.spans.specs.Openers.{opens_span}

-- no pair starts with another byte
pair_off : (x y c d : ℕ) → eqb c x ≡ false → is_pair x y c d ≡ false
unfolding is_pair
pair_off x y c d e = rw e refl

pub at_plain : (xs : List ℕ) (c : ℕ) → c ≡ get_or xs 0 0 → opens_span c ≡ false → span_at xs ≡ Code 1
unfolding opens_span
at_plain xs c h e =
    let dash = or_parts (eqb c 45) _ e in
    let slash = or_parts (eqb c 47) _ dash.1 in
    let single = or_parts (eqb c 39) _ slash.1 in
    let quotes = or_parts (eqb c 34) (eqb c 36) single.1 in
    at_code xs c (get_or xs 1 0) h refl (pair_off 45 45 c _ dash.0) (pair_off 47 42 c _ slash.0) (eqb-false c 39 single.0)
    (eqb-false c 34 quotes.0) (eqb-false c 36 quotes.1)

pub at_sign : (xs : List ℕ) (c : ℕ) → c ≡ get_or xs 0 0 → c ≡ 36
    → span_at xs ≡ cond (opens_dollar xs) (Dollar (dollar_of (2 + tag_len (drop 1 xs)) xs)) (Code 1)
at_sign xs c h e =
    let dash : eqb c 45 ≡ false = rw e refl in
    let slash : eqb c 47 ≡ false = rw e refl in
    at_opened xs c (get_or xs 1 0) h refl (pair_off 45 45 c _ dash) (pair_off 47 42 c _ slash) (λ q. omega (arith, e, q)) (λ q. omega (arith, e, q))

-- the span in front by the tests on its bytes
pub ruleset span_laws = (at_plain, at_sign, line_le, pair_two, at_line, at_block, at_single, at_double, at_code)
