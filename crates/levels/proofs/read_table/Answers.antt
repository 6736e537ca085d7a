-- `levels::read_table` meets its contract. The loop's invariant: the table says what the text that is left says, behind the lines
-- read, and the actions given are those of the lines read. Assumes nothing.
use Rattle.std.specs.Prelude.{Some, None, Option, is_some}
use Rattle.std.proofs.lemmas.List.{take_rest}
use mathlib.Core.Bool.{true, false, false≢true}
use mathlib.Core.Path.{◌≡◌, refl, sym, ap, ◌∙◌}
use mathlib.Core.List.{[], ◌∷◌, List}
use Prim.Native.Nat.{ℕ, ◌+◌, ◌-◌, ◌≤◌, ◌<◌}
use native.Mathlib.Omega.{arith}
use borrow.Author.Rules.{rules}
use lib.ListN.{length, take, drop, length-drop}
use Rattle.spec.proofs.LineLaws.{entry, text_size}
use Rattle.spec.specs.Levels.{line_text, all_entries, given_action, table_of, table_end}
use Rattle.spec.specs.Raise.{at_level, with_level}
use Rattle.spec.specs.declared.Action.{Action}
use Rattle.spec.specs.declared.ByLevel.{ByLevel}
use Rattle.levels.specs.Lines.{ahead, completed}
use Rattle.levels.proofs.AheadLaws.{line_found_lem}
use Rattle.levels.proofs.GivenLaws.{given_start, given_by_lem, given_more, completed_by}
use Rattle.levels.proofs.TurnLaws.{says, says_end, line_fits, says_on}
use Rattle.levels.proofs.read_table.Goals as goal
use Rattle.levels.proofs.read_table.Goals.{In_ok-line, After-get}

-- what the line says, and its length
lined : (c : goal.In_ok-line) →
    let e = entry c.in_ok-line.line.level c.in_ok-line.line.action in
    (ahead line_text all_entries c.loop-rest.rest.now ≡ Some e) × (c.in_ok-line.line.len ≡ length (line_text e))
lined c = line_found_lem _ _ (sym c.read_line.ensures ∙ search rules)

-- the action that its level has by then
had : (c : goal.After-get) → c.get.result ≡ given_action c.loop-rest.invariant.0 c.in_ok-line.line.level
had c =
    let level = c.in_ok-line.line.level in
    c.get.ensures ∙ (ap (λ (g : ByLevel (Option Action)). at_level g level) c.loop-rest.invariant.2 ∙ given_by_lem c.loop-rest.invariant.0 level)

-- the line stands within the text
within : (c : goal.In_ok-line) → c.in_ok-line.line.len ≤ length c.loop-rest.rest.now
within c = omega (arith, (lined c).1, line_fits c.loop-rest.invariant.0 0 _ _ (lined c).0)

-- an action that is not given
module _ (o p : Option Action) (e : o ≡ p) where
  none_given : is_some o ≡ false → p ≡ None
  none_given h = go p refl
    where
      go : (q : Option Action) → p ≡ q → p ≡ None
      go (Some a) k = let some : is_some o ≡ true = ap is_some (e ∙ k) in absurd (false≢true (sym h ∙ some))
      go None k = k

pub loop-rest-init : goal.loop-rest-init
unfolding table_of
loop-rest-init c =
    let n = length c.args.table.now in
    let start : n - n ≡ 0 = omega arith in
    ([], omega arith, c.all-given.ensures ∙ sym given_start, ap (λ (k : ℕ). says [] k c.args.table.now) (sym start))

-- what is left behind the line
left : (n k : ℕ) (xs : List ℕ) → 0 < k → k ≤ length xs → length xs ≤ n →
    let rest = take (length xs - k) (drop k xs) in (length rest < length xs) × (n - length rest ≡ n - length xs + k)
left n k xs a b c = let e = take_rest xs k in rw e (omega (arith, length-drop k xs), omega (arith, length-drop k xs))

pub loop-rest-preserved : goal.loop-rest-preserved
loop-rest-preserved c =
    let i = c.loop-rest.invariant in
    let n = length c.args.table.now in
    let xs = c.loop-rest.rest.now in
    let len = c.in_ok-line.line.len in
    let level = c.in_ok-line.line.level in
    let action = c.in_ok-line.line.action in
    let es = entry level action ∷ i.0 in
    let line = lined (goal.at.loop-rest-preserved c).In_ok-line in
    let missing = none_given _ _ (had (goal.at.loop-rest-preserved c).After-get) (sym c.is_some.ensures ∙ c.if-is_some.false) in
    let behind = left n len xs (omega (arith, line.1, text_size (entry level action))) (within (goal.at.loop-rest-preserved c).In_ok-line) i.1 in
    let given = ap (λ (g : ByLevel (Option Action)). with_level g level (Some action)) i.2 in
    let more = says_on i.0 (n - length xs) xs (entry level action) line.0 missing in
    let moved = ap (λ (k : ℕ). says es (n - length xs + k) (drop k xs)) (sym line.1) in
    let cut = ap (λ (l : List ℕ). says es (n - length xs + len) l) (sym (take_rest xs len)) in
    let at = ap (λ (k : ℕ). says es k (take (length xs - len) (drop len xs))) (sym behind.1) in
    (es, omega (arith, behind.0, i.1), c.with-given.ensures ∙ (given ∙ given_more i.0 level action), i.3 ∙ (more ∙ (moved ∙ (cut ∙ at))))

pub returns : goal.returns
returns c =
    let i = c.loop-rest.invariant in
    let n = length c.args.table.now in
    let none : length c.loop-rest.rest.now ≡ 0 = search rules in
    let end : n - length c.loop-rest.rest.now ≡ n = omega arith in
    c.complete.ensures
    ∙ (ap (λ (g : ByLevel (Option Action)). completed g n) i.2
    ∙ (completed_by i.0 n
    ∙ (ap (λ (k : ℕ). table_end i.0 k) (sym end) ∙ sym (i.3 ∙ says_end i.0 _ c.loop-rest.rest.now none))))
