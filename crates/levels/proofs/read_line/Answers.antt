-- `levels::read_line` meets its contract. A level and then an action are the line; without one of them no line stands there.
-- Assumes nothing.
use Rattle.std.specs.Prelude.{Some, option_map}
use Rattle.std.proofs.lemmas.List.{take_rest}
use mathlib.Core.Path.{◌≡◌, refl, sym, ap, ◌∙◌}
use Prim.Native.Nat.{ℕ, ◌+◌, ◌-◌, ◌≤◌}
use native.Mathlib.Omega.{arith}
use lib.ListN.{length, take, drop}
use Rattle.spec.proofs.LineLaws.{entry, text_size}
use Rattle.spec.specs.Raise.{action_name}
use Rattle.spec.specs.Levels.{level_name, line_text, all_levels, all_actions}
use Rattle.levels.specs.Lines.{ahead, found_ahead, level_text, action_text, line_of}
use Rattle.levels.specs.declared.Line.{Line}
use Rattle.levels.proofs.AheadLaws.{level_found_lem, action_found_lem, found_none, line_length, line_no_level, level_fits, line_no_action, line_whole}
use borrow.Author.Rules.{rules}
use Rattle.levels.proofs.read_line.Goals as goal
use Rattle.levels.proofs.read_line.Goals.{In_ok-level, After-ahead-2, In_ok-action}

-- the level in front, and where it ends
levelled : (c : goal.In_ok-level) →
    (ahead level_text all_levels c.args.text.now ≡ Some c.in_ok-level.level) × (c.in_ok-level.n ≡ length (level_text c.in_ok-level.level))
unfolding all_levels level_text level_name
levelled c = level_found_lem _ _ (sym (c.ahead.ensures level_text all_levels refl) ∙ c.in_ok-level.was)

within : (c : goal.In_ok-level) → c.in_ok-level.n ≤ length c.args.text.now
within c = omega (arith, (levelled c).1, level_fits _ _ (levelled c).0)

-- what is said of the text behind the level
behind : (c : goal.After-ahead-2) → c.in_ok-level.n ≡ length (level_text c.in_ok-level.level) →
    c.ahead-2.result ≡ found_ahead action_text all_actions (drop (length (level_text c.in_ok-level.level)) c.args.text.now)
unfolding all_actions action_text action_name
behind c ends =
    let xs = c.args.text.now in
    let end = c.in_ok-level.n in
    let h : c.ahead-2.result ≡ found_ahead action_text all_actions (take (length xs - end) (drop end xs)) = c.ahead-2.ensures action_text all_actions refl in
    rw (take_rest, ends) at h

-- the action behind it, and where that ends
acted : (c : goal.In_ok-action) → c.ahead-2.result ≡ found_ahead action_text all_actions (drop (length (level_text c.in_ok-level.level)) c.args.text.now) →
    let rest = drop (length (level_text c.in_ok-level.level)) c.args.text.now in
    (ahead action_text all_actions rest ≡ Some c.in_ok-action.action) × (c.in_ok-action.m ≡ length (action_text c.in_ok-action.action))
acted c said = action_found_lem _ _ (sym said ∙ c.in_ok-action.was)

size : (c : goal.In_ok-action) → c.in_ok-level.n ≡ length (level_text c.in_ok-level.level) → c.in_ok-action.m ≡ length (action_text c.in_ok-action.action) →
    c.in_ok-level.n + c.in_ok-action.m ≡ length (line_text (entry c.in_ok-level.level c.in_ok-action.action))
size c a b = omega (arith, a, b, line_length c.in_ok-level.level c.in_ok-action.action)

pub returns-in_err-level : goal.returns-in_err-level
unfolding all_levels level_text level_name
returns-in_err-level c =
    c.from_residual.ensures ∙ sym (ap (option_map line_of) (line_no_level _ (found_none _ _ (sym (c.ahead.ensures level_text all_levels refl) ∙ c.in_err-level.was))))

pub slice_bounds-ahead-count : goal.slice_bounds-ahead-count
slice_bounds-ahead-count c = within c

pub slice_bounds-ahead-start : goal.slice_bounds-ahead-start
slice_bounds-ahead-start c =
    let h = within c in search rules

pub returns-in_err-action : goal.returns-in_err-action
returns-in_err-action c =
    let l = levelled (goal.at.returns-in_err-action c).In_ok-level in
    let said = behind (goal.at.returns-in_err-action c).After-ahead-2 l.1 in
    c.from_residual-in_err-action.ensures ∙ sym (ap (option_map line_of) (line_no_action _ _ l.0 (found_none _ _ (sym said ∙ c.in_err-action.was))))

pub overflow_add-result : goal.overflow_add-result
overflow_add-result c =
    let l = levelled (goal.at.overflow_add-result c).In_ok-level in
    let a = acted c (behind (goal.at.overflow_add-result c).After-ahead-2 l.1) in
    omega (arith, size c l.1 a.1, text_size (entry c.in_ok-level.level c.in_ok-action.action))

pub returns : goal.returns
returns c =
    let level = c.in_ok-level.level in
    let action = c.in_ok-action.action in
    let l = levelled (goal.at.returns c).In_ok-level in
    let a = acted c (behind (goal.at.returns c).After-ahead-2 l.1) in
    let line : ℕ → Line = λ n. record { level = level; action = action; len = n } in
    ap (λ (n : ℕ). Some (line n)) (size c l.1 a.1) ∙ ap (option_map line_of) (sym (line_whole _ level l.0 action a.0))
