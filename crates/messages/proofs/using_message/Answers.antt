-- `messages::using_message` meets its contract: at each return the law of `UsingLaws` for the tests that passed before it.
-- Assumes nothing.
use mathlib.Core.Path.{sym, ◌∙◌}
use Rattle.messages.proofs.UsingLaws.{no_message, no_equals, no_quote, more_behind, message_last}
use Rattle.messages.proofs.using_message.Goals as goal

pub returns-then-not-starts_ignoring_case-clause-t_value :
    goal.returns-then-not-starts_ignoring_case-clause-t_value
returns-then-not-starts_ignoring_case-clause-t_value c =
    λ w t e. no_message w t c.args.content.now e _ c.run_end-a.ensures.value (sym c.starts_ignoring_case.ensures ∙ c.if-not-starts_ignoring_case.true)

pub returns-then-byte_at-ne61-clause-t_value : goal.returns-then-byte_at-ne61-clause-t_value
returns-then-byte_at-ne61-clause-t_value c =
    let named = sym c.starts_ignoring_case.ensures ∙ c.if-not-starts_ignoring_case.false in
    λ w t e. no_equals w t c.args.content.now e _ c.run_end-a.ensures.value named _ c.run_end-b.ensures.value (λ q. c.if-byte_at-ne61.true (c.byte_at.ensures ∙ q))

pub returns-then-byte_at-ne39-clause-t_value : goal.returns-then-byte_at-ne39-clause-t_value
returns-then-byte_at-ne39-clause-t_value c =
    let named = sym c.starts_ignoring_case.ensures ∙ c.if-not-starts_ignoring_case.false in
    let equals = sym c.byte_at.ensures ∙ c.if-byte_at-ne61.false in
    λ w t e. no_quote w t c.args.content.now e _ c.run_end-a.ensures.value named _ c.run_end-b.ensures.value equals _ c.run_end-from.ensures.value
    (λ q. c.if-byte_at-ne39.true (c.byte_at-2.ensures ∙ q))

pub returns-then-run_end-content-clause-t_value : goal.returns-then-run_end-content-clause-t_value
returns-then-run_end-content-clause-t_value c =
    let named = sym c.starts_ignoring_case.ensures ∙ c.if-not-starts_ignoring_case.false in
    let equals = sym c.byte_at.ensures ∙ c.if-byte_at-ne61.false in
    let quoted = sym c.byte_at-2.ensures ∙ c.if-byte_at-ne39.false in
    λ w t e. more_behind w t c.args.content.now e _ c.run_end-a.ensures.value named _ c.run_end-b.ensures.value equals _ c.run_end-from.ensures.value quoted _
    c.extract_first_string_literal-message.ensures _ c.run_end.ensures.value c.if-run_end-content.true

pub returns-clause-t_value : goal.returns-clause-t_value
returns-clause-t_value c =
    let named = sym c.starts_ignoring_case.ensures ∙ c.if-not-starts_ignoring_case.false in
    let equals = sym c.byte_at.ensures ∙ c.if-byte_at-ne61.false in
    let quoted = sym c.byte_at-2.ensures ∙ c.if-byte_at-ne39.false in
    λ w t e. message_last w t c.args.content.now e _ c.run_end-a.ensures.value named _ c.run_end-b.ensures.value equals _ c.run_end-from.ensures.value quoted _
    c.extract_first_string_literal-message.ensures _ c.run_end.ensures.value c.if-run_end-content.false
