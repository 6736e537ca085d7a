-- Every definition of document 01 and of the requests, so that a row can be computed: a declaration that says
-- `unfolding computed` unfolds them all. Assumes nothing.
use Rattle.spec.specs.Lists as lists
use Rattle.spec.specs.Bytes as bytes
use Rattle.spec.specs.Spans as spans
use Rattle.spec.specs.Map as map
use Rattle.spec.specs.Search as search
use Rattle.spec.specs.Requote as requote
use Rattle.spec.specs.Elsif as elsif
use Rattle.spec.specs.Outcome as outcome
use Rattle.spec.specs.Assignments as assignments
use Rattle.spec.specs.Parts as parts
use Rattle.spec.specs.SelectInto as select_into
use Rattle.spec.specs.Raise as raise
use Rattle.spec.specs.Levels as levels
use Rattle.spec.specs.Body as body
use Rattle.spec.specs.Declarations as declarations
use Rattle.spec.specs.Closed as closed
use Rattle.spec.specs.Answers as answers

unfoldable in_lists : Unit {0}
unfolding lists.is_empty lists.take_while lists.drop_while lists.drop_end lists.any lists.all lists.keep lists.concat lists.total
in_lists = tt

unfoldable in_bytes : Unit {0}
unfolding bytes.within bytes.is_digit bytes.is_lower bytes.is_upper bytes.is_ident bytes.is_word bytes.is_w bytes.is_n bytes.is_quote bytes.is_high bytes.upper bytes.is_pair bytes.is_prefix bytes.is_same bytes.is_before
in_bytes = tt

unfoldable in_spans : Unit {0}
unfolding spans.line_len spans.comment_len spans.block_len spans.escapes spans.quote_len spans.quoted_len spans.tag_len spans.seek_len spans.opens_dollar spans.dollar_of spans.kind_at spans.span_of spans.span_at spans.lexeme_at spans.lexemes_from spans.lexemes
in_spans = tt

unfoldable in_map : Unit {0}
unfolding map.regions_of map.map_of map.marked map.marked_text map.bytes map.lives map.front_byte map.front_live map.of_byte
in_map = tt

unfoldable in_search : Unit {0}
unfolding search.first_from search.first search.starts_ignoring_case search.starts search.word_here search.keyword_here search.find_keyword search.byte_here search.find_in_code search.needle_here search.find_str_in_code search.next_word search.word_place search.word_text search.onto_first search.pieces_from search.pieces search.starts_from search.split_in_code search.has_unterminated_dollar_quote search.is_word_text search.handler_here search.has_exception_handler
in_search = tt

unfoldable in_requote : Unit {0}
unfolding requote.doubled requote.single_quoted requote.requote_span requote.requote_lexeme requote.requoted requote.quotes_in requote.requoted_span_length requote.requoted_lexeme_length requote.requoted_length
in_requote = tt

unfoldable in_elsif : Unit {0}
unfolding elsif.elsif_from elsif.elsif
in_elsif = tt

unfoldable in_outcome : Unit {0}
unfolding outcome.◌⊕◌ outcome.forget
in_outcome = tt

unfoldable in_assignments : Unit {0}
unfolding assignments.or_else assignments.assign_here assignments.target_before assignments.assign_target assignments.lone_equals assignments.equals_target assignments.markings assignments.marking_here assignments.cases_after assignments.cases_behind assignments.target_past assignments.target_behind assignments.marked_target assignments.statement_target assignments.right_side assignments.starts_name assignments.assignment_at assignments.assignment assignments.checked_statement assignments.statement assignments.join_statements assignments.assignments
in_assignments = tt

unfoldable in_parts : Unit {0}
unfolding parts.trim_end parts.trim
in_parts = tt

unfoldable in_select_into : Unit {0}
unfolding select_into.quote_after select_into.quote_walk select_into.depth_of select_into.top_word_here select_into.comma_here select_into.listed select_into.indentation select_into.has_limit select_into.subquery select_into.set_line select_into.set_lines select_into.pair_up select_into.from_part select_into.front_place select_into.select_cut select_into.into_at select_into.select_at select_into.select_statement select_into.join_selects select_into.select_into
in_select_into = tt

unfoldable in_raise : Unit {0}
unfolding raise.close_len raise.message raise.using_fate raise.raise_fate raise.level_words raise.level_in raise.ends_level raise.level_len raise.content_of raise.action_fate raise.action_name raise.raise_word raise.raise_text raise.raised_at raise.raises_from raise.fate_text raise.token_text raise.join_tokens raise.raise
in_raise = tt

unfoldable in_levels : Unit {0}
unfolding levels.level_name levels.is_level levels.line_text levels.all_levels levels.all_actions levels.all_entries levels.entry_in levels.entry_of levels.lines_of levels.given_action levels.table_end levels.table_from levels.table_of
in_levels = tt

unfoldable in_body : Unit {0}
unfolding body.buffer_size body.requote_pass body.elsif_pass body.assign_pass body.select_pass body.raise_pass body.limited body.and_then body.rewriting
in_body = tt

unfoldable in_declarations : Unit {0}
unfolding declarations.record_width declarations.record_limit declarations.record_numbers declarations.requoted_by declarations.delimiter_of declarations.requoted_default declarations.words declarations.join_words declarations.are_words declarations.is_constant declarations.is_not_null declarations.behind_constant declarations.ahead_of_not_null declarations.declared_of declarations.is_lone declarations.equals_here declarations.default_here declarations.key_length declarations.part_at declarations.declaration declarations.declare declarations.declare_maybe declarations.declare_all declarations.declare_section declarations.records_of declarations.body_from declarations.body_of declarations.packed_record declarations.packed declarations.first_in_order declarations.head_next declarations.next_of declarations.default_numbers declarations.record_at declarations.records_at declarations.numbers_of declarations.chain_from declarations.chain
in_declarations = tt

unfoldable in_closed : Unit {0}
unfolding closed.ends_live closed.is_plain_span closed.ends_word closed.is_followed closed.raises_followed closed.is_closed
in_closed = tt

unfoldable in_answers : Unit {0}
unfolding answers.text_limit answers.search_limit answers.first_high answers.check_of answers.kept_behind answers.zeroed_to answers.map_check answers.map_exit answers.regions_answer answers.keyword_answer answers.byte_answer answers.needle_answer answers.word_answer answers.word_part answers.handler_answer answers.unterminated_answer answers.split_check answers.split_answer answers.split_map_exit answers.split_exit answers.requoted_length_answer answers.requote_check answers.requote_answer answers.requote_exit answers.result_of answers.body_result answers.function_result answers.are_lent answers.body_check answers.body_answer answers.body_output answers.work_exit answers.function_check answers.function_answer answers.function_output answers.function_text answers.function_records
in_answers = tt

unfoldable pub computed : Unit {0}
unfolding in_lists in_bytes in_spans in_map in_search in_requote in_elsif in_outcome in_assignments in_parts in_select_into in_raise in_levels in_body in_declarations in_closed in_answers
computed = tt
