-- Document 01, "Numbers handed back, and the limits", Note 1 for requoting and Note 10 for tables: what each call answers, and what each lent
-- buffer holds at exit, for every text and every length of the lent buffers. Assumes nothing.
use Rattle.std.specs.Prelude.{ℕ, ◌+◌, ◌-◌, Bool, true, false, cond, not, ◌&&◌, List, [], ◌∷◌, ◌++◌, ltb, leb, length, drop, replicate, Option, Some, None, Result, Ok, Err, ⊤}
use Rattle.spec.specs.Bytes.{is_high}
use Rattle.spec.specs.Lists.{take_while}
use Rattle.spec.specs.Map.{map_of}
use Rattle.spec.specs.Search.{find_keyword, find_in_code, find_str_in_code, word_place, word_text, split_in_code, has_unterminated_dollar_quote, has_exception_handler}
use Rattle.spec.specs.Requote.{requoted, requoted_length}
use Rattle.spec.specs.Outcome.{handed_back, accepted, refused, Rewriting}
use Rattle.spec.specs.Raise.{action_of}
use Rattle.spec.specs.Body.{buffer_size, rewriting}
use Rattle.spec.specs.Declarations.{record_limit, record_numbers, Declared, records_of, body_of, packed, numbers_of}
use Rattle.spec.specs.declared.Refusal.{Refusal}
use Rattle.spec.specs.declared.Refusal.TheVariants.{TextTooLong, NotAscii, BufferTooShort, QualifiedTarget, UsingClause, ResultTooLong, TooManyNames, MalformedLine, RepeatedLevel, MissingLevel}
use Rattle.spec.specs.declared.RefusalNumbers.{RefusalNumbers}
use Rattle.spec.specs.Raise.{Actions}
use Rattle.spec.specs.declared.Accepted.{Accepted}

-- the most bytes that a call's text may have, and a search's
unfoldable pub text_limit : ℕ
text_limit = 16384

unfoldable pub search_limit : ℕ
search_limit = 65536

-- the offset of the first byte over 127
unfoldable pub first_high : List ℕ → Option ℕ
first_high xs =
    let n = length (take_while (λ (b : ℕ). not (is_high b)) xs) in
    cond (ltb n (length xs)) (Some n) None

-- refusal 2 at that offset, else what is checked next
abbrev pub ascii_check : Option ℕ → Result ⊤ Refusal → Result ⊤ Refusal
ascii_check (Some i) next = Err (NotAscii i)
ascii_check None next = next

-- the checks before anything is written, in this order: 1 text over the limit, 3 a lent buffer too short,
-- 2 first byte over 127, the text's before the needle's; requoting has its own order, in `requote_check`
unfoldable pub check_of : ℕ → Bool → List ℕ → List ℕ → Result ⊤ Refusal
check_of limit enough xs needle =
    let high = ascii_check (first_high xs) (ascii_check (first_high needle) (Ok tt)) in
    let short = cond enough high (Err BufferTooShort) in
    cond (ltb limit (length xs)) (Err TextTooLong) short

-- a buffer at exit: refusals 1, 3 and 2 write nothing
abbrev pub exit_of : Result ⊤ Refusal → List ℕ → List ℕ → List ℕ
exit_of (Ok tt) after entry = after
exit_of (Err r) after entry = entry

-- in searches what lies past the result keeps its contents
unfoldable pub kept_behind : List ℕ → List ℕ → List ℕ
kept_behind result entry = result ++ drop (length result) entry

-- in the calls the first `size` numbers hold the result and then zeros; beyond that nothing is written
unfoldable pub zeroed_to : ℕ → List ℕ → List ℕ → List ℕ
zeroed_to size result entry = result ++ (replicate (size - length result) 0 ++ drop size entry)

-- ---- searches

-- what is answered: the refusal of the checks, else this
abbrev pub if_passed : {A : Type 0} → Result ⊤ Refusal → A → Result A Refusal
if_passed (Ok tt) a = Ok a
if_passed (Err r) a = Err r

-- a yes/no search: its place is 0
abbrev pub yes_no : Bool → Option ℕ
yes_no true = Some 0
yes_no false = None

-- the part that a search hands back: with a refusal it is empty
abbrev pub part_of : Result ⊤ Refusal → List ℕ → List ℕ
part_of (Ok tt) xs = xs
part_of (Err r) xs = []

-- in searches the map needs the text's length
unfoldable pub map_check : List ℕ → List ℕ → List ℕ → Result ⊤ Refusal
map_check xs lent needle = check_of search_limit (leb (length xs) (length lent)) xs needle

-- the lent map at exit
unfoldable pub map_exit : List ℕ → List ℕ → List ℕ → List ℕ
map_exit xs lent needle = exit_of (map_check xs lent needle) (kept_behind (map_of xs) lent) lent

unfoldable pub regions_answer : List ℕ → List ℕ → Result ℕ Refusal
regions_answer xs lent = if_passed (map_check xs lent []) 0

unfoldable pub keyword_answer : List ℕ → List ℕ → List ℕ → ℕ → Result (Option ℕ) Refusal
keyword_answer xs lent w from = if_passed (map_check xs lent w) (find_keyword xs w from)

unfoldable pub byte_answer : List ℕ → List ℕ → ℕ → Result (Option ℕ) Refusal
byte_answer xs lent b = if_passed (map_check xs lent []) (find_in_code xs b)

unfoldable pub needle_answer : List ℕ → List ℕ → List ℕ → Result (Option ℕ) Refusal
needle_answer xs lent w = if_passed (map_check xs lent w) (find_str_in_code xs w)

unfoldable pub word_answer : List ℕ → List ℕ → ℕ → Result (Option ℕ) Refusal
word_answer xs lent from = if_passed (map_check xs lent []) (word_place xs from)

unfoldable pub word_part : List ℕ → List ℕ → ℕ → List ℕ
word_part xs lent from = part_of (map_check xs lent []) (word_text xs from)

unfoldable pub handler_answer : List ℕ → List ℕ → Result (Option ℕ) Refusal
handler_answer xs lent = if_passed (map_check xs lent []) (yes_no (has_exception_handler xs))

-- the checks of a text without a buffer: 1, then 2
abbrev pub text_check : List ℕ → Result ⊤ Refusal
text_check xs = check_of search_limit true xs []

unfoldable pub unterminated_answer : List ℕ → Result (Option ℕ) Refusal
unterminated_answer xs = if_passed (text_check xs) (yes_no (has_unterminated_dollar_quote xs))

-- the split list needs the text's length plus 1
unfoldable pub split_check : List ℕ → List ℕ → List ℕ → Result ⊤ Refusal
split_check xs lent_map lent_starts =
    check_of search_limit (leb (length xs) (length lent_map) && leb (length xs + 1) (length lent_starts)) xs []

unfoldable pub split_answer : List ℕ → List ℕ → List ℕ → ℕ → Result ℕ Refusal
split_answer xs lent_map lent_starts b = if_passed (split_check xs lent_map lent_starts) (length (split_in_code xs b))

unfoldable pub split_map_exit : List ℕ → List ℕ → List ℕ → List ℕ
split_map_exit xs lent_map lent_starts = exit_of (split_check xs lent_map lent_starts) (kept_behind (map_of xs) lent_map) lent_map

unfoldable pub split_exit : List ℕ → List ℕ → List ℕ → ℕ → List ℕ
split_exit xs lent_map lent_starts b =
    exit_of (split_check xs lent_map lent_starts) (kept_behind (split_in_code xs b) lent_starts) lent_starts

-- Note 1, the call that tells the requoted length
unfoldable pub requoted_length_answer : List ℕ → Result ℕ Refusal
requoted_length_answer xs = if_passed (text_check xs) (requoted_length xs)

-- refusal 3 behind the checks that come first
abbrev pub short_last : Result ⊤ Refusal → Bool → Result ⊤ Refusal
short_last (Ok tt) enough = cond enough (Ok tt) (Err BufferTooShort)
short_last (Err r) enough = Err r

-- Note 1: the output needs just that length, and 2 comes before 3 here
unfoldable pub requote_check : List ℕ → List ℕ → Result ⊤ Refusal
requote_check xs lent = short_last (text_check xs) (leb (requoted_length xs) (length lent))

-- Note 1: the answer is exactly that number
unfoldable pub requote_answer : List ℕ → List ℕ → Result ℕ Refusal
requote_answer xs lent = if_passed (requote_check xs lent) (requoted_length xs)

unfoldable pub requote_exit : List ℕ → List ℕ → List ℕ
requote_exit xs lent = exit_of (requote_check xs lent) (kept_behind (requoted xs) lent) lent

-- ---- the numbers

-- of a refusal: its number, its place, and the length of what the output holds
abbrev pub refusal_numbers : Refusal → RefusalNumbers
refusal_numbers TextTooLong = record { number = 1; place = 0; length = 0 }
refusal_numbers (NotAscii i) = record { number = 2; place = i; length = 0 }
refusal_numbers BufferTooShort = record { number = 3; place = 0; length = 0 }
refusal_numbers (QualifiedTarget q n) = record { number = 4; place = q; length = n }
refusal_numbers (UsingClause n) = record { number = 5; place = 0; length = n }
refusal_numbers ResultTooLong = record { number = 6; place = 0; length = 0 }
refusal_numbers TooManyNames = record { number = 7; place = 0; length = 0 }
refusal_numbers (MalformedLine i) = record { number = 11; place = i; length = 0 }
refusal_numbers (RepeatedLevel i) = record { number = 12; place = i; length = 0 }
refusal_numbers (MissingLevel i) = record { number = 13; place = i; length = 0 }

-- a search gives its number, a found flag and the place; none is an ordinary answer: 0, 0, 0
pub record SearchNumbers : Type 0 where
  pub number : ℕ
  pub found : ℕ
  pub place : ℕ

abbrev pub search_numbers : Result (Option ℕ) Refusal → SearchNumbers
search_numbers (Ok (Some i)) = record { number = 0; found = 1; place = i }
search_numbers (Ok None) = record { number = 0; found = 0; place = 0 }
search_numbers (Err r) = record { number = (refusal_numbers r).number; found = 0; place = (refusal_numbers r).place }

-- the three in this order, as a function hands them back that returns a part of the text
abbrev pub search_list : SearchNumbers → List ℕ
search_list n = n.number ∷ n.found ∷ n.place ∷ []

-- a search that fills a buffer seeks nothing
abbrev pub filled_numbers : Result ℕ Refusal → SearchNumbers
filled_numbers (Ok n) = record { number = 0; found = 0; place = 0 }
filled_numbers (Err r) = record { number = (refusal_numbers r).number; found = 0; place = (refusal_numbers r).place }

-- returned by the calls: number, place, output length, records
pub record CallNumbers : Type 0 where
  pub number : ℕ
  pub place : ℕ
  pub length : ℕ
  pub records : ℕ

abbrev pub call_numbers : Result Accepted Refusal → CallNumbers
call_numbers (Ok a) = record { number = 0; place = 0; length = a.length; records = a.records }
call_numbers (Err r) =
    record { number = (refusal_numbers r).number; place = (refusal_numbers r).place; length = (refusal_numbers r).length; records = 0 }

-- ---- the two calls

-- what a call answers whose checks pass, and what it leaves in front of the zeros
pub record CallResult : Type 0 where
  pub answer : Result Accepted Refusal
  pub output : List ℕ
  pub declared : List ℕ
  pub records : List ℕ

-- a refusal leaves no records and no declaration text
abbrev pub without_records : Refusal → List ℕ → CallResult
without_records r output = record { answer = Err r; output = output; declared = []; records = [] }

unfoldable pub result_of : List Declared → Rewriting → CallResult
result_of ds (accepted ys) =
    record { answer = Ok (record { length = length ys; records = length ds }); output = ys; declared = packed ds; records = numbers_of ds }
result_of ds (refused r) = without_records (handed_back r).refusal (handed_back r).output

-- the body call with these actions: it lends no records and no declaration text, never gives 7, and its count is 0
unfoldable pub body_result : List ℕ → Actions → CallResult
body_result xs a = result_of [] (rewriting (action_of a) xs)

-- the function call with these actions: 7 if over 512 different names are declared, then the passes over the body
unfoldable pub function_result : List ℕ → Actions → CallResult
function_result xs a =
    let ran = result_of (records_of xs) (rewriting (action_of a) (body_of xs)) in
    cond (ltb record_limit (length (records_of xs))) (without_records TooManyNames []) ran

-- Note 10: 11, 12 or 13 of the table, else what the call gives with the table's actions
abbrev pub by_table : Result Actions Refusal → (Actions → CallResult) → CallResult
by_table (Ok a) call = call a
by_table (Err r) call = without_records r []

abbrev pub call_answer : Result ⊤ Refusal → Result Accepted Refusal → Result Accepted Refusal
call_answer (Ok tt) a = a
call_answer (Err r) a = Err r

-- output and work buffers of 65,536 bytes or more
unfoldable pub are_lent : List ℕ → List ℕ → List ℕ → Bool
are_lent out work spare = leb buffer_size (length out) && (leb buffer_size (length work) && leb buffer_size (length spare))

unfoldable pub body_check : List ℕ → List ℕ → List ℕ → List ℕ → Result ⊤ Refusal
body_check xs out work spare = check_of text_limit (are_lent out work spare) xs []

unfoldable pub body_answer : Result Actions Refusal → List ℕ → List ℕ → List ℕ → List ℕ → Result Accepted Refusal
body_answer levels xs out work spare = call_answer (body_check xs out work spare) (by_table levels (body_result xs)).answer

unfoldable pub body_output : Result Actions Refusal → List ℕ → List ℕ → List ℕ → List ℕ → List ℕ
body_output levels xs out work spare =
    exit_of (body_check xs out work spare) (zeroed_to buffer_size (by_table levels (body_result xs)).output out) out

-- a work buffer at exit, of any call whose checks gave this: all zeros
unfoldable pub work_exit : Result ⊤ Refusal → List ℕ → List ℕ
work_exit c lent = exit_of c (zeroed_to buffer_size [] lent) lent

-- the function call lends declaration text of 65,536 bytes and 5,130 record numbers or more besides
unfoldable pub function_check : List ℕ → List ℕ → List ℕ → List ℕ → List ℕ → List ℕ → Result ⊤ Refusal
function_check xs out work spare text numbers =
    check_of
    text_limit
    (are_lent out work spare && (leb buffer_size (length text) && leb record_numbers (length numbers)))
    xs
    []

unfoldable pub function_answer : Result Actions Refusal → List ℕ → List ℕ → List ℕ → List ℕ → List ℕ → List ℕ → Result Accepted Refusal
function_answer levels xs out work spare text numbers = call_answer (function_check xs out work spare text numbers) (by_table levels (function_result xs)).answer

unfoldable pub function_output : Result Actions Refusal → List ℕ → List ℕ → List ℕ → List ℕ → List ℕ → List ℕ → List ℕ
function_output levels xs out work spare text numbers =
    exit_of (function_check xs out work spare text numbers) (zeroed_to buffer_size (by_table levels (function_result xs)).output out) out

unfoldable pub function_text : Result Actions Refusal → List ℕ → List ℕ → List ℕ → List ℕ → List ℕ → List ℕ → List ℕ
function_text levels xs out work spare text numbers =
    exit_of (function_check xs out work spare text numbers) (zeroed_to buffer_size (by_table levels (function_result xs)).declared text) text

unfoldable pub function_records : Result Actions Refusal → List ℕ → List ℕ → List ℕ → List ℕ → List ℕ → List ℕ → List ℕ
function_records levels xs out work spare text numbers =
    exit_of (function_check xs out work spare text numbers) (zeroed_to record_numbers (by_table levels (function_result xs)).records numbers) numbers
