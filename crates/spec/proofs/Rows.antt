-- The starred rows of document 01, each by computation. A row that names no call is about a definition. Assumes nothing.
use mathlib.Core.Path.{◌≡◌, refl}
use mathlib.Core.Bool.{false}
use mathlib.Core.List.{[], ◌∷◌}
use Rattle.spec.specs.Bytes.{ascii}
use Rattle.spec.specs.Map.{map_of}
use Rattle.spec.specs.Requote.{requoted}
use Rattle.spec.specs.Declarations.{requoted_default}
use Rattle.spec.specs.Closed.{is_closed}
use Rattle.spec.proofs.RowForms.{body, row, tabled}

empty : body "" ≡ row 0 0 0 0 ""
unfolding tabled
empty = refl

dashes : map_of (ascii "--") ≡ 1 ∷ 1 ∷ []
unfolding tabled
dashes = refl

line_comment : map_of (ascii "--\na") ≡ 1 ∷ 1 ∷ 1 ∷ 0 ∷ []
unfolding tabled
line_comment = refl

digit_tag_map : map_of (ascii "$1$a$1$") ≡ 0 ∷ 0 ∷ 1 ∷ 1 ∷ 1 ∷ 1 ∷ 1 ∷ []
unfolding tabled
digit_tag_map = refl

digit_tag_requoted : requoted (ascii "$1$a$1$") ≡ ascii "$1'1$'"
unfolding tabled
digit_tag_requoted = refl

digit_tag_default : requoted_default (ascii "$1$a$1$") ≡ ascii "'a'"
unfolding tabled
digit_tag_default = refl

dollar_beside_name : body "a$$b$$" ≡ row 0 0 4 0 "a'b'"
unfolding tabled
dollar_beside_name = refl

elsif : body "elsif" ≡ row 0 0 6 0 "ELSEIF"
unfolding tabled
elsif = refl

preelsif : body "preelsif" ≡ row 0 0 8 0 "preelsif"
unfolding tabled
preelsif = refl

qualified_target_lem : body "NEW.v := 1;" ≡ row 4 3 5 0 "NEW.v"
unfolding tabled
qualified_target_lem = refl

case_comparison : body "CASE WHEN c THEN t.n = 1 ELSE 0 END" ≡ row 0 0 35 0 "CASE WHEN c THEN t.n = 1 ELSE 0 END"
unfolding tabled
case_comparison = refl

select_into_lem : body "SELECT a INTO v;" ≡ row 0 0 27 0 "SET v = (SELECT a LIMIT 1);"
unfolding tabled
select_into_lem = refl

two_spaces : body "RAISE  EXCEPTION 'a';" ≡ row 0 0 21 0 "RAISE  EXCEPTION 'a';"
unfolding tabled
two_spaces = refl

no_message : body "RAISE EXCEPTION;" ≡ row 0 0 22 0 "SELECT RAISE(ABORT, );"
unfolding tabled
no_message = refl

-- `v := raise ;` is not closed: rewritten it ends `raise;`, and a RAISE swallows what is joined to it
raise_not_closed : is_closed (ascii "v := raise ;") ≡ false
unfolding tabled
raise_not_closed = refl

raise_alone : body "v := raise ;" ≡ row 0 0 14 0 "SET v = raise;"
unfolding tabled
raise_alone = refl

behind_alone : body "EXCEPTION 'a';" ≡ row 0 0 14 0 "EXCEPTION 'a';"
unfolding tabled
behind_alone = refl

raise_joined : body "v := raise ;EXCEPTION 'a';" ≡ row 0 0 33 0 "SET v = SELECT RAISE(ABORT, 'a');"
unfolding tabled
raise_joined = refl

-- ---- the traps that document 01 names

-- W and N are two sets: byte 11 may stand between a name and `:=`, and not before a name that a lone `=` follows
eleven_is_w : body "v\u{b}:= 1;" ≡ row 0 0 10 0 "SET v = 1;"
unfolding tabled
eleven_is_w = refl

space_is_n : body "BEGIN t.n = 1;" ≡ row 4 1 3 0 "t.n"
unfolding tabled
space_is_n = refl

eleven_is_not_n : body "BEGIN\u{b}t.n = 1;" ≡ row 0 0 14 0 "BEGIN\u{b}t.n = 1;"
unfolding tabled
eleven_is_not_n = refl

-- pass 4 reads quotes by itself: in a comment too a quote opens, and the `;` behind it ends no statement
own_quotes : body "/*'*/ SELECT a INTO v;" ≡ row 0 0 22 0 "/*'*/ SELECT a INTO v;"
unfolding tabled
own_quotes = refl

-- ---- what a version worth nothing would get wrong

-- each statement is rewritten, not only the first
two_statements : body "RAISE EXCEPTION 'a';RAISE EXCEPTION 'b';" ≡ row 0 0 50 0 "SELECT RAISE(ABORT, 'a');SELECT RAISE(ABORT, 'b');"
unfolding tabled
two_statements = refl

-- a RAISE's end is read afresh behind its level: the quote that the level runs over opens nothing there
read_afresh : body "RAISE NOTICE'a b;';" ≡ row 0 0 2 0 "';"
unfolding tabled
read_afresh = refl
