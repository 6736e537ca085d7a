-- Why each clause of *closed* is needed: a text that is not closed, as it breaks this clause, and a text that is lost or changed
-- behind it. Then texts that are closed, and two that are accepted joined, so that the joining law speaks of something.
-- Assumes nothing.
use mathlib.Core.Path.{◌≡◌, refl}
use mathlib.Core.Bool.{true}
use Rattle.spec.specs.Bytes.{ascii}
use Rattle.spec.specs.Closed.{is_closed}
use Rattle.spec.proofs.RowForms.{body, row, is_loss, tabled}

last_byte_live : is_loss "elsi" "f" ≡ true
unfolding tabled
last_byte_live = refl

no_backslash : is_loss "'\\'';" "SELECT a INTO v;" ≡ true
unfolding tabled
no_backslash = refl

no_block_comment : is_loss "/*'*/;" "SELECT a INTO v;" ≡ true
unfolding tabled
no_block_comment = refl

no_line_comment : is_loss "v:=--\n;" "RAISE LOG" ≡ true
unfolding tabled
no_line_comment = refl

no_newline_in_literal : is_loss "\"\n\"SELECT a,b INTO v,w;" "RAISE LOG" ≡ true
unfolding tabled
no_newline_in_literal = refl

word_behind_raise : is_loss "a:=RAISE ;" "NOTICE" ≡ true
unfolding tabled
word_behind_raise = refl

space_behind_raise : is_loss "RAISE;" "NOTICE" ≡ true
unfolding tabled
space_behind_raise = refl

space_and_no_quote : is_loss "RAISE'NOTICE ';" "x" ≡ true
unfolding tabled
space_and_no_quote = refl

word_ends : is_loss "RAISE NOTICE$$ $$;" "x" ≡ true
unfolding tabled
word_ends = refl

dollar_does_not_excuse : is_loss "$$$$RAISE;" "NOTICE" ≡ true
unfolding tabled
dollar_does_not_excuse = refl

literal_does_not_excuse : is_loss "$$x$$RAISE;" "NOTICE" ≡ true
unfolding tabled
literal_does_not_excuse = refl

assignment_closed : is_closed (ascii "IF a THEN v := $$x;y$$; END IF;") ≡ true
unfolding tabled
assignment_closed = refl

select_closed : is_closed (ascii "\n  SELECT a, b INTO v, w FROM t WHERE n = 'it''s';") ≡ true
unfolding tabled
select_closed = refl

raise_closed : is_closed (ascii "RAISE EXCEPTION 'bus locked'; prefix_raise := 1;") ≡ true
unfolding tabled
raise_closed = refl

front_closed : is_closed (ascii "RAISE EXCEPTION 'a';") ≡ true
unfolding tabled
front_closed = refl

front_alone : body "RAISE EXCEPTION 'a';" ≡ row 0 0 25 0 "SELECT RAISE(ABORT, 'a');"
unfolding tabled
front_alone = refl

behind_alone : body "v := 1 ;" ≡ row 0 0 10 0 "SET v = 1;"
unfolding tabled
behind_alone = refl

joined : body "RAISE EXCEPTION 'a';v := 1 ;" ≡ row 0 0 35 0 "SELECT RAISE(ABORT, 'a');SET v = 1;"
unfolding tabled
joined = refl
