-- Rows for Note 10, each by computation: what a table says, and bodies under a table. Assumes nothing.
use Rattle.std.specs.Prelude.{Ok, Err}
use mathlib.Core.Path.{◌≡◌, refl}
use mathlib.Core.Bool.{true}
use mathlib.Core.List.{List, []}
use Prim.Native.Nat.{ℕ}
use lib.Dec.{ltb}
use lib.ListN.{length}
use Rattle.spec.specs.Bytes.{ascii}
use Rattle.spec.specs.Levels.{no_table}
use Rattle.spec.specs.Declarations.{records_of, record_limit}
use Rattle.spec.specs.Answers.{without_records, function_result, by_table}
use Rattle.spec.specs.declared.RaiseType.TheVariants.{Abort, Fail, Rollback}
use Rattle.spec.specs.declared.Action.TheVariants.{Drop, Raise}
use Rattle.spec.specs.Raise.{Actions}
use Rattle.spec.specs.declared.Refusal.{Refusal}
use Rattle.spec.specs.declared.Refusal.TheVariants.{TooManyNames, MalformedLine, RepeatedLevel, MissingLevel}
use Rattle.spec.proofs.RowForms.{row}
use Rattle.spec.proofs.LevelRowForms.{table, levels, body_by, function_by, levelled}

-- ---- 11: a malformed line

-- the last line without a newline
no_newline : table "DEBUG drop\nLOG drop" ≡ Err (MalformedLine 11)
unfolding levelled
no_newline = refl

empty_line : table "DEBUG drop\n\nLOG drop\n" ≡ Err (MalformedLine 11)
unfolding levelled
empty_line = refl

carriage_return : table "DEBUG drop\r\n" ≡ Err (MalformedLine 0)
unfolding levelled
carriage_return = refl

high_byte : table "LOG drop\nDEBUG dröp\n" ≡ Err (MalformedLine 9)
unfolding levelled
high_byte = refl

lower_case_level : table "debug drop\n" ≡ Err (MalformedLine 0)
unfolding levelled
lower_case_level = refl

capital_action : table "LOG drop\nDEBUG Drop\n" ≡ Err (MalformedLine 9)
unfolding levelled
capital_action = refl

two_spaces : table "DEBUG  drop\n" ≡ Err (MalformedLine 0)
unfolding levelled
two_spaces = refl

space_behind : table "DEBUG drop \n" ≡ Err (MalformedLine 0)
unfolding levelled
space_behind = refl

longer_level : table "INFOS drop\n" ≡ Err (MalformedLine 0)
unfolding levelled
longer_level = refl

-- malformed, and its level stands before
malformed_and_repeated : table "DEBUG drop\nDEBUG drops\n" ≡ Err (MalformedLine 11)
unfolding levelled
malformed_and_repeated = refl

-- ---- 12: a level given twice

-- what stands behind the bad line does not matter
repeated : table "DEBUG drop\nDEBUG drop\nx" ≡ Err (RepeatedLevel 11)
unfolding levelled
repeated = refl

-- with another action too
repeated_otherwise : table "DEBUG drop\nLOG fail\nDEBUG abort\n" ≡ Err (RepeatedLevel 20)
unfolding levelled
repeated_otherwise = refl

seven_lines : table "DEBUG drop\nLOG drop\nINFO drop\nNOTICE drop\nWARNING drop\nEXCEPTION abort\nEXCEPTION abort\n" ≡ Err (RepeatedLevel 71)
unfolding levelled
seven_lines = refl

-- ---- 13: a level missing

empty : table "" ≡ Err (MissingLevel 0)
unfolding levelled
empty = refl

five_levels : table "DEBUG drop\nLOG drop\nINFO drop\nNOTICE drop\nWARNING drop\n" ≡ Err (MissingLevel 55)
unfolding levelled
five_levels = refl

-- ---- accepted

-- in another order, each action once at least
other_order : table "EXCEPTION rollback\nINFO fail\nDEBUG drop\nWARNING abort\nLOG drop\nNOTICE fail\n" ≡ Ok (record { debug = Drop; log = Drop; info = Raise Fail; notice = Raise Fail; warning = Raise Abort; exception = Raise Rollback })
unfolding levelled
other_order = refl

-- the table that drops all but EXCEPTION
default : table "DEBUG drop\nLOG drop\nINFO drop\nNOTICE drop\nWARNING drop\nEXCEPTION abort\n" ≡ no_table
unfolding levelled
default = refl

-- ---- bodies under a table

-- where a level ends does not depend on the table: the others run to W or `;`
level_runs : body_by (levels "drop" "abort" "drop" "drop" "drop" "abort") "RAISE LOG'';" ≡ row 0 0 22 0 "SELECT RAISE(ABORT, );"
unfolding levelled
level_runs = refl

level_prefix : body_by (levels "drop" "abort" "drop" "drop" "drop" "abort") "RAISE LOGS 'a';" ≡ row 0 0 25 0 "SELECT RAISE(ABORT, 'a');"
unfolding levelled
level_prefix = refl

-- EXCEPTION has its nine letters
exception_letters : body_by (levels "drop" "drop" "drop" "drop" "drop" "rollback") "RAISE EXCEPTION'a';" ≡ row 0 0 28 0 "SELECT RAISE(ROLLBACK, 'a');"
unfolding levelled
exception_letters = refl

-- SQLite's word is the action in capitals
no_message : body_by (levels "drop" "rollback" "drop" "drop" "drop" "abort") "RAISE LOG;" ≡ row 0 0 25 0 "SELECT RAISE(ROLLBACK, );"
unfolding levelled
no_message = refl

fails : body_by (levels "drop" "drop" "drop" "drop" "fail" "drop") "RAISE WARNING 'a', b;x" ≡ row 0 0 25 0 "SELECT RAISE(FAIL, 'a');x"
unfolding levelled
fails = refl

-- EXCEPTION with drop vanishes, and its USING is not read
exception_dropped : body_by (levels "drop" "drop" "drop" "drop" "drop" "drop") "RAISE EXCEPTION USING x;" ≡ row 0 0 0 0 ""
unfolding levelled
exception_dropped = refl

-- messages and USING are read as for EXCEPTION
using_message : body_by (levels "drop" "drop" "drop" "drop" "fail" "abort") "RAISE WARNING USING MESSAGE='x';" ≡ row 0 0 24 0 "SELECT RAISE(FAIL, 'x');"
unfolding levelled
using_message = refl

using_refused : body_by (levels "drop" "drop" "drop" "abort" "drop" "abort") "RAISE NOTICE USING x;" ≡ row 5 0 7 0 "USING x"
unfolding levelled
using_refused = refl

-- INFO with each byte that it wants behind it, and without
info_space : body_by (levels "drop" "drop" "fail" "drop" "drop" "drop") "RAISE INFO 'a';" ≡ row 0 0 24 0 "SELECT RAISE(FAIL, 'a');"
unfolding levelled
info_space = refl

info_newline : body_by (levels "drop" "drop" "fail" "drop" "drop" "drop") "RAISE INFO\n'a';" ≡ row 0 0 24 0 "SELECT RAISE(FAIL, 'a');"
unfolding levelled
info_newline = refl

info_semicolon : body_by (levels "drop" "drop" "fail" "drop" "drop" "drop") "RAISE INFO;" ≡ row 0 0 21 0 "SELECT RAISE(FAIL, );"
unfolding levelled
info_semicolon = refl

info_tab : body_by (levels "drop" "drop" "fail" "drop" "drop" "drop") "RAISE INFO\t'a';" ≡ row 0 0 15 0 "RAISE INFO\t'a';"
unfolding levelled
info_tab = refl

-- ---- a table's refusal comes first

malformed_before_target : body_by (ascii "DEBUG drop\nx") "NEW.v := 1;" ≡ row 11 11 0 0 ""
unfolding levelled
malformed_before_target = refl

missing_before_target : function_by (ascii "DEBUG drop\n") "DECLARE a int; BEGIN NEW.v := 1;" ≡ row 13 11 0 0 ""
unfolding levelled
missing_before_target = refl

-- before 7 too, of any text
before_names : (r : Refusal) (xs : List ℕ) → by_table (Err r) (function_result xs) ≡ without_records r []
before_names r xs = refl

-- and an accepted table leaves 7 as it is
names_refused : (a : Actions) (xs : List ℕ) → ltb record_limit (length (records_of xs)) ≡ true → by_table (Ok a) (function_result xs) ≡ without_records TooManyNames []
unfolding function_result
names_refused a xs h = rw h
