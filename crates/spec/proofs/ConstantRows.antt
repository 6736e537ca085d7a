-- Rows for Note 5, each by computation: which words mark a declaration, and what is left as its type. Assumes nothing.
use Rattle.std.specs.Prelude.{Some, None}
use mathlib.Core.Path.{◌≡◌, refl}
use mathlib.Core.Bool.{true, false}
use mathlib.Core.List.{[], ◌∷◌, ◌++◌}
use Rattle.spec.specs.Bytes.{ascii}
use Rattle.spec.specs.Declarations.{numbers_of}
use Rattle.spec.proofs.RowForms.{record_of, one_record, function, function_row, tabled}

-- ---- the marks

-- each alone, and both
constant : record_of "a CONSTANT int" ≡ one_record "a" "int" None true false
unfolding tabled
constant = refl

not_null : record_of "a int NOT NULL" ≡ one_record "a" "int" None false true
unfolding tabled
not_null = refl

both : record_of "a constant int not null := 1" ≡ one_record "a" "int" (Some (ascii "1")) true true
unfolding tabled
both = refl

-- in any letter case, with any W between the words
mixed_case : record_of "a ConStant numeric(10, 2) nOt NuLL" ≡ one_record "a" "numeric(10, 2)" None true true
unfolding tabled
mixed_case = refl

other_spaces : record_of "a\tCONSTANT\u{b}int\u{c}NOT\r\nNULL" ≡ one_record "a" "int" None true true
unfolding tabled
other_spaces = refl

-- ---- each once: what else stands there is the type

constant_twice : record_of "a CONSTANT CONSTANT" ≡ one_record "a" "CONSTANT" None true false
unfolding tabled
constant_twice = refl

not_null_twice : record_of "a int NOT NULL NOT NULL" ≡ one_record "a" "int NOT NULL" None false true
unfolding tabled
not_null_twice = refl

constant_not_null_twice : record_of "a CONSTANT NOT NULL NOT NULL" ≡ one_record "a" "NOT NULL" None true true
unfolding tabled
constant_not_null_twice = refl

-- ---- what gives no mark, or not the one for NOT NULL

-- one of the two words, or the two and then another
not_alone : record_of "a CONSTANT NOT" ≡ one_record "a" "NOT" None true false
unfolding tabled
not_alone = refl

null_alone : record_of "a int NULL" ≡ one_record "a" "int NULL" None false false
unfolding tabled
null_alone = refl

not_null_first : record_of "a NOT NULL CONSTANT" ≡ one_record "a" "NOT NULL CONSTANT" None false false
unfolding tabled
not_null_first = refl

constant_behind : record_of "a int CONSTANT" ≡ one_record "a" "int CONSTANT" None false false
unfolding tabled
constant_behind = refl

-- a longer word that begins so
longer_constant : record_of "a CONSTANTS int" ≡ one_record "a" "CONSTANTS int" None false false
unfolding tabled
longer_constant = refl

longer_not_null : record_of "a int NOT NULLS" ≡ one_record "a" "int NOT NULLS" None false false
unfolding tabled
longer_not_null = refl

-- quotes belong to their words
quoted_constant : record_of "a \"CONSTANT\" int" ≡ one_record "a" "\"CONSTANT\" int" None false false
unfolding tabled
quoted_constant = refl

quoted_not_null : record_of "a \"b NOT NULL\"" ≡ one_record "a" "\"b NOT NULL\"" None false false
unfolding tabled
quoted_not_null = refl

-- the name is no mark
constant_as_name : record_of "CONSTANT int" ≡ one_record "CONSTANT" "int" None false false
unfolding tabled
constant_as_name = refl

-- neither is what stands behind the default key
behind_key : record_of "a int := 1 NOT NULL" ≡ one_record "a" "int" (Some (ascii "1 NOT NULL")) false false
unfolding tabled
behind_key = refl

-- ---- what stands ahead is split on W alone, as before Note 5: the words of a comment or of a quoted name count too

in_comment_lem : record_of "a b -- NOT NULL\n" ≡ one_record "a" "b --" None false true
unfolding tabled
in_comment_lem = refl

behind_comment : record_of "a /*b*/ CONSTANT int" ≡ one_record "a" "/*b*/ CONSTANT int" None false false
unfolding tabled
behind_comment = refl

ahead_of_comment : record_of "a int NOT NULL /*b*/" ≡ one_record "a" "int NOT NULL /*b*/" None false false
unfolding tabled
ahead_of_comment = refl

in_quotes : record_of "\"a CONSTANT b\" int" ≡ one_record "\"a" "b\" int" None true false
unfolding tabled
in_quotes = refl

-- ---- where no type is left there is no record

constant_only : record_of "a CONSTANT" ≡ []
unfolding tabled
constant_only = refl

not_null_only : record_of "a NOT NULL" ≡ []
unfolding tabled
not_null_only = refl

both_only : record_of "a CONSTANT NOT NULL" ≡ []
unfolding tabled
both_only = refl

with_default_only : record_of "a CONSTANT NOT NULL := 1" ≡ []
unfolding tabled
with_default_only = refl

-- so an earlier record of the name stays
earlier_stays : record_of "a int; a CONSTANT" ≡ one_record "a" "int" None false false
unfolding tabled
earlier_stays = refl

-- ---- the ten numbers

-- behind the head's ten: next, name, type, default, then 1 and 1 for the marks; a record with neither ends with 0 and 0
numbers : numbers_of (record_of "b CONSTANT int NOT NULL := 1; a c")
    ≡ 2 ∷ 0 ∷ 0 ∷ 0 ∷ 0 ∷ 0 ∷ 0 ∷ 0 ∷ 0 ∷ 0
    ∷ 0 ∷ 0 ∷ 1 ∷ 1 ∷ 3 ∷ 1 ∷ 4 ∷ 1 ∷ 1 ∷ 1
    ∷ 1 ∷ 5 ∷ 1 ∷ 6 ∷ 1 ∷ 0 ∷ 0 ∷ 0 ∷ 0 ∷ 0 ∷ []
unfolding tabled
numbers = refl

-- the same of the call: 260 and 261 are the marks
called : function "DECLARE b CONSTANT int NOT NULL := 1; a c;BEGIN"
    ≡ function_row 0 0 5 2 "BEGIN"
    (ascii "a" ++ (256 ∷ (ascii "c" ++ (258 ∷ (259 ∷ (ascii "b" ++ (256 ∷ (ascii "int" ++ (257 ∷ (ascii "1" ++ (260 ∷ 261 ∷ 259 ∷ [])))))))))))
unfolding tabled
called = refl
