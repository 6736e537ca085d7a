-- Rows for Note 2, each by computation: where a default begins. Assumes nothing.
use Rattle.std.specs.Prelude.{Some, None}
use Prim.Native.String.{String}
use mathlib.Core.Path.{◌≡◌, refl}
use mathlib.Core.Bool.{false}
use mathlib.Core.List.{List, [], ◌∷◌, ◌++◌}
use Rattle.spec.specs.Bytes.{ascii}
use Rattle.spec.specs.Declarations.{Declared}
use Rattle.spec.proofs.RowForms.{record_of, one_record, function, function_row, tabled}

-- one record with no mark: name, type, default
abbrev with : String → String → String → List Declared
with n k v = one_record n k (Some (ascii v)) false false

abbrev without : String → String → List Declared
without n k = one_record n k None false false

-- each of the three
behind_assign : record_of "a b := 1" ≡ with "a" "b" "1"
unfolding tabled
behind_assign = refl

behind_equals : record_of "a b = 1" ≡ with "a" "b" "1"
unfolding tabled
behind_equals = refl

behind_word : record_of "a b default 1" ≡ with "a" "b" "1"
unfolding tabled
behind_word = refl

-- the `=` of `>=`, `<=` and `!=` is lone
at_least : record_of "a b>=1" ≡ with "a" "b>" "1"
unfolding tabled
at_least = refl

at_most : record_of "a b<=1" ≡ with "a" "b<" "1"
unfolding tabled
at_most = refl

other_than : record_of "a b!=1" ≡ with "a" "b!" "1"
unfolding tabled
other_than = refl

-- `:=` is left of the `=` behind it
assign_equals : record_of "a b:==1" ≡ with "a" "b" "=1"
unfolding tabled
assign_equals = refl

-- neither `=>` nor `==` has a lone `=`
arrow : record_of "a b=>1" ≡ without "a" "b=>1"
unfolding tabled
arrow = refl

double : record_of "a b==1" ≡ without "a" "b==1"
unfolding tabled
double = refl

-- whichever is leftmost
word_then_assign : record_of "a b DEFAULT 1 := 2" ≡ with "a" "b" "1 := 2"
unfolding tabled
word_then_assign = refl

word_then_equals : record_of "a b DEFAULT 1 = 2" ≡ with "a" "b" "1 = 2"
unfolding tabled
word_then_equals = refl

equals_then_others : record_of "a b = 1 := DEFAULT 2" ≡ with "a" "b" "1 := DEFAULT 2"
unfolding tabled
equals_then_others = refl

assign_then_others : record_of "a b := 1 = DEFAULT 2" ≡ with "a" "b" "1 = DEFAULT 2"
unfolding tabled
assign_then_others = refl

-- what is quoted begins nothing
in_literal_lem : record_of "tag text DEFAULT ':='" ≡ with "tag" "text" "':='"
unfolding tabled
in_literal_lem = refl

in_comment_lem : record_of "a b /* := = DEFAULT */ = 1" ≡ with "a" "b /* := = DEFAULT */" "1"
unfolding tabled
in_comment_lem = refl

in_type : record_of "a b':='" ≡ without "a" "b':='"
unfolding tabled
in_type = refl

in_name : record_of "\"a:=b\" c" ≡ without "\"a:=b\"" "c"
unfolding tabled
in_name = refl

-- fewer than two words ahead: no record
name_alone : record_of "a = 1" ≡ []
unfolding tabled
name_alone = refl

default_as_name : record_of "default int := 3" ≡ []
unfolding tabled
default_as_name = refl

-- present even if empty
empty_default : record_of "a b =" ≡ with "a" "b" ""
unfolding tabled
empty_default = refl

-- the same of the call: one record, name, 256, type, 257, default, 259
called : function "DECLARE tag text DEFAULT ':=';BEGIN" ≡ function_row 0 0 5 1 "BEGIN" (ascii "tag" ++ (256 ∷ (ascii "text" ++ (257 ∷ (ascii "':='" ++ (259 ∷ []))))))
unfolding tabled
called = refl
