-- Rows for Note 1, each by computation: the requoted length, the buffer of just that length, and 2 before 3. Assumes nothing.
use Rattle.std.specs.Prelude.{Ok, Err}
use mathlib.Core.Path.{◌≡◌, refl}
use mathlib.Core.List.{[], ◌∷◌, ◌++◌}
use lib.ListN.{replicate}
use Rattle.spec.specs.Bytes.{ascii}
use Rattle.spec.specs.Requote.{requoted_length}
use Rattle.spec.specs.Answers.{requoted_length_answer, requote_answer, requote_exit}
use Rattle.spec.specs.declared.Refusal.TheVariants.{NotAscii, BufferTooShort}
use Rattle.spec.proofs.RowForms.{tabled}

-- `''''`: two quotes, the inside and one more for the quote in it
one_quote : requoted_length (ascii "$$'$$") ≡ 4
unfolding tabled
one_quote = refl

-- `'a'`: a tag goes, so the result is shorter than the text
tag_goes : requoted_length (ascii "$tag$a$tag$") ≡ 3
unfolding tabled
tag_goes = refl

-- `''''''`: an unclosed literal is closed
unclosed : requoted_length (ascii "$$''") ≡ 6
unfolding tabled
unclosed = refl

-- other spans keep their length, whatever they hold
others : requoted_length (ascii "/*$$'$$*/'$$''$$' \"$$\"--$$'$$") ≡ 29
unfolding tabled
others = refl

-- the empty text takes an empty buffer
empty_text : requote_answer [] [] ≡ Ok 0
unfolding tabled
empty_text = refl

-- a buffer of just that length, and one byte less
just_enough : requote_answer (ascii "$$'$$") (replicate 4 0) ≡ Ok 4
unfolding tabled
just_enough = refl

one_less : requote_answer (ascii "$$'$$") (replicate 3 0) ≡ Err BufferTooShort
unfolding tabled
one_less = refl

one_less_kept : requote_exit (ascii "$$'$$") (replicate 3 7) ≡ replicate 3 7
unfolding tabled
one_less_kept = refl

-- behind the result nothing is written
past_kept : requote_exit (ascii "$$'$$") (replicate 6 7) ≡ ascii "''''" ++ replicate 2 7
unfolding tabled
past_kept = refl

-- 2 before 3
high_first : requote_answer (97 ∷ 200 ∷ []) [] ≡ Err (NotAscii 1)
unfolding tabled
high_first = refl

high_length : requoted_length_answer (97 ∷ 200 ∷ []) ≡ Err (NotAscii 1)
unfolding tabled
high_length = refl
