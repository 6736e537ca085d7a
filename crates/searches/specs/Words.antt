-- What the search for a word answers: the place of the word, and its bytes. Assumes nothing.
use Rattle.std.specs.Prelude.{ℕ, List, [], Option, Some, None, Result, Ok, Err}
use Rattle.spec.specs.declared.Refusal.{Refusal}
use Rattle.searches.specs.declared.Word.{Word}

-- the answer by the place alone
abbrev pub word_found : Result (Option Word) Refusal → Result (Option ℕ) Refusal
word_found (Ok (Some w)) = Ok (Some w.place)
word_found (Ok None) = Ok None
word_found (Err r) = Err r

-- the part of the text that is handed back; nothing where no word was found
abbrev pub word_bytes : Result (Option Word) Refusal → List ℕ
word_bytes (Ok (Some w)) = w.bytes.now
word_bytes (Ok None) = []
word_bytes (Err r) = []
