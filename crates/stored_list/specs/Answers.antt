-- The numbers that answers are stored as. Assumes nothing.
use Rattle.std.specs.Prelude.{◌≡◌, ℕ, List, get_or, Option, Some, None, Result, Ok, Err}
use Rattle.spec.specs.Answers.{refusal_numbers}
use Rattle.spec.specs.declared.Refusal.{Refusal}
use Rattle.spec.specs.declared.Accepted.{Accepted}
use Rattle.stored_list.specs.Fields.{field_of}
use Rattle.stored_list.specs.Numbers.{number_of}
use Rattle.stored_list.specs.declared.answers.Numbers.{Numbers}
use Rattle.stored_list.specs.declared.answers.Found.{Found}

-- of a search that wrote so much
abbrev pub of_length : ℕ → Numbers
of_length n = record { number = 0; place = 0; length = n; count = 0 }

-- of a search that found this
abbrev pub of_found : Found → Numbers
of_found f = record { number = 0; place = f.place; length = f.length; count = 1 }

-- what a search gives that sought something: what was found decides
abbrev pub FoundGives : {T : Type 0} → (T → Found → Type 0) → Option T → Numbers → Type 0
FoundGives gives None n = n ≡ of_length 0
FoundGives gives (Some x) n = (f : Found) × gives x f × (n ≡ of_found f)

-- of a call
abbrev pub of_call : Accepted → Numbers
of_call a = record { number = 0; place = 0; length = a.length; count = a.records }

abbrev pub of_refusal : Refusal → Numbers
of_refusal r =
    record {
      number = (refusal_numbers r).number;
      place = (refusal_numbers r).place;
      length = (refusal_numbers r).length;
      count = 0;
    }

-- what an answer gives: what was accepted decides, or the refusal
abbrev pub AnswerGives : {T : Type 0} → (T → Numbers → Type 0) → Result T Refusal → Numbers → Type 0
AnswerGives gives (Ok x) n = gives x n
AnswerGives gives (Err r) n = n ≡ of_refusal r

-- none if there is no number, else what is read next
abbrev pub or_none : Option ℕ → (ℕ → Option Numbers) → Option Numbers
or_none None next = None
or_none (Some n) next = next n

-- the numbers in these fields of a line
abbrev pub expected : List ℕ → List ℕ → Option Numbers
expected line fields =
    or_none (number_of (field_of (get_or fields 0 0) line)) (λ n.
    or_none (number_of (field_of (get_or fields 1 0) line)) (λ p.
    or_none (number_of (field_of (get_or fields 2 0) line)) (λ l.
    or_none (number_of (field_of (get_or fields 3 0) line)) (λ c.
    Some (record { number = n; place = p; length = l; count = c })))))
