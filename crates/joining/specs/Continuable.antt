-- What each pass needs of the text it reads so that whatever stands behind that text does not matter. Assumes nothing.
use Rattle.std.specs.Prelude.{ℕ, true, List, ◌≡◌}
use Rattle.spec.specs.Map.{bytes, marked_text}
use Rattle.spec.specs.Requote.{requoted}
use Rattle.spec.specs.Elsif.{elsif}
use Rattle.spec.specs.SelectInto.{quote_walk, select_into}
use Rattle.spec.specs.Outcome.{accepted}
use Rattle.spec.specs.Body.{assign_pass}
use Rattle.spec.specs.Closed.{ends_live}
use Rattle.joining.specs.Safe.{raises_safe}

-- the text after pass 2
abbrev pub second_text : List ℕ → List ℕ
second_text xs = bytes (elsif (marked_text (requoted xs)))

-- the text after pass 4, of the text after pass 3
abbrev pub fourth_text : List ℕ → List ℕ
fourth_text ys = bytes (select_into (quote_walk 0 ys))

-- of the text after pass 3: passes 4 and 5 can go on behind it
pub record ContinuableBehind (ys : List ℕ) : Type 0 where
  pub quotes : ends_live (quote_walk 0 ys) ≡ true
  pub marks : ends_live (marked_text (fourth_text ys)) ≡ true
  pub raises : raises_safe 0 (marked_text (fourth_text ys)) ≡ true

-- of a text: all five passes can go on behind it
pub record Continuable (a : List ℕ) : Type 0 where
  pub first : ends_live (marked_text a) ≡ true
  pub second : ends_live (marked_text (requoted a)) ≡ true
  pub third : ends_live (marked_text (second_text a)) ≡ true
  pub behind : (ys : List ℕ) → assign_pass (second_text a) ≡ accepted ys → ContinuableBehind ys
