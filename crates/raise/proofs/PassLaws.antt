-- A turn of pass 5: the bytes up to a RAISE are written, and what becomes of it is next. Assumes nothing.
use Rattle.std.specs.Prelude.{⊤, Result, Some, None, Ok, Err}
use Rattle.std.proofs.lemmas.List.{take_rest}
use mathlib.Core.Path.{◌≡◌, sym, ap, ◌∙◌}
use mathlib.Core.List.{List, []}
use Prim.Native.Nat.{ℕ, ◌+◌, ◌-◌, ◌≤◌, ◌<◌}
use native.Mathlib.Omega.{arith}
use lib.ListN.{length, take, drop, length-drop}
use Rattle.spec.proofs.BytesLaws.{bytes_take, bytes_drop}
use Rattle.spec.proofs.FirstLaws.{first_least}
use Rattle.spec.proofs.RaisePlaces.{raise_of}
use Rattle.spec.proofs.RaiseWalk.{raise_here}
use Rattle.spec.proofs.RefusalBounds.{bytes_length}
use Rattle.spec.specs.Map.{Marked, bytes}
use Rattle.spec.specs.Outcome.{Outcome, accepted, ◌⊕◌, forget}
use Rattle.spec.specs.Raise.{level_words, level_in, fate_text}
use Rattle.spec.specs.Search.{first}
use Rattle.spec.specs.declared.Action.{Action}
use Rattle.spec.specs.declared.Level.{Level}
use Rattle.spec.specs.declared.Refusal.{Refusal}
use Rattle.messages.specs.Readings.{fate_in, Reads}
use Rattle.messages.specs.declared.RaiseRead.{RaiseRead}
use Rattle.output.proofs.OutcomeLaws.{Turn, turn_both, turn_front, turn_ok, turn_err, turn_done, outcome_length}
use Rattle.output.proofs.WriterLaws.{wrote_length}
use Rattle.output.specs.Passes.{WroteOutcome}
use Rattle.output.specs.Written.{Wrote}
use Rattle.output.specs.declared.Writer.{Writer}
use Rattle.raise.proofs.RaiseLaws.{left_at, raise_step, raise_last, left_min}

-- no RAISE is left: the rest is written, and all is done
pub raise_done : (act : Level → Action) (t : List Marked) (from : ℕ) {a b c : Writer} (o : Outcome (List Marked))
    → Turn a o b (left_at act t from) → None ≡ first raise_here from t → Wrote b (drop from (bytes t)) c → WroteOutcome a o c (Ok tt)
raise_done act t from {a} {b} {c} o s e p =
    let last = raise_last act t from (sym e) in
    let front = turn_front (drop from t) (drop from (bytes t)) b c (accepted []) (bytes_drop from t) p in
    turn_done o (turn_both s (rw last front))

-- what becomes of the RAISE at `at`
abbrev made : (Level → Action) → List Marked → ℕ → Outcome (List Marked)
made act t at = fate_text (raise_of act (drop at t)).fate

-- a RAISE that is found stands within the text
pub raise_within : (t : List Marked) (from at : ℕ) → Some at ≡ first raise_here from t → (from ≤ at) × (at < length t)
raise_within t from at e =
    let b = first_least raise_here t from at (sym e) in
    (b.from, b.inside)

-- the bytes from there on
module _ (t : List Marked) (xs : List ℕ) (h : xs ≡ bytes t) (at : ℕ) where
  abbrev rest : List ℕ
  rest = take (length xs - at) (drop at xs)

  rest_is : rest ≡ bytes (drop at t)
  rest_is = take_rest xs at ∙ (ap (drop at) h ∙ sym (bytes_drop at t))

  pub rest_length : length rest ≡ length t - at
  rest_length = omega (arith, ap length rest_is, bytes_length (drop at t), length-drop at t)

-- it is read from these
module _ (act : Level → Action) (t : List Marked) (xs : List ℕ) (h : xs ≡ bytes t) (from at : ℕ) (e : Some at ≡ first raise_here from t)
    (r : RaiseRead) (reads : (u : List Marked) → bytes u ≡ rest t xs h at → Reads act u (level_in level_words (drop 6 u)) (rest t xs h at) r) where
  here : Reads act (drop at t) (level_in level_words (drop 6 (drop at t))) (rest t xs h at) r
  here = reads (drop at t) (sym (rest_is t xs h at))

  ends_here : left_at act t (at + (raise_of act (drop at t)).length) ≡ left_at act t (at + r.end)
  ends_here = left_min act t at r.end (raise_of act (drop at t)).length (omega (arith, here.ends, rest_length t xs h at)) (omega (arith, raise_within t from at e))

  -- the bytes before it are written: it and what is behind it are left
  module _ {a b c : Writer} (o : Outcome (List Marked)) (s : Turn a o b (left_at act t from)) (p : Wrote b (take (at - from) (drop from xs)) c) where
    turn : Turn a o c (made act t at ⊕ left_at act t (at + r.end))
    turn =
        let front = take (at - from) (drop from t) in
        let same : bytes front ≡ take (at - from) (drop from xs) = bytes_take (at - from) (drop from t) ∙ ap (take (at - from)) (bytes_drop from t ∙ ap (drop from) (sym h)) in
        turn_both s (rw (raise_step act t from at (sym e), ends_here)
        (turn_front front (take (at - from) (drop from xs)) b c (made act t at ⊕ left_at act t (at + r.end)) same p))

    -- it is put as it is read
    module _ {d : Writer} (q : Result ⊤ Refusal) (w : (f : Outcome (List Marked)) → forget f ≡ fate_in r.fate r.end (rest t xs h at) → WroteOutcome c f d q) where
      put : WroteOutcome c (made act t at) d q
      put = w (made act t at) here.text

      -- it is refused
      pub raise_refused : (x : Refusal) → q ≡ Err x → WroteOutcome a o d (Err x)
      raise_refused x f = turn_err o (made act t at) (left_at act t (at + r.end)) turn d x (rw f at put)

      -- it is written: what is behind it is left, and the buffer keeps its length
      pub raise_turn : q ≡ Ok tt → Turn a o d (left_at act t (at + r.end)) × (length d.out.now ≡ length b.out.now)
      raise_turn f =
          let k = rw f at put in
          (turn_both turn (turn_ok (made act t at) c d (left_at act t (at + r.end)) k), outcome_length c d (made act t at) k ∙ wrote_length (take (at - from) (drop from xs)) p)
