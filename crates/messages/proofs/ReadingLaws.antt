-- A RAISE read off its bytes: its level, and with each level its end and what it becomes. Assumes nothing.
use Rattle.std.specs.Prelude.{Some, None}
use Rattle.std.proofs.lemmas.List.{take_rest}
use mathlib.Core.Path.{◌≡◌, refl, sym, ap, ◌∙◌}
use mathlib.Core.Bool.{Bool, false, cond, not}
use mathlib.Core.List.{List, []}
use Prim.Native.Nat.{ℕ, ◌+◌, ◌-◌, ◌≤◌, min}
use native.Mathlib.Omega.{arith}
use borrow.Author.Tests.{leb-true, leb-false}
use lib.Dec.{leb}
use lib.ListN.{length, take, drop, drop_of_length-le}
use lib.Seq.{take_all, take-length}
use Rattle.spec.proofs.BytesLaws.{bytes_lives, bytes_take, bytes_drop, while_length_bytes}
use Rattle.spec.proofs.Choice.{by}
use Rattle.spec.proofs.RefusalBounds.{bytes_length}
use Rattle.spec.specs.Lists.{take_while}
use Rattle.spec.specs.Map.{Marked, bytes, lives, of_byte}
use Rattle.spec.specs.Search.{starts_ignoring_case}
use Rattle.spec.specs.Parts.{trim}
use Rattle.spec.specs.Outcome.{accepted, forget}
use Rattle.spec.specs.Raise.{level_words, level_in, ends_level, is_exception, level_len, content_of, action_fate, fate_text, raised_at}
use Rattle.spec.specs.declared.Level.{Level}
use Rattle.spec.specs.declared.Level.TheVariants.{Debug, Log, Info, Notice, Warning, Exception}
use Rattle.spec.specs.declared.RaiseType.{RaiseType}
use Rattle.spec.specs.declared.Action.{Action}
use Rattle.spec.specs.declared.Action.TheVariants.{Drop, Raise}
use Rattle.messages.specs.declared.RaiseFate.{RaiseFate}
use Rattle.messages.specs.declared.RaiseFate.TheVariants.{Passed}
use Rattle.messages.specs.Readings.{level_end, content_in, raised_as, fate_of, fate_in, FateWithin, Reads}
use Rattle.runs.specs.Sets.{trimmed}
use Rattle.runs.specs.declared.Place.{Place}
use Rattle.runs.proofs.RunLaws.{trim_bytes}
use Rattle.messages.proofs.ContentLaws.{content_bytes}
use Rattle.messages.proofs.UsingLaws.{raise_marks}

-- ---- the level

-- where a level ends
pub not_exception : (l : Level) → (l ≡ Exception → ⊥) → is_exception l ≡ false
not_exception Exception h = absurd (h refl)
not_exception Debug h = refl
not_exception Log h = refl
not_exception Info h = refl
not_exception Notice h = refl
not_exception Warning h = refl

pub other_ends : (l : Level) (xs : List ℕ) → (l ≡ Exception → ⊥)
    → level_end l xs ≡ 6 + length (take_while (λ (c : ℕ). not (ends_level c)) (drop 6 xs))
unfolding level_len
other_ends l xs h =
    let f : ℕ → Bool = λ c. not (ends_level c) in
    rw (not_exception l h)
    (ap (λ (n : ℕ). 6 + n) (while_length_bytes f (lives (drop 6 xs)) ∙ ap (λ (u : List ℕ). length (take_while f u)) (bytes_lives (drop 6 xs))))

-- the offsets of a fate, whatever the action
pub fate_within : (a : Action) (p : Place) (lo hi : ℕ) → lo ≤ p.at → p.at + p.len ≤ hi → FateWithin (fate_of a p) lo hi
fate_within Drop p lo hi q r = tt
fate_within (Raise w) p lo hi q r = (q, r)

-- the level behind the separator, where a text reaches behind it, and where not
pub level_none : (t : List Marked) (xs : List ℕ) → bytes t ≡ xs → length xs ≤ 6 → level_in level_words (drop 6 t) ≡ None
unfolding level_in level_words starts_ignoring_case
level_none t xs e h =
    let z : length t ≤ 6 = omega (arith, bytes_length t, ap length e) in
    rw (drop_of_length-le t z)

pub level_bytes : (t : List Marked) (xs ys : List ℕ) → bytes t ≡ xs → ys ≡ take (length xs - 6) (drop 6 xs) → bytes (drop 6 t) ≡ ys
level_bytes t xs ys e h = bytes_drop 6 t ∙ (ap (drop 6) e ∙ (sym (take_rest xs 6) ∙ sym h))

-- ---- what each level becomes

dropped_text : (u : List Marked) → forget (fate_text (action_fate Drop u)) ≡ accepted []
unfolding action_fate forget fate_text bytes
dropped_text u = refl

raised_text_lem : (w : RaiseType) (u : List Marked) (ys : List ℕ) → bytes (trim u) ≡ bytes (trim (lives ys))
    → forget (fate_text (action_fate (Raise w) u)) ≡ raised_as w ys
unfolding action_fate raised_as
raised_text_lem w u ys e = raise_marks w (trim u) (trim (lives ys)) e

module _ (t : List Marked) (xs : List ℕ) (e : bytes t ≡ xs) where
  -- no level: the RAISE and its separator pass
  pub reads_none : (act : Level → Action) (n : ℕ) → n ≡ min 6 (length xs) → Reads act t None xs (record { end = n; fate = Passed })
  unfolding raised_at forget fate_text
  reads_none act n h =
      record {
        text = ap accepted (bytes_take 6 t ∙ (ap (take 6) e ∙ short));
        ends = h;
      }
    where
      short : take 6 xs ≡ take n xs
      short =
          by (leb 6 (length xs))
          (λ q. let r = leb-true 6 (length xs) q in let s : 6 ≡ n = omega arith in ap (λ (k : ℕ). take k xs) s)
          (λ q.
          let r = leb-false 6 (length xs) q in
          let s : length xs ≡ n = omega arith in
          take_all 6 xs (omega arith) ∙ (sym (take-length xs) ∙ ap (λ (k : ℕ). take k xs) s))

  -- the content behind the level at k
  content_at : (k : ℕ) → content_of (drop k t) ≡ content_in (drop k xs)
  unfolding content_of content_in
  content_at k = ap content_in (bytes_drop k t ∙ ap (drop k) e)

  -- where the level ends
  level_ends : (l : Level) → 6 + level_len l (drop 6 t) ≡ level_end l xs
  unfolding level_len
  level_ends l =
      let f : ℕ → Bool = λ c. not (ends_level c) in
      let same : bytes (drop 6 t) ≡ bytes (lives (drop 6 xs)) = bytes_drop 6 t ∙ (ap (drop 6) e ∙ sym (bytes_lives (drop 6 xs))) in
      let run : length (take_while (of_byte f) (drop 6 t)) ≡ length (take_while (of_byte f) (lives (drop 6 xs))) =
      while_length_bytes f (drop 6 t)
      ∙ (ap (λ (u : List ℕ). length (take_while f u)) same ∙ sym (while_length_bytes f (lives (drop 6 xs)))) in
      ap (λ (n : ℕ). 6 + cond (is_exception l) 9 n) run

  -- a level at which the statement has the action a: its content lies from the level's end k on, and has m bytes
  pub reads_level : (act : Level → Action) (l : Level) (a : Action) (k m n : ℕ) (f : RaiseFate)
      → k ≡ level_end l xs
      → m ≡ length (content_in (take (length xs - k) (drop k xs)))
      → n ≡ min (k + m + 1) (length xs)
      → f ≡ fate_of a (record { at = k; len = m })
      → act l ≡ a
      → Reads act t (Some l) xs (record { end = n; fate = f })
  unfolding raised_at
  reads_level act l a k m n f p c h g q =
      let c' : m ≡ length (content_in (drop k xs)) = rw take_rest at c in
      record {
        text = rw (level_ends l ∙ sym p, content_at k, g, ← q, c') (becomes (act l));
        ends = rw (level_ends l ∙ sym p, content_at k) (rw c' at h);
      }
    where
      u : List Marked
      u = content_in (drop k xs)

      becomes : (a : Action) → forget (fate_text (action_fate a u)) ≡ fate_in (fate_of a (record { at = k; len = length u })) n xs
      becomes Drop = dropped_text u
      becomes (Raise w) =
          let ys = take (length u) (drop k xs) in
          let same : bytes u ≡ bytes (lives ys) = content_bytes (drop k xs) ∙ sym (bytes_lives ys) in
          raised_text_lem w u ys (trim_bytes u ∙ (ap trimmed same ∙ sym (trim_bytes (lives ys))))
