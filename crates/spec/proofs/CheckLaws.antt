-- The first byte over 127, and the checks that come first: each answer exactly on its condition. Assumes nothing.
use Rattle.std.specs.Prelude.{Option, Some, None, Result, Ok, Err, ⊤}
use Rattle.std.proofs.lemmas.Bool.{cond_both}
use mathlib.Core.Path.{◌≡◌, refl, sym, ap, ◌∙◌}
use mathlib.Core.Bool.{Bool, true, false, not, false≢true}
use mathlib.Core.List.{List, [], ◌∷◌}
use mathlib.Core.Logic.{◌⊎◌, inl, inr, ⊎_elim}
use Prim.Native.Nat.{ℕ, ◌≤◌, ◌<◌}
use native.Mathlib.Omega.{arith}
use borrow.Author.Tests.{ltb-true, ltb-false, lt-ltb, le-ltb, not-true, not-false}
use lib.Dec.{ltb}
use lib.ListN.{length, get_or}
use Rattle.spec.proofs.Choice.{by}
use Rattle.spec.proofs.MapLaws.{map_length}
use Rattle.spec.proofs.WalkLaws.{live_inside, while_passes, while_fails, while_exactly}
use Rattle.spec.proofs.FirstLaws.{NoneOf}
use Rattle.spec.specs.Bytes.{is_high}
use Rattle.spec.specs.Lists.{take_while}
use Rattle.spec.specs.Map.{map_of}
use Rattle.spec.specs.Search.{find_in_code, split_in_code}
use Rattle.spec.specs.Answers.{first_high, ascii_check, check_of}
use Rattle.spec.specs.declared.Refusal.{Refusal}
use Rattle.spec.specs.declared.Refusal.TheVariants.{TextTooLong, BufferTooShort, NotAscii}
use Rattle.spec.proofs.SearchLaws.{none_byte, IsByteAt}
use Rattle.spec.proofs.SplitStarts.{split_none}

-- ---- bytes over 127

-- i is the first offset of a byte over 127
pub record IsFirstHigh (xs : List ℕ) (i : ℕ) : Type 0 where
  pub inside : i < length xs
  pub high : is_high (get_or xs i 0) ≡ true
  pub none : (k : ℕ) → k < i → is_high (get_or xs k 0) ≡ false

-- the text has no byte over 127
abbrev pub NoHigh : List ℕ → Type 0
NoHigh xs = (k : ℕ) → k < length xs → is_high (get_or xs k 0) ≡ false

module _ (xs : List ℕ) where
  low_len : ℕ
  low_len = length (take_while (λ (b : ℕ). not (is_high b)) xs)

  low_before : (k : ℕ) → k < low_len → is_high (get_or xs k 0) ≡ false
  unfolding low_len
  low_before k h = not-true (is_high (get_or xs k 0)) (while_passes (λ (b : ℕ). not (is_high b)) xs 0 k h)

  low_first : low_len < length xs → IsFirstHigh xs low_len
  unfolding low_len
  low_first h =
      record {
        inside = h;
        high = not-false (is_high (get_or xs low_len 0)) (while_fails (λ (b : ℕ). not (is_high b)) xs 0 h);
        none = low_before;
      }

  -- the first offset of a byte over 127 is found, none exactly if there is none
  pub high_found : (i : ℕ) → first_high xs ≡ Some i → IsFirstHigh xs i
  unfolding first_high low_len
  high_found i e =
      by (ltb low_len (length xs))
      (λ q. let r : Some low_len ≡ Some i = rw q at e in let same : low_len ≡ i = cc in rw same at (low_first (ltb-true low_len (length xs) q)))
      (λ q. let r : None ≡ Some i = rw q at e in let z : ◌≡◌ {A = ℕ} 0 1 = cc in absurd (omega arith))

  pub high_none : first_high xs ≡ None → NoHigh xs
  unfolding first_high low_len
  high_none e k h =
      by (ltb low_len (length xs))
      (λ q. let r : Some low_len ≡ None = rw q at e in let z : ◌≡◌ {A = ℕ} 0 1 = cc in absurd (omega arith))
      (λ q. low_before k (omega (arith, ltb-false low_len (length xs) q)))

  pub found_high : (i : ℕ) → IsFirstHigh xs i → first_high xs ≡ Some i
  unfolding first_high low_len
  found_high i r =
      let n : low_len ≡ i = while_exactly (λ (b : ℕ). not (is_high b)) xs 0 i (omega (arith, r.inside)) (λ k h. ap not (r.none k h)) (λ _. ap not r.high) in
      rw (n, lt-ltb i (length xs) r.inside) refl

  pub none_high : NoHigh xs → first_high xs ≡ None
  unfolding first_high low_len
  none_high r =
      by (ltb low_len (length xs))
      (λ q. let f = low_first (ltb-true low_len (length xs) q) in absurd (false≢true (sym (r low_len f.inside) ∙ f.high)))
      (λ q. rw q refl)

  -- a sought byte over 127 is never found in a text that has none
  pub high_never : NoHigh xs → (b : ℕ) → is_high b ≡ true → NoneOf (IsByteAt xs b) 0
  high_never n b h k a r =
      let m : k < length xs = omega (arith, live_inside (map_of xs) k r.is_live_lem, map_length xs) in
      false≢true (sym (n k m) ∙ (ap is_high r.is_byte ∙ h))

  pub high_not_found : NoHigh xs → (b : ℕ) → is_high b ≡ true → find_in_code xs b ≡ None
  high_not_found n b h = none_byte xs b (high_never n b h)

  pub high_no_split : NoHigh xs → (b : ℕ) → is_high b ≡ true → split_in_code xs b ≡ 0 ∷ []
  high_no_split n b h = split_none xs b (high_never n b h)

-- ---- the checks

-- the condition of each refusal: no other is given
pub data CheckRefuses (limit : ℕ) (enough : Bool) (xs needle : List ℕ) (r : Refusal) : Type 0 where
  too_long : r ≡ TextTooLong → limit < length xs → CheckRefuses limit enough xs needle r
  too_short : r ≡ BufferTooShort → length xs ≤ limit → enough ≡ false → CheckRefuses limit enough xs needle r
  not_ascii : {i : ℕ} → r ≡ NotAscii i → length xs ≤ limit → enough ≡ true
      → IsFirstHigh xs i ⊎ (NoHigh xs × IsFirstHigh needle i)
      → CheckRefuses limit enough xs needle r

-- the condition of each answer
abbrev pub CheckCondition : ℕ → Bool → List ℕ → List ℕ → Result ⊤ Refusal → Type 0
CheckCondition limit enough xs needle (Ok tt) = (length xs ≤ limit) × (enough ≡ true) × NoHigh xs × NoHigh needle
CheckCondition limit enough xs needle (Err r) = CheckRefuses limit enough xs needle r

module _ (limit : ℕ) (enough : Bool) (xs needle : List ℕ) where
  pub holds : CheckCondition limit enough xs needle (check_of limit enough xs needle)
  unfolding check_of
  holds =
      cond_both (ltb limit (length xs)) _ _ (CheckCondition limit enough xs needle)
      (λ e. too_long refl (ltb-true limit (length xs) e))
      (λ e.
      let fits = ltb-false limit (length xs) e in
      cond_both enough _ _ (CheckCondition limit enough xs needle) (λ y. text fits y (first_high xs) refl) (λ n. too_short refl fits n))
    where
      inner : length xs ≤ limit → enough ≡ true → NoHigh xs → (f : Option ℕ) → first_high needle ≡ f → CheckCondition limit enough xs needle (ascii_check f (Ok tt))
      inner fits y n (Some i) e = not_ascii refl fits y (inr (n, high_found needle i e))
      inner fits y n None e = (fits, y, n, high_none needle e)

      text : length xs ≤ limit → enough ≡ true → (f : Option ℕ) → first_high xs ≡ f → CheckCondition limit enough xs needle (ascii_check f (ascii_check (first_high needle) (Ok tt)))
      text fits y (Some i) e = not_ascii refl fits y (inl (high_found xs i e))
      text fits y None e = inner fits y (high_none xs e) (first_high needle) refl

  -- each answer is given only on its condition
  pub check_only : (c : Result ⊤ Refusal) → check_of limit enough xs needle ≡ c → CheckCondition limit enough xs needle c
  check_only c e = rw e at holds

  -- and always on it
  pub check_always : (c : Result ⊤ Refusal) → CheckCondition limit enough xs needle c → check_of limit enough xs needle ≡ c
  unfolding check_of
  check_always (Ok tt) h = rw (le-ltb limit (length xs) h.0, h.1, none_high xs h.2, none_high needle h.3) refl
  check_always (Err r) (too_long e h) = rw (e, lt-ltb limit (length xs) h) refl
  check_always (Err r) (too_short e h n) = rw (e, le-ltb limit (length xs) h, n) refl
  check_always (Err r) (not_ascii {i} e h y w) =
      ⊎_elim
      (λ f. rw (e, le-ltb limit (length xs) h, y, found_high xs i f) refl)
      (λ f. rw (e, le-ltb limit (length xs) h, y, none_high xs f.0, found_high needle i f.1) refl)
      w
