-- How many parentheses are open at an offset, and the searches for keywords and commas outside them, one step at an offset.
-- Assumes nothing.
use Rattle.std.specs.Prelude.{Option, Some}
use Rattle.std.specs.Iterator.{CallableAtEachTurn}
use Rattle.std.specs.List.{fold, range_with_len}
use Rattle.std.proofs.lemmas.Fn.{serves_by}
use Rattle.std.proofs.lemmas.Iterator.{YieldsList}
use Rattle.std.proofs.lemmas.Iterator.Consumers.{YieldsList-turn}
use Rattle.std.proofs.lemmas.List.FromFn.{get_or-range_with_len, length-range_with_len}
use mathlib.Core.Path.{◌≡◌, refl, sym, ap, subst, ◌∙◌}
use mathlib.Core.Bool.{cond, ◌&&◌}
use mathlib.Core.List.{List, [], ◌∷◌, reverse}
use Prim.Native.Nat.{ℕ, zero, suc, ◌+◌, ◌-◌, ◌≤◌, ◌<◌}
use native.Mathlib.Omega.{arith}
use lib.Dec.{eqb}
use lib.ListN.{length, take, drop, get_or, length-take, length-reverse, length-append}
use lib.Seq.{take_all}
use Rattle.scanner.proofs.ByteLaws.{byte_passes}
use Rattle.spec.proofs.Choice.{cond_le}
use Rattle.spec.proofs.WalkLaws.{back_step, passes_at}
use Rattle.spec.specs.Bytes.{is_ident}
use Rattle.spec.specs.Map.{Marked, live, quoted, byte, is_live, is_live_byte, front_byte}
use Rattle.spec.specs.Search.{word_here}
use Rattle.spec.specs.SelectInto.{depth_after, depth_of, top_word_here, comma_here}

-- the depth behind a byte, by whether it is live and the byte
pub depth_mark : (x : Marked) (d : ℕ) → depth_after x d ≡ cond (is_live x) (cond (eqb (byte x) 40) (suc d) (cond (eqb (byte x) 41) (d - 1) d)) d
depth_mark (live c) d = refl
depth_mark (quoted c) d = refl

pub after_le : (x : Marked) (d : ℕ) → depth_after x d ≤ suc d
after_le (live c) d = cond_le (eqb c 40) _ _ (suc d) (omega arith) (cond_le (eqb c 41) _ _ (suc d) (omega arith) (omega arith))
after_le (quoted c) d = omega arith

-- a fold over the offsets up to n may go one deeper at each
pub serves_depth : {S F : Type 0} {steps : S → Option ℕ → S → Type 0} {R : F × ℕ → ℕ → F × ℕ → Type 0} {Q : F × ℕ → ℕ → Type 0} {s : S} {f : F}
    (n : ℕ) → YieldsList steps (λ x. x) s (range_with_len 0 n) → ((d x : ℕ) (q : F × ℕ) → R (f, d) x q → (q.0 ≡ f) × (q.1 ≤ suc d))
    → ((d x : ℕ) → d ≤ x → x < n → Q (f, d) x) → CallableAtEachTurn {P = F × ℕ} steps R Q s (f, 0)
serves_depth {S} {F} {steps} {R} {Q} {s} {f} n road raises asks =
    serves_by R (λ xs q. (q.0 ≡ f) × (q.1 ≤ length xs))
    (λ xs q x w j r.
    let k = raises q.1 x w (subst (λ (g : F). R (g, q.1) x w) j.0 r) in
    (k.0, omega (arith, k.1, j.1, length-append xs (x ∷ []))))
    steps Q s (f, 0) (refl, omega arith)
    (λ xs t q x u y step j.
    let m = YieldsList-turn road xs t y (Some x) u x refl step in
    let long : length xs < n = omega (arith, m.0, length-range_with_len 0 n) in
    let at : x ≡ length xs = omega (arith, m.1, get_or-range_with_len 0 n (length xs) x long) in
    subst (λ (g : F). Q (g, q.1) x) (sym j.0) (asks q.1 x (omega (arith, at, j.1)) (omega (arith, at, long))))

depth_le : (back : List Marked) → depth_of back ≤ length back
unfolding depth_of
depth_le [] = omega arith
depth_le (x ∷ back) = omega (arith, after_le x (depth_of back), depth_le back)

module _ (t : List Marked) where
  abbrev pub depth_at : ℕ → ℕ
  depth_at i = depth_of (reverse (take i t))

  -- at most as many are open as bytes stand before
  pub depth_bound : (i : ℕ) → depth_at i ≤ i
  depth_bound i = omega (arith, depth_le (reverse (take i t)), length-reverse (take i t), length-take i t)

  pub depth_front : depth_at 0 ≡ 0
  unfolding depth_of
  depth_front = refl

  -- past the end it does not change
  pub depth_past : (i j : ℕ) → length t ≤ i → length t ≤ j → depth_at i ≡ depth_at j
  depth_past i j h k = ap (λ (l : List Marked). depth_of (reverse l)) (take_all i t h ∙ sym (take_all j t k))

  -- one byte further
  pub depth_step : (i d : ℕ) → i < length t → d ≡ depth_at i → depth_after (get_or t i (live 0)) d ≡ depth_at (i + 1)
  unfolding depth_of
  depth_step i d h e = rw (back_step t i (live 0) h, e) refl

  -- ---- the steps from the front on

  abbrev pub depth_turn : ℕ → ℕ → ℕ
  depth_turn d i = depth_after (get_or t i (live 0)) d

  turns : (i n : ℕ) → i + n ≤ length t → fold depth_turn (depth_at i) (range_with_len i n) ≡ depth_at (i + n)
  turns i zero h = let e : i ≡ i + 0 = omega arith in ap depth_at e
  turns i (suc n) h =
      let e : i + 1 + n ≡ i + suc n = omega arith in
      ap (λ (d : ℕ). fold depth_turn d (range_with_len (i + 1) n)) (depth_step i (depth_at i) (omega arith) refl)
      ∙ (turns (i + 1) n (omega arith) ∙ ap depth_at e)

  pub depth_turns : (n : ℕ) → n ≤ length t → fold depth_turn 0 (range_with_len 0 n) ≡ depth_at n
  depth_turns n h =
      let e : 0 + n ≡ n = omega arith in
      ap (λ (d : ℕ). fold depth_turn d (range_with_len 0 n)) (sym depth_front) ∙ (turns 0 n (omega arith) ∙ ap depth_at e)

  -- ---- what the searches ask of a place

  module _ (i : ℕ) where
    pub top_at : (w : List ℕ) → passes_at (top_word_here w) t i ≡ (word_here is_ident w (front_byte (reverse (take i t))) (drop i t) && eqb (depth_at i) 0)
    unfolding top_word_here
    top_at w = refl

    pub comma_passes : i < length t → passes_at comma_here t i ≡ (is_live_byte 44 (get_or t i (live 0)) && eqb (depth_at i) 0)
    unfolding comma_here
    comma_passes h = rw (byte_passes 44 t i h) refl
