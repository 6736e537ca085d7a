-- Marked text read from the left with a state: what is read can be cut and put together again. Assumes nothing.
use mathlib.Core.Path.{◌≡◌, refl, sym, ap, ◌∙◌, subst}
use mathlib.Core.Bool.{Bool, true, false, not, ◌&&◌, ◌||◌}
use mathlib.Core.List.{List, [], ◌∷◌, ◌++◌}
use Prim.Native.Nat.{ℕ}
use lib.Dec.{eqb}
use Rattle.std.proofs.lemmas.Bool.{and_parts}
use Rattle.spec.specs.Bytes.{ascii, is_ident, is_quote, is_w, upper}
use Rattle.spec.specs.Map.{Marked, live, byte, lives, front_byte}

module _ {S : Type 0} (after : S → Marked → S) where
  -- the state that a text leaves
  abbrev pub leaves : S → List Marked → S
  leaves s [] = s
  leaves s (x ∷ t) = leaves (after s x) t

  pub leaves_append : (t u : List Marked) (s : S) → leaves s (t ++ u) ≡ leaves (leaves s t) u
  leaves_append [] u s = refl
  leaves_append (x ∷ t) u s = leaves_append t u (after s x)

module _ {S : Type 0} (ok : S → Marked → Bool) (after : S → Marked → S) where
  -- each byte is allowed in the state that the bytes before it leave
  abbrev pub Reads : S → List Marked → Type 0
  Reads s [] = Unit {0}
  Reads s (x ∷ t) = (ok s x ≡ true) × Reads (after s x) t

  pub cut : (t u : List Marked) (s : S) → Reads s (t ++ u) → Reads s t × Reads (leaves after s t) u
  cut [] u s r = (tt, r)
  cut (x ∷ t) u s r = let w = cut t u (after s x) r.1 in ((r.0, w.0), w.1)

  pub paste : (t u : List Marked) (s : S) → Reads s t → Reads (leaves after s t) u → Reads s (t ++ u)
  paste [] u s p r = r
  paste (x ∷ t) u s p r = (p.0, paste t u (after s x) p.1 r)

  -- a text that is read and leaves the state z
  pub record Takes (s z : S) (t : List Marked) : Type 0 where
    pub reads : Reads s t
    pub end : leaves after s t ≡ z

  pub takes_cons : (x : Marked) (t : List Marked) (s y z : S) → ok s x ≡ true → after s x ≡ y → Takes y z t → Takes s z (x ∷ t)
  takes_cons x t s y z o e b =
      record {
        reads = (o, subst (λ (w : S). Reads w t) (sym e) b.reads);
        end = ap (λ (w : S). leaves after w t) e ∙ b.end;
      }

  pub takes_append : (t u : List Marked) (s y z : S) → Takes s y t → Takes y z u → Takes s z (t ++ u)
  takes_append t u s y z a b =
      record {
        reads = paste t u s a.reads (rw a.end b.reads);
        end = leaves_append after t u s ∙ (ap (λ (w : S). leaves after w u) a.end ∙ b.end);
      }

module _ {S : Type 0} (ok : S → Marked → Bool) (after : S → Marked → S) where
  -- each byte is allowed, as a test that computes
  abbrev pub reads_all : S → List Marked → Bool
  reads_all s [] = true
  reads_all s (x ∷ t) = ok s x && reads_all (after s x) t

  pub all_reads : (t : List Marked) (s : S) → reads_all s t ≡ true → Reads ok after s t
  all_reads [] s h = tt
  all_reads (x ∷ t) s h =
      let more = reads_all (after s x) t in
      ((and_parts (ok s x) more h).0, all_reads t (after s x) ((and_parts (ok s x) more h).1))

  -- a text that a pass puts in is read from each state of a set and leaves z: `every` tries all states
  pub put_in : (every : (S → Bool) → Bool) → ((f : S → Bool) → every f ≡ true → (s : S) → f s ≡ true)
      → (z : S) (is_z : S → Bool) → ((s : S) → is_z s ≡ true → s ≡ z)
      → (set : S → Bool) (t : List Marked)
      → every (λ s. not (set s) || (reads_all s t && is_z (leaves after s t))) ≡ true
      → (s : S) → set s ≡ true → Takes ok after s z t
  put_in every each z is_z only set t h s m =
      let g : (reads_all s t && is_z (leaves after s t)) ≡ true = rw m at (each _ h s) in
      record {
        reads = all_reads t s ((and_parts (reads_all s t) (is_z (leaves after s t)) g).0);
        end = only (leaves after s t) ((and_parts (reads_all s t) (is_z (leaves after s t)) g).1);
      }

-- a reading that allows more
pub reads_more : {S : Type 0} (ok more : S → Marked → Bool) (after : S → Marked → S)
    → ((s : S) (x : Marked) → ok s x ≡ true → more s x ≡ true)
    → (t : List Marked) (s : S) → Reads ok after s t → Reads more after s t
reads_more ok more after h [] s r = tt
reads_more ok more after h (x ∷ t) s r = (h s x r.0, reads_more ok more after h t (after s x) r.1)

-- What passes 3 and 4 ask of a reading so that what they make of a text that is read is read too.
pub record Reading : Type 1 where
  pub State : Type 0
  pub start : State
  -- what is allowed before pass 4, and behind it
  pub ok : State → Marked → Bool
  pub safe : State → Marked → Bool
  pub after : State → Marked → State
  -- the state is none of a literal; a part that is cut out may end here
  pub rest : State → Bool
  -- besides, it is not the state of a space that needs a word
  pub before_space : State → Bool
  -- the byte before is no identifier byte
  pub edge : State → Bool
  pub safer : (s : State) (x : Marked) → ok s x ≡ true → safe s x ≡ true
  pub rest_start : rest start ≡ true
  pub before_space_start : before_space start ≡ true
  pub edge_start : edge start ≡ true
  -- before a live byte no literal is open
  pub alive : (s : State) (c : ℕ) → ok s (live c) ≡ true → rest s ≡ true
  -- a byte that is no quote opens and closes no literal
  pub back : (s : State) (x : Marked) → is_quote (byte x) ≡ false → ok s x ≡ true → rest (after s x) ≡ true → rest s ≡ true
  pub forth : (s : State) (x : Marked) → is_quote (byte x) ≡ false → ok s x ≡ true → rest s ≡ true → rest (after s x) ≡ true
  pub settle : (s : State) (x : Marked) → is_w (byte x) ≡ false → ok s x ≡ true → rest (after s x) ≡ true → before_space (after s x) ≡ true
  pub edges : (s : State) (x : Marked) → is_ident (byte x) ≡ false → edge (after s x) ≡ true
  -- what begins at the edge of a word is read from the start
  pub fresh : (u : List Marked) (s : State) → (edge s || not (is_ident (front_byte u))) ≡ true → rest s ≡ true → Reads ok after s u
      → Reads ok after start u × (rest (leaves after s u) ≡ true → rest (leaves after start u) ≡ true)
  pub semi : (s : State) → after s (live 59) ≡ start
  pub comma : (s : State) → after s (live 44) ≡ start
  pub newline : (s : State) (x : Marked) → byte x ≡ 10 → ok s x ≡ true → after s x ≡ start
  pub line_start : ok start (live 10) ≡ true
  pub white : (x : Marked) → is_w (byte x) ≡ true → ok start x ≡ true → after start x ≡ start
  -- a `;` may stand where W or `;` and then a `;` stands
  pub tail : (s : State) (x : Marked) → (is_w (byte x) || eqb (byte x) 59) ≡ true → ok s x ≡ true → ok (after s x) (live 59) ≡ true
      → ok s (live 59) ≡ true
  -- the texts that the passes put in
  pub set_word : (s : State) → rest s ≡ true → Takes ok after s start (lives (ascii "SET "))
  pub select_word : (s : State) → rest s ≡ true → Takes ok after s start (lives (ascii "SELECT "))
  pub equals : (s : State) → before_space s ≡ true → Takes ok after s start (lives (ascii " = "))
  pub equals_open : (s : State) → before_space s ≡ true → Takes ok after s start (lives (ascii " = ("))
  pub limit : (s : State) → before_space s ≡ true → Takes safe after s start (lives (ascii " LIMIT 1);"))
  pub closing : (s : State) → before_space s ≡ true → Takes safe after s start (lives (ascii ");"))
  -- a space, and then nothing or the FROM part
  pub gap : (s : State) → before_space s ≡ true → Takes ok after s (after s (live 32)) (live 32 ∷ []) × (rest (after s (live 32)) ≡ true)
  pub gap_from : (s : State) (x : Marked) (t : List Marked) → before_space s ≡ true → eqb (upper (byte x)) 70 ≡ true → Reads ok after start (x ∷ t)
      → Reads ok after (after s (live 32)) (x ∷ t) × (leaves after (after s (live 32)) (x ∷ t) ≡ leaves after start (x ∷ t))
