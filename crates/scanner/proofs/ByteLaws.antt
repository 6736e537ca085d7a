-- A live byte at an offset of a text and its map. Assumes nothing.
use Rattle.std.proofs.lemmas.List.{drop_more}
use mathlib.Core.Path.{◌≡◌, refl}
use mathlib.Core.Bool.{not, ◌&&◌, ◌||◌}
use mathlib.Core.List.{List}
use Prim.Native.Nat.{ℕ, ◌<◌}
use lib.ListN.{length, get_or}
use lib.Dec.{eqb}
use Rattle.spec.proofs.MapLaws.{mark_byte}
use Rattle.spec.proofs.WalkLaws.{passes_at, marked_at_lem, mark_live}
use Rattle.spec.specs.Bytes.{is_n, is_word}
use Rattle.spec.specs.Map.{Marked, live, quoted, byte, is_live, marked, is_live_byte}
use Rattle.spec.specs.Search.{byte_here, is_skipped, is_word_mark}

pub byte_passes : (b : ℕ) (t : List Marked) (i : ℕ) → i < length t → passes_at (byte_here b) t i ≡ is_live_byte b (get_or t i (live 0))
unfolding byte_here
byte_passes b t i h = rw (drop_more t i (live 0) h) refl

-- the byte at an offset, and whether it is live
module _ (xs ms : List ℕ) (i : ℕ) (h : i < length xs) where
  pub byte_marked : byte (get_or (marked xs ms) i (live 0)) ≡ get_or xs i 0
  byte_marked = rw (marked_at_lem xs ms i (live 0) h) (mark_byte (get_or ms i 0) (get_or xs i 0))

  pub live_marked : is_live (get_or (marked xs ms) i (live 0)) ≡ eqb (get_or ms i 0) 0
  live_marked = rw (marked_at_lem xs ms i (live 0) h) (mark_live (get_or ms i 0) (get_or xs i 0))

pub live_byte : (b : ℕ) (x : Marked) → is_live_byte b x ≡ (is_live x && eqb (byte x) b)
live_byte b (live c) = refl
live_byte b (quoted c) = refl

pub skipped_mark : (x : Marked) → is_skipped x ≡ (not (is_live x) || is_n (byte x))
skipped_mark (live c) = refl
skipped_mark (quoted c) = refl

pub word_mark : (x : Marked) → is_word_mark x ≡ (is_live x && is_word (byte x))
word_mark (live c) = refl
word_mark (quoted c) = refl
