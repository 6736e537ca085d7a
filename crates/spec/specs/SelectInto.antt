-- Document 01, "The rewritten body", pass 4: SELECT INTO, with a quote walk of its own. Assumes nothing.
use Rattle.std.specs.Prelude.{ℕ, suc, ◌+◌, ◌-◌, Bool, cond, not, ◌&&◌, List, [], ◌∷◌, ◌++◌, map, reverse, eqb, ltb, length, take, drop, Option, Some, None}
use Rattle.spec.specs.Bytes.{ascii, is_ident, is_quote, is_w}
use Rattle.spec.specs.Lists.{is_empty, take_while, drop_end, any, keep}
use Rattle.spec.specs.Map.{Marked, live, quoted, lives, front_byte, of_byte}
use Rattle.spec.specs.Search.{Test, first, is_found, word_here, starts_ignoring_case, byte_here, pieces}
use Rattle.spec.specs.Parts.{trim, trim_end, part}

-- the quote that is open behind c, q being open before it; 0 for none
unfoldable pub quote_after : ℕ → ℕ → ℕ
quote_after q c =
    let opened = cond (is_quote c) c 0 in
    let closed = cond (eqb c q) 0 q in
    cond (eqb q 0) opened closed

-- only `'` and `"` count here; comments and backslashes mean nothing
unfoldable pub quote_walk : ℕ → List ℕ → List Marked
quote_walk q [] = []
quote_walk q (c ∷ cs) = cond (eqb q 0 && not (is_quote c)) (live c) (quoted c) ∷ quote_walk (quote_after q c) cs

-- how many parentheses are open behind this text, read backwards; those in quotes do not count, and never below zero
abbrev pub depth_after : Marked → ℕ → ℕ
depth_after (live c) d = cond (eqb c 40) (suc d) (cond (eqb c 41) (d - 1) d)
depth_after (quoted c) d = d

unfoldable pub depth_of : List Marked → ℕ
depth_of [] = 0
depth_of (x ∷ back) = depth_after x (depth_of back)

-- a keyword outside parentheses and those quotes; its edges count `$` as no word byte
unfoldable pub top_word_here : List ℕ → Test
top_word_here w back t = word_here is_ident w (front_byte back) t && eqb (depth_of back) 0

-- a comma outside parentheses and those quotes
unfoldable pub comma_here : Test
comma_here back t = byte_here 44 back t && eqb (depth_of back) 0

-- columns and variables split at such commas and are trimmed of W, empty ones dropped
unfoldable pub listed : List Marked → List (List Marked)
listed t = keep (λ (p : List Marked). not (is_empty p)) (map trim (pieces comma_here t))

-- the indentation: all text from just behind the last newline
unfoldable pub indentation : List Marked → List Marked
indentation t = reverse (take_while (of_byte (λ c. not (eqb c 10))) (reverse t))

-- ` LIMIT ` with both spaces, in any case, stands somewhere
unfoldable pub has_limit : List Marked → Bool
has_limit t = is_found (first (λ (back u : List Marked). starts_ignoring_case (ascii " LIMIT ") u) 0 t)

-- the WITH part, `SELECT col`, a space and the FROM part
unfoldable pub subquery : List Marked → List Marked → List Marked → List Marked
subquery with_part from_part col = with_part ++ (lives (ascii "SELECT ") ++ (col ++ (live 32 ∷ from_part)))

-- `SET var = (SELECT col FROM .. LIMIT 1);`: a ` LIMIT ` suppresses the added one, then W at the end goes
unfoldable pub set_line : List Marked → List Marked → List Marked → List Marked → List Marked
set_line with_part from_part col var =
    let q = subquery with_part from_part col in
    let limit = cond (has_limit q) [] (lives (ascii " LIMIT 1")) in
    lives (ascii "SET ") ++ (var ++ (lives (ascii " = (") ++ (trim_end q ++ (limit ++ lives (ascii ");")))))

-- a line per pair, joined by newline and the indentation
unfoldable pub set_lines : List Marked → (List Marked → List Marked → List Marked) → List (List Marked) → List (List Marked) → List Marked
set_lines indent line [] vars = []
set_lines indent line (c ∷ cols) [] = []
set_lines indent line (c ∷ []) (v ∷ vars) = line c v
set_lines indent line (c ∷ d ∷ cols) (v ∷ vars) = line c v ++ (live 10 ∷ (indent ++ set_lines indent line (d ∷ cols) vars))

-- unequal counts, no columns, or W inside a variable: unchanged
unfoldable pub pair_up : List (List Marked) → List (List Marked) → Bool
pair_up cols vars =
    eqb (length cols) (length vars) && (not (is_empty cols) && not (any (λ (v : List Marked). any (of_byte is_w) v) vars))

abbrev pub place_or : Option ℕ → ℕ → ℕ
place_or (Some i) n = i
place_or None n = n

-- the FROM part loses W, then `;`, at its end; it is empty if there is no FROM
unfoldable pub from_part : Option ℕ → List Marked → List Marked
from_part None t = []
from_part (Some f) t = drop_end (of_byte (λ c. eqb c 59)) (trim_end (drop f t))

-- the first WITH goes into each subquery if it stands before SELECT
unfoldable pub front_place : Option ℕ → ℕ → ℕ
front_place None s = s
front_place (Some w) s = cond (ltb w s) w s

-- the statement t, its `;` at its end, with SELECT at s, INTO at i and perhaps FROM
unfoldable pub select_cut : ℕ → ℕ → Option ℕ → List Marked → List Marked
select_cut s i from t =
    let front = front_place (first (top_word_here (ascii "WITH")) 0 t) s in
    let cols = listed (part (s + 6) i t) in
    let vars = listed (part (i + 4) (place_or from (length t - 1)) t) in
    let line = set_line (part front s t) (from_part from t) in
    let lines = set_lines (indentation (take front t)) line cols vars in
    cond (pair_up cols vars) (take front t ++ lines) t

unfoldable pub into_at : ℕ → Option ℕ → List Marked → List Marked
into_at s None t = t
into_at s (Some i) t = select_cut s i (first (top_word_here (ascii "FROM")) i t) t

unfoldable pub select_at : Option ℕ → List Marked → List Marked
select_at None t = t
select_at (Some s) t = into_at s (first (top_word_here (ascii "INTO")) s t) t

-- a statement that ends in `;`: the first SELECT, then INTO, then FROM if any, cut it
unfoldable pub select_statement : List Marked → List Marked
select_statement t = select_at (first (top_word_here (ascii "SELECT")) 0 t) t

-- each statement that ends in `;` rewritten with it, what is behind the last one unchanged
unfoldable pub join_selects : List (List Marked) → List Marked
join_selects [] = []
join_selects (s ∷ []) = s
join_selects (s ∷ r ∷ ss) = select_statement (s ++ (live 59 ∷ [])) ++ join_selects (r ∷ ss)

-- pass 4: statements end at `;` outside those quotes
unfoldable pub select_into : List Marked → List Marked
select_into t = join_selects (pieces (byte_here 59) t)
