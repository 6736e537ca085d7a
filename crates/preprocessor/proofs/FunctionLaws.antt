-- What the function call answers and leaves, from its declarations and its passes. Assumes nothing.
use Rattle.std.specs.Prelude.{Err, Ok, Result}
use mathlib.Core.Path.{◌≡◌, refl, sym, ap, subst, ◌∙◌}
use mathlib.Core.List.{List, [], ◌++◌}
use Prim.Native.Nat.{ℕ, ◌+◌, ◌-◌, ◌*◌, ◌≤◌, ◌<◌}
use native.Mathlib.Omega.{arith}
use borrow.Author.Tests.{ltb-true, ltb-false, lt-ltb}
use lib.Dec.{ltb}
use lib.ListN.{length, take, drop}
use lib.Seq.{drop-append-add, drop-drop}
use Rattle.spec.proofs.Apart.{apart}
use Rattle.spec.proofs.Choice.{by}
use Rattle.spec.proofs.RefusalCalls.{function_passes}
use Rattle.spec.proofs.RecordLaws.{numbers_length}
use Rattle.spec.proofs.WalkLaws.{marked_kept}
use Rattle.spec.specs.Bytes.{ascii}
use Rattle.spec.specs.Search.{first, keyword_here}
use Rattle.spec.specs.Map.{map_of, marked, marked_text}
use Rattle.spec.specs.Outcome.{accepted, refused, Rewriting}
use Rattle.spec.specs.Raise.{action_of}
use Rattle.spec.specs.Raise.{Actions}
use Rattle.spec.specs.Body.{rewriting}
use Rattle.spec.specs.Declarations.{Declared, record_limit, record_width, records_of, body_from, body_of, packed, numbers_of}
use Rattle.spec.specs.Answers.{CallResult, result_of, body_result, function_result, by_table, without_records, kept_behind, zeroed_to}
use Rattle.declared_records.proofs.HeldLaws.{sets_drop}
use Rattle.declarations.proofs.SectionLaws.{records_in_lem}
use Rattle.declarations.proofs.PackedLaws.{packed_fits}
use Rattle.declarations.specs.SectionRecords.{records_in, parsed_of, Packed, Holds}
use Rattle.declarations.specs.declared.DeclaredSizes.{DeclaredSizes}
use Rattle.spec.specs.declared.Refusal.TheVariants as refusal
use Rattle.preprocessor.specs.AnswerRecords.{passed, sizes_of, with_records, if_accepted}
use Rattle.spec.specs.declared.Refusal.{Refusal}
use Rattle.spec.specs.declared.Accepted.{Accepted}

-- what the declarations' answer tells
pub told_count : (ds : List Declared) (p : DeclaredSizes) → parsed_of ds ≡ Ok p → (length ds ≤ 512) × (length ds ≡ p.records) × (length (packed ds) ≡ p.bytes)
unfolding parsed_of
told_count ds p e =
    by (ltb 512 (length ds))
    (λ h. let q : Err refusal.TooManyNames ≡ Ok p = rw h at e in absurd (apart (cc)))
    (λ h.
    let made : DeclaredSizes = record { records = length ds; bytes = length (packed ds) } in
    let q : Ok made ≡ Ok p = rw h at e in
    let same : made ≡ p = ap (λ (r : Result DeclaredSizes Refusal). unwrap_ok r p) q in
    (ltb-false 512 (length ds) h, ap (λ (r : DeclaredSizes). r.records) same, ap (λ (r : DeclaredSizes). r.bytes) same))
  where
    unwrap_ok : Result DeclaredSizes Refusal → DeclaredSizes → DeclaredSizes
    unwrap_ok (Ok r) d = r
    unwrap_ok (Err r) d = d

pub parsed_names : (ds : List Declared) (r : Refusal) → parsed_of ds ≡ Err r → (512 < length ds) × (r ≡ refusal.TooManyNames)
unfolding parsed_of
parsed_names ds r e =
    by (ltb 512 (length ds))
    (λ h. let q : Err refusal.TooManyNames ≡ Err r = rw h at e in (ltb-true 512 (length ds) h, cc))
    (λ h. let made : DeclaredSizes = record { records = length ds; bytes = length (packed ds) } in let q : Ok made ≡ Err r = rw h at e in absurd (apart (cc)))

-- the call's result with too many names
pub names_refused : (xs : List ℕ) (a : Actions) → 512 < length (records_of xs) → function_result xs a ≡ without_records refusal.TooManyNames []
unfolding function_result record_limit
names_refused xs a h = rw (lt-ltb 512 (length (records_of xs)) h) refl

-- the records change an accepted answer's count, and no output
pub records_answer : (ds : List Declared) (w : Rewriting) → with_records (length ds) (result_of [] w).answer ≡ (result_of ds w).answer
unfolding result_of
records_answer ds (accepted ys) = refl
records_answer ds (refused f) = refl

pub records_output : (ds : List Declared) (w : Rewriting) → (result_of [] w).output ≡ (result_of ds w).output
unfolding result_of
records_output ds (accepted ys) = refl
records_output ds (refused f) = refl

-- with an accepted answer the texts and numbers stay, with a refusal nothing does
pub texts_held : (ds : List Declared) (w : Rewriting) (d : List ℕ) → take (length (packed ds)) d ≡ packed ds
    → take (if_accepted (result_of [] w).answer (length (packed ds))) d ≡ (result_of ds w).declared
unfolding result_of
texts_held ds (accepted ys) d h = h
texts_held ds (refused f) d h = refl

pub numbers_held : (ds : List Declared) (w : Rewriting) (rs : List ℕ) → take (length (numbers_of ds)) rs ≡ numbers_of ds
    → take (if_accepted (result_of [] w).answer (10 * length ds + 10)) rs ≡ (result_of ds w).records
unfolding result_of record_width
numbers_held ds (accepted ys) rs h =
    let n : 10 * length ds + 10 ≡ length (numbers_of ds) = omega (arith, numbers_length ds) in
    rw n h
numbers_held ds (refused f) rs h = refl

pub at_most : (r : Result Accepted Refusal) (n m : ℕ) → n ≤ m → if_accepted r n ≤ m
at_most (Ok a) n m h = h
at_most (Err f) n m h = omega arith

-- what is behind the size stays
pub kept_drop : (ms d : List ℕ) (n : ℕ) → length ms ≤ n → drop n (kept_behind ms d) ≡ drop n d
unfolding kept_behind
kept_drop ms d n h =
    let k : n ≡ length ms + (n - length ms) = omega arith in
    ap (λ (i : ℕ). drop i (ms ++ drop (length ms) d)) k
    ∙ (drop-append-add ms (drop (length ms) d) (n - length ms) ∙ (drop-drop (n - length ms) (length ms) d ∙ ap (λ (i : ℕ). drop i d) (sym k)))

-- what is written behind the size is all that a buffer's entry contents decide
pub zeroed_same : (n : ℕ) (ys d e : List ℕ) → drop n d ≡ drop n e → zeroed_to n ys d ≡ zeroed_to n ys e
unfolding zeroed_to
zeroed_same n ys d e h = rw h refl

-- `work` held the text's map when the declarations were read
module _ (xs work work' : List ℕ) (m : work' ≡ kept_behind (map_of xs) work) where
  mapped : marked xs work' ≡ marked_text xs
  mapped = ap (marked xs) m ∙ marked_kept xs work

  the_records : records_in (marked xs work') ≡ records_of xs
  the_records = ap records_in mapped ∙ records_in_lem xs

  module _ (d d' rs rs' : List ℕ) (held : Holds (records_in (marked xs work')) d d' rs rs') where
    held_records : Holds (records_of xs) d d' rs rs'
    held_records = subst (λ (ds : List Declared). Holds ds d d' rs rs') the_records held

    -- the declarations are read: p says how many there are, and how many bytes their texts have
    module _ (p : DeclaredSizes) (q : parsed_of (records_in (marked xs work')) ≡ Ok p) where
      told : (length (records_of xs) ≤ 512) × (length (records_of xs) ≡ p.records) × (length (packed (records_of xs)) ≡ p.bytes)
      told = told_count (records_of xs) p (ap parsed_of (sym the_records) ∙ q)

      count_small : p.records ≤ 512
      count_small = omega (arith, told.0, told.1)

      texts_small : length xs ≤ 16384 → p.bytes ≤ 65536
      texts_small h = omega (arith, packed_fits xs, told.2, h)

      packed_as : Packed (records_of xs) d d' rs'
      packed_as = held_records.accepted told.0

      texts_kept : length xs ≤ 16384 → drop 65536 d' ≡ drop 65536 d
      texts_kept h = ap (drop 65536) packed_as.texts ∙ sets_drop (packed (records_of xs)) d 0 65536 (omega (arith, packed_fits xs, h))

      -- and the passes run over the body, which starts at `start`
      module _ (k : Actions) (start : ℕ) (b : drop start xs ≡ body_from (first (keyword_here (ascii "BEGIN")) 0 (marked xs work')) xs) where
        the_body : body_of xs ≡ drop start xs
        unfolding body_of
        the_body = sym (b ∙ ap (λ t. body_from (first (keyword_here (ascii "BEGIN")) 0 t) xs) mapped)

        result : function_result xs k ≡ result_of (records_of xs) (rewriting (action_of k) (drop start xs))
        unfolding record_limit
        result = function_passes xs k told.0 ∙ ap (λ ys. result_of (records_of xs) (rewriting (action_of k) ys)) the_body

        output_is : (body_result (drop start xs) k).output ≡ (function_result xs k).output
        unfolding body_result
        output_is = records_output (records_of xs) (rewriting (action_of k) (drop start xs)) ∙ sym (ap (λ (f : CallResult). f.output) result)

        module _ (r : Result Accepted Refusal) (a : r ≡ (body_result (drop start xs) k).answer) where
          answer_is : with_records p.records r ≡ (function_result xs k).answer
          unfolding body_result
          answer_is =
              rw (← told.1, a) (records_answer (records_of xs) (rewriting (action_of k) (drop start xs)) ∙ sym (ap (λ (f : CallResult). f.answer) result))

          texts_are : take (if_accepted r p.bytes) d' ≡ (function_result xs k).declared
          unfolding body_result
          texts_are =
              rw (← told.2, a)
              (texts_held (records_of xs) (rewriting (action_of k) (drop start xs)) d' packed_as.front ∙ sym (ap (λ (f : CallResult). f.declared) result))

          numbers_are : take (if_accepted r (10 * p.records + 10)) rs' ≡ (function_result xs k).records
          unfolding body_result
          numbers_are =
              rw (← told.1, a)
              (numbers_held (records_of xs) (rewriting (action_of k) (drop start xs)) rs' packed_as.numbers ∙ sym (ap (λ (f : CallResult). f.records) result))

    -- there are too many names
    module _ (r : Refusal) (q : parsed_of (records_in (marked xs work')) ≡ Err r) where
      many : (512 < length (records_of xs)) × (r ≡ refusal.TooManyNames)
      many = parsed_names (records_of xs) r (ap parsed_of (sym the_records) ∙ q)

      refused_is : (k : Actions) → function_result xs k ≡ without_records r []
      refused_is k = names_refused xs k many.0 ∙ ap (λ (f : Refusal). without_records f []) (sym many.1)

      texts_same : d' ≡ d
      texts_same = held_records.refused many.0

    -- the declarations' sizes are within their buffers, whose other bytes stay
    pub record Sized (q : Result DeclaredSizes Refusal) : Type 0 where
      pub count : (sizes_of q).records ≤ 512
      pub small : (sizes_of q).bytes ≤ 65536
      pub kept : drop 65536 d' ≡ drop 65536 d

    sized : length xs ≤ 16384 → (q : Result DeclaredSizes Refusal) → parsed_of (records_in (marked xs work')) ≡ q → Sized q
    sized h (Ok p) e = record { count = count_small p e; small = texts_small p e h; kept = texts_kept p e h }
    sized h (Err f) e = record { count = omega arith; small = omega arith; kept = ap (drop 65536) (texts_same f e) }

    -- what the call comes to: with what a table says, what the declarations are read as, and the answer of the passes
    pub record Called (start : ℕ) (t : Result Actions Refusal) (q : Result DeclaredSizes Refusal) (r : Result Accepted Refusal) : Type 0 where
      pub sizes : Sized q
      pub answer : with_records (sizes_of q).records r ≡ (by_table t (function_result xs)).answer
      pub output : (by_table (passed t q) (body_result (drop start xs))).output ≡ (by_table t (function_result xs)).output
      pub texts : take (if_accepted r (sizes_of q).bytes) d' ≡ (by_table t (function_result xs)).declared
      pub numbers : take (if_accepted r (10 * (sizes_of q).records + 10)) rs' ≡ (by_table t (function_result xs)).records

    pub called : length xs ≤ 16384 → (start : ℕ) → drop start xs ≡ body_from (first (keyword_here (ascii "BEGIN")) 0 (marked xs work')) xs
        → (t : Result Actions Refusal) (q : Result DeclaredSizes Refusal) (r : Result Accepted Refusal)
        → parsed_of (records_in (marked xs work')) ≡ q
        → r ≡ (by_table (passed t q) (body_result (drop start xs))).answer
        → Called start t q r
    called h start b (Ok k) (Ok p) r e a =
        record {
          sizes = sized h (Ok p) e;
          answer = answer_is p e k start b r a;
          output = output_is p e k start b;
          texts = texts_are p e k start b r a;
          numbers = numbers_are p e k start b r a;
        }
    called h start b (Ok k) (Err f) r e a =
        let g = refused_is f e k in
        record { sizes = sized h (Err f) e; answer = rw (g, a) refl; output = rw g refl; texts = rw (g, a) refl; numbers = rw (g, a) refl }
    -- the table is refused: its refusal stands whatever the declarations are
    called h start b (Err f) q r e a = rw a record { sizes = sized h q e; answer = refl; output = refl; texts = refl; numbers = refl }
