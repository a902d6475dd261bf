-- The rows of a summary are the reduced rows of their span.
--   rows_are_words        each row is a word of 48 symbols of the field of 2 elements
--   rows_reduced          the rows are the identity on the first 24 columns
--   code_is, code_made    the code that they span is the record of these rows
use Rattle.std.proofs.Common.{◌≡◌, ◌≢◌, ℕ, zero, suc, ◌+◌, ◌-◌, ◌/◌, ◌%◌, ◌^◌, ◌<◌, ◌≤◌, ◌==◌, true, false, List, [], ◌∷◌, ◌++◌, length, map, get_or, All, inl, inr, refl, sym, ap, subst, ◌∙◌, arith}
use Rattle.std.specs.Prelude.{if◌then◌else◌, slice_index, slice_index_or, IfOk, Result, Ok, Err}
use Rattle.std.proofs.lemmas.List.{length-append, length-map, get_or-map, get_or_append_left}
use Rattle.std.proofs.Math.ListN.{get_or-append}
use Rattle.std.proofs.lemmas.List.{get_or-append_right}
use Rattle.std.proofs.lemmas.List.Elements.{All-nil, All-cons}
use Rattle.std.proofs.Math.Nat.{mod-lt}
use Rattle.std.proofs.lemmas.Bool.{cases_lt}
use Rattle.std.proofs.lemmas.Bool.Decides.{nat_tests}
use Rattle.rand_pcg.specs.Lcg.{Lcg}
use Rattle.rand_pcg.specs.Pcg.{pcg32}
use Rattle.lc_algebra.specs.declared.FieldName.{FieldName}
use Rattle.lc_algebra.specs.declared.FieldName.TheVariants.{Gf2}
use Rattle.lc_algebra.specs.Word.{IsWord, Fits}
use Rattle.lc_algebra.specs.Span.{below, InSpan}
use Rattle.lc_algebra.specs.Matrix.{Matrix, AreRows, HasPivots, IsReduced, IsReducedGenerator, entry}
use Rattle.lc_algebra.proofs.SpanLaws.{length_below, span_word, index_below}
use Rattle.lc_algebra.proofs.ReducedLaws.{generator_unique}
use Rattle.lc_algebra.proofs.EmbeddingTests.{size_two, binary_symbols}
use Rattle.lc_algebra.proofs.CommonLaws.{small_bit}
use Rattle.lc_constructions.specs.Code.{IsCode}
use Rattle.lc_constructions.specs.Basic.{GeneratedBy}
use Rattle.lc_code.proofs.CodeLaws.{same_matrix}
use Rattle.lc_enumeration.specs.InformationSet.{unit_word}
use Rattle.lc_enumeration.proofs.GreedyLaws.{index_unit, length_unit}
use Rattle.lc_infoset.proofs.ExistLaws.{unit_is_word}
use Rattle.lc_session_rules.specs.Summary.{generator_words, seeded, summary_row, summary_rows, summary_code}

-- the 24 lowest bits of a word
abbrev bits : ℕ → List ℕ
bits word = map (λ j. word / 2 ^ j % 2) (below 24)

length_bits : (word : ℕ) → length (bits word) ≡ 24
length_bits word = length-map (below 24) (λ j. word / 2 ^ j % 2) ∙ length_below 24

row_at : (i word c : ℕ) → c < 24 → slice_index (summary_row i word) c ≡ (if i == c then 1 else 0)
unfolding summary_row
row_at i word c l = get_or_append_left (unit_word 24 i) (bits word) 0 c (omega (arith, l, length_unit 24 i)) ∙ index_unit 24 i c l

row_beyond : (i word c : ℕ) → 24 ≤ c → c < 48 → slice_index (summary_row i word) c ≡ word / 2 ^ (c - 24) % 2
unfolding summary_row
row_beyond i word c low high =
    get_or-append_right (unit_word 24 i) (bits word) 24 c 0 (length_unit 24 i) low
    ∙ get_or-map (λ j. word / 2 ^ j % 2) (below 24) (c - 24) 0 0 (omega (arith, low, high, length_below 24))
    ∙ ap (λ j. word / 2 ^ j % 2) (index_below 24 (c - 24) 0 (omega (arith, low, high)))

row_long : (i word : ℕ) → length (summary_row i word) ≡ 48
unfolding summary_row
row_long i word = omega (arith, length-append (unit_word 24 i) (bits word), length_unit 24 i, length_bits word)

is_bit : (i word c : ℕ) → c < 48 → slice_index (summary_row i word) c < 2
is_bit i word c l =
    elim (cases_lt c 24) [
      | inl first ↦ subst (λ a. a < 2) (sym (row_at i word c first)) (small_bit (i == c))
      | inr last ↦ subst (λ a. a < 2) (sym (row_beyond i word c last l)) (mod-lt (word / 2 ^ (c - 24)) (omega arith))
    ]

row_is_word : (i word : ℕ) → IsWord Gf2 48 (summary_row i word)
row_is_word i word = record { long = row_long i word; fits = λ c l. subst (λ n. slice_index (summary_row i word) c < n) (sym size_two) (is_bit i word c (omega (arith, l, row_long i word))) }

pub words_of_rows : (i : ℕ) (words : List ℕ) → AreRows Gf2 48 (summary_rows i words)
unfolding summary_rows
words_of_rows i [] = All-nil (IsWord Gf2 48)
words_of_rows i (word ∷ words) = All-cons (IsWord Gf2 48) (summary_row i word) (summary_rows (suc i) words) (row_is_word i word) (words_of_rows (suc i) words)

pub count_rows : (i : ℕ) (words : List ℕ) → length (summary_rows i words) ≡ length words
unfolding summary_rows
count_rows i [] = refl
count_rows i (word ∷ words) = ap suc (count_rows (suc i) words)

count_words : (n : ℕ) (g : Lcg) → length (generator_words n g) ≡ n
unfolding generator_words
count_words zero g = refl
count_words (suc n) g = ap suc (count_words n (pcg32 g).1)

row_in : (first i : ℕ) (words : List ℕ) → i < length words → slice_index_or (summary_rows first words) i [] ≡ summary_row (first + i) (slice_index words i)
unfolding summary_rows
row_in first i [] l = absurd (omega (arith, l))
row_in first zero (word ∷ words) l = let e : first ≡ first + 0 = omega arith in ap (λ k. summary_row k word) e
row_in first (suc i) (word ∷ words) l =
    let e : suc first + i ≡ first + suc i = omega arith in
    row_in (suc first) i words (omega (arith, l)) ∙ ap (λ k. summary_row k (slice_index words i)) e

entry_is : (words : List ℕ) (i c : ℕ) → i < length words → c < 24 → entry (summary_rows 0 words) i c ≡ (if i == c then 1 else 0)
entry_is words i c l m =
    let zero_add : 0 + i ≡ i = omega arith in
    ap (λ row. slice_index row c) (row_in 0 i words l) ∙ ap (λ k. slice_index (summary_row k (slice_index words i)) c) zero_add ∙ row_at i (slice_index words i) c m

same_one : (i c : ℕ) → i ≡ c → ◌≡◌ {A = ℕ} (if i == c then 1 else 0) 1
same_one i c e = let t : (i == c) ≡ true = grind (arith, nat_tests, e) in rw t refl

other_zero : (i c : ℕ) → i ≢ c → ◌≡◌ {A = ℕ} (if i == c then 1 else 0) 0
other_zero i c e = let t : (i == c) ≡ false = grind (arith, nat_tests, e) in rw t refl

pivots_of : (words : List ℕ) → length words ≡ 24 → HasPivots 48 (below 24) (summary_rows 0 words)
pivots_of words n = record {
  count = length_below 24 ∙ sym (count_rows 0 words ∙ n);
  inside = λ i l. omega (arith, index_below 24 i 0 (place i l), place i l);
  rises = λ i j l m. omega (arith, index_below 24 i 0 (omega (arith, l, place j m)), index_below 24 j 0 (place j m), l);
  before = λ i c l m.
      let p = row_place i l in
      let at = index_below 24 i 0 p in
      let small : c < i = omega (arith, m, at) in
      entry_is words i c (omega (arith, p, n)) (omega (arith, small, p)) ∙ other_zero i c (omega (arith, small));
  leads = λ i l.
      let p = row_place i l in
      let at = index_below 24 i 0 p in
      ap (entry (summary_rows 0 words) i) at ∙ entry_is words i i (omega (arith, p, n)) p ∙ same_one i i refl;
  clears = λ i j l m other.
      let p = row_place i l in
      let q = row_place j m in
      let at = index_below 24 i 0 p in
      ap (entry (summary_rows 0 words) j) at ∙ entry_is words j i (omega (arith, q, n)) p ∙ other_zero j i (λ e. other (sym e));
} where
  place : (i : ℕ) → i < length (below 24) → i < 24
  place i l = omega (arith, l, length_below 24)

  row_place : (i : ℕ) → i < length (summary_rows 0 words) → i < 24
  row_place i l = omega (arith, l, count_rows 0 words, n)

pub rows_reduced : (words : List ℕ) → length words ≡ 24 → IsReduced 48 (summary_rows 0 words)
rows_reduced words n = record { pivots = (below 24, pivots_of words n) }

pub generator_of : (words : List ℕ) → length words ≡ 24 → IsReducedGenerator Gf2 48 (GeneratedBy Gf2 48 (summary_rows 0 words)) (summary_rows 0 words)
generator_of words n = record {
  members = λ w. ((λ s. (span_word Gf2 48 (summary_rows 0 words) w (words_of_rows 0 words) s, s)), (λ b. b.1));
  reduced = rows_reduced words n;
  words = words_of_rows 0 words;
}

pub rows_are_words : (seed : ℕ) (rows : List (List ℕ)) → rows ≡ summary_rows 0 (generator_words 24 (seeded seed)) → AreRows Gf2 48 rows
rows_are_words seed rows e = subst (AreRows Gf2 48) (sym e) (words_of_rows 0 (generator_words 24 (seeded seed)))

pub code_is : (seed : ℕ) (rows : List (List ℕ)) (C : Matrix) → rows ≡ summary_rows 0 (generator_words 24 (seeded seed)) → IsCode Gf2 48 (GeneratedBy Gf2 48 rows) C → C ≡ summary_code seed
unfolding summary_code
code_is seed rows C e is =
    let words = generator_words 24 (seeded seed) in
    let n = count_words 24 (seeded seed) in
    let c : IsCode Gf2 48 (GeneratedBy Gf2 48 (summary_rows 0 words)) C = subst (λ r. IsCode Gf2 48 (GeneratedBy Gf2 48 r) C) e is in
    let same : C.rows ≡ summary_rows 0 words = generator_unique Gf2 48 (GeneratedBy Gf2 48 (summary_rows 0 words)) C.rows (summary_rows 0 words) c.generator (generator_of words n) in
    same_matrix (summary_code seed) C c.over c.length_is same

pub code_made : {E : Type 0} (seed : ℕ) (f : FieldName) (rows : List (List ℕ)) (r : Result Matrix E) → f ≡ Gf2 → rows ≡ summary_rows 0 (generator_words 24 (seeded seed)) → IfOk r (λ c. IsCode f 48 (GeneratedBy f 48 rows) c) → IfOk r (λ c. c ≡ summary_code seed)
code_made seed f rows (Ok c) e is code = code_is seed rows c is (subst (λ g. IsCode g 48 (GeneratedBy g 48 rows) c) e code)
code_made seed f rows (Err x) e is code = tt

pub ruleset summary_code_laws = (rows_are_words, binary_symbols)
