-- The entries of a message, and the combination that an entry more makes.
--   front_more                 that of an entry more is a multiple of a row more
--   Entries C s                what the entries of the message of a spot are
--   entries_are                each message of a level has such entries
--   Generates, generates       the generator of a set has k rows
use Rattle.std.proofs.Common.{◌≡◌, ℕ, zero, suc, ◌+◌, ◌-◌, ◌<◌, ◌≤◌, List, [], ◌∷◌, length, get_or, slice_index, take, Contains, refl, sym, ap, ◌∙◌, inl, inr, arith}
use Rattle.std.proofs.lemmas.Bool.{cases_lt}
use Rattle.std.proofs.lemmas.List.Elements.{All-head, All-tail}
use Rattle.lc_algebra.specs.declared.FieldName.{FieldName}
use Rattle.lc_algebra.specs.Field.{size}
use Rattle.lc_algebra.specs.Word.{IsWord, zero_word, word_sum, scale}
use Rattle.lc_algebra.specs.Span.{combine, AreIndependent}
use Rattle.lc_algebra.specs.Matrix.{Matrix, AreRows}
use Rattle.lc_algebra.proofs.FieldLaws.{one_inside}
use Rattle.lc_algebra.proofs.WordLaws.{sum_assoc, zero_sum, sum_zero, zero_scale, IsWord_zero, IsWord_scale}
use Rattle.lc_algebra.proofs.SpanLaws.{combine_cons, combine_none}
use Rattle.lc_enumeration.specs.Message.{messages, vector_from}
use Rattle.lc_enumeration.specs.Search.{set_count, generator_at}
use Rattle.lc_infoset.proofs.GreedyLaws.{generators_are}
use Rattle.lc_place.specs.Place.{SpotState, spot_message}
use Rattle.lc_place.proofs.Supports.{rising_from}
use Rattle.lc_place.proofs.Messages.{message_shape, from_contains}
use Rattle.lc_place.proofs.Vectors.{vector_here, vector_later, vector_nil, vector_none, Fitting, fitting_later, fitting_rest, fitting_of}

head_word : (f : FieldName) (n : ℕ) (g : List ℕ) (rows : List (List ℕ)) → AreRows f n (g ∷ rows) → IsWord f n g
head_word f n g rows h = All-head (IsWord f n) g rows h

tail_words : (f : FieldName) (n : ℕ) (g : List ℕ) (rows : List (List ℕ)) → AreRows f n (g ∷ rows) → AreRows f n rows
tail_words f n g rows h = All-tail (IsWord f n) g rows h

zeros : (f : FieldName) (n i k : ℕ) (rows : List (List ℕ)) → length rows ≡ k → AreRows f n rows → combine f n (vector_from i k [] []) rows ≡ zero_word n
zeros f n i zero rows e h = ap (λ v. combine f n v rows) (vector_none i [] []) ∙ combine_none f n rows
zeros f n i (suc k) [] e h = absurd (omega (arith, e))
zeros f n i (suc k) (g ∷ rows) e h =
    let t = zeros f n (suc i) k rows (omega (arith, e)) (tail_words f n g rows h) in
    ap (λ v. combine f n v (g ∷ rows)) (vector_nil i k) ∙ combine_cons f n 0 (vector_from (suc i) k [] []) g rows
    ∙ ap (λ z. word_sum f z (combine f n (vector_from (suc i) k [] []) rows)) (zero_scale f n g (head_word f n g rows h).long)
    ∙ ap (word_sum f (zero_word n)) t ∙ zero_sum f n (zero_word n) (IsWord_zero f n)

-- an entry more at a later place: the first entry c stays
abbrev More : FieldName → ℕ → List ℕ → List ℕ → List (List ℕ) → List ℕ → Type 0
More f n more less rows r = combine f n more rows ≡ word_sum f (combine f n less rows) r

stays : (f : FieldName) (n c : ℕ) (more less g : List ℕ) (rows : List (List ℕ)) (r : List ℕ) → More f n more less rows r → More f n (c ∷ more) (c ∷ less) (g ∷ rows) r
stays f n c more less g rows r h =
    combine_cons f n c more g rows ∙ ap (word_sum f (scale f c g)) h ∙ sym (sum_assoc f (scale f c g) (combine f n less rows) r)
    ∙ ap (λ w. word_sum f w r) (sym (combine_cons f n c less g rows))

later_row : (g : List ℕ) (rows : List (List ℕ)) (i p : ℕ) → i < p → get_or (g ∷ rows) (p - i) [] ≡ get_or rows (p - suc i) []
later_row g rows i p l = let e : p - i ≡ suc (p - suc i) = omega (arith, l) in rw e refl

first_row : (g : List ℕ) (rows : List (List ℕ)) (i p : ℕ) → p ≡ i → get_or (g ∷ rows) (p - i) [] ≡ g
first_row g rows i p l = let e : p - i ≡ 0 = omega (arith, l) in rw e refl

later_vector : (i k j p c : ℕ) (s u : List ℕ) → i < p → vector_from i (suc k) (take j (p ∷ s)) (take j (c ∷ u)) ≡ 0 ∷ vector_from (suc i) k (take j (p ∷ s)) (take j (c ∷ u))
later_vector i k zero p c s u l = vector_nil i k
later_vector i k (suc j) p c s u l = vector_later i k p c (take j s) (take j u) l

one_more : (f : FieldName) (n k i p c : ℕ) (s u g : List ℕ) (rows : List (List ℕ)) → length rows ≡ k → AreRows f n (g ∷ rows) → p ≡ i → More f n (vector_from i (suc k) (p ∷ []) (c ∷ [])) (vector_from i (suc k) [] []) (g ∷ rows) (scale f c (get_or (g ∷ rows) (p - i) []))
one_more f n k i p c s u g rows e h at =
    let long = (head_word f n g rows h).long in
    let none = zeros f n (suc i) k rows e (tail_words f n g rows h) in
    let word : IsWord f n (scale f c g) = IsWord_scale f n c g long in
    let left : combine f n (vector_from i (suc k) (p ∷ []) (c ∷ [])) (g ∷ rows) ≡ scale f c g =
    ap (λ v. combine f n v (g ∷ rows)) (vector_here i k p c [] [] at) ∙ combine_cons f n c (vector_from (suc i) k [] []) g rows ∙ ap (word_sum f (scale f c g)) none ∙ sum_zero f n (scale f c g) word in
    let right : combine f n (vector_from i (suc k) [] []) (g ∷ rows) ≡ zero_word n = zeros f n i (suc k) (g ∷ rows) (ap suc e) h in
    left ∙ sym (zero_sum f n (scale f c g) word) ∙ ap (λ w. word_sum f w (scale f c g)) (sym right) ∙ ap (λ r. word_sum f (combine f n (vector_from i (suc k) [] []) (g ∷ rows)) (scale f c r)) (sym (first_row g rows i p at))

pub front_more : (f : FieldName) (n q i k j : ℕ) (s u : List ℕ) (rows : List (List ℕ)) → length rows ≡ k → AreRows f n rows → Fitting i k q s u → j < length s → More f n (vector_from i k (take (suc j) s) (take (suc j) u)) (vector_from i k (take j s) (take j u)) rows (scale f (get_or u j 0) (get_or rows (get_or s j 0 - i) []))
front_more f n q i zero j s u rows e h t l = absurd (omega (arith, t.low (omega (arith, l)), t.high 0 (omega (arith, l))))
front_more f n q i (suc k) j [] u rows e h t l = absurd (omega (arith, l))
front_more f n q i (suc k) j (p ∷ s) [] rows e h t l = absurd (omega (arith, t.many))
front_more f n q i (suc k) j (p ∷ s) (c ∷ u) [] e h t l = absurd (omega (arith, e))
front_more f n q i (suc k) zero (p ∷ s) (c ∷ u) (g ∷ rows) e h t l =
    elim (cases_lt i p) [
      | inl m ↦ (
          let rest = front_more f n q (suc i) k 0 (p ∷ s) (c ∷ u) rows (omega (arith, e)) (tail_words f n g rows h) (fitting_later i k q (p ∷ s) (c ∷ u) t (λ _. m)) l in
          rw (vector_later i k p c [] [] m, vector_nil i k, later_row g rows i p m) (stays f n 0 (vector_from (suc i) k (p ∷ []) (c ∷ [])) (vector_from (suc i) k [] []) g rows _ rest))
      | inr m ↦ one_more f n k i p c s u g rows (omega (arith, e)) h (omega (arith, m, t.low (omega arith)))
    ]
front_more f n q i (suc k) (suc j) (p ∷ s) (c ∷ u) (g ∷ rows) e h t l =
    let low : p + suc j ≤ get_or s j 0 = rising_from (p ∷ s) (suc j) t.rises l in
    elim (cases_lt i p) [
      | inl m ↦ (
          let rest = front_more f n q (suc i) k (suc j) (p ∷ s) (c ∷ u) rows (omega (arith, e)) (tail_words f n g rows h) (fitting_later i k q (p ∷ s) (c ∷ u) t (λ _. m)) l in
          let at : get_or (g ∷ rows) (get_or s j 0 - i) [] ≡ get_or rows (get_or s j 0 - suc i) [] = later_row g rows i (get_or s j 0) (omega (arith, low, m)) in
          rw (later_vector i k (suc (suc j)) p c s u m, later_vector i k (suc j) p c s u m, at) (stays f n 0 (vector_from (suc i) k (take (suc (suc j)) (p ∷ s)) (take (suc (suc j)) (c ∷ u))) (vector_from (suc i) k (take (suc j) (p ∷ s)) (take (suc j) (c ∷ u))) g rows _ rest))
      | inr m ↦ (
          let is : p ≡ i = omega (arith, m, t.low (omega arith)) in
          let rest = front_more f n q (suc i) k j s u rows (omega (arith, e)) (tail_words f n g rows h) (fitting_rest i k q p c s u is t) (omega (arith, l)) in
          let at : get_or (g ∷ rows) (get_or s j 0 - i) [] ≡ get_or rows (get_or s j 0 - suc i) [] = later_row g rows i (get_or s j 0) (omega (arith, low, is)) in
          rw (vector_here i k p c (take (suc j) s) (take (suc j) u) is, vector_here i k p c (take j s) (take j u) is, at) (stays f n c (vector_from (suc i) k (take (suc j) s) (take (suc j) u)) (vector_from (suc i) k (take j s) (take j u)) g rows _ rest))
    ]

-- the entries of the message of a spot, as many as its level w
pub record Entries (C : Matrix) (s : SpotState) : Type 0 where
  pub fitting : Fitting 0 (length C.rows) (size C.field) s.support s.coefficients
  pub many : length s.coefficients ≡ length s.support
  pub row : (i : ℕ) → i < length s.support → slice_index s.support i < length C.rows
  pub element : (i : ℕ) → i < length s.support → slice_index s.coefficients i < size C.field
  pub few : length s.support ≤ length C.rows

few_entries : (k q : ℕ) (s u : List ℕ) → Fitting 0 k q s u → length s ≤ k
few_entries k q [] u h = omega arith
few_entries k q (p ∷ s) u h = omega (arith, rising_from (p ∷ s) (length s) h.rises (omega arith), h.high (length s) (omega arith))

pub entries_are : (C : Matrix) (s : SpotState) → Contains (messages (length C.rows) (size C.field) (length s.support)) (spot_message s) → Entries C s
entries_are C s h =
    let n = from_contains _ _ h in
    let fit : Fitting 0 (length C.rows) (size C.field) s.support s.coefficients = fitting_of (length C.rows) (size C.field) (length s.support) (spot_message s) (one_inside C.field) (message_shape (length C.rows) (size C.field) (length s.support) n.0 (spot_message s) n.1) in
    record { fitting = fit; many = fit.many; row = λ i l. omega (arith, fit.high i l); element = λ i l. fit.small i (omega (arith, l, fit.many)); few = few_entries _ _ _ _ fit }

-- the generator of a set has k rows
pub record Generates (C : Matrix) (j : ℕ) : Type 0 where
  pub rows : AreRows C.field C.columns (generator_at C j)
  pub count : length (generator_at C j) ≡ length C.rows

pub generates : (C : Matrix) (j : ℕ) → AreRows C.field C.columns C.rows → AreIndependent C.field C.columns C.rows → j < set_count C → Generates C j
generates C j r h l = let g = generators_are C r h j l in record { rows = g.1.words; count = g.1.count ∙ g.0 }
