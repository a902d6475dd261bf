-- The rows of a summary, as they are made.
--   unit_first, unit_more, bits_first, bits_more, row_whole      the symbols of a row
--   rows_first, rows_more, rows_whole                            the rows
use Rattle.std.proofs.Common.{◌≡◌, ℕ, zero, suc, ◌+◌, ◌-◌, ◌/◌, ◌%◌, ◌^◌, ◌<◌, ◌≤◌, ◌==◌, Bool, true, false, List, [], ◌∷◌, ◌++◌, length, map, refl, sym, ap, ◌∙◌, arith}
use Rattle.std.specs.Prelude.{if◌then◌else◌}
use Rattle.std.proofs.lemmas.List.{append-nil, append_assoc, map-append}
use Rattle.rand_pcg.specs.Lcg.{Lcg}
use Rattle.rand_pcg.specs.Pcg.{pcg32, pcg32_of_seed}
use Rattle.rand_core.specs.Pcg32Seed.{pcg32_seed}
use Rattle.lc_algebra.specs.Span.{below}
use Rattle.lc_algebra.proofs.EmbeddingTests.{two_elements, has_two_elements}
use Rattle.lc_enumeration.specs.InformationSet.{unit_word}
use Rattle.lc_session_rules.specs.Summary.{generator_words, seeded, summary_row, summary_rows}

pub map_more : (f : ℕ → ℕ) (xs : List ℕ) (j x : ℕ) → xs ≡ map f (below j) → x ≡ f j → xs ++ x ∷ [] ≡ map f (below (suc j))
unfolding below
map_more f xs j x e h = ap (λ l. l ++ x ∷ []) e ∙ ap (λ y. map f (below j) ++ y ∷ []) h ∙ sym (map-append f (below j) (j ∷ []))

abbrev pub unit_at : ℕ → ℕ → ℕ
unit_at i c = if i == c then 1 else 0

abbrev pub bit_at : ℕ → ℕ → ℕ
bit_at word j = word / 2 ^ j % 2

pub unit_first : (i : ℕ) → [] ≡ map (unit_at i) (below 0)
unfolding below
unit_first i = refl

pub unit_more : (i : ℕ) (xs : List ℕ) (c x : ℕ) → xs ≡ map (unit_at i) (below c) → x ≡ unit_at i c → xs ++ x ∷ [] ≡ map (unit_at i) (below (c + 1))
unit_more i xs c x e h = let one : suc c ≡ c + 1 = omega arith in map_more (unit_at i) xs c x e h ∙ ap (λ n. map (unit_at i) (below n)) one

pub bits_first : (word : ℕ) (u : List ℕ) → u ≡ u ++ map (bit_at word) (below 0)
unfolding below
bits_first word u = sym (append-nil u)

pub bits_more : (word : ℕ) (u xs : List ℕ) (j x : ℕ) → xs ≡ u ++ map (bit_at word) (below j) → x ≡ bit_at word j → xs ++ x ∷ [] ≡ u ++ map (bit_at word) (below (j + 1))
bits_more word u xs j x e h =
    let one : suc j ≡ j + 1 = omega arith in
    ap (λ l. l ++ x ∷ []) e ∙ append_assoc u (map (bit_at word) (below j)) (x ∷ []) ∙ ap (λ l. u ++ l) (map_more (bit_at word) (map (bit_at word) (below j)) j x refl h ∙ ap (λ n. map (bit_at word) (below n)) one)

pub row_whole : (i word : ℕ) (xs : List ℕ) → xs ≡ map (unit_at i) (below 24) ++ map (bit_at word) (below 24) → xs ≡ summary_row i word
unfolding summary_row unit_word
row_whole i word xs e = e

-- the rows made so far, and those of the words still to come
abbrev pub AreMade : List (List ℕ) → List (List ℕ) → ℕ → Lcg → Type 0
AreMade whole rows i g = whole ≡ rows ++ summary_rows i (generator_words (24 - i) g)

pub rows_first : (seed : ℕ) (rows : List (List ℕ)) (g : Lcg) → rows ≡ [] → g ≡ pcg32_of_seed (pcg32_seed 16 seed) → AreMade (summary_rows 0 (generator_words 24 (seeded seed))) rows 0 g
unfolding seeded
rows_first seed rows g e f = ap (λ h. summary_rows 0 (generator_words 24 h)) (sym f) ∙ ap (λ r. r ++ summary_rows 0 (generator_words 24 g)) (sym e)

pub rows_more : (whole rows : List (List ℕ)) (i word : ℕ) (g next : Lcg) (w : List ℕ) → i < 24 → AreMade whole rows i g → (word, next) ≡ pcg32 g → w ≡ summary_row i word → AreMade whole (rows ++ w ∷ []) (i + 1) next
unfolding generator_words summary_rows
rows_more whole rows i word g next w l made step is =
    let n : 24 - i ≡ suc (24 - (i + 1)) = omega (arith, l) in
    let one : suc i ≡ i + 1 = omega arith in
    made
    ∙ ap (λ k. rows ++ summary_rows i (generator_words k g)) n
    ∙ ap (λ p. rows ++ summary_row i p.0 ∷ summary_rows (suc i) (generator_words (24 - (i + 1)) p.1)) (sym step)
    ∙ ap (λ v. rows ++ v ∷ summary_rows (suc i) (generator_words (24 - (i + 1)) next)) (sym is)
    ∙ ap (λ k. rows ++ w ∷ summary_rows k (generator_words (24 - (i + 1)) next)) one
    ∙ sym (append_assoc rows (w ∷ []) (summary_rows (i + 1) (generator_words (24 - (i + 1)) next)))

pub rows_whole : (whole rows : List (List ℕ)) (i : ℕ) (g : Lcg) → 24 ≤ i → AreMade whole rows i g → rows ≡ whole
unfolding generator_words summary_rows
rows_whole whole rows i g l made =
    let none : 24 - i ≡ 0 = omega (arith, l) in
    sym (made ∙ ap (λ k. rows ++ summary_rows i (generator_words k g)) none ∙ append-nil rows)

pub ruleset summary_row_laws = (unit_first, unit_more, bits_first, bits_more, row_whole)

pub ruleset binary_field_laws = (two_elements, has_two_elements)
