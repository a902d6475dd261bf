-- The best word of a search for a nearest word: it is a word of the code at its place, and more blocks keep it.
--   one_pattern, one_block, first_blocks      level 0 has one pattern, in one block
--   first_word_at              place 0 has the word that equals x on the first basis
--   near_first_is              its distance and its place
--   HasNear C x y              there is a word of the code at the place, at the distance
--   near_best_word             so it is for the best
--   near_append, near_after    the best after some blocks more
use Rattle.std.proofs.Common.{◌≡◌, ℕ, ◌+◌, ◌-◌, ◌*◌, ◌/◌, ◌^◌, ◌<◌, List, ◌∷◌, ◌++◌, length, slice_get, refl, sym, ap, subst, ◌∙◌, ⊎_elim, arith}
use Rattle.std.proofs.Math.Nat.{pow-zero}
use Rattle.std.proofs.lemmas.List.Concat.{flat_map-append}
use Rattle.lc_algebra.specs.Field.{size}
use Rattle.lc_algebra.specs.Word.{distance}
use Rattle.lc_algebra.specs.Span.{InSpan}
use Rattle.lc_algebra.specs.Matrix.{Matrix, AreRows}
use Rattle.lc_algebra.proofs.SpanLaws.{contains_cases}
use Rattle.lc_enumeration.specs.Message.{numbers_from}
use Rattle.lc_enumeration.specs.Search.{Found, set_count, least_of}
use Rattle.lc_enumeration.specs.NearWord.{patterns, pattern_count, coset_level, coset_set, coset_level_blocks, coset_word, near_in_block, near_first, near_from, near_best}
use Rattle.lc_enumeration.proofs.PlanLaws.{cut_is}
use Rattle.lc_enumeration.proofs.ChooseLaws.{choose_nothing}
use Rattle.lc_enumeration.proofs.RecordsLaws.{numbers_append, least_append}
use Rattle.lc_infoset.proofs.BestLaws.{product_positive}
use Rattle.lc_infoset.proofs.AnswerLaws.{some_set}
use Rattle.lc_coset_laws.proofs.PatternLaws.{zero_pattern, zero_listed}
use Rattle.lc_coset_laws.proofs.PhaseLaws.{no_blocks, blocks_next, level_blocks_are, level_of_phase, set_of_phase}
use Rattle.lc_coset_laws.proofs.PlaceLaws.{before_of, IsNearAt, pattern_place, near_is, near_at_inside}
use Rattle.lc_coset_laws.proofs.SeenLaws.{phases_are}
use Rattle.lc_coset_laws.proofs.NearLaws.{near_best_is}

pub one_pattern : (k q : ℕ) → pattern_count k q 0 ≡ 1
unfolding pattern_count
one_pattern k q = ap (λ c. c * (q - 1) ^ 0) (choose_nothing k) ∙ ap (λ p. 1 * p) (pow-zero (q - 1))

pub one_block : (k q : ℕ) → coset_level_blocks k q 0 ≡ 1
one_block k q = level_blocks_are k q 0 ∙ ap (λ c. (c + 4095) / 4096) (one_pattern k q)

first_level : (m : ℕ) → 0 < m → coset_level m 0 ≡ 0
first_level m l = let e : 0 * m + 0 ≡ 0 = omega arith in subst (λ p. coset_level m p ≡ 0) e (level_of_phase m 0 0 l)

first_set : (m : ℕ) → 0 < m → coset_set m 0 ≡ 0
first_set m l = let e : 0 * m + 0 ≡ 0 = omega arith in subst (λ p. coset_set m p ≡ 0) e (set_of_phase m 0 0 l)

pub first_blocks : (C : Matrix) → before_of C 1 ≡ 1
first_blocks C =
    let k = length C.rows in
    let q = size C.field in
    let m = set_count C in
    blocks_next k q m 0 ∙ ap (λ n. n + coset_level_blocks k q (coset_level m 0)) (no_blocks k q m) ∙ ap (λ w. 0 + coset_level_blocks k q w) (first_level m (some_set C)) ∙ ap (λ n. 0 + n) (one_block k q)

pub first_word_at : (C : Matrix) (x : List ℕ) → IsNearAt C x 0 (coset_word C x 0 zero_pattern)
first_word_at C x =
    let k = length C.rows in
    let q = size C.field in
    let m = set_count C in
    let some = product_positive (k + 1) m (omega arith) (some_set C) in
    let t = pattern_place C x 0 0 zero_pattern (omega (arith, phases_are k m, some)) (omega (arith, first_blocks C, cut_is)) (ap (λ w. slice_get (patterns k q w) 0) (first_level m (some_set C)) ∙ zero_listed k q) in
    let place : t.place ≡ 0 = omega (arith, t.is, no_blocks k q m) in
    subst (λ j. IsNearAt C x 0 (coset_word C x j zero_pattern)) (first_set m (some_set C)) (subst (λ p. IsNearAt C x p (coset_word C x (coset_set m 0) zero_pattern)) place t.word)

pub near_first_is : (C : Matrix) (x : List ℕ) → ((near_first C x).weight ≡ distance C.field x (coset_word C x 0 zero_pattern)) × ((near_first C x).place ≡ 0)
unfolding near_first
near_first_is C x = (refl, refl)

abbrev pub HasNear : Matrix → List ℕ → Found → Type 0
HasNear C x y = (w : List ℕ) × IsNearAt C x y.place w × InSpan C.field C.columns C.rows w × (distance C.field x w ≡ y.weight)

first_has : (C : Matrix) (x : List ℕ) → AreRows C.field C.columns C.rows → HasNear C x (near_first C x)
first_has C x r =
    let w = coset_word C x 0 zero_pattern in
    let e = near_first_is C x in
    let at : IsNearAt C x (near_first C x).place w = subst (λ p. IsNearAt C x p w) (sym e.1) (first_word_at C x) in
    (w, at, near_at_inside C x (near_first C x).place w r at, sym e.0)

pub near_best_word : (C : Matrix) (x : List ℕ) (l : ℕ) → AreRows C.field C.columns C.rows → HasNear C x (near_best C x l)
near_best_word C x l r =
    let first = near_first C x in
    let from = near_from C x 0 l in
    let y = near_best C x l in
    let here : first ≡ y → HasNear C x y = λ e. subst (HasNear C x) e (first_has C x r) in
    ⊎_elim here
    (λ s. ⊎_elim here
    (λ t. let b = near_is C x 0 l y t in (b.word.0, b.word.1, near_at_inside C x y.place b.word.0 r b.word.1, b.word.2))
    (contains_cases first y from s))
    (contains_cases first y (first ∷ from) (near_best_is C x l).one)

pub near_append : (C : Matrix) (x : List ℕ) (first n count : ℕ) → near_from C x first (n + count) ≡ near_from C x first n ++ near_from C x (first + n) count
unfolding near_from
near_append C x first n count = rw (numbers_append first n count) (flat_map-append (near_in_block C x) (numbers_from first n) (numbers_from (first + n) count))

pub near_after : (C : Matrix) (x : List ℕ) (l count : ℕ) → near_best C x (l + count) ≡ least_of (near_best C x l) (near_from C x l count)
unfolding near_best
near_after C x l count =
    let e : 0 + l ≡ l = omega arith in
    let both : near_from C x 0 (l + count) ≡ near_from C x 0 l ++ near_from C x l count = near_append C x 0 l count ∙ ap (λ b. near_from C x 0 l ++ near_from C x b count) e in
    rw both (least_append (near_first C x ∷ near_from C x 0 l) (near_first C x) (near_from C x l count))
