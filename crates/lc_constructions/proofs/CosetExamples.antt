-- Cosets and decoding within half of the checks, evaluated.
--   syndromes              the syndromes of two words of one coset of a repetition code, and of a third word
--   many_cosets            20 checks over 2 elements are few enough, 21 are too many
--   small_table            the leaders of the repetition code of length 3
--   decoded, not_decoded   a word with one error, and one that is too far from both words
use Rattle.std.proofs.Common.{◌≡◌, ℕ, Bool, true, false, not, nat_le, ◌||◌, List, [], ◌∷◌, map, slice_index_or, Some, None, refl, sym, arith, true≢false}
use Rattle.std.specs.List.{list_all}
use Rattle.std.proofs.lemmas.Bool.{le-leb}
use Rattle.lc_algebra.specs.declared.FieldName.TheVariants.{Gf2, Gf5}
use Rattle.lc_algebra.specs.Residue.{digits, number, plus, minus, times, top, up, times_x, product}
use Rattle.lc_algebra.specs.Field.{shape, shape_of, size, coefficients, add, neg, mul}
use Rattle.lc_algebra.specs.Word.{word_sum, scale, difference, distance, word_dot}
use Rattle.lc_algebra.specs.Span.{below, words}
use Rattle.lc_algebra.specs.Matrix.{Matrix}
use Rattle.lc_algebra.proofs.SpanLaws.{word_of_member, member_of_word}
use Rattle.lc_constructions.specs.Alternant.{AlternantForm}
use Rattle.lc_constructions.specs.Coset.{syndrome, too_many_cosets}
use Rattle.lc_constructions.specs.Nearest.{IsWithin, IsDecoded}
use Rattle.lc_constructions.proofs.ExpansionLaws.{passes}
use Rattle.lc_constructions.proofs.OutsideExamples.{same_list, same_from_test}

abbrev repetition : Matrix
repetition = record { field = Gf2; columns = 3; rows = (1 ∷ 1 ∷ 1 ∷ []) ∷ [] }

abbrev checks : List (List ℕ)
checks = (1 ∷ 0 ∷ 1 ∷ []) ∷ (0 ∷ 1 ∷ 1 ∷ []) ∷ []

pub syndromes : map (syndrome Gf2 checks) ((1 ∷ 0 ∷ 0 ∷ []) ∷ (0 ∷ 1 ∷ 1 ∷ []) ∷ (0 ∷ 0 ∷ 1 ∷ []) ∷ []) ≡ (1 ∷ 0 ∷ []) ∷ (1 ∷ 0 ∷ []) ∷ (1 ∷ 1 ∷ []) ∷ []
unfolding digits number plus minus times top up times_x product shape shape_of coefficients add mul word_dot syndrome
syndromes = refl

-- the leaders of the syndromes 00, 10, 01 and 11, in this order
abbrev leaders : List (List ℕ)
leaders = (0 ∷ 0 ∷ 0 ∷ []) ∷ (1 ∷ 0 ∷ 0 ∷ []) ∷ (0 ∷ 1 ∷ 0 ∷ []) ∷ (0 ∷ 0 ∷ 1 ∷ []) ∷ []

pub small_table : map (λ x. slice_index_or leaders (number 2 (syndrome Gf2 checks x)) []) ((0 ∷ 1 ∷ 1 ∷ []) ∷ (1 ∷ 0 ∷ 1 ∷ []) ∷ (1 ∷ 1 ∷ 0 ∷ []) ∷ []) ≡ (1 ∷ 0 ∷ 0 ∷ []) ∷ (0 ∷ 1 ∷ 0 ∷ []) ∷ (0 ∷ 0 ∷ 1 ∷ []) ∷ []
unfolding digits number plus minus times top up times_x product shape shape_of coefficients add mul word_dot syndrome
small_table = refl

pub many_cosets : map (λ n. too_many_cosets (record { field = Gf2; columns = n; rows = [] })) (20 ∷ 21 ∷ []) ≡ None ∷ Some 21 ∷ []
unfolding shape shape_of size too_many_cosets
many_cosets = refl

-- two words over 5 elements at distance 4, and a form with 2 checks: one error is corrected
abbrev two_words : Matrix
two_words = record { field = Gf5; columns = 4; rows = (1 ∷ 1 ∷ 1 ∷ 1 ∷ []) ∷ [] }

abbrev form : AlternantForm
form = record { locator = Gf5; points = 1 ∷ 2 ∷ 3 ∷ 4 ∷ []; multipliers = 1 ∷ 1 ∷ 1 ∷ 1 ∷ []; r = 2 }

abbrev is_far : List ℕ → List ℕ → Bool
is_far x w = not (nat_le (distance Gf5 x w) 1)

far : (b : Bool) → b ≡ true → not b ≡ true → ⊥
far true e h = true≢false (sym h)
far false e h = true≢false (sym e)

far_words : list_all (is_far (1 ∷ 1 ∷ 2 ∷ 2 ∷ [])) (words Gf5 4 two_words.rows) ≡ true
unfolding digits number plus minus times top up times_x product shape shape_of size coefficients add neg mul word_sum scale difference below words
far_words = refl

pub not_decoded : IsDecoded two_words form (1 ∷ 1 ∷ 2 ∷ 2 ∷ []) None
not_decoded w h =
    far (nat_le (distance Gf5 (1 ∷ 1 ∷ 2 ∷ 2 ∷ []) w) 1) (le-leb (distance Gf5 (1 ∷ 1 ∷ 2 ∷ 2 ∷ []) w) 1 h.1)
    (passes (is_far (1 ∷ 1 ∷ 2 ∷ 2 ∷ [])) (words Gf5 4 two_words.rows) w far_words (member_of_word Gf5 4 two_words.rows w h.0))

only_test : list_all (λ w. is_far (1 ∷ 1 ∷ 1 ∷ 2 ∷ []) w || same_list w (1 ∷ 1 ∷ 1 ∷ 1 ∷ [])) (words Gf5 4 two_words.rows) ≡ true
unfolding digits number plus minus times top up times_x product shape shape_of size coefficients add neg mul word_sum scale difference below words same_list
only_test = refl

second : (b c : Bool) → b ≡ true → (not b || c) ≡ true → c ≡ true
second true c e h = h
second false c e h = absurd (true≢false (sym e))

ones_within : IsWithin two_words (1 ∷ 1 ∷ 1 ∷ 2 ∷ []) 1 (1 ∷ 1 ∷ 1 ∷ 1 ∷ [])
unfolding digits number plus minus times top up times_x product shape shape_of size coefficients add neg mul word_sum scale difference below words
ones_within = (word_of_member Gf5 4 two_words.rows (1 ∷ 1 ∷ 1 ∷ 1 ∷ []) (1, omega arith, refl), omega arith)

pub decoded : IsDecoded two_words form (1 ∷ 1 ∷ 1 ∷ 2 ∷ []) (Some (1 ∷ 1 ∷ 1 ∷ 1 ∷ []))
decoded = (
  ones_within,
  λ v h.
      same_from_test v (1 ∷ 1 ∷ 1 ∷ 1 ∷ [])
      (second (nat_le (distance Gf5 (1 ∷ 1 ∷ 1 ∷ 2 ∷ []) v) 1) (same_list v (1 ∷ 1 ∷ 1 ∷ 1 ∷ [])) (le-leb (distance Gf5 (1 ∷ 1 ∷ 1 ∷ 2 ∷ []) v) 1 h.1)
      (passes (λ w. is_far (1 ∷ 1 ∷ 1 ∷ 2 ∷ []) w || same_list w (1 ∷ 1 ∷ 1 ∷ 1 ∷ [])) (words Gf5 4 two_words.rows) v only_test (member_of_word Gf5 4 two_words.rows v h.0))),
)
