-- Worked examples, by evaluation of the definitions: Krawtchouk polynomials, and the MacWilliams identity for the Hamming code of
-- length 7 over 2 elements and for the tetracode, which is its own dual.
--   linear_polynomial          K_1(x) = 7 - 2 x for words of length 7 over 2 elements
--   quadratic_polynomial       K_2(x) for words of length 4 over 3 elements: 24, 6, -3, -3, 6
--   hamming_sums               the sums of A_j K_k(j) over the Hamming code, in even and odd parts: they differ by 16 times the
--                              numbers 1, 0, 0, 0, 7, 0, 0, 0 of words of the simplex code
--   tetracode_sums             those over the tetracode: they differ by 9 times its own numbers 1, 0, 0, 8, 0
use Rattle.std.proofs.Common.{◌≡◌, refl}
use Rattle.std.specs.Prelude.{ℕ, ◌*◌, List, [], ◌∷◌, ◌++◌, length, map, slice_index, sum_by}
use Rattle.lc_algebra.specs.Span.{below}
use Rattle.lc_enumeration.specs.Message.{choose}
use Rattle.lc_macwilliams.specs.Krawtchouk.{krawtchouk_term, krawtchouk_even, krawtchouk_odd}

-- for each k, the sum of A_j K_k(j), its even part or its odd part
abbrev pub sums : (ℕ → ℕ → ℕ) → List ℕ → List ℕ
sums polynomial counts = map (λ k. sum_by (λ j. slice_index counts j * polynomial k j) (below (length counts))) (below (length counts))

pub linear_polynomial : map (krawtchouk_even 2 7 1) (below 8) ++ map (krawtchouk_odd 2 7 1) (below 8) ≡ 7 ∷ 6 ∷ 5 ∷ 4 ∷ 3 ∷ 2 ∷ 1 ∷ 0 ∷ 0 ∷ 1 ∷ 2 ∷ 3 ∷ 4 ∷ 5 ∷ 6 ∷ 7 ∷ []
unfolding below choose krawtchouk_term krawtchouk_even krawtchouk_odd
linear_polynomial = refl

pub quadratic_polynomial : map (krawtchouk_even 3 4 2) (below 5) ++ map (krawtchouk_odd 3 4 2) (below 5) ≡ 24 ∷ 12 ∷ 5 ∷ 3 ∷ 6 ∷ 0 ∷ 6 ∷ 8 ∷ 6 ∷ 0 ∷ []
unfolding below choose krawtchouk_term krawtchouk_even krawtchouk_odd
quadratic_polynomial = refl

pub hamming_sums : sums (krawtchouk_even 2 7) (1 ∷ 0 ∷ 0 ∷ 7 ∷ 7 ∷ 0 ∷ 0 ∷ 1 ∷ []) ++ sums (krawtchouk_odd 2 7) (1 ∷ 0 ∷ 0 ∷ 7 ∷ 7 ∷ 0 ∷ 0 ∷ 1 ∷ []) ≡ 16 ∷ 56 ∷ 168 ∷ 280 ∷ 336 ∷ 168 ∷ 56 ∷ 8 ∷ 0 ∷ 56 ∷ 168 ∷ 280 ∷ 224 ∷ 168 ∷ 56 ∷ 8 ∷ []
unfolding below choose krawtchouk_term krawtchouk_even krawtchouk_odd
hamming_sums = refl

pub tetracode_sums : sums (krawtchouk_even 3 4) (1 ∷ 0 ∷ 0 ∷ 8 ∷ 0 ∷ []) ++ sums (krawtchouk_odd 3 4) (1 ∷ 0 ∷ 0 ∷ 8 ∷ 0 ∷ []) ≡ 9 ∷ 24 ∷ 48 ∷ 80 ∷ 16 ∷ 0 ∷ 24 ∷ 48 ∷ 8 ∷ 16 ∷ []
unfolding below choose krawtchouk_term krawtchouk_even krawtchouk_odd
tetracode_sums = refl
