-- The messages of a weight, in the order in which a search looks at them (Grassl's description of the method of Brouwer and
-- Zimmermann).
--   Message                  a support, its places counted from 0 and rising, and as many nonzero elements, the first one 1
--   supports k w             the lists of w places below k, rising, in lexicographic order
--   nonzero_lists q n        the lists of n elements from 1 to q - 1, in lexicographic order
--   leading_lists q n        those that begin with 1
--   messages k q w           the messages of length k, over q elements, with w nonzero entries: supports in lexicographic
--                            order, then coefficients in lexicographic order
--   vector_from i k s cs     the places i to i + k - 1 of the vector that has the elements cs at the places s, and else 0
--   vector_of k m            the vector of length k of a message
--   choose n k               how many sets of k there are among n
--   message_count k q w      how many messages there are
use Rattle.std.specs.Prelude.{ℕ, zero, suc, ◌+◌, ◌-◌, ◌*◌, ◌^◌, ◌==◌, if◌then◌else◌, List, [], ◌∷◌, ◌++◌, map, flat_map}

pub record Message : Type 0 where
  pub support : List ℕ
  pub coefficients : List ℕ

unfoldable pub supports_from : ℕ → ℕ → ℕ → List (List ℕ)
supports_from i k zero = [] ∷ []
supports_from i zero (suc w) = []
supports_from i (suc k) (suc w) = map (λ s. i ∷ s) (supports_from (suc i) k w) ++ supports_from (suc i) k (suc w)

unfoldable pub supports : ℕ → ℕ → List (List ℕ)
supports k w = supports_from 0 k w

-- the numbers from i on, n of them
unfoldable pub numbers_from : ℕ → ℕ → List ℕ
numbers_from i zero = []
numbers_from i (suc n) = i ∷ numbers_from (suc i) n

unfoldable pub nonzero_lists : ℕ → ℕ → List (List ℕ)
nonzero_lists q zero = [] ∷ []
nonzero_lists q (suc n) = flat_map (λ c. map (λ u. c ∷ u) (nonzero_lists q n)) (numbers_from 1 (q - 1))

unfoldable pub leading_lists : ℕ → ℕ → List (List ℕ)
leading_lists q zero = [] ∷ []
leading_lists q (suc n) = map (λ u. 1 ∷ u) (nonzero_lists q n)

unfoldable pub messages : ℕ → ℕ → ℕ → List Message
messages k q w = flat_map (λ s. map (λ u. record { support = s; coefficients = u }) (leading_lists q w)) (supports k w)

unfoldable pub vector_from : ℕ → ℕ → List ℕ → List ℕ → List ℕ
vector_from i zero _ _ = []
vector_from i (suc k) (p ∷ s) (c ∷ u) = (if i == p then c ∷ vector_from (suc i) k s u else 0 ∷ vector_from (suc i) k (p ∷ s) (c ∷ u))
vector_from i (suc k) _ _ = 0 ∷ vector_from (suc i) k [] []

unfoldable pub vector_of : ℕ → Message → List ℕ
vector_of k m = vector_from 0 k m.support m.coefficients

unfoldable pub choose : ℕ → ℕ → ℕ
choose n zero = 1
choose zero (suc k) = 0
choose (suc n) (suc k) = choose n k + choose n (suc k)

unfoldable pub message_count : ℕ → ℕ → ℕ → ℕ
message_count k q w = choose k w * (q - 1) ^ (w - 1)
