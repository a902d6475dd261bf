-- The error patterns of a level are the first messages of the next level and one more place, in their order.
--   led p                      the pattern with place 0 and coefficient 1 before it, its places moved up by one
--   supports_up                the supports from one place on are those from the place before, moved up
--   led_messages               the messages begin with the led patterns
--   led_at                     so a pattern at an index is led by the message there
--   vector_up, led_vector      the vector of a led pattern is the pattern's with a 1 before it
use Rattle.std.proofs.Common.{◌≡◌, ℕ, zero, suc, ◌<◌, Bool, ◌==◌, if◌then◌else◌, List, [], ◌∷◌, ◌++◌, length, map, slice_get, option_map, refl, sym, ap, ap₂, ◌∙◌, ⊎_elim, arith}
use Rattle.std.proofs.lemmas.Bool.{cases_eq, eq-eqb, ne_eqb}
use Rattle.std.proofs.lemmas.List.{length-map, map-append}
use Rattle.std.proofs.lemmas.List.Concat.{flat_map-append}
use Rattle.std.proofs.lemmas.Option.{slice_get-map}
use Rattle.std.proofs.lemmas.Simd.{map-map}
use Rattle.lc_enumeration.specs.Message.{Message, supports_from, supports, nonzero_lists, leading_lists, messages, vector_from, vector_of}
use Rattle.lc_enumeration.specs.NearWord.{patterns, pattern_count}
use Rattle.lc_place.proofs.Products.{product, get-append_left}
use Rattle.lc_place.proofs.Messages.{message_of}
use Rattle.lc_place.proofs.Vectors.{vector_is, vector_here}
use Rattle.lc_coset_laws.proofs.PatternLaws.{pattern_product, length-patterns}

abbrev pub led : Message → Message
led p = record { support = 0 ∷ map suc p.support; coefficients = 1 ∷ p.coefficients }

pub supports_up : (i k w : ℕ) → supports_from (suc i) k w ≡ map (map suc) (supports_from i k w)
unfolding supports_from
supports_up i k zero = refl
supports_up i zero (suc w) = refl
supports_up i (suc k) (suc w) =
    let first : map (λ s. suc i ∷ s) (supports_from (suc (suc i)) k w) ≡ map (map suc) (map (λ s. i ∷ s) (supports_from (suc i) k w)) =
    ap (map (λ s. suc i ∷ s)) (supports_up (suc i) k w)
    ∙ map-map (λ s. suc i ∷ s) (map suc) (supports_from (suc i) k w)
    ∙ sym (map-map (map suc) (λ s. i ∷ s) (supports_from (suc i) k w)) in
    ap₂ (λ a b. a ++ b) first (supports_up (suc i) k (suc w))
    ∙ sym (map-append (map suc) (map (λ s. i ∷ s) (supports_from (suc i) k w)) (supports_from (suc i) k (suc w)))

led_row : (s : List ℕ) (us : List (List ℕ)) → map (message_of (0 ∷ map suc s)) (map (λ u. 1 ∷ u) us) ≡ map led (map (message_of s) us)
led_row s [] = refl
led_row s (u ∷ us) = ap (λ ms. message_of (0 ∷ map suc s) (1 ∷ u) ∷ ms) (led_row s us)

led_product : (ss us : List (List ℕ)) → product message_of (map (λ s. 0 ∷ s) (map (map suc) ss)) (map (λ u. 1 ∷ u) us) ≡ map led (product message_of ss us)
led_product [] us = refl
led_product (s ∷ ss) us =
    ap₂ (λ a b. a ++ b) (led_row s us) (led_product ss us)
    ∙ sym (map-append led (map (message_of s) us) (product message_of ss us))

pub led_messages : (k q w : ℕ) → messages (suc k) q (suc w) ≡ map led (patterns k q w) ++ product message_of (supports_from 1 k (suc w)) (leading_lists q (suc w))
unfolding messages supports supports_from leading_lists
led_messages k q w =
    let leading = map (λ u. 1 ∷ u) (nonzero_lists q w) in
    let first = map (λ s. 0 ∷ s) (supports_from 1 k w) in
    let others = supports_from 1 k (suc w) in
    let row : List ℕ → List Message = λ s. map (message_of s) leading in
    flat_map-append row first others
    ∙ ap (λ ms. ms ++ product message_of others leading)
    (ap (λ ss. product message_of (map (λ s. 0 ∷ s) ss) leading) (supports_up 0 k w)
    ∙ led_product (supports_from 0 k w) (nonzero_lists q w)
    ∙ ap (map led) (sym (pattern_product k q w)))

pub led_at : (k q w r : ℕ) → r < pattern_count k q w → slice_get (messages (suc k) q (suc w)) r ≡ option_map led (slice_get (patterns k q w) r)
led_at k q w r l =
    let inside : r < length (map led (patterns k q w)) = omega (arith, l, length-map (patterns k q w) led, length-patterns k q w) in
    ap (λ ms. slice_get ms r) (led_messages k q w)
    ∙ get-append_left (map led (patterns k q w)) (product message_of (supports_from 1 k (suc w)) (leading_lists q (suc w))) r inside
    ∙ slice_get-map led (patterns k q w) r

same_test : (i p : ℕ) → (suc i == suc p) ≡ (i == p)
same_test i p =
    ⊎_elim
    (λ e. eq-eqb (suc i) (suc p) (ap suc e) ∙ sym (eq-eqb i p e))
    (λ o. ne_eqb (suc i) (suc p) (λ e. o (omega (arith, e))) ∙ sym (ne_eqb i p o))
    (cases_eq i p)

pub vector_up : (i k : ℕ) (s u : List ℕ) → vector_from (suc i) k (map suc s) u ≡ vector_from i k s u
unfolding vector_from
vector_up i zero s u = refl
vector_up i (suc k) [] u = ap (λ v. 0 ∷ v) (vector_up (suc i) k [] [])
vector_up i (suc k) (p ∷ s) [] = ap (λ v. 0 ∷ v) (vector_up (suc i) k [] [])
vector_up i (suc k) (p ∷ s) (c ∷ u) =
    ap (λ (b : Bool). if b then c ∷ vector_from (suc (suc i)) k (map suc s) u else 0 ∷ vector_from (suc (suc i)) k (map suc (p ∷ s)) (c ∷ u)) (same_test i p)
    ∙ ap₂ (λ a b. if i == p then c ∷ a else 0 ∷ b) (vector_up (suc i) k s u) (vector_up (suc i) k (p ∷ s) (c ∷ u))

pub led_vector : (k : ℕ) (p : Message) → vector_of (suc k) (led p) ≡ 1 ∷ vector_of k p
led_vector k p =
    vector_is (suc k) (led p)
    ∙ vector_here 0 k 0 1 (map suc p.support) p.coefficients refl
    ∙ ap (λ v. 1 ∷ v) (vector_up 0 k p.support p.coefficients ∙ sym (vector_is k p))
