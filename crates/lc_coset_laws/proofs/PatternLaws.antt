-- Error patterns: how many there are, what they are, and that each word is the vector of one.
--   pattern_product            the patterns are the pairs of a support and coefficients, row after row
--   length-patterns            how many there are
--   PatternOf, pattern_of      the pattern of a word, among those of its weight
--   pattern_reaches            so each word is the vector of one
--   pattern_word               the vector of a pattern is a word of its weight
--   zero_pattern, zero_listed, zero_vector      the pattern of level 0 and its vector
use Rattle.std.proofs.Common.{◌≡◌, ℕ, zero, suc, ◌+◌, ◌-◌, ◌*◌, ◌^◌, ◌<◌, ◌≤◌, List, [], ◌∷◌, length, map, get_or, slice_get, Some, Contains, option_map, refl, sym, ap, subst, ◌∙◌, arith}
use Rattle.std.proofs.lemmas.Option.{slice_get-map}
use Rattle.lc_algebra.specs.declared.FieldName.{FieldName}
use Rattle.lc_algebra.specs.Field.{size}
use Rattle.lc_algebra.specs.Word.{IsWord, zero_word, weight}
use Rattle.lc_algebra.proofs.FieldLaws.{zero_inside}
use Rattle.lc_enumeration.specs.Message.{Message, supports_from, supports, nonzero_lists, choose, vector_of, vector_from}
use Rattle.lc_enumeration.specs.NearWord.{patterns, pattern_count}
use Rattle.lc_place.proofs.Products.{product, length-product, product_part, product_at}
use Rattle.lc_place.proofs.Coefficients.{nonzero_shape, length-nonzero_lists}
use Rattle.lc_place.proofs.Supports.{support_shape, length-supports}
use Rattle.lc_place.proofs.Messages.{message_of, supports_are, to_contains}
use Rattle.lc_place.proofs.Vectors.{places, nonzeros, length-nonzeros, Fitting, vector_back, vector_again, vector_is, vector_nil, vector_none, places_listed, nonzeros_listed}

pub pattern_product : (k q w : ℕ) → patterns k q w ≡ product message_of (supports k w) (nonzero_lists q w)
unfolding patterns
pattern_product k q w = refl

pub length-patterns : (k q w : ℕ) → length (patterns k q w) ≡ pattern_count k q w
unfolding patterns supports pattern_count
length-patterns k q w = length-product message_of (supports k w) (nonzero_lists q w) ∙ times _ _ (choose k w) ((q - 1) ^ w) (length-supports 0 k w) (length-nonzero_lists q w)
  where
    times : (a b c d : ℕ) → a ≡ c → b ≡ d → a * b ≡ c * d
    times a b c d e f = rw (e, f) refl

nonzeros_some : (v : List ℕ) (j : ℕ) → j < length (nonzeros v) → 1 ≤ get_or (nonzeros v) j 0
nonzeros_some [] j l = absurd (omega (arith, l))
nonzeros_some (zero ∷ v) j l = nonzeros_some v j l
nonzeros_some (suc a ∷ v) zero l = omega arith
nonzeros_some (suc a ∷ v) (suc j) l = nonzeros_some v j (omega (arith, l))

nonzeros_small : (q : ℕ) (v : List ℕ) → ((j : ℕ) → j < length v → get_or v j 0 < q) → (j : ℕ) → j < length (nonzeros v) → get_or (nonzeros v) j 0 < q
nonzeros_small q [] h j l = absurd (omega (arith, l))
nonzeros_small q (zero ∷ v) h j l = nonzeros_small q v (λ i m. h (suc i) (omega (arith, m))) j l
nonzeros_small q (suc a ∷ v) h zero l = h 0 (omega arith)
nonzeros_small q (suc a ∷ v) h (suc j) l = nonzeros_small q v (λ i m. h (suc i) (omega (arith, m))) j (omega (arith, l))

pub record PatternOf (k q : ℕ) (v : List ℕ) : Type 0 where
  pub pattern : Message
  pub index : ℕ
  pub listed : slice_get (patterns k q (weight v)) index ≡ Some pattern
  pub vector : vector_of k pattern ≡ v

pub pattern_of : (k q : ℕ) (v : List ℕ) → length v ≡ k → ((j : ℕ) → j < length v → get_or v j 0 < q) → PatternOf k q v
pattern_of k q v long small =
    let w = weight v in
    let many = length-nonzeros v in
    let s = places_listed 0 k w v long many in
    let u = nonzeros_listed q w (nonzeros v) many (λ j l. nonzeros_some v j (omega (arith, l, many))) (λ j l. nonzeros_small q v small j (omega (arith, l, many))) in
    let i = s.0 * length (nonzero_lists q w) + u.0 in
    record {
      pattern = message_of (places 0 v) (nonzeros v);
      index = i;
      listed = ap (λ ps. slice_get ps i) (pattern_product k q w) ∙ product_at message_of (supports k w) (nonzero_lists q w) s.0 u.0 (places 0 v) (nonzeros v) (ap (λ l. slice_get l s.0) (supports_are k w) ∙ s.1) u.1;
      vector = vector_is k (message_of (places 0 v) (nonzeros v)) ∙ vector_again 0 k v long;
    }

pub pattern_reaches : (f : FieldName) (k : ℕ) (v : List ℕ) → IsWord f k v → Contains (map (vector_of k) (patterns k (size f) (weight v))) v
pattern_reaches f k v h =
    let p = pattern_of k (size f) v h.long h.fits in
    to_contains (map (vector_of k) (patterns k (size f) (weight v))) v p.index (slice_get-map (vector_of k) (patterns k (size f) (weight v)) p.index ∙ ap (option_map (vector_of k)) p.listed ∙ ap Some p.vector)

pub pattern_word : (f : FieldName) (k w i : ℕ) (pattern : Message) → slice_get (patterns k (size f) w) i ≡ Some pattern → IsWord f k (vector_of k pattern) × (weight (vector_of k pattern) ≡ w)
pattern_word f k w i pattern e =
    let q = size f in
    let p = product_part message_of (supports k w) (nonzero_lists q w) i pattern (ap (λ ps. slice_get ps i) (sym (pattern_product k q w)) ∙ e) in
    let s = support_shape 0 k w p.row p.left (ap (λ l. slice_get l p.row) (sym (supports_are k w)) ∙ p.left_at) in
    let u = nonzero_shape q w p.column p.right p.right_at in
    let fitting : Fitting 0 k q p.left p.right = record {
      rises = s.rises;
      low = λ _. omega arith;
      high = λ j l. omega (arith, s.high j (omega (arith, l, s.many)), s.many, l);
      many = u.many ∙ sym s.many;
      some = λ j l. u.low j (omega (arith, l, u.many));
      small = λ j l. u.high j (omega (arith, l, u.many));
    } in
    let b = vector_back 0 k q p.left p.right (zero_inside f) fitting in
    let v = vector_from 0 k p.left p.right in
    let same : vector_of k pattern ≡ v = ap (vector_of k) p.is ∙ vector_is k (message_of p.left p.right) in
    let word : IsWord f k v = record { long = b.many; fits = λ j l. b.small j (omega (arith, l, b.many)) } in
    (subst (IsWord f k) (sym same) word, ap weight same ∙ sym (length-nonzeros v) ∙ ap length b.nonzeros_are ∙ u.many)

abbrev pub zero_pattern : Message
zero_pattern = record { support = []; coefficients = [] }

pub zero_listed : (k q : ℕ) → slice_get (patterns k q 0) 0 ≡ Some zero_pattern
unfolding patterns supports supports_from nonzero_lists
zero_listed k q = refl

pub zero_vector : (k : ℕ) → vector_of k zero_pattern ≡ zero_word k
zero_vector k = vector_is k zero_pattern ∙ zeros 0 k
  where
    zeros : (i k : ℕ) → vector_from i k [] [] ≡ zero_word k
    zeros i zero = vector_none i [] []
    zeros i (suc k) = vector_nil i k ∙ ap (λ v. 0 ∷ v) (zeros (suc i) k)
