-- All words of a code, from the messages of all levels: each word found counts q - 1 times, and the zero word once.
--   numbers_distinct           the numbers from i on are different
--   leaders_of k q w           the vectors of the messages of level w: those of weight w whose first nonzero symbol is 1
--   leaders k q                those of the levels 1 to k
--   IsLeader, leader, leader_listed      such a vector, and its level; each is one; the vector of a message is listed
--   leaders_distinct           each is listed once
--   multiples_of f k a         the multiples of the leaders by a
--   nonzero_vectors f k        those by all nonzero elements
--   IsMultiple                 such a multiple
--   all_vectors f k            the zero word and these
--   vectors_are, are_vectors   they are the words of length k
--   one_multiple               a multiple tells its factor
--   vectors_distinct           each is listed once
--   counts_agree               lists of different entries with the same members have as many that pass a test
--   count_by_vectors           counting over the words of a code by all vectors of coefficients
--   found_at f n e j w         how many messages of level w give words of weight j
--   count_by_messages          how many words of weight j a code has, by these numbers
use Rattle.std.proofs.Common.{◌≡◌, ◌≢◌, ℕ, zero, suc, ◌+◌, ◌-◌, ◌*◌, ◌<◌, ◌≤◌, Bool, cond, ◌==◌, List, ◌∷◌, length, map, flat_map, slice_index, sum_by, count_by, Contains, sym, ap, subst, ◌∙◌, ⊎_elim, arith}
use Rattle.std.proofs.lemmas.Bool.{cases_lt}
use Rattle.std.proofs.lemmas.List.Sums.{sum_by-cons}
use Rattle.lc_algebra.specs.declared.FieldName.{FieldName}
use Rattle.lc_algebra.specs.Field.{size, mul}
use Rattle.lc_algebra.specs.Word.{IsWord, zero_word, scale, weight}
use Rattle.lc_algebra.specs.Span.{combine, InSpan, words, SameSpan, AreIndependent}
use Rattle.lc_algebra.specs.Matrix.{AreRows}
use Rattle.lc_algebra.proofs.FieldLaws.{one_inside, mul_one, mul_zero, mul_comm, inverse_of}
use Rattle.lc_algebra.proofs.WordLaws.{IsWord_zero, IsWord_scale, index_scale, scale_zero, zero_scale, weight_scale, weight_zero_word, zero_from_weight, weight_at_most_length}
use Rattle.lc_algebra.proofs.SpanLaws.{contains_head, contains_tail, contains_cases, contains_map, map_contains, contains_flat_map, flat_map_contains, word_of_member, member_of_word, combination_of_word, word_of_combination, combine_scale, coefficients_unique, combine_is_word}
use Rattle.lc_algebra.proofs.DimensionLaws.{AreDistinct, distinct_map, distinct_flat_map, distinct_from_pairs, words_distinct}
use Rattle.lc_enumeration.specs.Message.{Message, numbers_from, messages, vector_of}
use Rattle.lc_enumeration.proofs.SearchLaws.{numbers_within, within_numbers}
use Rattle.lc_place.specs.Order.{IsLeadingVector}
use Rattle.lc_place.proofs.Coefficients.{length-numbers_from}
use Rattle.lc_place.proofs.Listing.{pairs_in_order}
use Rattle.lc_place.proofs.Vectors.{leading_vectors, vectors_apart}
use Rattle.lc_infoset.proofs.MultipleLaws.{first_symbol, inverse_multiple, led}
use Rattle.lc_macwilliams.proofs.CountLaws.{sum_same, sum_constant, sum_map, sum_flat_map, sum_at_most}

pub numbers_distinct : (i n : ℕ) → AreDistinct (numbers_from i n)
unfolding numbers_from
numbers_distinct i zero = tt
numbers_distinct i (suc n) = ((λ c. omega (arith, (numbers_within (suc i) n i c).0)), numbers_distinct (suc i) n)

abbrev pub leaders_of : ℕ → ℕ → ℕ → List (List ℕ)
leaders_of k q w = map (vector_of k) (messages k q w)

abbrev pub leaders : ℕ → ℕ → List (List ℕ)
leaders k q = flat_map (leaders_of k q) (numbers_from 1 k)

-- a leading vector, and its level
pub record IsLeader (k q : ℕ) (u : List ℕ) : Type 0 where
  pub level : ℕ
  pub some : 1 ≤ level
  pub leads : IsLeadingVector k q level u

pub leader : (k q : ℕ) (u : List ℕ) → 1 < q → Contains (leaders k q) u → IsLeader k q u
leader k q u l c =
    let w = contains_flat_map (leaders_of k q) (numbers_from 1 k) u c in
    let some : 1 ≤ w.0 = (numbers_within 1 k w.0 w.1).0 in
    record { level = w.0; some = some; leads = (leading_vectors k q w.0 u l some).0 w.2 }

pub leader_listed : (k q w : ℕ) (m : Message) → 1 ≤ w → w ≤ k → Contains (messages k q w) m → Contains (leaders k q) (vector_of k m)
leader_listed k q w m some l c =
    flat_map_contains (leaders_of k q) (numbers_from 1 k) w (vector_of k m) (within_numbers 1 k w some (omega (arith, l))) (map_contains (vector_of k) (messages k q w) m c)

pub leaders_distinct : (k q : ℕ) → 1 < q → AreDistinct (leaders k q)
leaders_distinct k q l =
    distinct_flat_map (leaders_of k q) (numbers_from 1 k)
    (λ w _. distinct_from_pairs (leaders_of k q w) (pairs_in_order (λ (u v : List ℕ). u ≢ v) (leaders_of k q w) (vectors_apart k q w l)))
    (λ w x u c d a b.
    let h = (leading_vectors k q w u l (numbers_within 1 k w c).0).0 a in
    let i = (leading_vectors k q x u l (numbers_within 1 k x d).0).0 b in
    omega (arith, h.weighs, i.weighs))
    (numbers_distinct 1 k)

leader_word : (f : FieldName) (k : ℕ) (u : List ℕ) → IsLeader k (size f) u → IsWord f k u
leader_word f k u h = record { long = h.leads.many; fits = λ i l. h.leads.entries i (omega (arith, l, h.leads.many)) }

leader_weight : (k q : ℕ) (u : List ℕ) → IsLeader k q u → 0 < weight u
leader_weight k q u h = omega (arith, h.some, h.leads.weighs)

abbrev pub multiples_of : FieldName → ℕ → ℕ → List (List ℕ)
multiples_of f k a = map (scale f a) (leaders k (size f))

abbrev pub nonzero_vectors : FieldName → ℕ → List (List ℕ)
nonzero_vectors f k = flat_map (multiples_of f k) (numbers_from 1 (size f - 1))

abbrev pub all_vectors : FieldName → ℕ → List (List ℕ)
all_vectors f k = zero_word k ∷ nonzero_vectors f k

-- a nonzero multiple of a leading vector
pub record IsMultiple (f : FieldName) (k : ℕ) (v : List ℕ) : Type 0 where
  pub factor : ℕ
  pub nonzero : 0 < factor
  pub inside : factor < size f
  pub leading : List ℕ
  pub listed : Contains (leaders k (size f)) leading
  pub multiple : v ≡ scale f factor leading

factor_inside : (f : FieldName) (a : ℕ) → Contains (numbers_from 1 (size f - 1)) a → (0 < a) × (a < size f)
factor_inside f a c = let n = numbers_within 1 (size f - 1) a c in (omega (arith, n.0), omega (arith, n.1, one_inside f))

is_multiple : (f : FieldName) (k : ℕ) (v : List ℕ) → Contains (nonzero_vectors f k) v → IsMultiple f k v
is_multiple f k v c =
    let a = contains_flat_map (multiples_of f k) (numbers_from 1 (size f - 1)) v c in
    let u = contains_map (scale f a.0) (leaders k (size f)) v a.2 in
    let n = factor_inside f a.0 a.1 in
    record { factor = a.0; nonzero = n.0; inside = n.1; leading = u.0; listed = u.1; multiple = u.2 }

multiple_weight : (f : FieldName) (k a : ℕ) (u : List ℕ) → 0 < a → a < size f → Contains (leaders k (size f)) u → 0 < weight (scale f a u)
multiple_weight f k a u p l c =
    let h = leader k (size f) u (one_inside f) c in
    omega (arith, weight_scale f a u l p (leader_word f k u h).fits, leader_weight k (size f) u h)

pub vectors_are : (f : FieldName) (k : ℕ) (v : List ℕ) → Contains (all_vectors f k) v → IsWord f k v
vectors_are f k v c =
    ⊎_elim
    (λ e. subst (IsWord f k) e (IsWord_zero f k))
    (λ m. let t = is_multiple f k v m in subst (IsWord f k) (sym t.multiple) (IsWord_scale f k t.factor t.leading (leader_word f k t.leading (leader k (size f) t.leading (one_inside f) t.listed)).long))
    (contains_cases (zero_word k) v (nonzero_vectors f k) c)

pub are_vectors : (f : FieldName) (k : ℕ) (v : List ℕ) → IsWord f k v → Contains (all_vectors f k) v
are_vectors f k v w =
    ⊎_elim
    (λ p.
    let t = led f k v w p in
    let few : weight v ≤ k = omega (arith, weight_at_most_length v, w.long) in
    let here : Contains (leaders k (size f)) (vector_of k t.message) = leader_listed k (size f) (weight v) t.message p few t.listed in
    contains_tail (zero_word k) v (nonzero_vectors f k) (flat_map_contains (multiples_of f k) (numbers_from 1 (size f - 1)) t.factor v (within_numbers 1 (size f - 1) t.factor t.nonzero (omega (arith, t.inside)))
    (subst (Contains (multiples_of f k t.factor)) (sym t.multiple) (map_contains (scale f t.factor) (leaders k (size f)) (vector_of k t.message) here))))
    (λ e. subst (Contains (all_vectors f k)) (sym (zero_from_weight k v w.long (omega (arith, e)))) (contains_head (zero_word k) (nonzero_vectors f k)))
    (cases_lt 0 (weight v))

-- the place of the first nonzero symbol of a leading vector
record Leads (f : FieldName) (a : ℕ) (u : List ℕ) : Type 0 where
  place : ℕ
  at : slice_index (scale f a u) place ≡ a
  before : (j : ℕ) → j < place → slice_index (scale f a u) j ≡ 0

leads_at : (f : FieldName) (k a : ℕ) (u : List ℕ) → a < size f → IsLeader k (size f) u → Leads f a u
leads_at f k a u l h =
    let s = first_symbol u (leader_weight k (size f) u h) in
    let one : slice_index u s.place ≡ 1 = h.leads.leads s.place (λ e. omega (arith, e, s.some)) s.before in
    record {
      place = s.place;
      at = index_scale f a u s.place ∙ ap (mul f a) one ∙ mul_one f a l;
      before = λ j m. index_scale f a u j ∙ ap (mul f a) (s.before j m) ∙ mul_zero f a;
    }

pub one_multiple : (f : FieldName) (k a b : ℕ) (u v : List ℕ) → 0 < a → a < size f → 0 < b → b < size f → IsLeader k (size f) u → IsLeader k (size f) v → scale f a u ≡ scale f b v → a ≡ b
one_multiple f k a b u v p l q m h i e =
    let s = leads_at f k a u l h in
    let t = leads_at f k b v m i in
    let same : (j : ℕ) → slice_index (scale f a u) j ≡ slice_index (scale f b v) j = λ j. ap (λ w. slice_index w j) e in
    ⊎_elim
    (λ x. absurd (omega (arith, p, s.at, same s.place, t.before s.place x)))
    (λ x. ⊎_elim
    (λ y. absurd (omega (arith, q, t.at, same t.place, s.before t.place y)))
    (λ y. let z : s.place ≡ t.place = omega (arith, x, y) in sym s.at ∙ same s.place ∙ ap (slice_index (scale f b v)) z ∙ t.at)
    (cases_lt t.place s.place))
    (cases_lt s.place t.place)

same_multiple : (f : FieldName) (k a : ℕ) (u v : List ℕ) → 0 < a → a < size f → IsWord f k u → IsWord f k v → scale f a u ≡ scale f a v → u ≡ v
same_multiple f k a u v p l h i e =
    let b = inverse_of f a l p in
    let one : mul f b.0 a ≡ 1 = mul_comm f b.0 a ∙ b.1.one in
    sym (inverse_multiple f b.0 a u h.fits one) ∙ ap (scale f b.0) e ∙ inverse_multiple f b.0 a v i.fits one

pub vectors_distinct : (f : FieldName) (k : ℕ) → AreDistinct (all_vectors f k)
vectors_distinct f k =
    let is : (u : List ℕ) → Contains (leaders k (size f)) u → IsLeader k (size f) u = λ u c. leader k (size f) u (one_inside f) c in (
      (λ c.
          let t = is_multiple f k (zero_word k) c in
          let some : 0 < weight (scale f t.factor t.leading) = multiple_weight f k t.factor t.leading t.nonzero t.inside t.listed in
          let none : weight (scale f t.factor t.leading) ≡ 0 = ap weight (sym t.multiple) ∙ weight_zero_word k in
          omega (arith, some, none)),
      distinct_flat_map (multiples_of f k) (numbers_from 1 (size f - 1))
          (λ a c.
          let n = factor_inside f a c in
          distinct_map (scale f a) (leaders k (size f)) (λ u v x y e. same_multiple f k a u v n.0 n.1 (leader_word f k u (is u x)) (leader_word f k v (is v y)) e) (leaders_distinct k (size f) (one_inside f)))
          (λ a b w c d x y.
          let m = factor_inside f a c in
          let n = factor_inside f b d in
          let u = contains_map (scale f a) (leaders k (size f)) w x in
          let v = contains_map (scale f b) (leaders k (size f)) w y in
          one_multiple f k a b u.0 v.0 m.0 m.1 n.0 n.1 (is u.0 u.1) (is v.0 v.1) (sym u.2 ∙ v.2))
          (numbers_distinct 1 (size f - 1)),
    )

pub counts_agree : {X : Type 0} (p : X → Bool) (xs ys : List X) → AreDistinct xs → AreDistinct ys → ((x : X) → Contains xs x → Contains ys x) → ((x : X) → Contains ys x → Contains xs x) → count_by p xs ≡ count_by p ys
counts_agree p xs ys a b m k = omega (arith, sum_at_most (λ x. cond (p x) 1 0) xs ys a m, sum_at_most (λ x. cond (p x) 1 0) ys xs b k)

pub count_by_vectors : (f : FieldName) (n : ℕ) (rows e : List (List ℕ)) (p : List ℕ → Bool) → AreRows f n rows → AreIndependent f n rows → AreRows f n e → AreIndependent f n e → SameSpan f n rows e → count_by p (words f n rows) ≡ count_by (λ v. p (combine f n v e)) (all_vectors f (length e))
count_by_vectors f n rows e p r i s j same =
    let k : ℕ = length e in
    let word : List ℕ → List ℕ = λ v. combine f n v e in
    counts_agree p (words f n rows) (map word (all_vectors f k)) (words_distinct f n rows r i)
    (distinct_map word (all_vectors f k) (λ u v x y q. coefficients_unique f n e u v s j (vectors_are f k u x) (vectors_are f k v y) q) (vectors_distinct f k))
    (λ w c.
    let t = combination_of_word f n e w ((same w).0 (word_of_member f n rows w c)) in
    subst (Contains (map word (all_vectors f k))) (sym t.2) (map_contains word (all_vectors f k) t.0 (are_vectors f k t.0 t.1)))
    (λ w c.
    let t = contains_map word (all_vectors f k) w c in
    member_of_word f n rows w ((same w).1 (subst (InSpan f n e) (sym t.2) (word_of_combination f n e t.0 (vectors_are f k t.0 t.1)))))
    ∙ sum_map (λ w. cond (p w) 1 0) word (all_vectors f k)

abbrev pub found_at : FieldName → ℕ → List (List ℕ) → ℕ → ℕ → ℕ
found_at f n e j w = count_by (λ m. weight (combine f n (vector_of (length e) m) e) == j) (messages (length e) (size f) w)

-- the combination with all coefficients 0
combine_zero : (f : FieldName) (n : ℕ) (e : List (List ℕ)) → AreRows f n e → combine f n (zero_word (length e)) e ≡ zero_word n
combine_zero f n e r =
    let z : scale f 0 (zero_word (length e)) ≡ zero_word (length e) = scale_zero f 0 (length e) in
    ap (λ v. combine f n v e) (sym z) ∙ combine_scale f n 0 (zero_word (length e)) e ∙ zero_scale f n (combine f n (zero_word (length e)) e) (combine_is_word f n (zero_word (length e)) e r).long

pub count_by_messages : (f : FieldName) (n : ℕ) (rows e : List (List ℕ)) (j : ℕ) → AreRows f n rows → AreIndependent f n rows → AreRows f n e → AreIndependent f n e → SameSpan f n rows e → count_by (λ w. weight w == j) (words f n rows) ≡ cond (0 == j) 1 0 + (size f - 1) * sum_by (found_at f n e j) (numbers_from 1 (length e))
count_by_messages f n rows e j r i s d same =
    let k : ℕ = length e in
    let q : ℕ = size f in
    let has : List ℕ → ℕ = λ v. cond (weight (combine f n v e) == j) 1 0 in
    let leading : sum_by has (leaders k q) ≡ sum_by (found_at f n e j) (numbers_from 1 k) =
    sum_flat_map has (leaders_of k q) (numbers_from 1 k)
    ∙ sum_same (λ w. sum_by has (leaders_of k q w)) (found_at f n e j) (numbers_from 1 k) (λ w _. sum_map has (vector_of k) (messages k q w)) in
    let each : (a : ℕ) → Contains (numbers_from 1 (q - 1)) a → sum_by has (multiples_of f k a) ≡ sum_by (found_at f n e j) (numbers_from 1 k) = λ a c.
    let l = factor_inside f a c in
    sum_map has (scale f a) (leaders k q)
    ∙ sum_same (λ u. has (scale f a u)) has (leaders k q) (λ u m.
    ap (λ x. cond (x == j) 1 0) (ap weight (combine_scale f n a u e) ∙ weight_scale f a (combine f n u e) l.1 l.0 (combine_is_word f n u e s).fits))
    ∙ leading in
    let nonzero : sum_by has (nonzero_vectors f k) ≡ (q - 1) * sum_by (found_at f n e j) (numbers_from 1 k) =
    sum_flat_map has (multiples_of f k) (numbers_from 1 (q - 1))
    ∙ sum_constant (λ a. sum_by has (multiples_of f k a)) (sum_by (found_at f n e j) (numbers_from 1 k)) (numbers_from 1 (q - 1)) each
    ∙ ap (λ x. x * sum_by (found_at f n e j) (numbers_from 1 k)) (length-numbers_from 1 (q - 1)) in
    let none : has (zero_word k) ≡ cond (0 == j) 1 0 = ap (λ x. cond (x == j) 1 0) (ap weight (combine_zero f n e s) ∙ weight_zero_word n) in
    count_by_vectors f n rows e (λ w. weight w == j) r i s d same ∙ sum_by-cons has (zero_word k) (nonzero_vectors f k) ∙ omega (arith, none, nonzero)
