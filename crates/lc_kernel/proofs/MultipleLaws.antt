-- The multiples of rows, by their indexes.
--   index_inside, index_parts      the index of a multiple, and the set, the row and the element that it is of
--   index_small, symbol_size       indexes are small
--   multiple_is                    a multiple, as the code makes it
--   multiples_made                 the list of all of them
--   multiple_inside, multiple_read, multiple_word      the multiple at an index of the list
use Rattle.std.proofs.Common.{◌≡◌, ℕ, ◌+◌, ◌-◌, ◌*◌, ◌/◌, ◌%◌, ◌^◌, ◌<◌, ◌≤◌, List, [], length, slice_index_or, refl, ap, ◌∙◌, arith}
use Rattle.std.proofs.lemmas.Nat.{div-mul-add, mod-mul-add}
use Rattle.std.proofs.lemmas.List.{get_or_default}
use Rattle.std.specs.Prelude.{IsTrue}
use Rattle.std.proofs.lemmas.Bool.Decides.{nat_tests}
use Rattle.lc_algebra.specs.declared.FieldName.{FieldName}
use Rattle.lc_algebra.specs.Field.{size, is_symbol}
use Rattle.lc_algebra.specs.Word.{IsWord, zero_word, word_sum, scale}
use Rattle.lc_algebra.proofs.WordLaws.{zero_sum, IsWord_scale}
use Rattle.lc_algebra.specs.Matrix.{Matrix}
use Rattle.lc_algebra.proofs.CommonLaws.{below_product}
use Rattle.lc_enumeration.specs.Search.{set_count, generator_at}
use Rattle.lc_matrix.proofs.FlatLaws.{most}
use Rattle.lc_kernel.specs.Sums.{multiple_at, multiple_index, AreMultiples}

pub index_inside : (C : Matrix) (j i c : ℕ) → j < set_count C → i < length C.rows → c + 1 < size C.field → multiple_index C j i c < set_count C * length C.rows * (size C.field - 1)
index_inside C j i c l m n = below_product (set_count C * length C.rows) (size C.field - 1) (j * length C.rows + i) c (below_product (set_count C) (length C.rows) j i l m) (omega (arith, n))

pub index_parts : (C : Matrix) (j i c : ℕ) → i < length C.rows → c + 1 < size C.field → multiple_at C (multiple_index C j i c) ≡ scale C.field (c + 1) (slice_index_or (generator_at C j) i [])
index_parts C j i c m n =
    let q = size C.field - 1 in
    let k = length C.rows in
    let few : c < q = omega (arith, n) in
    let row : ((j * k + i) * q + c) / q ≡ j * k + i = div-mul-add (j * k + i) q c few in
    let element : ((j * k + i) * q + c) % q ≡ c = mod-mul-add (j * k + i) q c few in
    let of_set : (j * k + i) / k ≡ j = div-mul-add j k i m in
    let of_row : (j * k + i) % k ≡ i = mod-mul-add j k i m in
    ap (λ x. scale C.field (x + 1) (slice_index_or (generator_at C (((j * k + i) * q + c) / q / k)) (((j * k + i) * q + c) / q % k) [])) element
    ∙ ap (λ x. scale C.field (c + 1) (slice_index_or (generator_at C (x / k)) (x % k) [])) row
    ∙ ap (λ x. scale C.field (c + 1) (slice_index_or (generator_at C x) ((j * k + i) % k) [])) of_set
    ∙ ap (λ x. scale C.field (c + 1) (slice_index_or (generator_at C j) x [])) of_row

pub multiples_made : (C : Matrix) (ws : List (List ℕ)) (n : ℕ) → n ≡ set_count C * length C.rows * (size C.field - 1) → length ws ≡ n → ((t : ℕ) → t < n → slice_index_or ws t [] ≡ multiple_at C t) → ((t : ℕ) → t < n → IsWord C.field C.columns (slice_index_or ws t [])) → AreMultiples C ws
multiples_made C ws n e long is words = record {
  inside = λ j i c l m o. omega (arith, index_inside C j i c l m o, e, long);
  is = λ j i c l m o. is (multiple_index C j i c) (omega (arith, index_inside C j i c l m o, e)) ∙ index_parts C j i c m o;
  words = λ t l. words t (omega (arith, l, long));
}

-- indexes are small
pub record IsSmall (C : Matrix) (j i c : ℕ) : Type 0 where
  pub rows : j * length C.rows < 2 ^ 16
  pub index : (j * length C.rows + i) * (size C.field - 1) < 2 ^ 20

pub index_small : (C : Matrix) (j i c : ℕ) → j < set_count C → i < length C.rows → set_count C ≤ 255 → length C.rows ≤ 255 → size C.field ≤ 16 → IsSmall C j i c
index_small C j i c l m a b d =
    let one = most j 254 (length C.rows) (omega (arith, l, a)) in
    let two = most (j * length C.rows + i) 65279 (size C.field - 1) (omega (arith, one, m, b)) in
    record { rows = omega (arith, one, b); index = omega (arith, two, d) }

pub symbol_size : (C : Matrix) → IsTrue (is_symbol C.field) → size C.field ≤ 16
unfolding is_symbol
symbol_size C h = grind (arith, nat_tests, h)

zero_plus : (f : FieldName) (n c : ℕ) (row : List ℕ) → IsWord f n row → word_sum f (zero_word n) (scale f c row) ≡ scale f c row
zero_plus f n c row h = zero_sum f n (scale f c row) (IsWord_scale f n c row h.long)

pub multiple_is : (C : Matrix) (index c k q : ℕ) (none row word : List ℕ) → word ≡ word_sum C.field none (scale C.field c row) → none ≡ zero_word C.columns → c ≡ index % q + 1 → q ≡ size C.field - 1 → k ≡ length C.rows → row ≡ slice_index_or (generator_at C (index / q / k)) (index / q % k) [] → IsWord C.field C.columns row → (word ≡ multiple_at C index) × IsWord C.field C.columns word
multiple_is C index c k q none row word made z ce qe ke re w =
    let is : word ≡ scale C.field c row = made ∙ ap (λ x. word_sum C.field x (scale C.field c row)) z ∙ zero_plus C.field C.columns c row w in
    (is ∙ ap (λ x. scale C.field x row) ce ∙ ap (scale C.field (index % q + 1)) re ∙ rw (qe, ke) refl, rw is (IsWord_scale C.field C.columns c row w.long))

-- a multiple that is read at its place
pub multiple_inside : (C : Matrix) (ws : List (List ℕ)) (j i c : ℕ) → AreMultiples C ws → j < set_count C → i < length C.rows → 1 ≤ c → c < size C.field → multiple_index C j i (c - 1) < length ws
multiple_inside C ws j i c h l m some few = h.inside j i (c - 1) l m (omega (arith, some, few))

pub multiple_read : (C : Matrix) (ws : List (List ℕ)) (j i c place : ℕ) (word : List ℕ) → AreMultiples C ws → j < set_count C → i < length C.rows → 1 ≤ c → c < size C.field → place ≡ multiple_index C j i (c - 1) → word ≡ slice_index_or ws place word → word ≡ scale C.field c (slice_index_or (generator_at C j) i [])
multiple_read C ws j i c place word h l m some few at is =
    let same : c - 1 + 1 ≡ c = omega (arith, some) in
    is ∙ ap (λ t. slice_index_or ws t word) at ∙ get_or_default ws (multiple_index C j i (c - 1)) word [] (multiple_inside C ws j i c h l m some few)
    ∙ h.is j i (c - 1) l m (omega (arith, some, few)) ∙ ap (λ x. scale C.field x (slice_index_or (generator_at C j) i [])) same

pub multiple_word : (C : Matrix) (ws : List (List ℕ)) (j i c place : ℕ) (word : List ℕ) → AreMultiples C ws → j < set_count C → i < length C.rows → 1 ≤ c → c < size C.field → place ≡ multiple_index C j i (c - 1) → word ≡ slice_index_or ws place word → IsWord C.field C.columns word
multiple_word C ws j i c place word h l m some few at is =
    let inside = multiple_inside C ws j i c h l m some few in
    rw (is ∙ ap (λ t. slice_index_or ws t word) at ∙ get_or_default ws (multiple_index C j i (c - 1)) word [] inside) (h.words (multiple_index C j i (c - 1)) inside)
