-- What the weights and dots of the rows tell of the weights of all words.
--   pairs_from_earlier               dots of two rows, the later one first
--   possible_positive                no divisor that is asked for is 0
--   told_two, told_orthogonal, told_not      what is found is whether d divides the weight of each word
use Rattle.std.proofs.Common.{◌≡◌, ◌≢◌, ◌==◌, ℕ, ◌%◌, ◌<◌, ◌↔◌, inl, inr, Bool, true, false, IsTrue, List, [], length, slice_index_or, All, AllPairs, Contains, refl, sym, subst, ◌∙◌, ⊎_elim, arith}
use Rattle.std.specs.Bool.{OnTrue, OnFalse}
use Rattle.std.proofs.lemmas.Bool.{false≢true, eq-eqb}
use Rattle.std.proofs.lemmas.List.{get_or_default}
use Rattle.lc_algebra.specs.declared.FieldName.{FieldName}
use Rattle.lc_algebra.specs.Word.{weight, word_dot}
use Rattle.lc_algebra.specs.Matrix.{AreRows}
use Rattle.lc_algebra.specs.Divisor.{IsDivisible, possible_divisors}
use Rattle.lc_algebra.proofs.DivisorLaws.{divisors_fall, member_positive}
use Rattle.lc_matrix.proofs.DivisibleLaws.{RowsDivided, RowsOrthogonal, divisible_told}

pub pairs_from_earlier : (f : FieldName) (rows : List (List ℕ)) → ((k : ℕ) → k < length rows → (i : ℕ) → i < k → word_dot f (slice_index_or rows i []) (slice_index_or rows k []) ≡ 0) → RowsOrthogonal f rows
pairs_from_earlier f rows h i j d l m = rw (get_or_default rows i d [] (omega (arith, l, m)), get_or_default rows j d [] m) (h j m i l)

pub possible_positive : (f : FieldName) (d : ℕ) → Contains (possible_divisors f) d → 0 < d
possible_positive f d l = member_positive (possible_divisors f) d (divisors_fall f) l

pub told_two : (f : FieldName) (n d : ℕ) (rows : List (List ℕ)) → AreRows f n rows → Contains (possible_divisors f) d → RowsDivided d rows → d ≡ 2 → IsTrue (d == 2) ↔ IsDivisible f n rows d
told_two f n d rows r l h e = ((λ t. (divisible_told f n d rows r l).0 (h, inl e)), (λ k. eq-eqb d 2 e))

pub told_orthogonal : (f : FieldName) (n d : ℕ) (rows : List (List ℕ)) (b : Bool) → AreRows f n rows → Contains (possible_divisors f) d → RowsDivided d rows → d ≢ 2 → OnTrue b (RowsOrthogonal f rows) → OnFalse b (RowsOrthogonal f rows → ⊥) → IsTrue b ↔ IsDivisible f n rows d
told_orthogonal f n d rows true r l h o on off = ((λ t. (divisible_told f n d rows r l).0 (h, inr on)), (λ k. refl))
told_orthogonal f n d rows false r l h o on off = ((λ t. absurd (false≢true t)), (λ k. absurd (⊎_elim o off ((divisible_told f n d rows r l).1 k).1)))

pub told_not : (f : FieldName) (n d : ℕ) (rows : List (List ℕ)) → AreRows f n rows → Contains (possible_divisors f) d → (RowsDivided d rows → ⊥) → IsTrue false ↔ IsDivisible f n rows d
told_not f n d rows r l h = ((λ t. absurd (false≢true t)), (λ k. absurd (h ((divisible_told f n d rows r l).1 k).0)))
