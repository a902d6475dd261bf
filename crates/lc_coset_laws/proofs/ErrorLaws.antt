-- What is left of x by the word of a pattern: one combination of one more row.
--   coset_word_combined        the word of a pattern, as a combination over the set's generator matrix
--   first_left C x j           what is left of x by the word that equals it on the basis of set j
--   left_is                    it is a word of the code's length
--   left_of_difference         x less (a less v) is what a leaves of x, plus v
--   error_is                   what the word of a pattern leaves of x: the first rest plus the pattern's combination
--   error_led                  so it is the combination of the led pattern over the first rest and the generator matrix
use Rattle.std.proofs.Common.{◌≡◌, ℕ, suc, ◌<◌, List, ◌∷◌, length, sym, ap, subst, ◌∙◌, arith}
use Rattle.std.proofs.lemmas.List.{ext_get_or}
use Rattle.lc_algebra.specs.declared.FieldName.{FieldName}
use Rattle.lc_algebra.specs.Word.{IsWord, word_sum, difference}
use Rattle.lc_algebra.specs.Span.{combine, InSpan}
use Rattle.lc_algebra.specs.Matrix.{Matrix}
use Rattle.lc_algebra.specs.SpanLaws.{restrict}
use Rattle.lc_algebra.proofs.WordLaws.{one_scale, difference_zero, difference_between, IsWord_difference, IsWord_zero}
use Rattle.lc_algebra.proofs.SpanLaws.{word_of_combination, combine_difference, combine_cons, combine_is_word}
use Rattle.lc_algebra.proofs.ColumnLaws.{length_restrict, index_restrict}
use Rattle.lc_algebra.proofs.ReducedLaws.{symbol_of_combination}
use Rattle.lc_enumeration.specs.Message.{Message, vector_of}
use Rattle.lc_enumeration.specs.Search.{set_count, generator_at}
use Rattle.lc_enumeration.specs.NearWord.{coset_word}
use Rattle.lc_infoset.specs.Bound.{set_at, AreGenerators}
use Rattle.lc_infoset.proofs.ExistLaws.{restrict_word}
use Rattle.lc_coset_laws.proofs.PatternLaws.{zero_pattern, zero_vector}
use Rattle.lc_coset_laws.proofs.SeenLaws.{less_rest, coset_word_same}
use Rattle.lc_coset_laws.proofs.LedLaws.{led, led_vector}

pub coset_word_combined : (C : Matrix) (x : List ℕ) (j : ℕ) (pattern : Message) → AreGenerators C → IsWord C.field C.columns x → j < set_count C → IsWord C.field (length C.rows) (vector_of (length C.rows) pattern) → coset_word C x j pattern ≡ combine C.field C.columns (difference C.field (restrict (set_at C j).basis x) (vector_of (length C.rows) pattern)) (generator_at C j)
coset_word_combined C x j pattern g is inside vector =
    let f = C.field in
    let n = C.columns in
    let basis = (set_at C j).basis in
    let rows = generator_at C j in
    let s = (g j inside).1 in
    let many : length basis ≡ length C.rows = (g j inside).0 in
    let on = restrict_word f n basis x is in
    let cs = difference f (restrict basis x) (vector_of (length C.rows) pattern) in
    let word : IsWord f (length basis) cs = IsWord_difference f (length basis) (restrict basis x) (vector_of (length C.rows) pattern) on.long (vector.long ∙ sym many) in
    let here : IsWord f (length rows) cs = subst (λ k. IsWord f k cs) (sym s.count) word in
    let v = combine f n cs rows in
    let i : InSpan f n C.rows v = (s.same v).1 (word_of_combination f n rows cs here) in
    let there : restrict basis v ≡ cs = ext_get_or 0 (restrict basis v) cs (length_restrict basis v ∙ sym word.long) (λ a l.
    let m : a < length basis = omega (arith, l, length_restrict basis v) in
    index_restrict basis v a m ∙ symbol_of_combination f n basis rows cs a s.words s.count s.identity here m) in
    coset_word_same C x j pattern v g inside i there

abbrev pub first_left : Matrix → List ℕ → ℕ → List ℕ
first_left C x j = difference C.field x (coset_word C x j zero_pattern)

pub left_of_difference : (f : FieldName) (n : ℕ) (x a v : List ℕ) → IsWord f n x → IsWord f n a → IsWord f n v → difference f x (difference f a v) ≡ word_sum f (difference f x a) v
left_of_difference f n x a v h i j =
    let d = difference f a v in
    difference_between f n x a d h.long i (IsWord_difference f n a v i.long j.long).long ∙ ap (word_sum f (difference f x a)) (less_rest f n a v i j)

pub error_is : (C : Matrix) (x : List ℕ) (j : ℕ) (pattern : Message) → AreGenerators C → IsWord C.field C.columns x → j < set_count C → IsWord C.field (length C.rows) (vector_of (length C.rows) pattern) → difference C.field x (coset_word C x j pattern) ≡ word_sum C.field (first_left C x j) (combine C.field C.columns (vector_of (length C.rows) pattern) (generator_at C j))
error_is C x j pattern g is inside vector =
    let f = C.field in
    let n = C.columns in
    let k = length C.rows in
    let basis = (set_at C j).basis in
    let rows = generator_at C j in
    let s = (g j inside).1 in
    let many : length basis ≡ k = (g j inside).0 in
    let on = restrict_word f n basis x is in
    let u = restrict basis x in
    let here : IsWord f k u = subst (λ m. IsWord f m u) many on in
    let a = combine f n u rows in
    let v = combine f n (vector_of k pattern) rows in
    let zero_is : IsWord f k (vector_of k zero_pattern) = subst (IsWord f k) (sym (zero_vector k)) (IsWord_zero f k) in
    let first : coset_word C x j zero_pattern ≡ a = coset_word_combined C x j zero_pattern g is inside zero_is ∙ ap (λ z. combine f n (difference f u z) rows) (zero_vector k) ∙ ap (λ cs. combine f n cs rows) (difference_zero f k u here) in
    let item : coset_word C x j pattern ≡ difference f a v = coset_word_combined C x j pattern g is inside vector ∙ combine_difference f n u (vector_of k pattern) rows (here.long ∙ sym vector.long) in
    ap (difference f x) item
    ∙ left_of_difference f n x a v is (combine_is_word f n u rows s.words) (combine_is_word f n (vector_of k pattern) rows s.words)
    ∙ ap (λ c. word_sum f (difference f x c) v) (sym first)

pub left_is : (C : Matrix) (x : List ℕ) (j : ℕ) → AreGenerators C → IsWord C.field C.columns x → j < set_count C → IsWord C.field C.columns (first_left C x j)
left_is C x j g is inside =
    let f = C.field in
    let n = C.columns in
    let k = length C.rows in
    let rows = generator_at C j in
    let zero_is : IsWord f k (vector_of k zero_pattern) = subst (IsWord f k) (sym (zero_vector k)) (IsWord_zero f k) in
    let cs = difference f (restrict (set_at C j).basis x) (vector_of k zero_pattern) in
    let long : length (coset_word C x j zero_pattern) ≡ n = ap length (coset_word_combined C x j zero_pattern g is inside zero_is) ∙ (combine_is_word f n cs rows (g j inside).1.words).long in
    IsWord_difference f n x (coset_word C x j zero_pattern) is.long long

pub error_led : (C : Matrix) (x : List ℕ) (j : ℕ) (pattern : Message) → AreGenerators C → IsWord C.field C.columns x → j < set_count C → IsWord C.field (length C.rows) (vector_of (length C.rows) pattern) → difference C.field x (coset_word C x j pattern) ≡ combine C.field C.columns (vector_of (suc (length C.rows)) (led pattern)) (first_left C x j ∷ generator_at C j)
error_led C x j pattern g is inside vector =
    let f = C.field in
    let n = C.columns in
    let k = length C.rows in
    let left = first_left C x j in
    let v = vector_of k pattern in
    let word = combine f n v (generator_at C j) in
    let fits : IsWord f n left = left_is C x j g is inside in
    error_is C x j pattern g is inside vector
    ∙ ap (λ u. word_sum f u word) (sym (one_scale f left fits.fits))
    ∙ sym (combine_cons f n 1 v left (generator_at C j))
    ∙ ap (λ cs. combine f n cs (left ∷ generator_at C j)) (sym (led_vector k pattern))
