-- What is told of the traces of the symbol fields by computing with their elements: of each field to each symbol field in it.
--   sum_of F K a               the sum of the powers whose value the trace stands for
--   finds, keeps_sums, keeps_multiples, is_found, reaches      what is tested, of one field over another
--   trace_there                each sum stands for an element of the smaller field
--   sum_added, sum_scaled      it keeps sums, and multiples by elements of the smaller field
--   sum_told                   an element all of whose multiples have trace 0 is 0
--   sum_reached                each element of the smaller field is a trace
use Rattle.std.proofs.Common.{◌≡◌, ℕ, ◌<◌, Bool, true, false, not, ◌==◌, ◌&&◌, ◌||◌, refl, sym, ap, ◌∙◌, ⊎_elim, true≢false}
use Rattle.std.specs.Prelude.{IsTrue}
use Rattle.std.specs.List.{list_any, list_all}
use Rattle.std.proofs.lemmas.Bool.{eqb-true, eq-eqb, ne_eqb, cases_eq}
use Rattle.lc_algebra.specs.declared.FieldName.{FieldName}
use Rattle.lc_algebra.specs.Residue.{digits, number, plus, minus, times, top, up, times_x, product}
use Rattle.lc_algebra.specs.Field.{shape, shape_of, size, is_symbol, coefficients, add, mul, pow}
use Rattle.lc_algebra.specs.Polynomial.{value_at}
use Rattle.lc_algebra.specs.Embedding.{first_from, first_that, root, embed, IsSubfield, is_subfield}
use Rattle.lc_algebra.specs.Span.{below}
use Rattle.lc_algebra.proofs.EmbeddingLaws.{decides_subfield}
use Rattle.lc_algebra.proofs.SpanLaws.{below_contains, contains_below}
use Rattle.lc_algebra.proofs.SpanSearch.{any_contains}
use Rattle.lc_constructions.specs.Cyclic.{all_fields}
use Rattle.lc_constructions.proofs.LocatorLaws.{each_field}
use Rattle.lc_constructions.proofs.ExpansionLaws.{passes}
use Rattle.lc_language.specs.Trace.{extension_degree, trace_sum}

unfoldable pub sum_of : FieldName → FieldName → ℕ → ℕ
sum_of F K a = trace_sum K (size F) (extension_degree F K) a

unfoldable finds : FieldName → FieldName → Bool
finds F K = list_all (λ a. list_any (λ b. embed F K b == sum_of F K a) (below (size F))) (below (size K))

unfoldable keeps_sums : FieldName → FieldName → Bool
keeps_sums F K = list_all (λ a. list_all (λ b. sum_of F K (add K a b) == add K (sum_of F K a) (sum_of F K b)) (below (size K))) (below (size K))

unfoldable keeps_multiples : FieldName → FieldName → Bool
keeps_multiples F K = list_all (λ c. list_all (λ a. sum_of F K (mul K (embed F K c) a) == mul K (embed F K c) (sum_of F K a)) (below (size K))) (below (size F))

unfoldable is_found : FieldName → FieldName → Bool
is_found F K = list_all (λ a. (a == 0) || list_any (λ x. not (sum_of F K (mul K x a) == 0)) (below (size K))) (below (size K))

unfoldable reaches : FieldName → FieldName → Bool
reaches F K = list_all (λ b. list_any (λ a. sum_of F K a == embed F K b) (below (size K))) (below (size F))

unfoldable tests : (FieldName → FieldName → Bool) → FieldName → FieldName → Bool
tests test K F = not (is_symbol K && is_subfield F K) || test F K

all_find : list_all (λ K. list_all (tests finds K) all_fields) all_fields ≡ true
unfolding digits number plus minus times top up times_x product shape shape_of size is_symbol coefficients add mul pow value_at first_from first_that root embed is_subfield below all_fields extension_degree trace_sum sum_of finds tests
all_find = refl

all_keep_sums : list_all (λ K. list_all (tests keeps_sums K) all_fields) all_fields ≡ true
unfolding digits number plus minus times top up times_x product shape shape_of size is_symbol coefficients add mul pow value_at first_from first_that root embed is_subfield below all_fields extension_degree trace_sum sum_of keeps_sums tests
all_keep_sums = refl

all_keep_multiples : list_all (λ K. list_all (tests keeps_multiples K) all_fields) all_fields ≡ true
unfolding digits number plus minus times top up times_x product shape shape_of size is_symbol coefficients add mul pow value_at first_from first_that root embed is_subfield below all_fields extension_degree trace_sum sum_of keeps_multiples tests
all_keep_multiples = refl

all_found : list_all (λ K. list_all (tests is_found K) all_fields) all_fields ≡ true
unfolding digits number plus minus times top up times_x product shape shape_of size is_symbol coefficients add mul pow value_at first_from first_that root embed is_subfield below all_fields extension_degree trace_sum sum_of is_found tests
all_found = refl

all_reached : list_all (λ K. list_all (tests reaches K) all_fields) all_fields ≡ true
unfolding digits number plus minus times top up times_x product shape shape_of size is_symbol coefficients add mul pow value_at first_from first_that root embed is_subfield below all_fields extension_degree trace_sum sum_of reaches tests
all_reached = refl

passed : (test : FieldName → FieldName → Bool) (F K : FieldName) → list_all (λ K. list_all (tests test K) all_fields) all_fields ≡ true → IsTrue (is_symbol K) → IsSubfield F K → test F K ≡ true
unfolding tests
passed test F K all s t =
    let h : (not (is_symbol K && is_subfield F K) || test F K) ≡ true = passes (tests test K) all_fields F (passes (λ K. list_all (tests test K) all_fields) all_fields K all (each_field K)) (each_field F) in
    let e : is_subfield F K ≡ true = (decides_subfield F K).1 t in
    rw (s, e) at h

pub trace_there : (F K : FieldName) (a : ℕ) → IsTrue (is_symbol K) → IsSubfield F K → a < size K → (b : ℕ) × (b < size F) × (embed F K b ≡ sum_of F K a)
unfolding finds
trace_there F K a s t l =
    let p = passes (λ a. list_any (λ b. embed F K b == sum_of F K a) (below (size F))) (below (size K)) a (passed finds F K all_find s t) (below_contains (size K) a l) in
    let (b, c, e) = any_contains (λ b. embed F K b == sum_of F K a) (below (size F)) p in
    (b, contains_below (size F) b c, eqb-true (embed F K b) (sum_of F K a) e)

pub sum_added : (F K : FieldName) (a b : ℕ) → IsTrue (is_symbol K) → IsSubfield F K → a < size K → b < size K → sum_of F K (add K a b) ≡ add K (sum_of F K a) (sum_of F K b)
unfolding keeps_sums
sum_added F K a b s t l m =
    let q = λ (a b : ℕ). sum_of F K (add K a b) == add K (sum_of F K a) (sum_of F K b) in
    let p = passes (λ a. list_all (q a) (below (size K))) (below (size K)) a (passed keeps_sums F K all_keep_sums s t) (below_contains (size K) a l) in
    eqb-true (sum_of F K (add K a b)) (add K (sum_of F K a) (sum_of F K b)) (passes (q a) (below (size K)) b p (below_contains (size K) b m))

pub sum_scaled : (F K : FieldName) (c a : ℕ) → IsTrue (is_symbol K) → IsSubfield F K → c < size F → a < size K → sum_of F K (mul K (embed F K c) a) ≡ mul K (embed F K c) (sum_of F K a)
unfolding keeps_multiples
sum_scaled F K c a s t l m =
    let q = λ (c a : ℕ). sum_of F K (mul K (embed F K c) a) == mul K (embed F K c) (sum_of F K a) in
    let p = passes (λ c. list_all (q c) (below (size K))) (below (size F)) c (passed keeps_multiples F K all_keep_multiples s t) (below_contains (size F) c l) in
    eqb-true (sum_of F K (mul K (embed F K c) a)) (mul K (embed F K c) (sum_of F K a)) (passes (q c) (below (size K)) a p (below_contains (size K) a m))

or_second : (b c : Bool) → b ≡ false → (b || c) ≡ true → c ≡ true
or_second b c e h = rw e at h

not_zero : (n : ℕ) → not (n == 0) ≡ true → n ≡ 0 → ⊥
not_zero n h e = absurd (true≢false (sym h ∙ ap not (eq-eqb n 0 e)))

pub sum_told : (F K : FieldName) (a : ℕ) → IsTrue (is_symbol K) → IsSubfield F K → a < size K → ((x : ℕ) → x < size K → sum_of F K (mul K x a) ≡ 0) → a ≡ 0
unfolding is_found
sum_told F K a s t l h =
    let q = λ (a x : ℕ). not (sum_of F K (mul K x a) == 0) in
    let p = passes (λ a. (a == 0) || list_any (q a) (below (size K))) (below (size K)) a (passed is_found F K all_found s t) (below_contains (size K) a l) in
    ⊎_elim
    (λ (z : a ≡ 0). z)
    (λ (n : a ≡ 0 → ⊥).
    let (x, c, e) = any_contains (q a) (below (size K)) (or_second (a == 0) (list_any (q a) (below (size K))) (ne_eqb a 0 n) p) in
    absurd (not_zero (sum_of F K (mul K x a)) e (h x (contains_below (size K) x c))))
    (cases_eq a 0)

pub sum_reached : (F K : FieldName) (b : ℕ) → IsTrue (is_symbol K) → IsSubfield F K → b < size F → (a : ℕ) × (a < size K) × (sum_of F K a ≡ embed F K b)
unfolding reaches
sum_reached F K b s t l =
    let p = passes (λ b. list_any (λ a. sum_of F K a == embed F K b) (below (size K))) (below (size F)) b (passed reaches F K all_reached s t) (below_contains (size F) b l) in
    let (a, c, e) = any_contains (λ a. sum_of F K a == embed F K b) (below (size K)) p in
    (a, contains_below (size K) a c, eqb-true (sum_of F K a) (embed F K b) e)
