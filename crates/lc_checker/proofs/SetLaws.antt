-- The sets of a certificate, one after another.
--   member_some, member_other, member_none      whether a number is one of a list, entry by entry
--   counted                    how many of a list that was mapped pass a test
--   set_short, set_told        whether a basis is an information set
--   shaped_at                  the shape of a set of a list that was mapped
--   dependent_found, dependent_passed, dependent_none     the first set that is none, set by set
--   overlap_start, overlap_found, overlap_passed, overlap_none      the least place that is fresh in two sets, place by place
--   bound_more, bound_end      the sum over the sets, set by set
--   divisor_some, divisor_small      the divisor is 1 to 4
use Rattle.std.proofs.Common.{◌≡◌, ℕ, zero, suc, ◌+◌, ◌-◌, ◌*◌, ◌/◌, ◌<◌, ◌≤◌, ◌↔◌, Bool, true, false, cond, if◌then◌else◌, nat_lt, ◌==◌, ◌||◌, List, [], ◌∷◌, ◌++◌, map, find, count_by, length, drop, slice_index_or, All, Option, Some, None, IsSome, is_some, refl, sym, ap, ap₂, subst, ◌∙◌, ⊎_elim, arith}
use Rattle.std.proofs.Math.Seq.{drop-cons}
use Rattle.std.proofs.lemmas.Bool.{eq-eqb, ne_eqb, lt-ltb, le-ltb}
use Rattle.std.proofs.lemmas.List.{length-map, get_or-map}
use Rattle.std.proofs.lemmas.List.Elements.{Contains-append_cases}
use Rattle.std.proofs.lemmas.List.Sums.{sum_by-cons}
use Rattle.lc_algebra.specs.Span.{below}
use Rattle.lc_algebra.specs.Matrix.{Matrix, AreIndependentColumns}
use Rattle.lc_algebra.specs.Divisor.{possible_divisors, weight_divisor, divisor_of}
use Rattle.lc_algebra.proofs.DivisorLaws.{no_member, divisor_positive, divisor_is as greatest_divisor, divisors_small, rounded_made}
use Rattle.lc_algebra.proofs.SpanLaws.{contains_cases, same_span_symmetric}
use Rattle.lc_algebra.proofs.ColumnLaws.{independent_columns_shared}
use Rattle.lc_algebra.proofs.CommonLaws.{same_test, drop_whole}
use Rattle.lc_enumeration.specs.Message.{numbers_from}
use Rattle.lc_enumeration.specs.InformationSet.{is_member}
use Rattle.lc_enumeration.specs.Search.{bound_sum}
use Rattle.lc_formats.specs.Certificate.{Certificate, SetClaim, code_length, is_information_set, first_dependent, least_overlap}
use Rattle.lc_formats.specs.Shape.{IsShapedSet}
use Rattle.lc_formats.proofs.VerdictLaws.{set_holds, set_passes}
use Rattle.lc_matrix.proofs.DivisibleLaws.{divisor_of_rows}
use Rattle.lc_checker.specs.Sets.{IsCodeOf}
use Rattle.lc_checker.proofs.CheckLaws.{code_dimension_is}
use Rattle.lc_checker.proofs.CostLaws.{numbers_last}
use Rattle.lc_checker.proofs.WalkLaws.{numbers_more}
use Rattle.lc_checker.proofs.HeavyLaws.{next}

-- ---- members and counts

member_cons : (x c : ℕ) (xs : List ℕ) → is_member (x ∷ xs) c ≡ (c == x) || is_member xs c
unfolding is_member
member_cons x c xs = refl

member_nil : (c : ℕ) → is_member [] c ≡ false
unfolding is_member
member_nil c = refl

member_more : {X : Type 0} (g : X → ℕ) (xs : List X) (i k : ℕ) (d : X) → i < length xs → is_member (map g (drop i xs)) k ≡ (k == g (slice_index_or xs i d)) || is_member (map g (drop (i + 1) xs)) k
member_more g xs i k d l = ap (λ ys. is_member (map g ys) k) (drop-cons xs i d l) ∙ member_cons (g (slice_index_or xs i d)) k (map g (drop (suc i) xs)) ∙ ap (λ m. (k == g (slice_index_or xs i d)) || is_member (map g (drop m xs)) k) (next i)

pub member_some : {X : Type 0} (g : X → ℕ) (xs : List X) (i k : ℕ) (d : X) (b : Bool) → i < length xs → g (slice_index_or xs i d) ≡ k → b ≡ is_member (map g (drop i xs)) k → true ≡ b
member_some g xs i k d b l e h = sym (h ∙ member_more g xs i k d l ∙ ap (λ t. t || is_member (map g (drop (i + 1) xs)) k) (eq-eqb k (g (slice_index_or xs i d)) (sym e)))

pub member_other : {X : Type 0} (g : X → ℕ) (xs : List X) (i k : ℕ) (d : X) (b : Bool) → i < length xs → (k ≡ g (slice_index_or xs i d) → ⊥) → b ≡ is_member (map g (drop i xs)) k → b ≡ is_member (map g (drop (i + 1) xs)) k
member_other g xs i k d b l e h = h ∙ member_more g xs i k d l ∙ ap (λ t. t || is_member (map g (drop (i + 1) xs)) k) (ne_eqb k (g (slice_index_or xs i d)) e)

pub member_none : {X : Type 0} (g : X → ℕ) (xs : List X) (i k : ℕ) (b : Bool) → length xs ≤ i → b ≡ is_member (map g (drop i xs)) k → false ≡ b
member_none g xs i k b l h = sym (h ∙ ap (λ ys. is_member (map g ys) k) (drop_whole xs i l) ∙ member_nil k)

pub counted : {X Y : Type 0} (test : Y → Bool) (h : X → Y) (xs : List X) → count_by test (map h xs) ≡ count_by (λ x. test (h x)) xs
counted test h [] = refl
counted test h (x ∷ xs) = sum_by-cons (λ y. cond (test y) 1 0) (h x) (map h xs) ∙ ap (λ n. cond (test (h x)) 1 0 + n) (counted test h xs) ∙ sym (sum_by-cons (λ y. cond (test (h y)) 1 0) x xs)

-- ---- information sets

test_false : (b : Bool) → (b ≡ true → ⊥) → false ≡ b
test_false true h = absurd (h refl)
test_false false h = refl

pub set_short : (c : Certificate) (C : Matrix) (basis : List ℕ) → IsCodeOf c C → (length basis ≡ length C.rows → ⊥) → false ≡ is_information_set c basis
set_short c C basis h out = test_false (is_information_set c basis) (λ t. out ((set_holds c basis h.rows t).0 ∙ code_dimension_is c C h))

pub set_told : {X : Type 0} (c : Certificate) (C : Matrix) (basis : List ℕ) (o : Option X) (b : Bool) → IsCodeOf c C → length basis ≡ length C.rows → b ≡ is_some o → IsSome o ↔ AreIndependentColumns C.field C.rows basis → b ≡ is_information_set c basis
set_told c C basis o b h many t exact =
    same_test b (is_information_set c basis)
    (λ e.
    let free : AreIndependentColumns c.field C.rows basis = subst (λ f. AreIndependentColumns f C.rows basis) h.field (exact.0 (sym t ∙ e)) in
    set_passes c basis h.rows (many ∙ sym (code_dimension_is c C h), independent_columns_shared c.field (code_length c) C.rows c.rows basis h.echelon.words h.rows (same_span_symmetric c.field (code_length c) c.rows C.rows h.echelon.same) free))
    (λ e.
    let free = (set_holds c basis h.rows e).1 in
    t ∙ exact.1 (subst (λ f. AreIndependentColumns f C.rows basis) (sym h.field) (independent_columns_shared c.field (code_length c) c.rows C.rows basis h.rows h.echelon.words h.echelon.same free)))

pub shaped_at : {X : Type 0} (n : ℕ) (h : X → SetClaim) (xs : List X) (i : ℕ) (d : X) → i < length xs → All (IsShapedSet n) (map h xs) → IsShapedSet n (h (slice_index_or xs i d))
shaped_at n h xs i d l a = subst (IsShapedSet n) (get_or-map h xs i d (h d) l) (a i (h d) (omega (arith, l, length-map xs h)))

dependent_cons : (c : Certificate) (number : ℕ) (claim : SetClaim) (claims : List SetClaim) → first_dependent c number (claim ∷ claims) ≡ (if is_information_set c claim.basis then first_dependent c (suc number) claims else Some number)
unfolding first_dependent
dependent_cons c number claim claims = refl

dependent_nil : (c : Certificate) (number : ℕ) → first_dependent c number [] ≡ None
unfolding first_dependent
dependent_nil c number = refl

dependent_more : {X : Type 0} (c : Certificate) (h : X → SetClaim) (xs : List X) (i : ℕ) (d : X) → i < length xs → first_dependent c (i + 1) (drop i (map h xs)) ≡ (if is_information_set c (h (slice_index_or xs i d)).basis then first_dependent c (i + 1 + 1) (drop (i + 1) (map h xs)) else Some (i + 1))
dependent_more c h xs i d l =
    let inside : i < length (map h xs) = omega (arith, l, length-map xs h) in
    let here : slice_index_or (map h xs) i (h d) ≡ h (slice_index_or xs i d) = get_or-map h xs i d (h d) l in
    ap (first_dependent c (i + 1)) (drop-cons (map h xs) i (h d) inside)
    ∙ dependent_cons c (i + 1) (slice_index_or (map h xs) i (h d)) (drop (suc i) (map h xs))
    ∙ ap (λ s. if is_information_set c s.basis then first_dependent c (suc (i + 1)) (drop (suc i) (map h xs)) else Some (i + 1)) here
    ∙ ap₂ (λ m n. if is_information_set c (h (slice_index_or xs i d)).basis then first_dependent c m (drop n (map h xs)) else Some (i + 1)) (next (i + 1)) (next i)

pub dependent_found : {X : Type 0} (c : Certificate) (h : X → SetClaim) (xs : List X) (i : ℕ) (d : X) (b : Bool) (o : Option ℕ) → i < length xs → b ≡ is_information_set c (h (slice_index_or xs i d)).basis → b ≡ false → o ≡ first_dependent c (i + 1) (drop i (map h xs)) → Some (i + 1) ≡ o
dependent_found c h xs i d b o l t e q = sym (q ∙ dependent_more c h xs i d l ∙ ap (λ z. if z then first_dependent c (i + 1 + 1) (drop (i + 1) (map h xs)) else Some (i + 1)) (sym t ∙ e))

pub dependent_passed : {X : Type 0} (c : Certificate) (h : X → SetClaim) (xs : List X) (i : ℕ) (d : X) (b : Bool) (o : Option ℕ) → i < length xs → b ≡ is_information_set c (h (slice_index_or xs i d)).basis → b ≡ true → o ≡ first_dependent c (i + 1) (drop i (map h xs)) → o ≡ first_dependent c (i + 1 + 1) (drop (i + 1) (map h xs))
dependent_passed c h xs i d b o l t e q = q ∙ dependent_more c h xs i d l ∙ ap (λ z. if z then first_dependent c (i + 1 + 1) (drop (i + 1) (map h xs)) else Some (i + 1)) (sym t ∙ e)

pub dependent_none : (c : Certificate) (claims : List SetClaim) (i : ℕ) (o : Option ℕ) → length claims ≤ i → o ≡ first_dependent c (i + 1) (drop i claims) → None ≡ o
dependent_none c claims i o l q = sym (q ∙ ap (first_dependent c (i + 1)) (drop_whole claims i l) ∙ dependent_nil c (i + 1))

-- ---- fresh places

below_is : (n : ℕ) → below n ≡ numbers_from 0 n
unfolding below numbers_from
below_is zero = refl
below_is (suc n) = let e : n ≡ 0 + n = omega arith in ap₂ (λ xs m. xs ++ m ∷ []) (below_is n) e ∙ sym (numbers_last 0 n)

numbers_none : (i m : ℕ) → m ≡ 0 → numbers_from i m ≡ []
unfolding numbers_from
numbers_none i m e = rw e refl

abbrev twice : List SetClaim → ℕ → Bool
twice claims place = nat_lt 1 (count_by (λ claim. is_member claim.fresh place) claims)

pub overlap_start : (c : Certificate) (claims : List SetClaim) (n : ℕ) → code_length c ≡ n → least_overlap c claims ≡ find (twice claims) (numbers_from 0 (n - 0))
unfolding least_overlap
overlap_start c claims n e = let z : n ≡ n - 0 = omega arith in ap (find (twice claims)) (ap below e ∙ below_is n ∙ ap (numbers_from 0) z)

find_more : (claims : List SetClaim) (i n : ℕ) → i < n → find (twice claims) (numbers_from i (n - i)) ≡ cond (twice claims i) (Some i) (find (twice claims) (numbers_from (i + 1) (n - (i + 1))))
find_more claims i n l = ap (find (twice claims)) (numbers_more i (n - i) (n - (i + 1)) (omega (arith, l)))

pub overlap_found : (claims : List SetClaim) (i n count : ℕ) (o : Option ℕ) → i < n → count ≡ count_by (λ claim. is_member claim.fresh i) claims → 1 < count → o ≡ find (twice claims) (numbers_from i (n - i)) → Some i ≡ o
overlap_found claims i n count o l e m h = sym (h ∙ find_more claims i n l ∙ ap (λ b. cond b (Some i) (find (twice claims) (numbers_from (i + 1) (n - (i + 1))))) (lt-ltb 1 (count_by (λ claim. is_member claim.fresh i) claims) (omega (arith, e, m))))

pub overlap_passed : (claims : List SetClaim) (i n count : ℕ) (o : Option ℕ) → i < n → count ≡ count_by (λ claim. is_member claim.fresh i) claims → count ≤ 1 → o ≡ find (twice claims) (numbers_from i (n - i)) → o ≡ find (twice claims) (numbers_from (i + 1) (n - (i + 1)))
overlap_passed claims i n count o l e m h = h ∙ find_more claims i n l ∙ ap (λ b. cond b (Some i) (find (twice claims) (numbers_from (i + 1) (n - (i + 1))))) (le-ltb 1 (count_by (λ claim. is_member claim.fresh i) claims) (omega (arith, e, m)))

pub overlap_none : (claims : List SetClaim) (i n : ℕ) (o : Option ℕ) → n ≤ i → o ≡ find (twice claims) (numbers_from i (n - i)) → None ≡ o
overlap_none claims i n o l h = sym (h ∙ ap (find (twice claims)) (numbers_none i (n - i) (omega (arith, l))))

-- ---- the bound

bound_cons : (k r w : ℕ) (ranks levels : List ℕ) → bound_sum k (r ∷ ranks) (w ∷ levels) ≡ ((w + 1) - (k - r)) + bound_sum k ranks levels
unfolding bound_sum
bound_cons k r w ranks levels = refl

bound_nil : (k : ℕ) → bound_sum k [] [] ≡ 0
unfolding bound_sum
bound_nil k = refl

pub bound_more : {X : Type 0} (g h : X → ℕ) (xs : List X) (i k s v whole : ℕ) (d : X) → i < length xs → v ≡ (h (slice_index_or xs i d) + 1) - (k - g (slice_index_or xs i d)) → s + bound_sum k (map g (drop i xs)) (map h (drop i xs)) ≡ whole → (s + v) + bound_sum k (map g (drop (i + 1) xs)) (map h (drop (i + 1) xs)) ≡ whole
bound_more g h xs i k s v whole d l e q =
    let parts = ap (λ ys. bound_sum k (map g ys) (map h ys)) (drop-cons xs i d l) ∙ bound_cons k (g (slice_index_or xs i d)) (h (slice_index_or xs i d)) (map g (drop (suc i) xs)) (map h (drop (suc i) xs))
    ∙ ap (λ m. ((h (slice_index_or xs i d) + 1) - (k - g (slice_index_or xs i d))) + bound_sum k (map g (drop m xs)) (map h (drop m xs))) (next i) in
    omega (arith, e, q, parts)

pub bound_end : {X : Type 0} (g h : X → ℕ) (xs : List X) (i k s whole : ℕ) → length xs ≤ i → s + bound_sum k (map g (drop i xs)) (map h (drop i xs)) ≡ whole → s ≡ whole
bound_end g h xs i k s whole l q = omega (arith, q, ap (λ ys. bound_sum k (map g ys) (map h ys)) (drop_whole xs i l) ∙ bound_nil k)

pub divisor_some : (C : Matrix) (d : ℕ) → d ≡ divisor_of C → 1 ≤ d
divisor_some C d e = omega (arith, e, divisor_of_rows C, divisor_positive C.field C.columns C.rows)

pub divisor_small : (C : Matrix) (d : ℕ) → d ≡ divisor_of C → d ≤ 4
divisor_small C d e =
    let w = weight_divisor C.field C.columns C.rows in
    let small : w ≤ 4 = ⊎_elim (λ l. divisors_small C.field w l) (λ l. ⊎_elim (λ e. omega (arith, e)) (λ o. absurd (no_member w o)) (contains_cases 1 w [] l)) (Contains-append_cases (possible_divisors C.field) (1 ∷ []) w (greatest_divisor C.field C.columns C.rows).possible) in
    omega (arith, e, divisor_of_rows C, small)

pub ruleset claimed_sum_laws = (divisor_some, divisor_small, rounded_made)
