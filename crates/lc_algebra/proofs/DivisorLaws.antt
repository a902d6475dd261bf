-- What divides the weights of a code, and rounding up to a multiple of it.
--   multiple_from_mod              a number without remainder is a multiple
--   each_passes                    a test that each element passes is passed by the list
--   divisible_from_test, test_from_divisible      the test on the list of words, and what it tests
--   no_member                      nothing is in the empty list
--   Falling                        numbers of at least 1 that fall
--   FirstDivisor, first_divisor    the first of some falling numbers that divides all weights, and else 1, is the greatest
--   divisors_fall                  the divisors that are asked for fall, and none is 0
--   member_positive                none of some falling numbers is 0
--   divisor_is, divisor_positive   the divisor of the weights is the greatest of them, and at least 1
--   is_positive, divisor_at_most, divisor_unique      there is no other
--   divisible_shared, divisor_shared      rows with the same words have the same
--   rounded_is, rounded_within, rounded_one      rounding up gives the least multiple; no weight that is a multiple lies between
--   divisors_small, divisor_some      divisors are 1 to 4
--   rounded_made           the weight that rounding up a sum gives
use Rattle.std.proofs.Common.{◌≡◌, ℕ, suc, ◌+◌, ◌-◌, ◌*◌, ◌/◌, ◌%◌, ◌<◌, ◌≤◌, Bool, true, ◌==◌, ◌++◌, List, [], ◌∷◌, find, unwrap_or, cond, Some, Contains, refl, sym, ap, subst, ◌∙◌, ⊎_elim, arith, max}
use Rattle.std.specs.List.{list_all}
use Rattle.std.proofs.Math.Nat.{mul-one, mod-add-div', mul-mod_left, lt-div-mul-add, mul-le-mul_right}
use Rattle.std.proofs.lemmas.Nat.{div_below}
use Rattle.std.proofs.lemmas.Bool.{and_from, eqb-true, eq-eqb, false≢true, cases_Bool}
use Rattle.std.proofs.lemmas.List.Elements.{All-contains, Contains-append_cases}
use Rattle.std.proofs.lemmas.List.Sums.{AllPass-from_list_all}
use Rattle.lc_algebra.specs.declared.FieldName.{FieldName}
use Rattle.lc_algebra.specs.declared.FieldName.TheVariants.{Gf2, Gf3}
use Rattle.lc_algebra.specs.Word.{weight}
use Rattle.lc_algebra.specs.Span.{words, SameSpan}
use Rattle.lc_algebra.specs.Divisor.{IsDivisible, possible_divisors, divides_weights, weight_divisor, IsWeightDivisor, rounded, IsLeastMultiple, divisor_of}
use Rattle.lc_algebra.proofs.SpanLaws.{contains_head, contains_tail, contains_cases, word_of_member, member_of_word}
use Rattle.lc_algebra.specs.Matrix.{Matrix}

pub multiple_from_mod : (n d : ℕ) → n % d ≡ 0 → n ≡ n / d * d
multiple_from_mod n d h = omega (arith, mod-add-div' n d, h)

pub each_passes : {X : Type 0} (p : X → Bool) (xs : List X) → ((x : X) → Contains xs x → p x ≡ true) → list_all p xs ≡ true
each_passes p [] h = refl
each_passes p (x ∷ xs) h = and_from (p x) (list_all p xs) (h x (contains_head x xs)) (each_passes p xs (λ y l. h y (contains_tail x y xs l)))

pub divisible_from_test : (f : FieldName) (n : ℕ) (rows : List (List ℕ)) (d : ℕ) → divides_weights d (words f n rows) ≡ true → IsDivisible f n rows d
unfolding divides_weights
divisible_from_test f n rows d h = λ w i.
    let passes : (weight w % d == 0) ≡ true = All-contains (λ v. (weight v % d == 0) ≡ true) (words f n rows) w (AllPass-from_list_all (λ v. weight v % d == 0) (words f n rows) h) (member_of_word f n rows w i) in
    (weight w / d, multiple_from_mod (weight w) d (eqb-true (weight w % d) 0 passes))

pub test_from_divisible : (f : FieldName) (n : ℕ) (rows : List (List ℕ)) (d : ℕ) → IsDivisible f n rows d → divides_weights d (words f n rows) ≡ true
unfolding divides_weights
test_from_divisible f n rows d h = each_passes (λ v. weight v % d == 0) (words f n rows) (λ w l.
    let m = h w (word_of_member f n rows w l) in
    eq-eqb (weight w % d) 0 (ap (λ a. a % d) m.1 ∙ mul-mod_left m.0 d))

pub no_member : {X : Type 0} (e : X) → Contains {X = X} [] e → ⊥
no_member e (k, l, s) = omega (arith, l)

-- some numbers of at least 1, each at least all later ones
abbrev pub Falling : List ℕ → Type 0
Falling [] = Unit {0}
Falling (d ∷ ds) = (1 ≤ d) × ((e : ℕ) → Contains ds e → e ≤ d) × Falling ds

pub record FirstDivisor (f : FieldName) (n : ℕ) (rows : List (List ℕ)) (ds : List ℕ) (d : ℕ) : Type 0 where
  pub one : Contains (ds ++ 1 ∷ []) d
  pub positive : 1 ≤ d
  pub divides : IsDivisible f n rows d
  pub greatest : (e : ℕ) → Contains ds e → IsDivisible f n rows e → e ≤ d

pub first_divisor : (f : FieldName) (n : ℕ) (rows : List (List ℕ)) (ds : List ℕ) → Falling ds → FirstDivisor f n rows ds (unwrap_or (find (λ d. divides_weights d (words f n rows)) ds) 1)
first_divisor f n rows [] falls = record {
  one = contains_head 1 [];
  positive = omega arith;
  divides = λ w i. (weight w, omega arith);
  greatest = λ e l. absurd (no_member e l);
}
first_divisor f n rows (d ∷ ds) falls =
    let passes = λ (b : Bool). FirstDivisor f n rows (d ∷ ds) (unwrap_or (cond b (Some d) (find (λ d. divides_weights d (words f n rows)) ds)) 1) in
    ⊎_elim
    (λ t. subst passes (sym t) (record {
      one = contains_head d (ds ++ 1 ∷ []);
      positive = falls.0;
      divides = divisible_from_test f n rows d t;
      greatest = λ e l h. ⊎_elim (λ s. omega (arith, s)) (λ r. falls.1 e r) (contains_cases d e ds l);
    }))
    (λ t. subst passes (sym t) (
    let rest = first_divisor f n rows ds falls.2 in
    record {
      one = contains_tail d (unwrap_or (find (λ d. divides_weights d (words f n rows)) ds) 1) (ds ++ 1 ∷ []) rest.one;
      positive = rest.positive;
      divides = rest.divides;
      greatest = λ e l h. ⊎_elim (λ s. absurd (false≢true (sym t ∙ test_from_divisible f n rows d (subst (IsDivisible f n rows) (sym s) h)))) (λ r. rest.greatest e r h) (contains_cases d e ds l);
    }))
    (cases_Bool (divides_weights d (words f n rows)))

pub divisors_fall : (f : FieldName) → Falling (possible_divisors f)
unfolding possible_divisors
divisors_fall Gf2 = (omega arith, λ e l. ⊎_elim (λ s. omega (arith, s)) (λ r. absurd (no_member e r)) (contains_cases 2 e [] l), (omega arith, λ e l. absurd (no_member e l), tt))
divisors_fall Gf3 = (omega arith, λ e l. absurd (no_member e l), tt)
divisors_fall _ = tt

pub divisor_is : (f : FieldName) (n : ℕ) (rows : List (List ℕ)) → IsWeightDivisor f n rows (weight_divisor f n rows)
unfolding weight_divisor
divisor_is f n rows = let r = first_divisor f n rows (possible_divisors f) (divisors_fall f) in record { possible = r.one; divides = r.divides; greatest = r.greatest }

pub divisor_positive : (f : FieldName) (n : ℕ) (rows : List (List ℕ)) → 1 ≤ weight_divisor f n rows
unfolding weight_divisor
divisor_positive f n rows = (first_divisor f n rows (possible_divisors f) (divisors_fall f)).positive

pub member_positive : (ds : List ℕ) (e : ℕ) → Falling ds → Contains ds e → 1 ≤ e
member_positive [] e falls l = absurd (no_member e l)
member_positive (d ∷ ds) e falls l = ⊎_elim (λ s. omega (arith, s, falls.0)) (λ r. member_positive ds e falls.2 r) (contains_cases d e ds l)

pub is_positive : (f : FieldName) (n : ℕ) (rows : List (List ℕ)) (d : ℕ) → IsWeightDivisor f n rows d → 1 ≤ d
is_positive f n rows d h =
    ⊎_elim
    (λ l. member_positive (possible_divisors f) d (divisors_fall f) l)
    (λ l. ⊎_elim (λ s. omega (arith, s)) (λ r. absurd (no_member d r)) (contains_cases 1 d [] l))
    (Contains-append_cases (possible_divisors f) (1 ∷ []) d h.possible)

pub divisor_at_most : (f : FieldName) (n : ℕ) (rows : List (List ℕ)) (d e : ℕ) → IsWeightDivisor f n rows d → IsWeightDivisor f n rows e → d ≤ e
divisor_at_most f n rows d e a b =
    ⊎_elim
    (λ l. b.greatest d l a.divides)
    (λ l. ⊎_elim (λ s. omega (arith, s, is_positive f n rows e b)) (λ r. absurd (no_member d r)) (contains_cases 1 d [] l))
    (Contains-append_cases (possible_divisors f) (1 ∷ []) d a.possible)

pub divisor_unique : (f : FieldName) (n : ℕ) (rows : List (List ℕ)) (d e : ℕ) → IsWeightDivisor f n rows d → IsWeightDivisor f n rows e → d ≡ e
divisor_unique f n rows d e a b = omega (arith, divisor_at_most f n rows d e a b, divisor_at_most f n rows e d b a)

pub divisible_shared : (f : FieldName) (n : ℕ) (rows others : List (List ℕ)) (d : ℕ) → SameSpan f n rows others → IsDivisible f n rows d → IsDivisible f n others d
divisible_shared f n rows others d same h = λ w i. h w ((same w).1 i)

pub divisor_shared : (f : FieldName) (n : ℕ) (rows others : List (List ℕ)) → SameSpan f n rows others → weight_divisor f n rows ≡ weight_divisor f n others
divisor_shared f n rows others same =
    let a = divisor_is f n rows in
    divisor_unique f n others (weight_divisor f n rows) (weight_divisor f n others) (record {
      possible = a.possible;
      divides = divisible_shared f n rows others (weight_divisor f n rows) same a.divides;
      greatest = λ e l h. a.greatest e l (λ w i. h w ((same w).0 i));
    }) (divisor_is f n others)

pub rounded_is : (d t : ℕ) → 0 < d → IsLeastMultiple d t (rounded d t)
unfolding rounded
rounded_is d t p =
    let above : t + (d - 1) < (t + (d - 1)) / d * d + d = lt-div-mul-add p in
    record {
      multiple = ((t + (d - 1)) / d, refl);
      reaches = omega (arith, p, above);
      least = λ m h. mul-le-mul_right d (omega (arith, div_below (t + (d - 1)) d (suc m) p (omega (arith, h, p))));
    }

pub rounded_within : (d t w : ℕ) → 0 < d → ((m : ℕ) × (w ≡ m * d)) → t ≤ w → rounded d t ≤ w
rounded_within d t w p m h = subst (λ v. rounded d t ≤ v) (sym m.1) ((rounded_is d t p).least m.0 (subst (λ v. t ≤ v) m.1 h))

pub rounded_one : (t : ℕ) → rounded 1 t ≡ t
rounded_one t =
    let r = rounded_is 1 t (omega arith) in
    omega (arith, r.reaches, subst (λ v. rounded 1 t ≤ v) (mul-one t) (r.least t (omega arith)))

pub divisors_small : (f : FieldName) (d : ℕ) → Contains (possible_divisors f) d → d ≤ 4
unfolding possible_divisors
divisors_small Gf2 d l = ⊎_elim (λ e. omega (arith, e)) (λ m. ⊎_elim (λ e. omega (arith, e)) (λ o. absurd (no_member d o)) (contains_cases 2 d [] m)) (contains_cases 4 d (2 ∷ []) l)
divisors_small Gf3 d l = ⊎_elim (λ e. omega (arith, e)) (λ o. absurd (no_member d o)) (contains_cases 3 d [] l)
divisors_small _ d l = absurd (no_member d l)

pub divisor_some : (C : Matrix) → 1 ≤ divisor_of C
unfolding divisor_of
divisor_some C = divisor_positive C.field C.columns C.rows

pub rounded_made : (d s t r : ℕ) → s ≡ t → r ≡ (max s 1 + (d - 1)) / d * d → r ≡ rounded d (max 1 t)
unfolding rounded
rounded_made d s t r e q =
    let same : max s 1 ≡ max 1 t = omega (arith, e) in
    q ∙ ap (λ m. (m + (d - 1)) / d * d) same
