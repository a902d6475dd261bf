-- What the tests of a reader of certificates say.
--   all_holds, all_passes      a list passes a test exactly if each element has what the test tests
--   rising_holds, rising_passes      numbers rise exactly if the test says so
--   word_holds, word_passes    a list is a word over the field, of that length
--   places_hold, places_pass   numbers rise and are below the length
--   part_holds, part_passes    each fresh place is in the basis
use Rattle.std.proofs.Common.{◌≡◌, ℕ, zero, suc, ◌+◌, ◌<◌, Bool, true, nat_lt, ◌==◌, List, [], ◌∷◌, length, slice_index, All, Contains, refl, sym, subst, arith}
use Rattle.std.specs.List.{list_all}
use Rattle.std.specs.List.Sorted.{IsStrictlyIncreasing}
use Rattle.std.proofs.lemmas.Bool.{and_parts, and_from, eqb-true, eq-eqb, ltb-true, lt-ltb}
use Rattle.std.proofs.lemmas.List.Elements.{All-cons, All-head, All-tail}
use Rattle.lc_algebra.specs.declared.FieldName.{FieldName}
use Rattle.lc_algebra.specs.Word.{IsWord}
use Rattle.lc_constructions.specs.Refusals.{is_rising, are_elements}
use Rattle.lc_constructions.proofs.RefusalLaws.{elements_fit, fits_elements}
use Rattle.lc_enumeration.specs.InformationSet.{is_member}
use Rattle.lc_enumeration.proofs.MemberLaws.{member_true, true_member}
use Rattle.lc_formats.specs.Certificate.{SetClaim}
use Rattle.lc_formats.specs.Check.{fit, are_places, fresh_in_basis}

pub all_holds : {X : Type 0} (test : X → Bool) (P : X → Type 0) → ((x : X) → test x ≡ true → P x) → (xs : List X) → list_all test xs ≡ true → All P xs
all_holds test P h [] e = λ k d l. absurd (omega (arith, l))
all_holds test P h (x ∷ xs) e =
    let s = and_parts (test x) (list_all test xs) e in
    All-cons P x xs (h x s.0) (all_holds test P h xs s.1)

pub all_passes : {X : Type 0} (test : X → Bool) (P : X → Type 0) → ((x : X) → P x → test x ≡ true) → (xs : List X) → All P xs → list_all test xs ≡ true
all_passes test P h [] a = refl
all_passes test P h (x ∷ xs) a = and_from (test x) (list_all test xs) (h x (All-head P x xs a)) (all_passes test P h xs (All-tail P x xs a))

next : (k : ℕ) → suc (k + 1) ≡ suc k + 1
next k = omega arith

pub rising_holds : (xs : List ℕ) → is_rising xs ≡ true → IsStrictlyIncreasing xs
unfolding is_rising
rising_holds [] e k l = absurd (omega (arith, l))
rising_holds (a ∷ []) e k l = absurd (omega (arith, l))
rising_holds (a ∷ b ∷ rest) e zero l = ltb-true a b (and_parts (nat_lt a b) (is_rising (b ∷ rest)) e).0
rising_holds (a ∷ b ∷ rest) e (suc k) l =
    subst (λ j. slice_index (b ∷ rest) k < slice_index (a ∷ b ∷ rest) j) (next k) (rising_holds (b ∷ rest) (and_parts (nat_lt a b) (is_rising (b ∷ rest)) e).1 k (omega (arith, l)))

pub rising_passes : (xs : List ℕ) → IsStrictlyIncreasing xs → is_rising xs ≡ true
unfolding is_rising
rising_passes [] h = refl
rising_passes (a ∷ []) h = refl
rising_passes (a ∷ b ∷ rest) h = and_from (nat_lt a b) (is_rising (b ∷ rest)) (lt-ltb a b (h 0 (omega arith))) (rising_passes (b ∷ rest) (λ k l. subst (λ j. slice_index (b ∷ rest) k < slice_index (a ∷ b ∷ rest) j) (sym (next k)) (h (suc k) (omega (arith, l)))))

pub word_holds : (f : FieldName) (n : ℕ) (w : List ℕ) → fit f n w ≡ true → IsWord f n w
unfolding fit
word_holds f n w e =
    let s = and_parts (length w == n) (are_elements f w) e in
    record { long = eqb-true (length w) n s.0; fits = elements_fit f w s.1 }

pub word_passes : (f : FieldName) (n : ℕ) (w : List ℕ) → IsWord f n w → fit f n w ≡ true
unfolding fit
word_passes f n w h = and_from (length w == n) (are_elements f w) (eq-eqb (length w) n h.long) (fits_elements f w h.fits)

pub places_hold : (n : ℕ) (places : List ℕ) → are_places n places ≡ true → IsStrictlyIncreasing places × All (λ place. place < n) places
unfolding are_places
places_hold n places e =
    let s = and_parts (is_rising places) (list_all (λ place. nat_lt place n) places) e in
    (rising_holds places s.0, all_holds (λ place. nat_lt place n) (λ place. place < n) (λ place h. ltb-true place n h) places s.1)

pub places_pass : (n : ℕ) (places : List ℕ) → IsStrictlyIncreasing places → All (λ place. place < n) places → are_places n places ≡ true
unfolding are_places
places_pass n places r a = and_from (is_rising places) (list_all (λ place. nat_lt place n) places) (rising_passes places r) (all_passes (λ place. nat_lt place n) (λ place. place < n) (λ place h. lt-ltb place n h) places a)

pub part_holds : (claim : SetClaim) → fresh_in_basis claim ≡ true → All (Contains claim.basis) claim.fresh
unfolding fresh_in_basis
part_holds claim e = all_holds (is_member claim.basis) (Contains claim.basis) (true_member claim.basis) claim.fresh e

pub part_passes : (claim : SetClaim) → All (Contains claim.basis) claim.fresh → fresh_in_basis claim ≡ true
unfolding fresh_in_basis
part_passes claim a = all_passes (is_member claim.basis) (Contains claim.basis) (member_true claim.basis) claim.fresh a
