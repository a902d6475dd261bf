-- Two quadratic residue codes of one length, each the other one with its coordinates multiplied by a number that is no residue.
--   other_inverse          the inverse of a number that is no residue is none either
--   multiplied_back        words multiplied by a number and by its inverse are the same
--   other_rows             the other period of the other period has the rows of the first one
--   other_inside           it is an element of the field
--   exchanged_back         the words of the other code come from words of the first one
--   residue_exchanged_exactly      so a word is in the one code exactly if it is in the other one when it is multiplied
use Rattle.std.proofs.Common.{◌≡◌, ◌≢◌, ℕ, ◌*◌, ◌%◌, ◌<◌, ◌≤◌, ◌↔◌, ◌==◌, not, true, false, if◌then◌else◌, List, ◌∷◌, length, map, replicate, slice_index, sym, ap, subst, ◌∙◌, refl, arith}
use Rattle.std.proofs.Math.Nat.{mod-lt, mod-eq_of_lt, mul_comm, mul-zero, zero-mod}
use Rattle.std.proofs.lemmas.Nat.{mul-mod_second}
use Rattle.std.proofs.lemmas.Bool.{not-true}
use Rattle.lc_algebra.specs.declared.FieldName.{FieldName}
use Rattle.lc_algebra.specs.Field.{size, add, neg}
use Rattle.lc_algebra.specs.Matrix.{Matrix}
use Rattle.lc_algebra.specs.Span.{below, InSpan}
use Rattle.lc_algebra.proofs.FieldLaws.{add_inside, neg_inside, neg_neg, neg_add, add_zero, add_assoc}
use Rattle.lc_constructions.specs.Code.{InCode, IsCode}
use Rattle.lc_constructions.proofs.ClosedLaws.{neg_of_sum}
use Rattle.lc_language.specs.QuadraticResidues.{is_odd_prime, is_residue, residue_symbol, residue_word, cyclic_shift, residue_rows, InResidueCode, multiplied}
use Rattle.lc_residues.specs.Periods.{other_period}
use Rattle.lc_residues.proofs.ResidueTests.{prime_parts, residue_from}
use Rattle.lc_residues.proofs.PickLaws.{same_picks, index_multiplied, length_multiplied}
use Rattle.lc_residues.proofs.CharacterLaws.{inverse_there, inverse_times, other_times}
use Rattle.lc_residues.proofs.KeptLaws.{residue_exchanged}

pub other_inverse : (n a : ℕ) → n ≤ 255 → is_odd_prime n ≡ true → a % n ≢ 0 → is_residue n a ≡ false → (b : ℕ) × (a * b % n ≡ 1) × (b % n ≢ 0) × (is_residue n b ≡ false)
other_inverse n a l h nonzero r =
    let big = (prime_parts n h).0 in
    let p : 0 < n = omega (arith, big) in
    let (u, k) = inverse_there n a l h nonzero in
    let b = u % n in
    let small : b < n = mod-lt u p in
    let one : a * b % n ≡ 1 = mul-mod_second a u n ∙ k in
    let other : b ≢ 0 = λ e. let q : a * b % n ≡ 0 = ap (λ j. a * j % n) e ∙ ap (λ j. j % n) (mul-zero a) ∙ zero-mod n in omega (arith, q, one) in
    let unit : 1 % n ≡ 1 = mod-eq_of_lt (omega (arith, big)) in
    let square : is_residue n (a * b % n) ≡ true = ap (is_residue n) one ∙ residue_from n 1 1 (λ e. omega (arith, e, unit)) (omega (arith, big)) refl in
    let turned : is_residue n (a * b % n) ≡ not (is_residue n b) = other_times n a b l h nonzero r small other in
    (b, one, (λ e. other (sym (mod-eq_of_lt small) ∙ e)), not-true (is_residue n b) (sym turned ∙ square))

pub multiplied_back : (n a b : ℕ) (w : List ℕ) → a * b % n ≡ 1 → length w ≡ n → multiplied n a (multiplied n b w) ≡ w
multiplied_back n a b w e long =
    same_picks n (multiplied n a (multiplied n b w)) w (length_multiplied n a (multiplied n b w)) long (λ i l.
    let turned : b * a % n ≡ 1 = ap (λ m. m % n) (mul_comm b a) ∙ e in
    index_multiplied n a (multiplied n b w) i l ∙ index_multiplied n b w (a * i % n) (mod-lt (a * i) (omega (arith, l))) ∙ ap (slice_index w) (inverse_times n b a i turned ∙ mod-eq_of_lt l))

-- ---- the other period

pub other_inside : (f : FieldName) (t : ℕ) → other_period f t < size f
unfolding other_period
other_inside f t = neg_inside f (add f t 1)

negative_twice : (f : FieldName) (t : ℕ) → neg f (other_period f (other_period f t)) ≡ neg f t
unfolding other_period
negative_twice f t =
    let s = neg f (add f t 1) in
    neg_neg f (add f s 1) (add_inside f s 1) ∙ ap (λ a. add f a 1) (neg_of_sum f t 1) ∙ add_assoc f (neg f t) (neg f 1) 1
    ∙ ap (add f (neg f t)) (neg_add f 1) ∙ add_zero f (neg f t) (neg_inside f t)

pub other_rows : (f : FieldName) (n t : ℕ) → residue_rows f n (other_period f (other_period f t)) ≡ residue_rows f n t
unfolding residue_rows residue_word residue_symbol
other_rows f n t =
    ap (λ a. replicate n 1 ∷ map (λ k. cyclic_shift n k (map (λ i. if i == 0 then a else if is_residue n i then 1 else 0) (below n))) (below n)) (negative_twice f t)

-- ---- both codes

pub exchanged_back : (f : FieldName) (n t r : ℕ) (C D : Matrix) (w : List ℕ) → n ≤ 255 → is_odd_prime n ≡ true → r % n ≢ 0 → is_residue n r ≡ false → IsCode f n (InResidueCode f n t) C → IsCode f n (InResidueCode f n (other_period f t)) D → length w ≡ n → InCode D (multiplied n r w) → InCode C w
exchanged_back f n t r C D w b h x q c d long i =
    let (u, one, nonzero, other) = other_inverse n r b h x q in
    let turned : u * r % n ≡ 1 = ap (λ m. m % n) (mul_comm u r) ∙ one in
    let twice : IsCode f n (InResidueCode f n (other_period f (other_period f t))) C = subst (λ rows. IsCode f n (InSpan f n rows) C) (sym (other_rows f n t)) c in
    subst (InCode C) (multiplied_back n u r w turned long) (residue_exchanged f n (other_period f t) u D C (multiplied n r w) b h nonzero other d twice i)

pub residue_exchanged_exactly : (f : FieldName) (n t r : ℕ) (C D : Matrix) (w : List ℕ) → n ≤ 255 → is_odd_prime n ≡ true → r % n ≢ 0 → is_residue n r ≡ false → IsCode f n (InResidueCode f n t) C → IsCode f n (InResidueCode f n (other_period f t)) D → length w ≡ n → InCode C w ↔ InCode D (multiplied n r w)
residue_exchanged_exactly f n t r C D w b h x q c d long = (residue_exchanged f n t r C D w b h x q c d, exchanged_back f n t r C D w b h x q c d long)
