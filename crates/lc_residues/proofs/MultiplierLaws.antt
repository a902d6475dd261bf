-- The words of a quadratic residue code, with their coordinates multiplied by a number modulo n.
--   ones_multiplied, ones_moved      the word of ones stays
--   nonzero_symbol b, symbol_zero, symbol_nonzero, index_residue       the symbols of the residue word
--   shift_multiplied       a shift of a word, multiplied by r, is a shift of the word multiplied by r
--   residue_multiplied     the residue word multiplied by a residue is the same
--   other_multiplied       multiplied by another number it is the word of ones less that of the other period
--   rows_kept              the rows of a code multiplied by a residue are words of it
--   rows_exchanged         multiplied by another number they are words of the code of the other period
use Rattle.std.proofs.Common.{◌≡◌, ◌≢◌, ℕ, ◌+◌, ◌-◌, ◌*◌, ◌%◌, ◌<◌, ◌≤◌, ◌==◌, Bool, true, false, not, if◌then◌else◌, List, length, replicate, slice_index, All, refl, sym, ap, ap₂, subst, ◌∙◌, ⊎_elim, arith}
use Rattle.std.proofs.Math.Nat.{mod-lt, mul-zero, zero-mod}
use Rattle.std.proofs.lemmas.Bool.{cases_eq, ne_eqb}
use Rattle.std.proofs.lemmas.List.{length-replicate, get_or-replicate}
use Rattle.lc_algebra.specs.declared.FieldName.{FieldName}
use Rattle.lc_algebra.specs.Field.{add, neg}
use Rattle.lc_algebra.specs.Word.{difference, scale, word_sum}
use Rattle.lc_algebra.specs.Span.{InSpan}
use Rattle.lc_algebra.proofs.FieldLaws.{one_inside, add_inside, neg_inside, add_assoc, add_neg, add_zero, neg_zero, neg_neg, negative_unique}
use Rattle.lc_algebra.proofs.WordLaws.{ones_word, index_difference, length_difference, IsWord_scale}
use Rattle.lc_algebra.proofs.SpanLaws.{span_difference}
use Rattle.lc_language.specs.QuadraticResidues.{is_odd_prime, is_residue, residue_symbol, residue_word, cyclic_shift, residue_rows, multiplied}
use Rattle.lc_residues.specs.Periods.{other_period}
use Rattle.lc_residues.proofs.ResidueTests.{residue_parts}
use Rattle.lc_residues.proofs.CodeLaws.{residue_word_is}
use Rattle.lc_residues.proofs.PickLaws.{index_mapped, same_picks, index_shift, length_shift, shifts_linear, index_multiplied, length_multiplied}
use Rattle.lc_residues.proofs.ModLaws.{moved}
use Rattle.lc_residues.proofs.ShiftLaws.{rows_all, ones_in, shift_in}
use Rattle.lc_residues.proofs.CharacterLaws.{inverse_there, inverse_times, product_nonzero, residue_times, other_times}

index_ones : (n i : ℕ) → i < n → slice_index (replicate n 1) i ≡ 1
index_ones n i l = get_or-replicate n i 1 0 l

pub ones_multiplied : (n r : ℕ) → multiplied n r (replicate n 1) ≡ replicate n 1
ones_multiplied n r =
    same_picks n (multiplied n r (replicate n 1)) (replicate n 1) (length_multiplied n r (replicate n 1)) (length-replicate n 1) (λ i l.
    index_multiplied n r (replicate n 1) i l ∙ index_ones n (r * i % n) (mod-lt (r * i) (omega (arith, l))) ∙ sym (index_ones n i l))

pub ones_moved : (n k : ℕ) → cyclic_shift n k (replicate n 1) ≡ replicate n 1
ones_moved n k =
    same_picks n (cyclic_shift n k (replicate n 1)) (replicate n 1) (length_shift n k (replicate n 1)) (length-replicate n 1) (λ i l.
    index_shift n k (replicate n 1) i l ∙ index_ones n ((i + (n - k)) % n) (mod-lt (i + (n - k)) (omega (arith, l))) ∙ sym (index_ones n i l))

pub shift_multiplied : (n r k m : ℕ) (w : List ℕ) → k ≤ n → m ≤ n → r * m % n ≡ k % n → multiplied n r (cyclic_shift n k w) ≡ cyclic_shift n m (multiplied n r w)
shift_multiplied n r k m w a b e =
    same_picks n (multiplied n r (cyclic_shift n k w)) (cyclic_shift n m (multiplied n r w)) (length_multiplied n r (cyclic_shift n k w)) (length_shift n m (multiplied n r w)) (λ i l.
    let p : 0 < n = omega (arith, l) in
    index_multiplied n r (cyclic_shift n k w) i l ∙ index_shift n k w (r * i % n) (mod-lt (r * i) p) ∙ ap (slice_index w) (moved n r k m i a b e)
    ∙ sym (index_shift n m (multiplied n r w) i l ∙ index_multiplied n r w ((i + (n - m)) % n) (mod-lt (i + (n - m)) p)))

-- ---- symbols

abbrev pub nonzero_symbol : Bool → ℕ
nonzero_symbol b = if b then 1 else 0

pub symbol_zero : (f : FieldName) (n t i : ℕ) → i ≡ 0 → residue_symbol f n t i ≡ neg f t
unfolding residue_symbol
symbol_zero f n t i e = rw e refl

pub symbol_nonzero : (f : FieldName) (n t i : ℕ) → i ≢ 0 → residue_symbol f n t i ≡ nonzero_symbol (is_residue n i)
unfolding residue_symbol
symbol_nonzero f n t i z = let no : (i == 0) ≡ false = ne_eqb i 0 z in rw no refl

pub index_residue : (f : FieldName) (n t i : ℕ) → i < n → slice_index (residue_word f n t) i ≡ residue_symbol f n t i
unfolding residue_word
index_residue f n t i l = index_mapped (residue_symbol f n t) n i l

zero_times : (n r i : ℕ) → i ≡ 0 → r * i % n ≡ 0
zero_times n r i e = ap (λ j. r * j % n) e ∙ ap (λ m. m % n) (mul-zero r) ∙ zero-mod n

pub residue_multiplied : (f : FieldName) (n t r : ℕ) → n ≤ 255 → is_odd_prime n ≡ true → is_residue n r ≡ true → multiplied n r (residue_word f n t) ≡ residue_word f n t
residue_multiplied f n t r b h q =
    let w = residue_word f n t in
    let kept : (i : ℕ) → i < n → residue_symbol f n t (r * i % n) ≡ residue_symbol f n t i = λ i l.
    ⊎_elim
    (λ e. symbol_zero f n t (r * i % n) (zero_times n r i e) ∙ sym (symbol_zero f n t i e))
    (λ z. symbol_nonzero f n t (r * i % n) (product_nonzero n r i b h (residue_parts n r q).0 l z) ∙ ap nonzero_symbol (residue_times n r i b h q l z) ∙ sym (symbol_nonzero f n t i z))
    (cases_eq i 0) in
    same_picks n (multiplied n r w) w (length_multiplied n r w) (residue_word_is f n t).long (λ i l.
    index_multiplied n r w i l ∙ index_residue f n t (r * i % n) (mod-lt (r * i) (omega (arith, l))) ∙ kept i l ∙ sym (index_residue f n t i l))

-- 1 less the negative of the other period is the negative of the period
period_turned : (f : FieldName) (t : ℕ) → add f 1 (neg f (neg f (other_period f t))) ≡ neg f t
unfolding other_period
period_turned f t =
    let o = neg f (add f t 1) in
    let back : neg f (neg f o) ≡ o = neg_neg f o (neg_inside f (add f t 1)) in
    let zero : add f t (add f 1 o) ≡ 0 = sym (add_assoc f t 1 o) ∙ add_neg f (add f t 1) in
    ap (add f 1) back ∙ negative_unique f t (add f 1 o) (add_inside f 1 o) zero

symbol_turned : (f : FieldName) (b : Bool) → nonzero_symbol (not b) ≡ add f 1 (neg f (nonzero_symbol b))
symbol_turned f true = sym (add_neg f 1)
symbol_turned f false = sym (ap (add f 1) (neg_zero f) ∙ add_zero f 1 (one_inside f))

pub other_multiplied : (f : FieldName) (n t r : ℕ) → n ≤ 255 → is_odd_prime n ≡ true → r % n ≢ 0 → is_residue n r ≡ false → multiplied n r (residue_word f n t) ≡ difference f (replicate n 1) (residue_word f n (other_period f t))
other_multiplied f n t r b h x q =
    let w = residue_word f n t in
    let o = other_period f t in
    let v = residue_word f n o in
    let even : length {A = ℕ} (replicate n 1) ≡ length v = length-replicate n 1 ∙ sym (residue_word_is f n o).long in
    let turned : (i : ℕ) → i < n → residue_symbol f n t (r * i % n) ≡ add f 1 (neg f (residue_symbol f n o i)) = λ i l.
    ⊎_elim
    (λ e. symbol_zero f n t (r * i % n) (zero_times n r i e) ∙ sym (ap (λ a. add f 1 (neg f a)) (symbol_zero f n o i e) ∙ period_turned f t))
    (λ z. symbol_nonzero f n t (r * i % n) (product_nonzero n r i b h x l z) ∙ ap nonzero_symbol (other_times n r i b h x q l z) ∙ symbol_turned f (is_residue n i) ∙ ap (λ a. add f 1 (neg f a)) (sym (symbol_nonzero f n o i z)))
    (cases_eq i 0) in
    same_picks n (multiplied n r w) (difference f (replicate n 1) v) (length_multiplied n r w) (length_difference f (replicate n 1) v even ∙ length-replicate n 1) (λ i l.
    index_multiplied n r w i l ∙ index_residue f n t (r * i % n) (mod-lt (r * i) (omega (arith, l))) ∙ turned i l
    ∙ sym (index_difference f (replicate n 1) v i even ∙ ap₂ (λ a c. add f a (neg f c)) (index_ones n i l) (index_residue f n o i l)))

-- ---- rows

pub rows_kept : (f : FieldName) (n t r : ℕ) → n ≤ 255 → is_odd_prime n ≡ true → is_residue n r ≡ true → All (λ row. InSpan f n (residue_rows f n t) (multiplied n r row)) (residue_rows f n t)
rows_kept f n t r b h q =
    let w = residue_word f n t in
    let (u, e) = inverse_there n r b h (residue_parts n r q).0 in
    rows_all f n t (λ row. InSpan f n (residue_rows f n t) (multiplied n r row))
    (subst (InSpan f n (residue_rows f n t)) (sym (ones_multiplied n r)) (ones_in f n t))
    (λ k l.
    let m = u * k % n in
    let small : m < n = mod-lt (u * k) (omega (arith, l)) in
    let same : multiplied n r (cyclic_shift n k w) ≡ cyclic_shift n m w = shift_multiplied n r k m w (omega (arith, l)) (omega (arith, small)) (inverse_times n r u k e) ∙ ap (cyclic_shift n m) (residue_multiplied f n t r b h q) in
    subst (InSpan f n (residue_rows f n t)) (sym same) (shift_in f n t m small))

shift_of_difference : (f : FieldName) (n m o : ℕ) → cyclic_shift n m (difference f (replicate n 1) (residue_word f n o)) ≡ difference f (replicate n 1) (cyclic_shift n m (residue_word f n o))
unfolding difference
shift_of_difference f n m o =
    let v = residue_word f n o in
    let a = residue_word_is f n o in
    let s = shifts_linear f n m in
    s.sums (replicate n 1) (scale f (neg f 1) v) (ones_word f n) (IsWord_scale f n (neg f 1) v a.long) ∙ ap₂ (word_sum f) (ones_moved n m) (s.multiples (neg f 1) v a)

pub rows_exchanged : (f : FieldName) (n t r : ℕ) → n ≤ 255 → is_odd_prime n ≡ true → r % n ≢ 0 → is_residue n r ≡ false → All (λ row. InSpan f n (residue_rows f n (other_period f t)) (multiplied n r row)) (residue_rows f n t)
rows_exchanged f n t r b h x q =
    let w = residue_word f n t in
    let o = other_period f t in
    let rows = residue_rows f n o in
    let (u, e) = inverse_there n r b h x in
    rows_all f n t (λ row. InSpan f n rows (multiplied n r row))
    (subst (InSpan f n rows) (sym (ones_multiplied n r)) (ones_in f n o))
    (λ k l.
    let m = u * k % n in
    let small : m < n = mod-lt (u * k) (omega (arith, l)) in
    let same : multiplied n r (cyclic_shift n k w) ≡ difference f (replicate n 1) (cyclic_shift n m (residue_word f n o)) = shift_multiplied n r k m w (omega (arith, l)) (omega (arith, small)) (inverse_times n r u k e) ∙ ap (cyclic_shift n m) (other_multiplied f n t r b h x q) ∙ shift_of_difference f n m o in
    subst (InSpan f n rows) (sym same) (span_difference f n rows (replicate n 1) (cyclic_shift n m (residue_word f n o)) (ones_in f n o) (shift_in f n o m small)))
