-- The rows that a flat list of symbols holds.
--   length_rows_of, row_at, row_read      how many rows there are, and where row i stands
--   symbol_inside             the symbol of row i at column c stands at i n + c
--   row_long, row_fits, row_word, words_of      rows of a list that fits the field are words over it
--   row_pushed, flat_pushed               a row put after the others
--   flat_set                     row i written over
--   written, row_added, row_scaled        what a write of a part leaves in the list, and which rows it holds then
--   rows_kept, flat_kept, kept_room       the first rows alone
--   flat_none, rows_none                  no row
use Rattle.std.proofs.Common.{◌≡◌, ℕ, zero, suc, ◌+◌, ◌-◌, ◌*◌, ◌<◌, ◌≤◌, List, [], ◌∷◌, ◌++◌, length, set, take, drop, slice_index_or, refl, sym, ap, subst, ◌∙◌, ⊎_elim, arith, add-one}
use Rattle.std.proofs.Math.Nat.{suc-mul, zero-mul}
use Rattle.std.proofs.lemmas.Bool.{cases_lt}
use Rattle.std.proofs.lemmas.List.{length-drop, length-append, length-take-le, get_or-take, get_or-drop, drop-drop, drop-take, drop-append-le, take-append-le, take_all, nil_from_length}
use Rattle.std.proofs.Math.ListN.{get_or-append}
use Rattle.std.proofs.Math.Seq.{get_or-append_right, take-append_seam}
use Rattle.std.proofs.lemmas.List.Elements.{All-from_get_or}
use Rattle.std.proofs.lemmas.Slice.{take-put_mid_below, drop-put_mid, take-put_mid}
use borrow.Rule.Slice.PartMut.{put_mid}
use Rattle.lc_algebra.specs.declared.FieldName.{FieldName}
use Rattle.lc_algebra.specs.Word.{Fits, IsWord, word_sum, scale}
use Rattle.lc_algebra.specs.Matrix.{AreRows}
use Rattle.lc_algebra.proofs.WordLaws.{length_word_sum, length_scale}
use Rattle.lc_matrix.specs.Rows.{rows_of, IsFlat}

pub length_rows_of : (n k : ℕ) (s : List ℕ) → length (rows_of n k s) ≡ k
unfolding rows_of
length_rows_of n zero s = refl
length_rows_of n (suc k) s = ap suc (length_rows_of n k (drop n s))

pub row_at : (n k i : ℕ) (s : List ℕ) → i < k → slice_index_or (rows_of n k s) i [] ≡ take n (drop (i * n) s)
unfolding rows_of
row_at n zero i s l = absurd (omega (arith, l))
row_at n (suc k) zero s l = rw (zero-mul n) refl
row_at n (suc k) (suc i) s l =
    let e : n + i * n ≡ suc i * n = omega (arith, suc-mul i n) in
    row_at n k i (drop n s) (omega (arith, l)) ∙ ap (take n) (drop-drop (i * n) n s ∙ ap (λ m. drop m s) e)

pub row_read : (n k i : ℕ) (s : List ℕ) → i < k → take (i * n + n - i * n) (drop (i * n) s) ≡ slice_index_or (rows_of n k s) i []
row_read n k i s l =
    let e : i * n + n - i * n ≡ n = omega arith in
    ap (λ m. take m (drop (i * n) s)) e ∙ sym (row_at n k i s l)

up_to : (i k n : ℕ) → i < k → i * n + n ≤ k * n
up_to i zero n l = absurd (omega (arith, l))
up_to zero (suc k) n l = omega (arith, zero-mul n, suc-mul k n)
up_to (suc i) (suc k) n l = omega (arith, suc-mul i n, suc-mul k n, up_to i k n (omega (arith, l)))

pub row_end : (f : FieldName) (n k i : ℕ) (s : List ℕ) → i < k → IsFlat f n k s → i * n + n ≤ length s
row_end f n k i s l h = omega (arith, h.long, up_to i k n l)

pub symbol_inside : (f : FieldName) (n k i c : ℕ) (s : List ℕ) → i < k → c < n → IsFlat f n k s → i * n + c < length s
symbol_inside f n k i c s l m h = omega (arith, row_end f n k i s l h, m)

pub row_long : (f : FieldName) (n k i : ℕ) (s : List ℕ) → i < k → IsFlat f n k s → length (take n (drop (i * n) s)) ≡ n
row_long f n k i s l h =
    length-take-le n (drop (i * n) s) (omega (arith, length-drop (i * n) s, row_end f n k i s l h))

pub row_fits : (f : FieldName) (n k i : ℕ) (s : List ℕ) → i < k → IsFlat f n k s → Fits f (take n (drop (i * n) s))
row_fits f n k i s l h c m =
    let long = row_long f n k i s l h in
    let o : c < n = omega (arith, m, long) in
    rw (get_or-take n (drop (i * n) s) c 0 o, get_or-drop (i * n) s c 0) (h.fits (i * n + c) (symbol_inside f n k i c s l o h))

pub row_word : (f : FieldName) (n k i : ℕ) (s : List ℕ) → i < k → IsFlat f n k s → IsWord f n (slice_index_or (rows_of n k s) i [])
row_word f n k i s l h =
    rw (row_at n k i s l) (record { long = row_long f n k i s l h; fits = row_fits f n k i s l h })

pub words_of : (f : FieldName) (n k : ℕ) (s : List ℕ) → IsFlat f n k s → AreRows f n (rows_of n k s)
words_of f n k s h =
    All-from_get_or (IsWord f n) (rows_of n k s) [] (λ i l. row_word f n k i s (omega (arith, l, length_rows_of n k s)) h)

pub flat_none : (f : FieldName) (n : ℕ) → IsFlat f n 0 []
flat_none f n = record { long = sym (zero-mul n); fits = λ i l. absurd (omega (arith, l)) }

pub rows_none : (n : ℕ) (s : List ℕ) → rows_of n 0 s ≡ []
unfolding rows_of
rows_none n s = refl

pushed : (n k : ℕ) (s r : List ℕ) → length s ≡ k * n → length r ≡ n → rows_of n (suc k) (s ++ r) ≡ rows_of n k s ++ r ∷ []
unfolding rows_of
pushed n zero s r e l =
    let none : s ≡ [] = nil_from_length s (omega (arith, e, zero-mul n)) in
    rw (none, take_all n r (omega (arith, l))) refl
pushed n (suc k) s r e l =
    let room : n ≤ length s = omega (arith, e, suc-mul k n) in
    let rest : length (drop n s) ≡ k * n = omega (arith, e, suc-mul k n, length-drop n s) in
    let t = pushed n k (drop n s) r rest l in
    let a : take n (s ++ r) ≡ take n s = take-append-le n s r room in
    let b : drop n (s ++ r) ≡ drop n s ++ r = drop-append-le n s r room in
    cc (a, b, t)

pub row_pushed : (n k : ℕ) (s r : List ℕ) → length s ≡ k * n → length r ≡ n → rows_of n (k + 1) (s ++ r) ≡ rows_of n k s ++ r ∷ []
row_pushed n k s r e l = rw add-one (pushed n k s r e l)

pub flat_pushed : (f : FieldName) (n k : ℕ) (s r : List ℕ) → IsFlat f n k s → IsWord f n r → IsFlat f n (k + 1) (s ++ r)
flat_pushed f n k s r h w =
    record {
      long = rw add-one (omega (arith, length-append s r, h.long, w.long, suc-mul k n));
      fits = λ i l. ⊎_elim
          (λ m. rw (get_or-append s r 0 i m) (h.fits i m))
          (λ m. rw (get_or-append_right s r i 0 m) (w.fits (i - length s) (omega (arith, l, m, length-append s r))))
          (cases_lt i (length s));
    }

put_tail : (a k n : ℕ) (s v : List ℕ) → n + a ≤ length s → drop n (put_mid (n + a) k s v) ≡ put_mid a k (drop n s) v
put_tail a k n s v l =
    let m : n ≤ length (take (n + a) s) = omega (arith, length-take-le (n + a) s l) in
    drop-append-le n (take (n + a) s) (v ++ drop k (drop (n + a) s)) m ∙ ap (λ x. x ++ (v ++ drop k (drop (n + a) s))) (drop-take n a s) ∙ ap (λ x. take a (drop n s) ++ (v ++ drop k x)) (sym (drop-drop a n s))

put : (n k i : ℕ) (s v : List ℕ) → i < k → length s ≡ k * n → length v ≡ n → rows_of n k (put_mid (i * n) n s v) ≡ set (rows_of n k s) i v
unfolding rows_of
put n zero i s v l e w = absurd (omega (arith, l))
put n (suc k) zero s v l e w =
    let a : take n (put_mid 0 n s v) ≡ v = take-put_mid 0 n s v n (omega (arith, w)) (omega arith) in
    let b : drop n (put_mid 0 n s v) ≡ drop n s = drop-put_mid 0 n s v n (omega arith) (omega arith) w in
    rw (zero-mul n) (cc (a, b))
put n (suc k) (suc i) s v l e w =
    let room : n + i * n ≤ length s = omega (arith, e, suc-mul k n, up_to i k n (omega (arith, l))) in
    let at : suc i * n ≡ n + i * n = omega (arith, suc-mul i n) in
    let a : take n (put_mid (n + i * n) n s v) ≡ take n s = take-put_mid_below (n + i * n) n s v n (omega arith) room in
    let b : drop n (put_mid (n + i * n) n s v) ≡ put_mid (i * n) n (drop n s) v = put_tail (i * n) n n s v room in
    let t = put n k i (drop n s) v (omega (arith, l)) (omega (arith, e, suc-mul k n, length-drop n s)) w in
    rw at (cc (a, b, t))

put_fits : (f : FieldName) (a n : ℕ) (s v : List ℕ) → a + n ≤ length s → Fits f s → length v ≡ n → Fits f v → Fits f (put_mid a n s v)
put_fits f a n s v l h w g i m =
    let long : length (take a s) ≡ a = length-take-le a s (omega (arith, l)) in
    let rest : length (drop n (drop a s)) ≡ length s - a - n = omega (arith, length-drop n (drop a s), length-drop a s) in
    let whole : length (put_mid a n s v) ≡ a + (n + (length s - a - n)) = omega (arith, long, rest, w, length-append (take a s) (v ++ drop n (drop a s)), length-append v (drop n (drop a s))) in
    ⊎_elim
    (λ b. rw (get_or-append (take a s) (v ++ drop n (drop a s)) 0 i (omega (arith, b, long)), get_or-take a s i 0 b) (h i (omega (arith, b, l))))
    (λ b. rw (get_or-append_right (take a s) (v ++ drop n (drop a s)) i 0 (omega (arith, b, long))) (⊎_elim
    (λ c. rw (get_or-append v (drop n (drop a s)) 0 (i - length (take a s)) c) (g (i - length (take a s)) c))
    (λ c. rw (get_or-append_right v (drop n (drop a s)) (i - length (take a s)) 0 c, get_or-drop n (drop a s), get_or-drop a s) (h (a + (n + (i - length (take a s) - length v))) (omega (arith, b, c, m, l, w, long, whole))))
    (cases_lt (i - length (take a s)) (length v))))
    (cases_lt i a)

pub flat_set : (f : FieldName) (n k i : ℕ) (s v : List ℕ) → i < k → IsFlat f n k s → length v ≡ n → Fits f v → IsFlat f n k (put_mid (i * n) (i * n + n - i * n) s v)
flat_set f n k i s v l h w g =
    let e : i * n + n - i * n ≡ n = omega arith in
    let room = row_end f n k i s l h in
    let long : length (put_mid (i * n) n s v) ≡ length s =
    omega (arith, w, room, length-take-le (i * n) s (omega (arith, room)), length-append (take (i * n) s) (v ++ drop n (drop (i * n) s)), length-append v (drop n (drop (i * n) s)), length-drop n (drop (i * n) s), length-drop (i * n) s) in
    rw e (record { long = long ∙ h.long; fits = put_fits f (i * n) n s v room h.fits w g })

abbrev pub written : ℕ → List ℕ → List ℕ → ℕ → ℕ → List ℕ → List ℕ
written l s x a k v = take l (put_mid a k x v ++ drop (length (put_mid a k x v)) s)

put_long : (a n : ℕ) (s v : List ℕ) → a + n ≤ length s → length v ≡ n → length (put_mid a n s v) ≡ length s
put_long a n s v l w =
    omega (arith, w, l, length-take-le a s (omega (arith, l)), length-append (take a s) (v ++ drop n (drop a s)), length-append v (drop n (drop a s)), length-drop n (drop a s), length-drop a s)

written_is : (l a n : ℕ) (s v : List ℕ) → l ≡ length s → a + n ≤ length s → length v ≡ n → written l s s a n v ≡ put_mid a n s v
written_is l a n s v e r w =
    let long : length (put_mid a n s v) ≡ l = put_long a n s v r w ∙ sym e in
    ap (λ m. take m (put_mid a n s v ++ drop (length (put_mid a n s v)) s)) (sym long) ∙ take-append_seam (put_mid a n s v) (drop (length (put_mid a n s v)) s)

row_written : (f : FieldName) (n k i l : ℕ) (s x v : List ℕ) → x ≡ s → l ≡ length s → i < k → IsFlat f n k s → length v ≡ n → Fits f v → IsFlat f n k (written l s x (i * n) (i * n + n - i * n) v) × (rows_of n k (written l s x (i * n) (i * n + n - i * n) v) ≡ set (rows_of n k s) i v)
row_written f n k i l s x v e m o h w g =
    let m' : i * n + n - i * n ≡ n = omega arith in
    let is : written l s x (i * n) (i * n + n - i * n) v ≡ put_mid (i * n) n s v =
    ap (λ y. written l s y (i * n) (i * n + n - i * n) v) e ∙ ap (λ y. written l s s (i * n) y v) m' ∙ written_is l (i * n) n s v m (row_end f n k i s o h) w in
    let flat : IsFlat f n k (put_mid (i * n) n s v) = subst (λ y. IsFlat f n k (put_mid (i * n) y s v)) m' (flat_set f n k i s v o h w g) in
    (subst (IsFlat f n k) (sym is) flat, ap (rows_of n k) is ∙ put n k i s v o h.long w)

row_part : (n k i : ℕ) (s x : List ℕ) → x ≡ s → i < k → take (i * n + n - i * n) (drop (i * n) x) ≡ slice_index_or (rows_of n k s) i []
row_part n k i s x e l = ap (λ y. take (i * n + n - i * n) (drop (i * n) y)) e ∙ row_read n k i s l

pub row_added : (f : FieldName) (n k i l c : ℕ) (s x v r : List ℕ) → x ≡ s → l ≡ length s → i < k → IsFlat f n k s → length r ≡ n → Fits f v → v ≡ word_sum f (take (i * n + n - i * n) (drop (i * n) x)) (scale f c r) → IsFlat f n k (written l s x (i * n) (i * n + n - i * n) v) × (rows_of n k (written l s x (i * n) (i * n + n - i * n) v) ≡ set (rows_of n k s) i (word_sum f (slice_index_or (rows_of n k s) i []) (scale f c r)))
row_added f n k i l c s x v r e m o h w g is =
    let part = row_part n k i s x e o in
    let same : v ≡ word_sum f (slice_index_or (rows_of n k s) i []) (scale f c r) = is ∙ ap (λ u. word_sum f u (scale f c r)) part in
    let row = row_word f n k i s o h in
    let long : length v ≡ n = ap length same ∙ length_word_sum f (slice_index_or (rows_of n k s) i []) (scale f c r) (row.long ∙ sym w ∙ sym (length_scale f c r)) ∙ length_scale f c r ∙ w in
    let t = row_written f n k i l s x v e m o h long g in
    (t.0, t.1 ∙ ap (set (rows_of n k s) i) same)

pub row_scaled : (f : FieldName) (n k i l c : ℕ) (s x v : List ℕ) → x ≡ s → l ≡ length s → i < k → IsFlat f n k s → Fits f v → v ≡ scale f c (take (i * n + n - i * n) (drop (i * n) x)) → IsFlat f n k (written l s x (i * n) (i * n + n - i * n) v) × (rows_of n k (written l s x (i * n) (i * n + n - i * n) v) ≡ set (rows_of n k s) i (scale f c (slice_index_or (rows_of n k s) i [])))
row_scaled f n k i l c s x v e m o h g is =
    let part = row_part n k i s x e o in
    let same : v ≡ scale f c (slice_index_or (rows_of n k s) i []) = is ∙ ap (scale f c) part in
    let row = row_word f n k i s o h in
    let long : length v ≡ n = ap length same ∙ length_scale f c (slice_index_or (rows_of n k s) i []) ∙ row.long in
    let t = row_written f n k i l s x v e m o h long g in
    (t.0, t.1 ∙ ap (set (rows_of n k s) i) same)

take_front : (n m : ℕ) (s : List ℕ) → take n (take (n + m) s) ≡ take n s
take_front zero m s = refl
take_front (suc n) m [] = ap (take (suc n)) (take_all (suc n + m) [] (omega arith))
take_front (suc n) m (a ∷ s) = let e : suc n + m ≡ suc (n + m) = omega arith in rw e (ap (λ u. a ∷ u) (take_front n m s))

kept : (n k j : ℕ) (s : List ℕ) → j ≤ k → length s ≡ k * n → rows_of n j (take (j * n) s) ≡ take j (rows_of n k s)
unfolding rows_of
kept n k zero s l e = refl
kept n zero (suc j) s l e = absurd (omega (arith, l))
kept n (suc k) (suc j) s l e =
    let at : suc j * n ≡ n + j * n = omega (arith, suc-mul j n) in
    let a : take n (take (n + j * n) s) ≡ take n s = take_front n (j * n) s in
    let b : drop n (take (n + j * n) s) ≡ take (j * n) (drop n s) = drop-take n (j * n) s in
    let t = kept n k j (drop n s) (omega (arith, l)) (omega (arith, e, suc-mul k n, length-drop n s)) in
    rw at (cc (a, b, t))

pub rows_kept : (f : FieldName) (n k j : ℕ) (s : List ℕ) → j ≤ k → IsFlat f n k s → rows_of n j (take (j * n) s) ≡ take j (rows_of n k s)
rows_kept f n k j s l h = kept n k j s l h.long

pub most : (j k n : ℕ) → j ≤ k → j * n ≤ k * n
most zero k n l = omega (arith, zero-mul n)
most (suc j) zero n l = absurd (omega (arith, l))
most (suc j) (suc k) n l = omega (arith, suc-mul j n, suc-mul k n, most j k n (omega (arith, l)))

pub kept_room : (f : FieldName) (n k j : ℕ) (s : List ℕ) → j ≤ k → IsFlat f n k s → j * n ≤ length s
kept_room f n k j s l h = omega (arith, h.long, most j k n l)

pub flat_kept : (f : FieldName) (n k j : ℕ) (s : List ℕ) → j ≤ k → IsFlat f n k s → IsFlat f n j (take (j * n) s)
flat_kept f n k j s l h =
    let long : length (take (j * n) s) ≡ j * n = length-take-le (j * n) s (omega (arith, h.long, most j k n l)) in
    record {
      long = long;
      fits = λ i m.
          let o : i < j * n = omega (arith, m, long) in
          rw (get_or-take (j * n) s i 0 o) (h.fits i (omega (arith, o, h.long, most j k n l)));
    }

pub ruleset rows_laws = (length_rows_of, words_of)

pub ruleset row_laws = (length_rows_of, row_read, row_word)

pub ruleset push_laws = (length_rows_of, row_pushed, flat_pushed)

pub ruleset add_to_row_laws = (length_rows_of, row_fits)

pub ruleset keep_laws = (length_rows_of, kept_room, rows_kept, flat_kept)
