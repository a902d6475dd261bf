-- The least number of a list, one number more at a time.
--   least_none, least_taken, least_kept      no number, and one number more, which is less or isn't
--   least_lesser                 one number more, by the lesser of the two
--   columns_four                 numbers by rows of four, from the least of each column
--   pair_none, pair_more, rows_by_two      numbers by columns of two, one column more, and by two rows at a time
--   pairs_none, pairs_more, pairs_same                    numbers that are no less than another, by rows
--   piece_long                   how long a piece of a list is
--   piece_taken, piece_kept      the least of the counts up to the end of a piece, which has a lesser one or hasn't
--   first_after, one_least       the first of the counts that is the least of them, and that there is one
--   least_same, below_same       the same of equal numbers
--   below_none                   of no number
--   beyond_none, none_below, found_below      that none is below the bound, and the first of the counts that is the least
--   below_joined                 the first least number of some and of those after them
--   counted_least                the least of counts that began with zeros
--   searched_none, searched_more, searched_all      the first least number of those that are looked at, piece by piece
--   searched_room                the index of a number of a piece
--   below_whole, counted_first   the first of all, if all are below the bound, or by their counts
use Rattle.std.proofs.Common.{◌≡◌, ◌≢◌, ◌⊎◌, ℕ, ◌+◌, ◌-◌, ◌<◌, ◌≤◌, List, [], min, length, take, drop, replicate, slice_index, slice_index_or, refl, sym, ap, subst, ◌∙◌, inl, inr, ⊎_elim, arith}
use Rattle.std.proofs.lemmas.Bool.{cases_lt}
use Rattle.std.proofs.lemmas.List.{length-replicate, length-take-le, length-drop, get_or-take, get_or-drop}
use Rattle.lc_algebra.specs.Word.{weight}
use Rattle.lc_algebra.specs.SpanLaws.{restrict}
use Rattle.lc_algebra.proofs.RemainderLaws.{index-zeros}
use Rattle.lc_distances.specs.Least.{IsLeastOr, IsLeastPairOr, IsFirstLeast, IsFirstBelow, AreCounted}

one_more : (i n : ℕ) → i < n + 1 → (i < n) ⊎ (i ≡ n)
one_more i n l = ⊎_elim (λ a. inl a) (λ a. inr (omega (arith, a, l))) (cases_lt i n)

pub least_taken : (n : ℕ) (f : ℕ → ℕ) (bound v : ℕ) → IsLeastOr n f bound v → f n < v → IsLeastOr (n + 1) f bound (f n)
least_taken n f bound v h l = record {
  most = omega (arith, h.most, l);
  low = λ i m. ⊎_elim (λ a. omega (arith, h.low i a, l)) (λ a. rw a (omega arith)) (one_more i n m);
  attained = λ _. (n, omega arith, refl);
}

pub least_kept : (n : ℕ) (f : ℕ → ℕ) (bound v : ℕ) → IsLeastOr n f bound v → v ≤ f n → IsLeastOr (n + 1) f bound v
least_kept n f bound v h l = record {
  most = h.most;
  low = λ i m. ⊎_elim (λ a. h.low i a) (λ a. rw a l) (one_more i n m);
  attained = λ a. let t = h.attained a in (t.0, omega (arith, t.1), t.2);
}

pub least_lesser : (n : ℕ) (f : ℕ → ℕ) (bound v w : ℕ) → IsLeastOr n f bound v → w ≡ min v (f n) → IsLeastOr (n + 1) f bound w
least_lesser n f bound v w h e = ⊎_elim
    (λ (a : f n < v). let same : f n ≡ w = omega (arith, e, a) in subst (λ z. IsLeastOr (n + 1) f bound z) same (least_taken n f bound v h a))
    (λ (a : v ≤ f n). let same : v ≡ w = omega (arith, e, a) in subst (λ z. IsLeastOr (n + 1) f bound z) same (least_kept n f bound v h a))
    (cases_lt (f n) v)

pub least_none : (f : ℕ → ℕ) (bound : ℕ) → IsLeastOr 0 f bound bound
least_none f bound = record { most = omega arith; low = λ i l. absurd (omega (arith, l)); attained = λ l. absurd (omega (arith, l)) }

pub pairs_none : (m : ℕ) (f : ℕ → ℕ → ℕ) (bound : ℕ) → IsLeastPairOr 0 m f bound bound
pairs_none m f bound = record { most = omega arith; low = λ i j l. absurd (omega (arith, l)); attained = λ l. absurd (omega (arith, l)) }

pub pairs_more : (n m : ℕ) (f : ℕ → ℕ → ℕ) (bound v w : ℕ) → IsLeastPairOr n m f bound v → IsLeastOr m (f n) v w → IsLeastPairOr (n + 1) m f bound w
pairs_more n m f bound v w h here = record {
  most = omega (arith, h.most, here.most);
  low = λ i j l k. ⊎_elim (λ a. omega (arith, h.low i j a k, here.most)) (λ a. rw a (here.low j k)) (one_more i n l);
  attained = λ l. ⊎_elim
      (λ (a : w < v). let t = here.attained a in (n, t.0, omega arith, t.1, t.2))
      (λ (a : v ≤ w).
      let same : v ≡ w = omega (arith, a, here.most) in
      let t = h.attained (omega (arith, same, l)) in
      (t.0, t.1, omega (arith, t.2), t.3, t.4 ∙ same))
      (cases_lt w v);
}

pub pair_none : (n : ℕ) (f : ℕ → ℕ → ℕ) (bound : ℕ) → IsLeastPairOr n 0 f bound bound
pair_none n f bound = record { most = omega arith; low = λ i j l k. absurd (omega (arith, k)); attained = λ l. absurd (omega (arith, l)) }

column_more : (n m : ℕ) (f : ℕ → ℕ → ℕ) (bound v w : ℕ) → IsLeastPairOr n m f bound v → IsLeastOr n (λ i. f i m) bound w → IsLeastPairOr n (m + 1) f bound (min v w)
column_more n m f bound v w h here = record {
  most = omega (arith, h.most);
  low = λ i j l k. ⊎_elim (λ a. omega (arith, h.low i j l a)) (λ a. rw a (omega (arith, here.low i l))) (one_more j m k);
  attained = λ l. ⊎_elim
      (λ (a : w < v). let t = here.attained (omega (arith, l, a)) in (t.0, m, t.1, omega arith, omega (arith, t.2, a)))
      (λ (a : v ≤ w). let t = h.attained (omega (arith, l, a)) in (t.0, t.1, t.2, omega (arith, t.3), omega (arith, t.4, a)))
      (cases_lt w v);
}

pub columns_four : (n : ℕ) (f : ℕ → ℕ → ℕ) (bound a b c d v : ℕ) → IsLeastOr n (λ i. f i 0) bound a → IsLeastOr n (λ i. f i 1) bound b → IsLeastOr n (λ i. f i 2) bound c → IsLeastOr n (λ i. f i 3) bound d → v ≡ min (min a b) (min c d) → IsLeastPairOr n 4 f bound v
columns_four n f bound a b c d v first second third fourth e =
    let one = column_more n 0 f bound bound a (pair_none n f bound) first in
    let two = column_more n 1 f bound (min bound a) b one second in
    let three = column_more n 2 f bound (min (min bound a) b) c two third in
    let four = column_more n 3 f bound (min (min (min bound a) b) c) d three fourth in
    let same : min (min (min (min bound a) b) c) d ≡ v = omega (arith, e, first.most, second.most, third.most, fourth.most) in
    subst (λ z. IsLeastPairOr n 4 f bound z) same four

pub pair_more : (m : ℕ) (f : ℕ → ℕ → ℕ) (bound v w : ℕ) → IsLeastPairOr 2 m f bound v → w ≡ min v (min (f 0 m) (f 1 m)) → IsLeastPairOr 2 (m + 1) f bound w
pair_more m f bound v w h e =
    let none = least_none (λ i. f i m) bound in
    let one = least_lesser 0 (λ i. f i m) bound bound (min bound (f 0 m)) none refl in
    let two = least_lesser 1 (λ i. f i m) bound (min bound (f 0 m)) (min (min bound (f 0 m)) (f 1 m)) one refl in
    let same : min v (min (min bound (f 0 m)) (f 1 m)) ≡ w = omega (arith, e, h.most) in
    subst (λ z. IsLeastPairOr 2 (m + 1) f bound z) same (column_more 2 m f bound v (min (min bound (f 0 m)) (f 1 m)) h two)

pub rows_by_two : (n k m : ℕ) (f g : ℕ → ℕ → ℕ) (bound v w : ℕ) → n ≤ k → k ≤ n + 1 → ((j : ℕ) → g 0 j ≡ f n j) → ((j : ℕ) → g 1 j ≡ f k j) → IsLeastPairOr n m f bound v → IsLeastPairOr 2 m g v w → IsLeastPairOr (k + 1) m f bound w
rows_by_two n k m f g bound v w l few first second h here = record {
  most = omega (arith, h.most, here.most);
  low = λ i j a b. ⊎_elim
      (λ (c : i < n). omega (arith, h.low i j c b, here.most))
      (λ (c : n ≤ i). ⊎_elim
      (λ (d : i < k). let e : i ≡ n = omega (arith, c, d, few) in rw e (omega (arith, here.low 0 j (omega arith) b, first j)))
      (λ (d : k ≤ i). let e : i ≡ k = omega (arith, a, d) in rw e (omega (arith, here.low 1 j (omega arith) b, second j)))
      (cases_lt i k))
      (cases_lt i n);
  attained = λ a. ⊎_elim
      (λ (b : w < v).
      let t = here.attained b in
      ⊎_elim
      (λ (c : t.0 < 1).
      let e : t.0 ≡ 0 = omega (arith, c) in
      (n, t.1, omega (arith, l), t.3, sym (first t.1) ∙ ap (λ z. g z t.1) (sym e) ∙ t.4))
      (λ (c : 1 ≤ t.0).
      let e : t.0 ≡ 1 = omega (arith, c, t.2) in
      (k, t.1, omega arith, t.3, sym (second t.1) ∙ ap (λ z. g z t.1) (sym e) ∙ t.4))
      (cases_lt t.0 1))
      (λ (b : v ≤ w).
      let same : v ≡ w = omega (arith, b, here.most) in
      let t = h.attained (omega (arith, same, a)) in
      (t.0, t.1, omega (arith, t.2, l), t.3, t.4 ∙ same))
      (cases_lt w v);
}

pub pairs_same : (n m k : ℕ) (f g : ℕ → ℕ → ℕ) (bound v : ℕ) → m ≡ k → ((i j : ℕ) → j < k → f i j ≡ g i j) → IsLeastPairOr n m f bound v → IsLeastPairOr n k g bound v
pairs_same n m k f g bound v e same h = record {
  most = h.most;
  low = λ i j l r. omega (arith, h.low i j l (omega (arith, r, e)), same i j r);
  attained = λ l. let t = h.attained l in let inside : t.1 < k = omega (arith, t.3, e) in (t.0, t.1, t.2, inside, sym (same t.0 t.1 inside) ∙ t.4);
}

least_joined : (m n : ℕ) (f g : ℕ → ℕ) (bound v x : ℕ) → IsLeastOr m f bound v → IsLeastOr n g v x → ((i : ℕ) → i < n → g i ≡ f (m + i)) → IsLeastOr (m + n) f bound x
least_joined m n f g bound v x h k same = record {
  most = omega (arith, h.most, k.most);
  low = λ i l. ⊎_elim
      (λ a. omega (arith, h.low i a, k.most))
      (λ a.
      let j = i - m in
      let inside : j < n = omega (arith, a, l) in
      let place : m + j ≡ i = omega (arith, a) in
      omega (arith, k.low j inside, same j inside, ap f place))
      (cases_lt i m);
  attained = λ l. ⊎_elim
      (λ a. let t = k.attained a in (m + t.0, omega (arith, t.1), sym (same t.0 t.1) ∙ t.2))
      (λ a. let e : v ≡ x = omega (arith, a, k.most) in let t = h.attained (omega (arith, e, l)) in (t.0, omega (arith, t.1), t.2 ∙ e))
      (cases_lt x v);
}

pub piece_long : {X : Type 0} (start end : ℕ) (xs : List X) → end ≤ length xs → length (take (end - start) (drop start xs)) ≡ end - start
piece_long start end xs l = length-take-le (end - start) (drop start xs) (omega (arith, length-drop start xs, l))

-- the least of the counts up to the end of a piece of at most 256
pub piece_taken : (counts : List ℕ) (start end v x : ℕ) → start ≤ length counts → end ≡ min (length counts) (start + 256) → IsLeastOr start (λ i. slice_index counts i) 256 v → IsLeastOr (length (take (end - start) (drop start counts))) (λ i. slice_index (take (end - start) (drop start counts)) i) v x → IsLeastOr end (λ i. slice_index counts i) 256 x
piece_taken counts start end v x l which h k =
    let n = end - start in
    let piece = take n (drop start counts) in
    let long : length piece ≡ n = piece_long start end counts (omega (arith, which)) in
    let whole : start + length piece ≡ end = omega (arith, long, which, l) in
    subst (λ z. IsLeastOr z (λ i. slice_index counts i) 256 x) whole (least_joined start (length piece) (λ i. slice_index counts i) (λ i. slice_index piece i) 256 v x h k (λ i m. get_or-take n (drop start counts) i 0 (omega (arith, m, long)) ∙ get_or-drop start counts i 0))

pub piece_kept : (counts : List ℕ) (start end v x : ℕ) → start ≤ length counts → end ≡ min (length counts) (start + 256) → IsLeastOr start (λ i. slice_index counts i) 256 v → IsLeastOr (length (take (end - start) (drop start counts))) (λ i. slice_index (take (end - start) (drop start counts)) i) v x → v ≤ x → IsLeastOr end (λ i. slice_index counts i) 256 v
piece_kept counts start end v x l which h k m =
    let same : x ≡ v = omega (arith, k.most, m) in
    subst (λ z. IsLeastOr end (λ i. slice_index counts i) 256 z) same (piece_taken counts start end v x l which h k)

-- the first of the counts that is the least of them, if all before an index are greater
pub first_after : (counts rest : List ℕ) (from least at : ℕ) → rest ≡ drop from counts → IsLeastOr (length counts) (λ i. slice_index counts i) 256 least → ((i : ℕ) → i < from → least < slice_index counts i) → at < length rest → slice_index rest at ≡ least → ((i : ℕ) → i < at → slice_index rest i ≢ least) → IsFirstLeast (length counts) (λ i. slice_index counts i) least (from + at)
first_after counts rest from least at cut h greater inside is before =
    let read : (i : ℕ) → slice_index rest i ≡ slice_index counts (from + i) = λ i. ap (λ z. slice_index z i) cut ∙ get_or-drop from counts i 0 in
    let room : from + at < length counts = omega (arith, inside, ap length cut, length-drop from counts) in
    record {
      inside = room;
      is = sym (read at) ∙ is;
      low = h.low;
      first = λ i l. ⊎_elim
          (λ a. greater i a)
          (λ a.
          let j = i - from in
          let place : from + j ≡ i = omega (arith, a) in
          let here : slice_index rest j ≡ slice_index counts i = read j ∙ ap (slice_index counts) place in
          ⊎_elim
          (λ b. b)
          (λ b. absurd (before j (omega (arith, l, place)) (omega (arith, b, here, h.low i (omega (arith, l, room))))))
          (cases_lt least (slice_index counts i)))
          (cases_lt i from);
    }

-- some count from such an index on is the least of them
pub one_least : (counts rest : List ℕ) (from least : ℕ) → rest ≡ drop from counts → 0 < length counts → ((i : ℕ) → i < length counts → slice_index counts i ≤ 255) → IsLeastOr (length counts) (λ i. slice_index counts i) 256 least → ((i : ℕ) → i < from → least < slice_index counts i) → ((i : ℕ) → i < length rest → slice_index rest i ≢ least) → ⊥
one_least counts rest from least cut some few h greater none =
    let t = h.attained (omega (arith, h.low 0 some, few 0 some)) in
    let i = t.0 in
    ⊎_elim
    (λ a. omega (arith, greater i a, t.2))
    (λ a.
    let j = i - from in
    let place : from + j ≡ i = omega (arith, a) in
    let read : slice_index rest j ≡ slice_index counts (from + j) = ap (λ z. slice_index z j) cut ∙ get_or-drop from counts j 0 in
    none j (omega (arith, ap length cut, length-drop from counts, t.1, a)) (read ∙ ap (slice_index counts) place ∙ t.2))
    (cases_lt i from)

-- the same of equal numbers

pub least_same : (n : ℕ) (f g : ℕ → ℕ) (bound v : ℕ) → ((i : ℕ) → i < n → f i ≡ g i) → IsLeastOr n f bound v → IsLeastOr n g bound v
least_same n f g bound v same h = record {
  most = h.most;
  low = λ i l. omega (arith, h.low i l, same i l);
  attained = λ l. let t = h.attained l in (t.0, t.1, sym (same t.0 t.1) ∙ t.2);
}

pub below_same : (n : ℕ) (f g : ℕ → ℕ) (bound v i : ℕ) → ((j : ℕ) → j < n → f j ≡ g j) → IsFirstBelow n f bound v i → IsFirstBelow n g bound v i
below_same n f g bound v i same h = record {
  most = h.most;
  inside = h.inside;
  low = λ j l. omega (arith, h.low j l, same j l);
  is = λ l. let t = h.is l in (t.0, sym (same i t.0) ∙ t.1);
  first = λ l j m. omega (arith, h.first l j m, same j (omega (arith, m, h.inside)));
}

-- the first least number

pub beyond_none : (n : ℕ) (f : ℕ → ℕ) (bound : ℕ) → ((j : ℕ) → j < n → bound ≤ f j) → IsFirstBelow n f bound bound 0
beyond_none n f bound low = record {
  most = omega arith;
  inside = omega arith;
  low = low;
  is = λ m. absurd (omega (arith, m));
  first = λ m j o. absurd (omega (arith, m));
}

pub none_below : (n : ℕ) (f : ℕ → ℕ) (bound v : ℕ) → IsLeastOr n f bound v → bound ≤ v → IsFirstBelow n f bound bound 0
none_below n f bound v h l = beyond_none n f bound (λ j m. omega (arith, h.low j m, l))

pub below_none : (f : ℕ → ℕ) (bound : ℕ) → IsFirstBelow 0 f bound bound 0
below_none f bound = none_below 0 f bound bound (least_none f bound) (omega arith)

-- counts that began with zeros, and the least of them
pub record HaveLeast (n : ℕ) (f : ℕ → ℕ) (bound v : ℕ) (counts : List ℕ) : Type 0 where
  pub counted : (i : ℕ) → i < n → slice_index counts i ≡ f i
  pub least : IsLeastOr n f bound v

pub counted_least : (n : ℕ) (f : ℕ → ℕ) (bound v : ℕ) (zeros counts : List ℕ) → zeros ≡ replicate n 0 → length counts ≡ length zeros → ((i : ℕ) → i < length zeros → slice_index counts i ≡ slice_index zeros i + f i) → IsLeastOr (length counts) (λ i. slice_index counts i) bound v → HaveLeast n f bound v counts
counted_least n f bound v zeros counts none same added h = record {
  counted = counted;
  least = least_same n (λ i. slice_index counts i) f bound v counted (subst (λ z. IsLeastOr z (λ i. slice_index counts i) bound v) (same ∙ long) h);
}
  where
    long : length zeros ≡ n
    long = ap length none ∙ length-replicate n 0

    plain : (m : ℕ) → 0 + m ≡ m
    plain m = omega arith

    counted : (i : ℕ) → i < n → slice_index counts i ≡ f i
    counted i l = added i (omega (arith, l, long)) ∙ ap (λ z. z + f i) (ap (λ z. slice_index z i) none ∙ index-zeros n i) ∙ plain (f i)

pub found_below : (n : ℕ) (f : ℕ → ℕ) (bound v at : ℕ) (counts : List ℕ) → HaveLeast n f bound v counts → v < bound → at ≤ n → (at < n → slice_index counts at ≡ v) → ((i : ℕ) → i < at → slice_index counts i ≢ v) → IsFirstBelow n f bound v at
found_below n f bound v at counts here l inside is before =
    let h = here.least in
    let counted = here.counted in
    let t = h.attained l in
    let reached : at < n = ⊎_elim
    (λ a. a)
    (λ a. absurd (before t.0 (omega (arith, a, t.1)) (counted t.0 t.1 ∙ t.2)))
    (cases_lt at n) in
    record {
      most = h.most;
      inside = inside;
      low = h.low;
      is = λ _. (reached, sym (counted at reached) ∙ is reached);
      first = λ _ j m. ⊎_elim
          (λ a. a)
          (λ a.
          let short : j < n = omega (arith, m, inside) in
          absurd (before j m (counted j short ∙ omega (arith, a, h.low j short))))
          (cases_lt v (f j));
    }

after_all : (f : ℕ → ℕ) (a j : ℕ) → a ≤ j → f (a + (j - a)) ≡ f j
after_all f a j l = ap f (omega (arith, l))

below_both : (a b : ℕ) (f : ℕ → ℕ) (bound v i w x p q : ℕ) → IsFirstBelow a f bound v i → IsFirstBelow b (λ j. f (a + j)) v w x → (w < v → (p ≡ w) × (q ≡ a + x)) → (v ≤ w → (p ≡ v) × (q ≡ i)) → IsFirstBelow (a + b) f bound p q
below_both a b f bound v i w x p q h k taken kept =
    ⊎_elim
    (λ l.
    let is = taken l in
    let found = k.is l in
    let e = is.0 in
    let at = is.1 in
    record {
      most = omega (arith, e, l, h.most);
      inside = omega (arith, at, found.0);
      low = λ j m. ⊎_elim
          (λ o. omega (arith, h.low j o, e, l))
          (λ o. omega (arith, k.low (j - a) (omega (arith, m, o)), after_all f a j o, e))
          (cases_lt j a);
      is = λ _. (omega (arith, at, found.0), ap f at ∙ found.1 ∙ sym e);
      first = λ _ j m. ⊎_elim
          (λ o. omega (arith, h.low j o, e, l))
          (λ o. omega (arith, k.first l (j - a) (omega (arith, m, o, at)), after_all f a j o, e))
          (cases_lt j a);
    })
    (λ l.
    let is = kept l in
    let e = is.0 in
    let at = is.1 in
    record {
      most = omega (arith, e, h.most);
      inside = omega (arith, at, h.inside);
      low = λ j m. ⊎_elim
          (λ o. omega (arith, h.low j o, e))
          (λ o. omega (arith, k.low (j - a) (omega (arith, m, o)), after_all f a j o, e, l))
          (cases_lt j a);
      is = λ m.
          let t = h.is (omega (arith, m, e)) in
          (omega (arith, at, t.0), ap f at ∙ t.1 ∙ sym e);
      first = λ m j o. omega (arith, h.first (omega (arith, m, e)) j (omega (arith, o, at)), e);
    })
    (cases_lt w v)

pub below_joined : (a b n : ℕ) (f : ℕ → ℕ) (bound v i w x p q : ℕ) → IsFirstBelow a f bound v i → IsFirstBelow b (λ j. f (a + j)) v w x → (w < v → (p ≡ w) × (q ≡ a + x)) → (v ≤ w → (p ≡ v) × (q ≡ i)) → a + b ≡ n → IsFirstBelow n f bound p q
below_joined a b n f bound v i w x p q h k taken kept whole = subst (λ z. IsFirstBelow z f bound p q) whole (below_both a b f bound v i w x p q h k taken kept)

-- numbers of which the first ones are looked at
pub record IsSearched (n done : ℕ) (f : ℕ → ℕ) (bound v i : ℕ) : Type 0 where
  pub within : done ≤ n
  pub first : IsFirstBelow done f bound v i

pub searched_none : (n : ℕ) (f : ℕ → ℕ) (bound : ℕ) → IsSearched n 0 f bound bound 0
searched_none n f bound = record { within = omega arith; first = below_none f bound }

pub searched_more : (n done end : ℕ) (f : ℕ → ℕ) (bound v i w x p q : ℕ) (counts : List ℕ) → length counts ≡ n → done ≤ end → end ≤ n → IsSearched n done f bound v i → IsFirstBelow (length (take (end - done) (drop done counts))) (λ j. f (done + j)) v w x → (w < v → (p ≡ w) × (q ≡ done + x)) → (v ≤ w → (p ≡ v) × (q ≡ i)) → IsSearched n end f bound p q
searched_more n done end f bound v i w x p q counts long rises inside h k taken kept = record {
  within = inside;
  first = below_joined done _ end f bound v i w x p q h.first k taken kept (omega (arith, piece_long done end counts (omega (arith, long, inside)), rises));
}

pub searched_all : (n done : ℕ) (f : ℕ → ℕ) (bound v i : ℕ) → IsSearched n done f bound v i → n ≤ done → IsFirstBelow n f bound v i
searched_all n done f bound v i h l =
    let all : done ≡ n = omega (arith, h.within, l) in
    subst (λ z. IsFirstBelow z f bound v i) all h.first

pub searched_room : (n done end x : ℕ) (counts : List ℕ) → length counts ≡ n → done ≤ end → end ≤ n → x ≤ length (take (end - done) (drop done counts)) → done + x ≤ n
searched_room n done end x counts long rises inside l = omega (arith, piece_long done end counts (omega (arith, long, inside)), rises, inside, l)

pub below_whole : (n : ℕ) (f : ℕ → ℕ) (bound v i : ℕ) → 0 < n → ((j : ℕ) → j < n → f j < bound) → IsFirstBelow n f bound v i → IsFirstLeast n f v i
below_whole n f bound v i some few h =
    let less : v < bound = omega (arith, h.low 0 some, few 0 some) in
    record { inside = (h.is less).0; is = (h.is less).1; low = h.low; first = h.first less }

pub counted_first : (n : ℕ) (cols : List ℕ) (ws : List (List ℕ)) (counts : List ℕ) (v i : ℕ) → AreCounted cols ws 0 n counts → IsFirstLeast n (λ j. slice_index counts j) v i → IsFirstLeast n (λ j. weight (restrict cols (slice_index_or ws j []))) v i
counted_first n cols ws counts v i counted h = record {
  inside = h.inside;
  is = sym (at i h.inside) ∙ h.is;
  low = λ j l. omega (arith, h.low j l, at j l);
  first = λ j l. omega (arith, h.first j l, at j (omega (arith, l, h.inside)));
}
  where
    at : (j : ℕ) → j < n → slice_index counts j ≡ weight (restrict cols (slice_index_or ws j []))
    at j l =
        let plain : 0 + j ≡ j = omega arith in
        counted j l ∙ ap (λ z. weight (restrict cols (slice_index_or ws z []))) plain
