-- The supports of t of k places in their order, and the sums of the rows at them.
--   ends_one, ends_more, ends_all      of one place, at the next place, after the last one
--   ends_next                  pairs at the next place
--   tail_at, pair_at           the support at an index, by its first place and the rest; the pair at an index
--   starts_rise                later places have later supports
--   last_tail                  the last support is the last t places
--   tail_pair                  the last two places of a support are a pair
--   starts_more, starts_made   the first supports of one place more, and of all
--   pairs_few, triples_few, tails_few      how many there are at most
--   rows_are_sums              the sums of one row each are the rows
--   sums_more, sums_made      the sums at the supports that begin with a place, and at all
use Rattle.std.proofs.Common.{◌≡◌, ℕ, zero, suc, ◌+◌, ◌-◌, ◌*◌, ◌<◌, ◌≤◌, List, [], ◌∷◌, ◌++◌, length, drop, bit_xor, get_or, slice_index, Some, refl, ap, sym, subst, ◌∙◌, arith, ⊎_elim}
use Rattle.std.specs.Prelude.{slice_get}
use Rattle.std.specs.Int.Bits.{xor_zero_r}
use Rattle.std.proofs.Math.ListN.{get_or-append}
use Rattle.std.proofs.Math.Seq.{get_or-append_seam}
use Rattle.std.proofs.lemmas.Bool.{cases_lt}
use Rattle.std.proofs.lemmas.List.{length-drop, get_or-drop}
use Rattle.std.proofs.lemmas.Option.{slice_get_within, slice_get_past, slice_get-get_or}
use Rattle.lc_enumeration.specs.Message.{supports_from, numbers_from, choose}
use Rattle.lc_enumeration.proofs.ChooseLaws.{choose_next, choose_none, choose_one, choose_nothing}
use Rattle.lc_place.proofs.Supports.{support_first, support_takes, support_leaves, length-supports}
use Rattle.lc_place.proofs.Unranking.{supports_nothing}
use Rattle.lc_kernel.specs.Packed.{row_sum, EndsAt, AreStarts, AreSumsSoFar, AreRowSums}

pub singles : (i k : ℕ) → length (supports_from i k 1) ≡ k
singles i k = length-supports i k 1 ∙ choose_one k

choose_all : (t : ℕ) → choose t t ≡ 1
unfolding choose
choose_all zero = refl
choose_all (suc t) = omega (arith, choose_next t t, choose_all t, choose_none t (suc t) (omega arith))

choose_rises : (m n t : ℕ) → m ≤ n → choose m t ≤ choose n t
choose_rises m n zero l = omega (arith, choose_nothing m, choose_nothing n)
choose_rises zero n (suc t) l = omega (arith, choose_none zero (suc t) (omega arith))
choose_rises (suc m) zero (suc t) l = absurd (omega (arith, l))
choose_rises (suc m) (suc n) (suc t) l = omega (arith, choose_next m t, choose_next n t, choose_rises m n t (omega (arith, l)), choose_rises m n (suc t) (omega (arith, l)))

supports_split : (i k t : ℕ) → length (supports_from i (suc k) (suc t)) ≡ length (supports_from (suc i) k t) + length (supports_from (suc i) k (suc t))
supports_split i k t = length-supports i (suc k) (suc t) ∙ choose_next k t ∙ omega (arith, length-supports (suc i) k t, length-supports (suc i) k (suc t))

pub ends_more : (k t a s f : ℕ) → a < k → EndsAt k (suc t) a s → EndsAt k t (a + 1) f → EndsAt k (suc t) (a + 1) (s + (length (supports_from 0 k t) - f))
ends_more k t a s f l h g =
    let n = k - (a + 1) in
    let rest : k - a ≡ suc n = omega (arith, l) in
    let step : a + 1 ≡ suc a = omega arith in
    let here : length (supports_from (a + 1) n t) ≡ length (supports_from (suc a) n t) = ap (λ z. length (supports_from z n t)) step in
    let many : length (supports_from 0 k t) - f ≡ length (supports_from (suc a) n t) = omega (arith, g.long, here) in
    record {
      at = λ x.
          let place : s + (length (supports_from 0 k t) - f) + x ≡ s + (length (supports_from (suc a) n t) + x) = omega (arith, many) in
          ap (slice_get (supports_from 0 k (suc t))) place ∙ h.at (length (supports_from (suc a) n t) + x) ∙ ap (λ z. slice_get (supports_from a z (suc t)) (length (supports_from (suc a) n t) + x)) rest ∙ support_leaves a n t x ∙ ap (λ z. slice_get (supports_from z n (suc t)) x) (sym step);
      long =
          let whole = ap (λ z. length (supports_from a z (suc t))) rest ∙ supports_split a n t in
          let last = ap (λ z. length (supports_from z n (suc t))) step in
          omega (arith, h.long, whole, last, many);
    }

pub ends_all : (k t s : ℕ) → EndsAt k (suc t) k s → s ≡ length (supports_from 0 k (suc t))
ends_all k t s h =
    let none : length (supports_from k (k - k) (suc t)) ≡ 0 = length-supports k (k - k) (suc t) ∙ choose_none (k - k) (suc t) (omega arith) in
    omega (arith, h.long, none)

single_at : (i k d : ℕ) → d < k → slice_get (supports_from i k 1) d ≡ Some ((i + d) ∷ [])
single_at i zero d l = absurd (omega (arith, l))
single_at i (suc k) zero l = let e : i + 0 ≡ i = omega arith in support_takes i k 0 0 [] (supports_nothing (suc i) k) ∙ ap (λ x. Some (x ∷ [])) (sym e)
single_at i (suc k) (suc d) l =
    let t = single_at (suc i) k d (omega (arith, l)) in
    let one : length (supports_from (suc i) k 0) ≡ 1 = length-supports (suc i) k 0 ∙ choose_nothing k in
    let place : length (supports_from (suc i) k 0) + d ≡ suc d = omega (arith, one) in
    let e : suc i + d ≡ i + suc d = omega arith in
    ap (slice_get (supports_from i (suc k) 1)) (sym place) ∙ support_leaves i k 0 d ∙ t ∙ ap (λ x. Some (x ∷ [])) e

row_at : (k a : ℕ) → a < k → slice_get (supports_from 0 k 1) a ≡ Some (a ∷ [])
row_at k a l = let z : 0 + a ≡ a = omega arith in single_at 0 k a l ∙ ap (λ n. Some (n ∷ [])) z

pub ends_one : (k a : ℕ) → a ≤ k → EndsAt k 1 a a
ends_one k a l = record {
  at = λ x. ⊎_elim
      (λ m. row_at k (a + x) m ∙ sym (single_at a (k - a) x (omega (arith, m))))
      (λ m. slice_get_past (supports_from 0 k 1) (a + x) (omega (arith, singles 0 k, m)) ∙ sym (slice_get_past (supports_from a (k - a) 1) x (omega (arith, singles a (k - a), m))))
      (cases_lt (a + x) k);
  long = omega (arith, singles 0 k, singles a (k - a), l);
}

pub ends_next : (k a s : ℕ) → a < k → EndsAt k 2 a s → EndsAt k 2 (a + 1) (s + (k - a - 1))
ends_next k a s l h =
    let same : s + (length (supports_from 0 k 1) - (a + 1)) ≡ s + (k - a - 1) = omega (arith, singles 0 k) in
    subst (EndsAt k 2 (a + 1)) same (ends_more k 1 a s (a + 1) l h (ends_one k (a + 1) (omega (arith, l))))

pub tail_at : (k t a s f x : ℕ) (u : List ℕ) → a < k → EndsAt k (suc t) a s → EndsAt k t (a + 1) f → slice_get (supports_from 0 k t) (f + x) ≡ Some u → slice_get (supports_from 0 k (suc t)) (s + x) ≡ Some (a ∷ u)
tail_at k t a s f x u l h g at =
    let n = k - (a + 1) in
    let rest : k - a ≡ suc n = omega (arith, l) in
    let step : a + 1 ≡ suc a = omega arith in
    let later : slice_get (supports_from (suc a) n t) x ≡ Some u = ap (λ z. slice_get (supports_from z n t) x) (sym step) ∙ sym (g.at x) ∙ at in
    h.at x ∙ ap (λ z. slice_get (supports_from a z (suc t)) x) rest ∙ support_takes a n t x u later

pub pair_at : (k a s d : ℕ) → EndsAt k 2 a s → a + 1 + d < k → slice_get (supports_from 0 k 2) (s + d) ≡ Some (a ∷ (a + 1 + d) ∷ [])
pair_at k a s d h l = tail_at k 1 a s (a + 1) d ((a + 1 + d) ∷ []) (omega (arith, l)) h (ends_one k (a + 1) (omega (arith, l))) (row_at k (a + 1 + d) l)

pub starts_rise : (k t b c f g : ℕ) → EndsAt k t b f → EndsAt k t c g → b ≤ c → f ≤ g
starts_rise k t b c f g h i l = omega (arith, h.long, i.long, length-supports b (k - b) t, length-supports c (k - c) t, choose_rises (k - c) (k - b) t (omega (arith, l)))

pub last_tail : (k t s : ℕ) → EndsAt k t (k - t) s → t ≤ k → slice_get (supports_from 0 k t) (length (supports_from 0 k t) - 1) ≡ Some (numbers_from (k - t) t)
last_tail k t s h l =
    let n = k - (k - t) in
    let all : n ≡ t = omega (arith, l) in
    let one : length (supports_from (k - t) n t) ≡ 1 = length-supports (k - t) n t ∙ ap (λ z. choose z t) all ∙ choose_all t in
    let place : length (supports_from 0 k t) - 1 ≡ s + 0 = omega (arith, h.long, one) in
    ap (slice_get (supports_from 0 k t)) place ∙ h.at 0 ∙ support_first (k - t) n t (omega (arith, all))

pub pair_shape : (u : List ℕ) → length u ≡ 2 → u ≡ get_or u 0 0 ∷ get_or u 1 0 ∷ []
pair_shape [] e = absurd (omega (arith, e))
pair_shape (a ∷ []) e = absurd (omega (arith, e))
pair_shape (a ∷ b ∷ []) e = refl
pair_shape (a ∷ b ∷ c ∷ u) e = absurd (omega (arith, e))

pub tail_pair : (s : List ℕ) → 2 ≤ length s → drop (length s - 2) s ≡ slice_index s (length s - 2) ∷ slice_index s (length s - 1) ∷ []
tail_pair s l =
    let n = length s - 2 in
    let rest = drop n s in
    let shape = pair_shape rest (length-drop n s ∙ omega (arith, l)) in
    let a : get_or rest 0 0 ≡ slice_index s n = get_or-drop n s 0 0 ∙ ap (slice_index s) (omega arith) in
    let b : get_or rest 1 0 ≡ slice_index s (length s - 1) = get_or-drop n s 1 0 ∙ ap (slice_index s) (omega (arith, l)) in
    shape ∙ ap (λ x. x ∷ get_or rest 1 0 ∷ []) a ∙ ap (λ x. slice_index s n ∷ x ∷ []) b

pub starts_more : (k t a first : ℕ) (starts more : List ℕ) → length starts ≡ a → ((b : ℕ) → b < a → EndsAt k t b (slice_index starts b)) → EndsAt k t a first → more ≡ starts ++ first ∷ [] → (b : ℕ) → b < a + 1 → EndsAt k t b (slice_index more b)
starts_more k t a first starts more many h ends made b l = ⊎_elim
    (λ i. let same : slice_index more b ≡ slice_index starts b = ap (λ z. slice_index z b) made ∙ get_or-append starts (first ∷ []) 0 b (omega (arith, i, many)) in rw same (h b i))
    (λ i.
    let last : b ≡ a = omega (arith, i, l) in
    let same : slice_index more a ≡ first = ap (λ z. slice_index z a) made ∙ ap (slice_index (starts ++ first ∷ [])) (sym many) ∙ get_or-append_seam starts first [] 0 in
    rw (last, same) ends)
    (cases_lt b a)

pub starts_made : (k t : ℕ) (starts : List ℕ) → length starts ≡ k + 1 → ((b : ℕ) → b < k + 1 → EndsAt k t b (slice_index starts b)) → AreStarts k t starts
starts_made k t starts many h = record { firsts = many; first = λ a l. h a (omega (arith, l)) }

choose_two : (k : ℕ) → k ≤ 255 → choose k 2 ≤ 255 * k
unfolding choose
choose_two zero l = omega arith
choose_two (suc k) l = omega (arith, choose_next k 1, choose_one k, choose_two k (omega (arith, l)), l)

pub pairs_few : (k : ℕ) → k ≤ 255 → length (supports_from 0 k 2) ≤ 65025
pairs_few k l = omega (arith, choose_two k l, length-supports 0 k 2, l)

choose_three : (k : ℕ) → k ≤ 255 → choose k 3 ≤ 65025 * k
unfolding choose
choose_three zero l = omega arith
choose_three (suc k) l = omega (arith, choose_next k 2, choose_two k (omega (arith, l)), choose_three k (omega (arith, l)), l)

pub triples_few : (k : ℕ) → k ≤ 255 → length (supports_from 0 k 3) ≤ 16581375
triples_few k l = omega (arith, choose_three k l, length-supports 0 k 3, l)

pub tails_few : (k t : ℕ) → 2 ≤ t → t ≤ 3 → k ≤ 255 → length (supports_from 0 k t) ≤ 16581375
tails_few k t low high l = ⊎_elim
    (λ a. let two : t ≡ 2 = omega (arith, a, low) in rw two (omega (arith, pairs_few k l)))
    (λ a. let three : t ≡ 3 = omega (arith, a, high) in rw three (triples_few k l))
    (cases_lt t 3)

sum_of_first : (rows u v : List ℕ) (a : ℕ) → Some (a ∷ u) ≡ Some v → bit_xor (slice_index rows a) (row_sum rows u) ≡ row_sum rows v
unfolding row_sum
sum_of_first rows u v a e = let t : a ∷ u ≡ v = cc (e) in ap (row_sum rows) t

pub rows_are_sums : (rows : List ℕ) → AreRowSums (length rows) 1 rows rows
unfolding row_sum
rows_are_sums rows = record {
  count = refl;
  long = sym (singles 0 (length rows));
  sum = λ r u at.
      let inside : r < length rows = omega (arith, slice_get_within (supports_from 0 (length rows) 1) r u at, singles 0 (length rows)) in
      sym (xor_zero_r (slice_index rows r)) ∙ sum_of_first rows [] u r (sym (row_at (length rows) r inside) ∙ at);
}

pub sums_more : (k t a f : ℕ) (rows sums old new : List ℕ) → a < k → EndsAt k (suc t) a (length old) → EndsAt k t (a + 1) f → AreRowSums k t rows sums → length new ≡ length old + (length sums - f) → ((r : ℕ) → r < length old → slice_index new r ≡ slice_index old r) → ((x : ℕ) → x < length sums - f → slice_index new (length old + x) ≡ bit_xor (slice_index rows a) (slice_index sums (f + x))) → AreSumsSoFar k (suc t) rows old → AreSumsSoFar k (suc t) rows new
sums_more k t a f rows sums old new l h g all long before after so_far = record {
  sum = λ r u m at. ⊎_elim
      (λ i. before r i ∙ so_far.sum r u i at)
      (λ i.
      let x = r - length old in
      let inside : x < length sums - f = omega (arith, i, m, long) in
      let place : length old + x ≡ r = omega (arith, i) in
      let v = get_or (supports_from 0 k t) (f + x) [] in
      let there : slice_get (supports_from 0 k t) (f + x) ≡ Some v = slice_get-get_or (supports_from 0 k t) (f + x) [] (omega (arith, inside, all.long)) in
      let here : Some (a ∷ v) ≡ Some u = sym (tail_at k t a (length old) f x v l h g there) ∙ ap (slice_get (supports_from 0 k (suc t))) place ∙ at in
      ap (slice_index new) (sym place) ∙ after x inside ∙ ap (bit_xor (slice_index rows a)) (all.sum (f + x) v there) ∙ sum_of_first rows v u a here)
      (cases_lt r (length old));
}

pub sums_made : (k t : ℕ) (rows sums : List ℕ) → length rows ≡ k → EndsAt k (suc t) k (length sums) → AreSumsSoFar k (suc t) rows sums → AreRowSums k (suc t) rows sums
sums_made k t rows sums count ends so_far =
    let long = ends_all k t (length sums) ends in
    record {
      count = count;
      long = long;
      sum = λ r u at. so_far.sum r u (omega (arith, long, slice_get_within (supports_from 0 k (suc t)) r u at)) at;
    }

pub same_pair : (a b c d : ℕ) → Some (a ∷ b ∷ []) ≡ Some (c ∷ d ∷ []) → (a ≡ c) × (b ≡ d)
same_pair a b c d e = (cc (e), cc (e))
