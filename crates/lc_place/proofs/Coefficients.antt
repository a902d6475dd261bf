-- The lists of nonzero elements in lexicographic order: the next list, and the list at a place.
--   next_numbers top u       the list after u, all of whose entries are 1 to top; None after the last
--   next_full, next_raised   the next list, from the last entry that can rise
--   numbers_at, numbers_inside      the numbers from i on, by their place
--   NonzeroEntries q n u     u has n entries, each from 1 to q - 1
--   nonzero_shape            each of the lists has them
--   length-nonzero_lists, length-leading_lists      how many lists there are
--   nonzero_first            the first list has 1 everywhere
--   nonzero_next             the list at the next place is the next list
--   nonzero_digit            the first entry of the list at a place, and the place of the rest
use Rattle.std.proofs.Common.{◌≡◌, ℕ, zero, suc, ◌+◌, ◌-◌, ◌*◌, ◌/◌, ◌%◌, ◌^◌, ◌<◌, ◌≤◌, cond, ltb, List, [], ◌∷◌, length, get_or, replicate, Option, Some, None, refl, ap, sym, ◌∙◌, arith, inl, inr}
use Rattle.std.specs.Prelude.{slice_get}
use Rattle.std.proofs.Math.Nat.{pow-suc, pow-zero}
use Rattle.std.proofs.lemmas.Bool.{cases_lt}
use Rattle.std.proofs.lemmas.Bool.Decides.{nat_tests}
use Rattle.std.proofs.lemmas.List.{length-map}
use Rattle.std.proofs.lemmas.Nat.{div_below, div-add-mod'}
use Rattle.std.proofs.lemmas.Option.{slice_get_within, slice_get_past, slice_get-get_or, none-some}
use Rattle.lc_enumeration.specs.Message.{numbers_from, nonzero_lists, leading_lists}
use Rattle.lc_place.proofs.Products.{product, length-product, ProductPart, product_part, product_at}

abbrev pub carried : ℕ → ℕ → List ℕ → Option (List ℕ) → Option (List ℕ)
carried top c u None = cond (ltb c top) (Some (suc c ∷ replicate (length u) 1)) None
carried top c u (Some v) = Some (c ∷ v)

abbrev pub next_numbers : ℕ → List ℕ → Option (List ℕ)
next_numbers top [] = None
next_numbers top (c ∷ u) = carried top c u (next_numbers top u)

raise_here : (top c : ℕ) (u : List ℕ) (o : Option (List ℕ)) → o ≡ None → c < top → carried top c u o ≡ Some (suc c ∷ replicate (length u) 1)
raise_here top c u o e l = rw e (grind (arith, nat_tests))

raise_not : (top c : ℕ) (u : List ℕ) (o : Option (List ℕ)) → o ≡ None → top ≤ c → carried top c u o ≡ None
raise_not top c u o e l = rw e (grind (arith, nat_tests))

pub next_full : (top : ℕ) (u : List ℕ) → ((k : ℕ) → k < length u → top ≤ get_or u k 0) → next_numbers top u ≡ None
next_full top [] h = refl
next_full top (c ∷ u) h = raise_not top c u (next_numbers top u) (next_full top u (λ k l. h (suc k) (omega arith))) (h 0 (omega arith))

pub all_ones : (v : List ℕ) (n : ℕ) → length v ≡ n → ((k : ℕ) → k < n → get_or v k 0 ≡ 1) → v ≡ replicate n 1
all_ones [] n e h = let z : n ≡ 0 = omega arith in rw z refl
all_ones (c ∷ v) zero e h = absurd (omega arith)
all_ones (c ∷ v) (suc n) e h = cc (h 0 (omega arith), all_ones v n (omega arith) (λ k l. h (suc k) (omega arith)))

pub next_raised : (top : ℕ) (u v : List ℕ) (i : ℕ) → length v ≡ length u → i < length u → get_or u i 0 < top → ((k : ℕ) → k < i → get_or v k 0 ≡ get_or u k 0) → get_or v i 0 ≡ get_or u i 0 + 1 → ((k : ℕ) → i < k → k < length u → top ≤ get_or u k 0) → ((k : ℕ) → i < k → k < length u → get_or v k 0 ≡ 1) → next_numbers top u ≡ Some v
next_raised top [] v i e l b same at full ones = absurd (omega arith)
next_raised top (c ∷ u) [] i e l b same at full ones = absurd (omega arith)
next_raised top (c ∷ u) (d ∷ v) zero e l b same at full ones =
    let none : next_numbers top u ≡ None = next_full top u (λ k m. full (suc k) (omega arith) (omega arith)) in
    let head : d ≡ suc c = omega (arith, at) in
    let tail : v ≡ replicate (length u) 1 = all_ones v (length u) (omega arith) (λ k m. ones (suc k) (omega arith) (omega arith)) in
    raise_here top c u (next_numbers top u) none b ∙ cc
next_raised top (c ∷ u) (d ∷ v) (suc i) e l b same at full ones =
    let later : next_numbers top u ≡ Some v = next_raised top u v i (omega arith) (omega arith) b (λ k m. same (suc k) (omega arith)) at (λ k m n. full (suc k) (omega arith) (omega arith)) (λ k m n. ones (suc k) (omega arith) (omega arith)) in
    let head : d ≡ c = same 0 (omega arith) in
    cc (ap (carried top c u) later)

pub length-numbers_from : (i n : ℕ) → length (numbers_from i n) ≡ n
unfolding numbers_from
length-numbers_from i zero = refl
length-numbers_from i (suc n) = ap suc (length-numbers_from (suc i) n)

pub numbers_at : (i n a : ℕ) → a < n → slice_get (numbers_from i n) a ≡ Some (i + a)
unfolding numbers_from
numbers_at i zero a l = absurd (omega arith)
numbers_at i (suc n) zero l = let e : i + 0 ≡ i = omega arith in rw e refl
numbers_at i (suc n) (suc a) l = let e : i + suc a ≡ suc i + a = omega arith in rw e (numbers_at (suc i) n a (omega arith))

pub numbers_inside : (i n a c : ℕ) → slice_get (numbers_from i n) a ≡ Some c → (a < n) × (c ≡ i + a)
numbers_inside i n a c e =
    let l : a < n = omega (arith, slice_get_within (numbers_from i n) a c e, length-numbers_from i n) in
    (l, cc (numbers_at i n a l))

pub record NonzeroEntries (q n : ℕ) (u : List ℕ) : Type 0 where
  pub many : length u ≡ n
  pub low : (k : ℕ) → k < n → 1 ≤ get_or u k 0
  pub high : (k : ℕ) → k < n → get_or u k 0 < q

entries_cons : (q n c : ℕ) (u v : List ℕ) → v ≡ c ∷ u → 1 ≤ c → c < q → NonzeroEntries q n u → NonzeroEntries q (suc n) v
entries_cons q n c u v e low high h = rw e (record {
  many = omega (arith, h.many);
  low = first low h.low;
  high = second high h.high;
})
  where
    first : 1 ≤ c → ((k : ℕ) → k < n → 1 ≤ get_or u k 0) → (k : ℕ) → k < suc n → 1 ≤ get_or (c ∷ u) k 0
    first a b zero l = a
    first a b (suc k) l = b k (omega arith)

    second : c < q → ((k : ℕ) → k < n → get_or u k 0 < q) → (k : ℕ) → k < suc n → get_or (c ∷ u) k 0 < q
    second a b zero l = a
    second a b (suc k) l = b k (omega arith)

nonzero_product : (q n : ℕ) → nonzero_lists q (suc n) ≡ product (λ (c : ℕ) (u : List ℕ). c ∷ u) (numbers_from 1 (q - 1)) (nonzero_lists q n)
unfolding nonzero_lists
nonzero_product q n = refl

only : (q : ℕ) → length (nonzero_lists q 0) ≡ 1
unfolding nonzero_lists
only q = refl

times : (a b c d : ℕ) → a ≡ c → b ≡ d → a * b ≡ d * c
times a b c d e f = rw (e, f) (omega arith)

pub length-nonzero_lists : (q n : ℕ) → length (nonzero_lists q n) ≡ (q - 1) ^ n
length-nonzero_lists q zero = only q ∙ sym (pow-zero (q - 1))
length-nonzero_lists q (suc n) =
    ap length (nonzero_product q n) ∙ length-product (λ (c : ℕ) (u : List ℕ). c ∷ u) (numbers_from 1 (q - 1)) (nonzero_lists q n) ∙ times _ _ (q - 1) ((q - 1) ^ n) (length-numbers_from 1 (q - 1)) (length-nonzero_lists q n) ∙ sym (pow-suc (q - 1) n)

nonzero_shape_step : (q n : ℕ) → ((r : ℕ) (u : List ℕ) → slice_get (nonzero_lists q n) r ≡ Some u → NonzeroEntries q n u) → (r : ℕ) (u : List ℕ) → slice_get (nonzero_lists q (suc n)) r ≡ Some u → NonzeroEntries q (suc n) u
nonzero_shape_step q n before r u e =
    let e' = rw (nonzero_product q n) at e in
    let p = product_part (λ (c : ℕ) (v : List ℕ). c ∷ v) (numbers_from 1 (q - 1)) (nonzero_lists q n) r u e' in
    let i = numbers_inside 1 (q - 1) p.row p.left p.left_at in
    entries_cons q n p.left p.right u p.is (omega (arith, i.1)) (omega (arith, i.0, i.1)) (before p.column p.right p.right_at)

pub only_nil : (r : ℕ) (u : List ℕ) → slice_get ([] ∷ []) r ≡ Some u → (r ≡ 0) × (u ≡ [])
only_nil zero u e = (refl, cc)
only_nil (suc r) u e = absurd (cc)

pub nonzero_shape : (q n r : ℕ) (u : List ℕ) → slice_get (nonzero_lists q n) r ≡ Some u → NonzeroEntries q n u
unfolding nonzero_lists
nonzero_shape q zero r u e =
    let nil : u ≡ [] = (only_nil r u e).1 in
    rw nil (record { many = refl; low = λ k l. absurd (omega (arith, l)); high = λ k l. absurd (omega (arith, l)) })
nonzero_shape q (suc n) r u e = nonzero_shape_step q n (nonzero_shape q n) r u e

pub nonzero_first : (q n : ℕ) → 1 < q → slice_get (nonzero_lists q n) 0 ≡ Some (replicate n 1)
unfolding nonzero_lists
nonzero_first q zero l = refl
nonzero_first q (suc n) l =
    let at = product_at (λ (c : ℕ) (v : List ℕ). c ∷ v) (numbers_from 1 (q - 1)) (nonzero_lists q n) 0 0 1 (replicate n 1) (numbers_at 1 (q - 1) 0 (omega arith)) (nonzero_first q n l) in
    let place : 0 * length (nonzero_lists q n) + 0 ≡ 0 = omega arith in
    rw place at at

abbrev cons_all : ℕ → ℕ → List (List ℕ)
cons_all q n = product (λ (c : ℕ) (v : List ℕ). c ∷ v) (numbers_from 1 (q - 1)) (nonzero_lists q n)

abbrev ConsPart : ℕ → ℕ → ℕ → List ℕ → Type 0
ConsPart q n r u = ProductPart (λ (c : ℕ) (v : List ℕ). c ∷ v) (numbers_from 1 (q - 1)) (nonzero_lists q n) r u

next_same_row : (q n r : ℕ) (u : List ℕ) (p : ConsPart q n r u) (v : List ℕ) → slice_get (nonzero_lists q n) (suc p.column) ≡ Some v → slice_get (cons_all q n) (suc r) ≡ Some (p.left ∷ v)
next_same_row q n r u p v e =
    let place : suc r ≡ p.row * length (nonzero_lists q n) + suc p.column = omega (arith, p.place) in
    rw place (product_at (λ (c : ℕ) (v : List ℕ). c ∷ v) (numbers_from 1 (q - 1)) (nonzero_lists q n) p.row (suc p.column) p.left v p.left_at e)

last_column : (q n r : ℕ) (u : List ℕ) (p : ConsPart q n r u) → slice_get (nonzero_lists q n) (suc p.column) ≡ None → suc p.column ≡ length (nonzero_lists q n)
last_column q n r u p e =
    elim (cases_lt (suc p.column) (length (nonzero_lists q n))) [
      | inl l ↦ absurd (none-some _ (sym e ∙ slice_get-get_or (nonzero_lists q n) (suc p.column) [] l))
      | inr l ↦ omega (arith, slice_get_within (nonzero_lists q n) p.column p.right p.right_at)
    ]

next_row : (q n r : ℕ) (u : List ℕ) (p : ConsPart q n r u) → slice_get (nonzero_lists q n) (suc p.column) ≡ None → p.left < q - 1 → slice_get (cons_all q n) (suc r) ≡ Some (suc p.left ∷ replicate n 1)
next_row q n r u p e l =
    let i = numbers_inside 1 (q - 1) p.row p.left p.left_at in
    let place : suc r ≡ suc p.row * length (nonzero_lists q n) + 0 = omega (arith, p.place, last_column q n r u p e) in
    let head : slice_get (numbers_from 1 (q - 1)) (suc p.row) ≡ Some (suc p.left) = numbers_at 1 (q - 1) (suc p.row) (omega (arith, i.1)) ∙ ap Some (omega (arith, i.1)) in
    rw place (product_at (λ (c : ℕ) (v : List ℕ). c ∷ v) (numbers_from 1 (q - 1)) (nonzero_lists q n) (suc p.row) 0 (suc p.left) (replicate n 1) head (nonzero_first q n (omega (arith, i.0))))

no_row : (q n r : ℕ) (u : List ℕ) (p : ConsPart q n r u) → slice_get (nonzero_lists q n) (suc p.column) ≡ None → q - 1 ≤ p.left → slice_get (cons_all q n) (suc r) ≡ None
no_row q n r u p e l =
    let i = numbers_inside 1 (q - 1) p.row p.left p.left_at in
    let rows : suc p.row ≡ q - 1 = omega (arith, i.0, i.1) in
    let place : suc r ≡ suc p.row * length (nonzero_lists q n) = omega (arith, p.place, last_column q n r u p e) in
    let many : length (cons_all q n) ≡ suc p.row * length (nonzero_lists q n) = length-product (λ (c : ℕ) (v : List ℕ). c ∷ v) (numbers_from 1 (q - 1)) (nonzero_lists q n) ∙ ap (λ a. a * length (nonzero_lists q n)) (length-numbers_from 1 (q - 1) ∙ sym rows) in
    slice_get_past (cons_all q n) (suc r) (omega (arith, place, many))

carry : (q n r : ℕ) (u : List ℕ) (p : ConsPart q n r u) (o : Option (List ℕ)) → slice_get (nonzero_lists q n) (suc p.column) ≡ o → slice_get (cons_all q n) (suc r) ≡ carried (q - 1) p.left p.right o
carry q n r u p (Some v) e = next_same_row q n r u p v e
carry q n r u p None e =
    let many : length p.right ≡ n = (nonzero_shape q n p.column p.right p.right_at).many in
    elim (cases_lt p.left (q - 1)) [
      | inl l ↦ next_row q n r u p e l ∙ sym (raise_here (q - 1) p.left p.right None refl l ∙ (rw many refl))
      | inr l ↦ no_row q n r u p e l ∙ sym (raise_not (q - 1) p.left p.right None refl l)
    ]

pub nonzero_next : (q n r : ℕ) (u : List ℕ) → slice_get (nonzero_lists q n) r ≡ Some u → slice_get (nonzero_lists q n) (suc r) ≡ next_numbers (q - 1) u
unfolding nonzero_lists
nonzero_next q zero r u e = sym (ap (next_numbers (q - 1)) (only_nil r u e).1)
nonzero_next q (suc n) r u e =
    let p = product_part (λ (c : ℕ) (v : List ℕ). c ∷ v) (numbers_from 1 (q - 1)) (nonzero_lists q n) r u e in
    carry q n r u p (slice_get (nonzero_lists q n) (suc p.column)) refl ∙ ap (carried (q - 1) p.left p.right) (nonzero_next q n p.column p.right p.right_at) ∙ sym (ap (next_numbers (q - 1)) p.is)

pub length-leading_lists : (q n : ℕ) → length (leading_lists q n) ≡ (q - 1) ^ (n - 1)
unfolding leading_lists
length-leading_lists q zero = sym (pow-zero (q - 1))
length-leading_lists q (suc n) = length-map (nonzero_lists q n) (λ u. 1 ∷ u) ∙ length-nonzero_lists q n ∙ ap (λ a. (q - 1) ^ a) (sym (less q n))
  where
    less : (q n : ℕ) → suc n - 1 ≡ n
    less q n = omega arith

-- the first entry of the list at a place, and the place of the rest
pub nonzero_digit : (q n r : ℕ) (u : List ℕ) → r < (q - 1) ^ suc n → slice_get (nonzero_lists q n) (r % (q - 1) ^ n) ≡ Some u → slice_get (nonzero_lists q (suc n)) r ≡ Some ((1 + r / (q - 1) ^ n) ∷ u)
nonzero_digit q n r u l e =
    let many : length (nonzero_lists q n) ≡ (q - 1) ^ n = length-nonzero_lists q n in
    let some : r % (q - 1) ^ n < length (nonzero_lists q n) = slice_get_within (nonzero_lists q n) (r % (q - 1) ^ n) u e in
    let row : r / (q - 1) ^ n < q - 1 = div_below r ((q - 1) ^ n) (q - 1) (omega arith) (omega (arith, pow-suc (q - 1) n)) in
    let place : r ≡ r / (q - 1) ^ n * length (nonzero_lists q n) + r % (q - 1) ^ n = sym (div-add-mod' r ((q - 1) ^ n)) ∙ ap (λ a. r / (q - 1) ^ n * a + r % (q - 1) ^ n) (sym many) in
    let at = product_at (λ (c : ℕ) (v : List ℕ). c ∷ v) (numbers_from 1 (q - 1)) (nonzero_lists q n) (r / (q - 1) ^ n) (r % (q - 1) ^ n) (1 + r / (q - 1) ^ n) u (numbers_at 1 (q - 1) (r / (q - 1) ^ n) row) e in
    rw (nonzero_product q n) (ap (slice_get (cons_all q n)) place ∙ at)
