-- Each kind of step keeps the rule of a board.
--   begins         the rule holds of a new board
--   drawn_below    what a seat drew is below the claim counter
--   claim_keeps, report_keeps, split_keeps, join_keeps    the steps
--   whole          a root that took in all other seats has all books
use Rattle.std.proofs.Common.{◌≡◌, ◌≢◌, ℕ, zero, suc, ◌+◌, ◌^◌, ◌<◌, ◌≤◌, min, Bool, true, false, cond, eqb, ltb, leb, List, [], ◌∷◌, ◌++◌, length, get_or, set, map, refl, sym, ap, ◌∙◌, subst, ⊎_elim, arith, length-append, append_assoc, le-leb}
use Rattle.std.specs.Prelude.{sum_by, count_by, flat_map, All}
use Rattle.std.proofs.lemmas.Bool.{cases_lt, le-ltb, lt-leb, true≢false, false_from_ne_true}
use Rattle.std.proofs.lemmas.Bool.Decides.{nat_tests}
use Rattle.std.proofs.lemmas.List.{map-append, append-nil, get_or_append_left, get_or_push}
use Rattle.std.proofs.lemmas.List.Elements.{All-nil, All-cons, All-head, All-tail, All-push, All-append, All-map, All-weaker}
use Rattle.std.proofs.lemmas.List.Sums.{sum_by-cons, sum_by-append, sum_by-le, count_by-le-length, get_or-le-sum_by}
use mathlib.Core.Option.{some, some-injective, some-ne-none}
use lib.ListN.{get_elem?}
use Rattle.atomic_table.proofs.Lists.{at_set, at_snoc, set_else}
use Rattle.lc_board.specs.Counting.{times, least}
use Rattle.lc_board.specs.Board.{empty_book, root_view, nothing, drew, told, split, newcomer, joined, reported_numbers, AllReported, Owes, books_in, books, seat_numbers, drawn_numbers, reported_values, IsBook, IsView, BoardRule}
use Rattle.lc_board.specs.declared.views.Terms.{Terms}
use Rattle.lc_board.specs.declared.views.Book.{Book}
use Rattle.lc_board.specs.declared.views.View.{View}
use Rattle.lc_board.proofs.Counting.{sum_flat, sum_set, two_le_sum, once_more, one_if, none_if, under, least_lower, least_same}

sum_map : {A B : Type 0} (g : B → ℕ) (f : A → B) (xs : List A) → sum_by g (map f xs) ≡ sum_by (λ x. g (f x)) xs
sum_map g f [] = refl
sum_map g f (x ∷ xs) = sum_by-cons g (f x) (map f xs) ∙ ap (λ n. g (f x) + n) (sum_map g f xs) ∙ sym (sum_by-cons (λ x. g (f x)) x xs)

sum_length : {A : Type 0} (xs : List A) → sum_by (λ _. 1) xs ≡ length xs
sum_length [] = refl
sum_length {A} (x ∷ xs) = let s = sum_by-cons (λ (_ : A). 1) x xs in let r = sum_length xs in omega arith

both : {b : Bool} → b ≡ true → b ≡ false → ⊥
both t f = true≢false (sym t ∙ f)

-- the books of views

pub live : (v : View) → v.spent ≡ false → books_in v ≡ v.book ∷ v.left
live v e = ap (λ (b : Bool). cond {A = List Book} b [] (v.book ∷ v.left)) e

pub books_set : (g : Book → ℕ) (views : List View) (id : ℕ) (v w : View) → get_elem? views id ≡ some v
    → sum_by g (books (set views id w)) + sum_by g (books_in v) ≡ sum_by g (books views) + sum_by g (books_in w)
books_set g views id v w at =
    let s = sum_set (λ v. sum_by g (books_in v)) views id v w at in
    let a = sum_flat g books_in (set views id w) in let b = sum_flat g books_in views in
    omega arith

pub book_set : (g : Book → ℕ) (views : List View) (id : ℕ) (v : View) (b : Book) → get_elem? views id ≡ some v → v.spent ≡ false
    → sum_by g (books (set views id (record v { book = b }))) + g v.book ≡ sum_by g (books views) + g b
book_set g views id v b at e =
    let w : View = record v { book = b } in
    let s = books_set g views id v w at in
    let p : sum_by g (books_in v) ≡ sum_by g (v.book ∷ v.left) = ap (sum_by g) (live v e) in
    let q : sum_by g (books_in w) ≡ sum_by g (b ∷ v.left) = ap (sum_by g) (live w e) in
    let p' = sum_by-cons g v.book v.left in let q' = sum_by-cons g b v.left in
    omega arith

pub drawn_count : (p : ℕ → Bool) (bs : List Book) → count_by p (drawn_numbers bs) ≡ sum_by (λ b. count_by p b.drawn) bs
drawn_count p bs = sum_flat (λ x. cond (p x) 1 0) (λ b. b.drawn) bs

pub values_count : (n : ℕ) (bs : List Book) → under n (reported_values bs) ≡ sum_by (λ b. under n (map (λ p. p.1) b.reported)) bs
values_count n bs = sum_flat (λ v. cond (ltb v n) 1 0) (λ b. map (λ p. p.1) b.reported) bs

pub seats_count : (n : ℕ) (bs : List Book) → times n (seat_numbers bs) ≡ sum_by (λ b. cond (eqb b.number n) 1 0) bs
seats_count n bs = sum_map (λ y. cond (eqb y n) 1 0) (λ b. b.number) bs

-- what holds of each view

each_set : (P : View → Type 0) (views : List View) (id : ℕ) (w : View) → ((j : ℕ) (u : View) → j ≢ id → get_elem? views j ≡ some u → P u) → P w → (j : ℕ) (u : View) → get_elem? (set views id w) j ≡ some u → P u
each_set P views id w others mine j u e =
    ⊎_elim (λ (x : (j ≡ id) × (w ≡ u)). subst P x.1 mine) (λ (x : (j ≢ id) × (get_elem? views j ≡ some u)). others j u x.0 x.1) (at_set views id j w u e)

each_snoc : (P : View → Type 0) (views : List View) (w : View) → ((j : ℕ) (u : View) → get_elem? views j ≡ some u → P u) → P w → (j : ℕ) (u : View) → get_elem? (views ++ w ∷ []) j ≡ some u → P u
each_snoc P views w others mine j u e = ⊎_elim (λ (x : get_elem? views j ≡ some u). others j u x) (λ (x : w ≡ u). subst P x mine) (at_snoc views w u j e)

-- another seat than the root's is no root
pub no_other_root : (views : List View) (i j : ℕ) (v u : View) → count_by (λ v. v.root) views ≡ 1 → get_elem? views i ≡ some v → v.root ≡ true → j ≢ i → get_elem? views j ≡ some u → u.root ≡ false
no_other_root views i j v u one at r n at' = false_from_ne_true u.root (λ t.
    let s = two_le_sum (λ (v : View). cond v.root 1 0) views i j v u (λ k. n (sym k)) at at' in
    let a = one_if v.root r in let b = one_if u.root t in
    absurd (omega arith))

-- books

pub is_empty_book : (count n : ℕ) → IsBook count (empty_book n)
is_empty_book count n = record {
  in_order = ([], omega arith, refl);
  rising = λ i j l m. absurd (omega arith);
  below = All-nil (λ (p : ℕ × ℕ). p.0 < count);
}

rising_push : (xs : List ℕ) (x : ℕ) → ((i j : ℕ) → i < j → j < length xs → get_or xs i 0 < get_or xs j 0) → All (λ y. y < x) xs
    → (i j : ℕ) → i < j → j < length (xs ++ x ∷ []) → get_or (xs ++ x ∷ []) i 0 < get_or (xs ++ x ∷ []) j 0
rising_push xs x up all i j l m =
    let n = length-append xs (x ∷ []) in
    let a : get_or (xs ++ x ∷ []) i 0 ≡ get_or xs i 0 = get_or_append_left xs (x ∷ []) 0 i (omega arith) in
    ⊎_elim
    (λ (k : j < length xs). let b : get_or (xs ++ x ∷ []) j 0 ≡ get_or xs j 0 = get_or_append_left xs (x ∷ []) 0 j k in let c = up i j l k in omega arith)
    (λ (k : length xs ≤ j).
    let same : j ≡ length xs = omega arith in
    let b : get_or (xs ++ x ∷ []) j 0 ≡ x = get_or_push xs x 0 j (sym same) in
    let c = all i 0 (omega arith) in omega arith)
    (cases_lt j (length xs))

-- the start

pub begins : (t : Terms) → t.count ≤ 2 ^ 40 → BoardRule t (0 ∷ t.first ∷ t.first ∷ t.count ∷ []) (root_view t ∷ [])
begins t small = record {
  next = 0;
  best = t.first;
  made = 1;
  words_are = refl;
  small = small;
  few = omega arith;
  one_root = refl;
  each_view = one;
  seats = λ n. grind (arith, nat_tests);
  all_seats = refl;
  drawn = λ x. sym (none_if (ltb x 0) (le-ltb x 0 (omega arith)));
  far = omega arith;
  least_is = refl;
}
  where
    mine : IsView t 1 (root_view t)
    mine = record {
      spent = λ e. absurd (both e refl);
      terms = λ _. (refl, refl);
      root = λ _. refl;
      others = λ e. absurd (both refl e);
      book = is_empty_book t.count 0;
      left = All-nil (IsBook t.count);
    }

    one : (id : ℕ) (v : View) → get_elem? (root_view t ∷ []) id ≡ some v → IsView t 1 v
    one zero v e = subst (IsView t 1) (some-injective (root_view t) v e) mine
    one (suc id) v e = absurd (some-ne-none v (sym e))

-- what a seat drew is below the claim counter

in_all : (p : ℕ → Bool) (views : List View) (id : ℕ) (v : View) → get_elem? views id ≡ some v → v.spent ≡ false → count_by p v.book.drawn ≤ count_by p (drawn_numbers (books views))
in_all p views id v at e =
    let s = book_set (λ b. count_by p b.drawn) views id v (empty_book 0) at e in
    let d = drawn_count p (books views) in
    omega arith

pub drawn_below : (t : Terms) (words : List ℕ) (views : List View) (id : ℕ) (v : View) (h : BoardRule t words views) → get_elem? views id ≡ some v → v.spent ≡ false → All (λ y. y < h.next) v.book.drawn
drawn_below t words views id v h at e k d l =
    let x = get_or v.book.drawn k d in
    let a = get_or-le-sum_by (λ y. cond (eqb y x) 1 0) v.book.drawn k d l in
    let one : cond {A = ℕ} (eqb x x) 1 0 ≡ 1 = grind (arith, nat_tests) in
    let b = in_all (λ y. eqb y x) views id v at e in
    let o = h.drawn x in
    ⊎_elim (λ (lt : x < h.next). lt) (λ (ge : h.next ≤ x). let z = none_if (ltb x h.next) (le-ltb x h.next ge) in absurd (omega arith)) (cases_lt x h.next)

-- a step that changes one book, and perhaps word 0 or word 1

module _ (t : Terms) (words : List ℕ) (views : List View) (id : ℕ) (v : View) (b : Book) (h : BoardRule t words views) (at : get_elem? views id ≡ some v) (e : v.spent ≡ false) where
  abbrev w : View
  w = record v { book = b }

  book_is_view : IsBook t.count b → IsView t h.made w
  book_is_view ib = let iv = h.each_view id v at in record {
    spent = λ s. absurd (both s e);
    terms = iv.terms;
    root = iv.root;
    others = iv.others;
    book = ib;
    left = iv.left;
  }

  pub book_keeps : (next best : ℕ) (words' : List ℕ) → words' ≡ next ∷ best ∷ t.first ∷ t.count ∷ [] → b.number ≡ v.book.number → IsBook t.count b
      → ((x : ℕ) → cond (ltb x next) 1 0 + times x v.book.drawn ≡ cond (ltb x h.next) 1 0 + times x b.drawn)
      → next + count_by (λ x. leb t.count x) v.book.drawn ≤ t.count + count_by (λ x. leb t.count x) (drawn_numbers (books views)) + count_by (λ x. leb t.count x) b.drawn
      → best ≡ least t.first (reported_values (books (set views id w)))
      → BoardRule t words' (set views id w)
  book_keeps next best words' ws number ib once far lower = record {
    next = next;
    best = best;
    made = h.made;
    words_are = ws;
    small = h.small;
    few = h.few;
    one_root = let s = sum_set (λ (v : View). cond v.root 1 0) views id v w at in let o = h.one_root in omega arith;
    each_view = each_set (IsView t h.made) views id w (λ j u _ e'. h.each_view j u e') (book_is_view ib);
    seats = λ n.
        let s = book_set (λ b. cond (eqb b.number n) 1 0) views id v b at e in
        let same : cond {A = ℕ} (eqb b.number n) 1 0 ≡ cond (eqb v.book.number n) 1 0 = ap (λ (k : ℕ). cond {A = ℕ} (eqb k n) 1 0) number in
        let a = seats_count n (books (set views id w)) in let c = seats_count n (books views) in let o = h.seats n in
        omega arith;
    all_seats =
        let s = book_set (λ _. 1) views id v b at e in
        let a = sum_length (books (set views id w)) in let c = sum_length (books views) in let o = h.all_seats in
        omega arith;
    drawn = λ x.
        let s = book_set (λ b. times x b.drawn) views id v b at e in
        let a = drawn_count (λ y. eqb y x) (books (set views id w)) in let c = drawn_count (λ y. eqb y x) (books views) in
        let o = h.drawn x in let q = once x in
        omega arith;
    far =
        let s = book_set (λ b. count_by (λ x. leb t.count x) b.drawn) views id v b at e in
        let a = drawn_count (λ x. leb t.count x) (books (set views id w)) in let c = drawn_count (λ x. leb t.count x) (books views) in
        omega arith;
    least_is = lower;
  }

-- claim

draws_book : (count x : ℕ) (b : Book) → IsBook count b → AllReported b → All (λ y. y < x) b.drawn → IsBook count (record b { drawn = b.drawn ++ x ∷ [] })
draws_book count x b ib all below = record {
  in_order = (x ∷ [], omega arith, ap (λ l. l ++ x ∷ []) all);
  rising = rising_push b.drawn x ib.rising below;
  below = ib.below;
}

pub claim_keeps : (t : Terms) (words : List ℕ) (views : List View) (id : ℕ) (v : View) (h : BoardRule t words views) → get_elem? views id ≡ some v → v.spent ≡ false → AllReported v.book
    → BoardRule t (set words 0 (h.next + 1)) (set views id (drew v h.next))
claim_keeps t words views id v h at e all =
    let b : Book = record v.book { drawn = v.book.drawn ++ h.next ∷ [] } in
    let ib = draws_book t.count h.next v.book (h.each_view id v at).book all (drawn_below t words views id v h at e) in
    book_keeps t words views id v b h at e (h.next + 1) h.best (set words 0 (h.next + 1)) (ap (λ l. set l 0 (h.next + 1)) h.words_are) refl ib
    (λ x. let o = once_more h.next x in let s = sum_by-append (λ y. cond (eqb y x) 1 0) v.book.drawn (h.next ∷ []) in omega arith)
    (let s = sum_by-append (λ y. cond (leb t.count y) 1 0) v.book.drawn (h.next ∷ []) in
    let f = h.far in
    ⊎_elim
    (λ (l : h.next < t.count). let m = in_all (λ x. leb t.count x) views id v at e in omega arith)
    (λ (l : t.count ≤ h.next). let one : cond {A = ℕ} (leb t.count h.next) 1 0 ≡ 1 = one_if (leb t.count h.next) (le-leb t.count h.next l) in omega arith)
    (cases_lt h.next t.count))
    (h.least_is ∙ least_same t.first (reported_values (books views)) (reported_values (books (set views id (record v { book = b })))) (λ n.
    let s = book_set (λ b. under n (map (λ p. p.1) b.reported)) views id v b at e in
    let a = values_count n (books (set views id (record v { book = b }))) in let c = values_count n (books views) in
    omega arith))

-- report

tells_book : (count x value : ℕ) (b : Book) → IsBook count b → Owes b x → x < count → IsBook count (record b { reported = b.reported ++ (x, value) ∷ [] })
tells_book count x value b ib owes small = record {
  in_order = ([], omega arith, owes ∙ sym (map-append (λ (p : ℕ × ℕ). p.0) b.reported ((x, value) ∷ [])) ∙ sym (append-nil (map (λ (p : ℕ × ℕ). p.0) (b.reported ++ (x, value) ∷ []))));
  rising = ib.rising;
  below = All-push (λ (p : ℕ × ℕ). p.0 < count) b.reported (x, value) ib.below small;
}

pub report_keeps : (t : Terms) (words : List ℕ) (views : List View) (id : ℕ) (v : View) (x value : ℕ) (h : BoardRule t words views) → get_elem? views id ≡ some v → v.spent ≡ false → Owes v.book x → x < t.count
    → BoardRule t (set words 1 (min h.best value)) (set views id (told v x value))
report_keeps t words views id v x value h at e owes small =
    let b : Book = record v.book { reported = v.book.reported ++ (x, value) ∷ [] } in
    book_keeps t words views id v b h at e h.next (min h.best value) (set words 1 (min h.best value)) (ap (λ l. set l 1 (min h.best value)) h.words_are) refl
    (tells_book t.count x value v.book (h.each_view id v at).book owes small)
    (λ x. refl)
    (let f = h.far in omega arith)
    (ap (λ n. min n value) h.least_is ∙ least_lower t.first value (reported_values (books views)) (reported_values (books (set views id (record v { book = b })))) (λ n.
    let s = book_set (λ b. under n (map (λ p. p.1) b.reported)) views id v b at e in
    let a = values_count n (books (set views id (record v { book = b }))) in let c = values_count n (books views) in
    let cut : under n (map (λ (p : ℕ × ℕ). p.1) b.reported) ≡ under n (map (λ (p : ℕ × ℕ). p.1) v.book.reported ++ value ∷ []) = ap (under n) (map-append (λ (p : ℕ × ℕ). p.1) v.book.reported ((x, value) ∷ [])) in
    let m = sum_by-append (λ v. cond (ltb v n) 1 0) (map (λ (p : ℕ × ℕ). p.1) v.book.reported) (value ∷ []) in
    omega arith))

-- split

pub split_sum : (g : Book → ℕ) (views : List View) (id : ℕ) (v : View) → get_elem? views id ≡ some v
    → sum_by g (books (set views id (split v) ++ newcomer v ∷ [])) ≡ sum_by g (books views) + g (empty_book v.made)
split_sum g views id v at =
    let s = books_set g views id v (split v) at in
    let a = sum_flat g books_in (set views id (split v) ++ newcomer v ∷ []) in let b = sum_flat g books_in (set views id (split v)) in
    let c = sum_by-append (λ v. sum_by g (books_in v)) (set views id (split v)) (newcomer v ∷ []) in
    omega arith

-- a view that is not the root's fits any number of seats
other_view : (t : Terms) (made made' : ℕ) (u : View) → IsView t made u → u.root ≡ false → IsView t made' u
other_view t made made' u iv r = record { spent = iv.spent; terms = iv.terms; root = λ k. absurd (both k r); others = iv.others; book = iv.book; left = iv.left }

split_view : (t : Terms) (made : ℕ) (v : View) → IsView t made v → v.spent ≡ false → v.root ≡ true → IsView t (made + 1) (split v)
split_view t made v iv e r = record {
  spent = λ s. absurd (both s e);
  terms = iv.terms;
  root = λ k. ap (λ n. n + 1) (iv.root k);
  others = λ k. absurd (both r k);
  book = iv.book;
  left = iv.left;
}

new_view : (t : Terms) (made : ℕ) (v : View) → IsView t made v → v.spent ≡ false → IsView t (made + 1) (newcomer v)
new_view t made v iv e = record {
  spent = λ s. absurd (both s refl);
  terms = λ _. iv.terms e;
  root = λ k. absurd (both k refl);
  others = λ _. (refl, refl);
  book = is_empty_book t.count v.made;
  left = All-nil (IsBook t.count);
}

pub split_keeps : (t : Terms) (words : List ℕ) (views : List View) (id : ℕ) (v : View) (h : BoardRule t words views) → get_elem? views id ≡ some v → v.spent ≡ false → v.root ≡ true → v.made < 256
    → BoardRule t words (set views id (split v) ++ newcomer v ∷ [])
split_keeps t words views id v h at e r room =
    let iv = h.each_view id v at in
    let made : v.made ≡ h.made = iv.root r in
    let views' : List View = set views id (split v) ++ newcomer v ∷ [] in
    record {
      next = h.next;
      best = h.best;
      made = h.made + 1;
      words_are = h.words_are;
      small = h.small;
      few = omega arith;
      one_root =
          let s = sum_set (λ (v : View). cond v.root 1 0) views id v (split v) at in
          let a = sum_by-append (λ (v : View). cond v.root 1 0) (set views id (split v)) (newcomer v ∷ []) in
          let o = h.one_root in omega arith;
      each_view = each_snoc (IsView t (h.made + 1)) (set views id (split v)) (newcomer v)
          (each_set (IsView t (h.made + 1)) views id (split v)
          (λ j u n e'. other_view t h.made (h.made + 1) u (h.each_view j u e') (no_other_root views id j v u h.one_root at r n e'))
          (split_view t h.made v iv e r))
          (new_view t h.made v iv e);
      seats = λ n.
          let s = split_sum (λ b. cond (eqb b.number n) 1 0) views id v at in
          let a = seats_count n (books views') in let c = seats_count n (books views) in let o = h.seats n in
          let m = once_more h.made n in
          let same : cond {A = ℕ} (eqb v.made n) 1 0 ≡ cond (eqb h.made n) 1 0 = ap (λ (k : ℕ). cond {A = ℕ} (eqb k n) 1 0) made in
          omega arith;
      all_seats =
          let s = split_sum (λ _. 1) views id v at in
          let a = sum_length (books views') in let c = sum_length (books views) in let o = h.all_seats in
          omega arith;
      drawn = λ x.
          let s = split_sum (λ b. times x b.drawn) views id v at in
          let a = drawn_count (λ y. eqb y x) (books views') in let c = drawn_count (λ y. eqb y x) (books views) in let o = h.drawn x in
          omega arith;
      far =
          let s = split_sum (λ b. count_by (λ x. leb t.count x) b.drawn) views id v at in
          let a = drawn_count (λ x. leb t.count x) (books views') in let c = drawn_count (λ x. leb t.count x) (books views) in let f = h.far in
          omega arith;
      least_is = h.least_is ∙ least_same t.first (reported_values (books views)) (reported_values (books views')) (λ n.
          let s = split_sum (λ b. under n (map (λ p. p.1) b.reported)) views id v at in
          let a = values_count n (books views') in let c = values_count n (books views) in
          omega arith);
    }

-- join

pub join_sum : (g : Book → ℕ) (views : List View) (id other : ℕ) (v u : View) → get_elem? views id ≡ some v → v.spent ≡ false → get_elem? (set views id (joined v u)) other ≡ some u → u.spent ≡ false → u.left ≡ []
    → sum_by g (books (set (set views id (joined v u)) other nothing)) ≡ sum_by g (books views)
join_sum g views id other v u at e at' e' none =
    let s = books_set g views id v (joined v u) at in
    let s' = books_set g (set views id (joined v u)) other u nothing at' in
    let p : sum_by g (books_in v) ≡ sum_by g (v.book ∷ v.left) = ap (sum_by g) (live v e) in
    let q : sum_by g (books_in (joined v u)) ≡ sum_by g ((v.book ∷ v.left) ++ u.book ∷ []) = ap (sum_by g) (live (joined v u) e) in
    let q' = sum_by-append g (v.book ∷ v.left) (u.book ∷ []) in
    let k : sum_by g (books_in u) ≡ sum_by g (u.book ∷ []) = ap (sum_by g) (live u e' ∙ ap (λ l. u.book ∷ l) none) in
    omega arith

join_view : (t : Terms) (made : ℕ) (v u : View) → IsView t made v → IsView t made u → v.spent ≡ false → v.root ≡ true → IsView t made (joined v u)
join_view t made v u iv iu e r = record {
  spent = λ s. absurd (both s e);
  terms = iv.terms;
  root = iv.root;
  others = λ k. absurd (both r k);
  book = iv.book;
  left = All-push (IsBook t.count) v.left u.book iv.left iu.book;
}

spent_view : (t : Terms) (made : ℕ) → IsView t made nothing
spent_view t made = record {
  spent = λ _. refl;
  terms = λ s. absurd (both refl s);
  root = λ k. absurd (both k refl);
  others = λ _. (refl, refl);
  book = is_empty_book t.count 0;
  left = All-nil (IsBook t.count);
}

pub join_keeps : (t : Terms) (words : List ℕ) (views : List View) (id other : ℕ) (v u : View) (h : BoardRule t words views) → get_elem? views id ≡ some v → v.spent ≡ false → v.root ≡ true
    → other ≢ id → get_elem? (set views id (joined v u)) other ≡ some u → u.spent ≡ false
    → BoardRule t words (set (set views id (joined v u)) other nothing)
join_keeps t words views id other v u h at e r apart at' e' =
    let was : get_elem? views other ≡ some u = sym (set_else views id other (joined v u) apart) ∙ at' in
    let iv = h.each_view id v at in let iu = h.each_view other u was in
    let plain = no_other_root views id other v u h.one_root at r apart was in
    let none = (iu.others plain).1 in
    let views' : List View = set (set views id (joined v u)) other nothing in
    record {
      next = h.next;
      best = h.best;
      made = h.made;
      words_are = h.words_are;
      small = h.small;
      few = h.few;
      one_root =
          let s = sum_set (λ (v : View). cond v.root 1 0) views id v (joined v u) at in
          let s' = sum_set (λ (v : View). cond v.root 1 0) (set views id (joined v u)) other u nothing at' in
          let z = none_if u.root plain in
          let o = h.one_root in omega arith;
      each_view = each_set (IsView t h.made) (set views id (joined v u)) other nothing
          (λ j w n e'. each_set (IsView t h.made) views id (joined v u) (λ j w _ e'. h.each_view j w e') (join_view t h.made v u iv iu e r) j w e')
          (spent_view t h.made);
      seats = λ n.
          let s = join_sum (λ b. cond (eqb b.number n) 1 0) views id other v u at e at' e' none in
          let a = seats_count n (books views') in let c = seats_count n (books views) in let o = h.seats n in
          omega arith;
      all_seats =
          let s = join_sum (λ _. 1) views id other v u at e at' e' none in
          let a = sum_length (books views') in let c = sum_length (books views) in let o = h.all_seats in
          omega arith;
      drawn = λ x.
          let s = join_sum (λ b. times x b.drawn) views id other v u at e at' e' none in
          let a = drawn_count (λ y. eqb y x) (books views') in let c = drawn_count (λ y. eqb y x) (books views) in let o = h.drawn x in
          omega arith;
      far =
          let s = join_sum (λ b. count_by (λ x. leb t.count x) b.drawn) views id other v u at e at' e' none in
          let a = drawn_count (λ x. leb t.count x) (books views') in let c = drawn_count (λ x. leb t.count x) (books views) in let f = h.far in
          omega arith;
      least_is = h.least_is ∙ least_same t.first (reported_values (books views)) (reported_values (books views')) (λ n.
          let s = join_sum (λ b. under n (map (λ p. p.1) b.reported)) views id other v u at e at' e' none in
          let a = values_count n (books views') in let c = values_count n (books views) in
          omega arith);
    }

-- close

-- the books of the other views
around : {A B : Type 0} (f : A → List B) (xs : List A) (i : ℕ) (v : A) → get_elem? xs i ≡ some v → (pre : List B) × (post : List B) × (flat_map f xs ≡ pre ++ (f v ++ post))
around f [] i v e = absurd (some-ne-none v (sym e))
around f (x ∷ xs) zero v e = ([], flat_map f xs, ap (λ y. f y ++ flat_map f xs) (some-injective x v e))
around f (x ∷ xs) (suc i) v e = let h = around f xs i v e in (f x ++ h.0, h.1, ap (λ l. f x ++ l) h.2 ∙ sym (append_assoc (f x) h.0 (f v ++ h.1)))

none_left : {A : Type 0} (xs : List A) → length xs ≡ 0 → xs ≡ []
none_left [] e = refl
none_left (x ∷ xs) e = absurd (omega arith)

pub whole : (t : Terms) (words : List ℕ) (views : List View) (id : ℕ) (v : View) (h : BoardRule t words views) → get_elem? views id ≡ some v → v.spent ≡ false → v.root ≡ true → length v.left + 1 ≡ v.made
    → books views ≡ v.book ∷ v.left
whole t words views id v h at e r all =
    let k = around books_in views id v at in
    let made = (h.each_view id v at).root r in
    let l : length (books views) ≡ length (k.0 ++ (books_in v ++ k.1)) = ap (λ (l : List Book). length l) k.2 in
    let a = length-append k.0 (books_in v ++ k.1) in let b = length-append (books_in v) k.1 in
    let c : length (books_in v) ≡ length (v.book ∷ v.left) = ap (λ (l : List Book). length l) (live v e) in
    let o = h.all_seats in
    let pre = none_left k.0 (omega arith) in let post = none_left k.1 (omega arith) in
    k.2 ∙ ap (λ l. l ++ (books_in v ++ k.1)) pre ∙ ap (λ l. books_in v ++ l) post ∙ append-nil (books_in v) ∙ live v e

-- how far the counter gets

late_few : (count : ℕ) (xs : List ℕ) → All (λ x. x < count) xs → count_by (λ x. leb count x) xs ≡ 0
late_few count [] all = refl
late_few count (x ∷ xs) all =
    let s = sum_by-cons (λ x. cond (leb count x) 1 0) x xs in
    let l : x < count = All-head (λ x. x < count) x xs all in
    let z : cond {A = ℕ} (leb count x) 1 0 ≡ 0 = none_if (leb count x) (lt-leb count x l) in
    let r = late_few count xs (All-tail (λ x. x < count) x xs all) in
    omega arith

late_rest : (count : ℕ) (xs : List ℕ) → length xs ≤ 1 → count_by (λ x. leb count x) xs ≤ 1
late_rest count xs l = let s = count_by-le-length (λ x. leb count x) xs in omega arith

-- a book has at most one number at or above the count
pub one_late : (count : ℕ) (b : Book) → IsBook count b → count_by (λ x. leb count x) b.drawn ≤ 1
one_late count b ib =
    let o = ib.in_order in
    let e : count_by (λ x. leb count x) b.drawn ≡ count_by (λ x. leb count x) (reported_numbers b ++ o.0) = ap (λ l. count_by (λ x. leb count x) l) o.2 in
    let s = sum_by-append (λ x. cond (leb count x) 1 0) (reported_numbers b) o.0 in
    let z = late_few count (reported_numbers b) (All-map (λ x. x < count) (λ (p : ℕ × ℕ). p.0) b.reported ib.below) in
    let r = late_rest count o.0 o.1 in
    omega arith

sum_le_length : {A : Type 0} (f : A → ℕ) (xs : List A) → All (λ x. f x ≤ 1) xs → sum_by f xs ≤ length xs
sum_le_length f xs all = let s = sum_by-le f 1 xs all in omega arith

all_books : (P : Book → Type 0) (views : List View) → ((id : ℕ) (v : View) → get_elem? views id ≡ some v → P v.book × All P v.left) → All P (books views)
all_books P [] h = All-nil P
all_books P (v ∷ views) h = All-append P (books_in v) (books views) (of_view v.spent) (all_books P views (λ id u e. h (suc id) u e))
  where
    of_view : (b : Bool) → All P (cond {A = List Book} b [] (v.book ∷ v.left))
    of_view true = All-nil P
    of_view false = All-cons P v.book v.left (h 0 v refl).0 (h 0 v refl).1

pub each_book : (t : Terms) (words : List ℕ) (views : List View) → BoardRule t words views → All (IsBook t.count) (books views)
each_book t words views h = all_books (IsBook t.count) views (λ id v e. let iv = h.each_view id v e in (iv.book, iv.left))

-- word 0 is at most 256 above the count
pub far_below : (t : Terms) (words : List ℕ) (views : List View) (h : BoardRule t words views) → h.next ≤ t.count + 256
far_below t words views h =
    let f = h.far in
    let d = drawn_count (λ x. leb t.count x) (books views) in
    let s = sum_le_length (λ b. count_by (λ x. leb t.count x) b.drawn) (books views) (All-weaker (IsBook t.count) (λ b. count_by (λ x. leb t.count x) b.drawn ≤ 1) (one_late t.count) (books views) (each_book t words views h)) in
    let a = h.all_seats in let w = h.few in
    omega arith
