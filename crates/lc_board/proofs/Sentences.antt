-- What follows from the rule of a board.
--   seat_says, rule_says      the sentences
--   actors_are_seats          the actors of the machine are what the books say
use Rattle.std.proofs.Common.{◌≡◌, ◌≢◌, ℕ, suc, ◌+◌, ◌<◌, ◌≤◌, Bool, true, false, cond, List, [], ◌∷◌, ◌++◌, length, get_or, map, drop, Some, None, refl, sym, ap, ◌∙◌, subst, inl, inr, ⊎_elim, ◌⊎◌, arith, length-append}
use Rattle.std.specs.Prelude.{count_by, All, Contains, slice_index}
use Rattle.std.proofs.lemmas.Bool.{cases_eq, cases_lt, lt-ltb, le-ltb}
use Rattle.std.proofs.lemmas.List.{append-nil, get_or_default, get_or_append_left, get_or_push}
use Rattle.std.proofs.lemmas.List.Elements.{All-nil, All-append, All-map, All-weaker, All-contains, Contains-append_left, Contains-push, Contains-push_cases, Contains-get_or}
use Rattle.std.proofs.lemmas.List.Sums.{sum_by-cons}
use Rattle.std.proofs.lemmas.Option.{same_Some}
use mathlib.Core.Option.{some}
use lib.ListN.{get_elem?}
use Rattle.lc_board.specs.Counting.{StandOnce, least}
use Rattle.lc_board.specs.Round.{actor_at}
use Rattle.lc_board.specs.Board.{reported_numbers, books_in, books, seat_numbers, drawn_numbers, reported_values, IsBook}
use Rattle.lc_board.specs.Machine.{actor_with, actor_of, IsActor, ActorsAreSeats}
use Rattle.lc_board.specs.Sentences.{SeatSays, RuleSays}
use Rattle.lc_board.specs.declared.round.Actor.{Actor}
use Rattle.lc_board.specs.declared.views.Book.{Book}
use Rattle.lc_board.specs.declared.views.View.{View}
use Rattle.lc_board.proofs.Boards.{no_other_root, each_book, far_below}
use Rattle.lc_board.proofs.Machines.{same_count}

-- the numbers that were reported

module _ (count : ℕ) (b : Book) (ib : IsBook count b) where
  abbrev R : List ℕ
  R = reported_numbers b

  abbrev left_over : List ℕ
  left_over = ib.in_order.0

  is : b.drawn ≡ R ++ left_over
  is = ib.in_order.2

  size : length b.drawn ≡ length R + length left_over
  size = ap (λ (l : List ℕ). length l) is ∙ length-append R left_over

  low : All (λ x. x < count) R
  low = All-map (λ x. x < count) (λ (p : ℕ × ℕ). p.0) b.reported ib.below

  front : (k : ℕ) → k < length R → get_or b.drawn k 0 ≡ get_or R k 0
  front k l = ap (λ (xs : List ℕ). get_or xs k 0) is ∙ get_or_append_left R left_over 0 k l

  short : length left_over ≤ 1
  short = ib.in_order.1

  last_is_last : (k : ℕ) → length R ≤ k → k < length b.drawn → k + 1 ≡ length b.drawn
  last_is_last k l m = let s = size in let r = short in omega arith

  pub seat_says : SeatSays count b
  seat_says = record {
    rising = ib.rising;
    past = λ k l far. ⊎_elim
        (λ (m : k < length R). let f = front k m in let s = low k 0 m in absurd (omega arith))
        (λ (m : length R ≤ k). last_is_last k m l)
        (cases_lt k (length R));
    reported = λ k d l. (subst (λ (xs : List ℕ). Contains xs (get_or R k d)) (sym is) (Contains-append_left R left_over (get_or R k d) (Contains-get_or R k d l)), low k d l);
    once = λ i j l m same.
        let s = size in
        let a = front i (omega arith) in let c = front j m in
        let up = ib.rising i j l (omega arith) in
        absurd (omega arith);
    held = λ k l below. ⊎_elim
        (λ (m : k < length R). inl (subst (Contains R) (sym (front k m)) (Contains-get_or R k 0 m)))
        (λ (m : length R ≤ k). let s = last_is_last k m l in inr (λ j far inside. absurd (omega arith)))
        (cases_lt k (length R));
  }

-- a list that counts one has one
pub one_of : {A : Type 0} (p : A → Bool) (xs : List A) → count_by p xs ≡ 1 → (i : ℕ) × (x : A) × (get_elem? xs i ≡ some x) × (p x ≡ true)
one_of p [] e = absurd (omega arith)
one_of {A} p (x ∷ xs) e = at (p x) refl (one_of p xs)
  where
    at : (b : Bool) → p x ≡ b → (count_by p xs ≡ 1 → (i : ℕ) × (x : A) × (get_elem? xs i ≡ some x) × (p x ≡ true)) → (i : ℕ) × (y : A) × (get_elem? (x ∷ xs) i ≡ some y) × (p y ≡ true)
    at true is more = (0, x, refl, is)
    at false is more =
        let s = sum_by-cons (λ (x : A). cond (p x) 1 0) x xs in
        let z : cond {A = ℕ} (p x) 1 0 ≡ 0 = ap (λ (b : Bool). cond {A = ℕ} b 1 0) is in
        let r = more (omega arith) in
        (suc r.0, r.1, r.2, r.3)

pub rule_says : RuleSays
rule_says t words views h =
    let r = one_of (λ (v : View). v.root) views h.one_root in
    let made = (h.each_view r.0 r.1 r.2).root r.3 in
    let few = h.few in
    let next : slice_index words 0 ≡ h.next = ap (λ l. get_or l 0 0) h.words_are in
    let best : slice_index words 1 ≡ h.best = ap (λ l. get_or l 1 0) h.words_are in
    let first : slice_index words 2 ≡ t.first = ap (λ l. get_or l 2 0) h.words_are in
    let count : slice_index words 3 ≡ t.count = ap (λ l. get_or l 3 0) h.words_are in
    record {
      first = first;
      count = count;
      small = let s = h.small in omega arith;
      terms = λ id v at e. (h.each_view id v at).terms e;
      spent = λ id v at e. (h.each_view id v at).spent e;
      others = λ id v at e. (h.each_view id v at).others e;
      root = (
        r.0,
        r.1,
        r.2,
        r.3,
        omega arith,
        subst (λ n. StandOnce n (seat_numbers (books views))) (sym made) h.seats,
        λ j u at root. ⊎_elim
            (λ (same : j ≡ r.0). same)
            (λ (apart : j ≢ r.0). absurd (let no_root = no_other_root views r.0 j r.1 u h.one_root r.2 r.3 apart at in cc))
            (cases_eq j r.0),
      );
      drawn = subst (λ n. StandOnce n (drawn_numbers (books views))) (sym next) h.drawn;
      counter = let f = far_below t words views h in omega arith;
      best = best ∙ h.least_is ∙ ap (λ n. least n (reported_values (books views))) (sym first);
      each_seat = All-weaker (IsBook t.count) (SeatSays t.count) (λ b ib. seat_says t.count b ib) (books views) (each_book t words views h);
    }

-- actors

rest_dropped : (ps : List (ℕ × ℕ)) (rest : List ℕ) → drop (length ps) (map (λ p. p.0) ps ++ rest) ≡ rest
rest_dropped [] rest = refl
rest_dropped (p ∷ ps) rest = rest_dropped ps rest

in_front : (count : ℕ) (R : List ℕ) (x : ℕ) → All (λ x. x < count) R → Contains R x → x < count
in_front count R x low c = All-contains (λ x. x < count) R x low c

actor_says : (count : ℕ) (b : Book) (rest : List ℕ) → length rest ≤ 1 → b.drawn ≡ reported_numbers b ++ rest → IsBook count b → IsActor count b (actor_with count b.reported rest)
actor_says count b [] short is ib =
    let R = reported_numbers b in
    let all : b.drawn ≡ R = is ∙ append-nil R in
    let low = All-map (λ x. x < count) (λ (p : ℕ × ℕ). p.0) b.reported ib.below in
    record {
      held = λ x. ((λ e. absurd (cc)), (λ h. absurd (h.2 (subst (λ (xs : List ℕ). Contains xs x) all h.0))));
      past = ((λ e. absurd (cc)), (λ h. let s = in_front count R h.0 low (subst (λ (xs : List ℕ). Contains xs h.0) all h.1) in let f = h.2 in absurd (omega arith)));
      finished = refl;
    }
actor_says count b (y ∷ []) short is ib =
    let R = reported_numbers b in
    let low = All-map (λ x. x < count) (λ (p : ℕ × ℕ). p.0) b.reported ib.below in
    let own : Contains b.drawn y = subst (λ (xs : List ℕ). Contains xs y) (sym is) (Contains-push R y) in
    let fresh : Contains R y → ⊥ = (λ c.
    let size : length b.drawn ≡ length R + 1 = ap (λ (l : List ℕ). length l) is ∙ length-append R (y ∷ []) in
    let l = c.1 in
    let up = ib.rising c.0 (length R) l (omega arith) in
    let a : get_or b.drawn c.0 0 ≡ get_or R c.0 0 = ap (λ (xs : List ℕ). get_or xs c.0 0) is ∙ get_or_append_left R (y ∷ []) 0 c.0 l in
    let d : get_or R c.0 0 ≡ y = sym (get_or_default R c.0 y 0 l) ∙ c.2 in
    let z : get_or b.drawn (length R) 0 ≡ y = ap (λ (xs : List ℕ). get_or xs (length R) 0) is ∙ get_or_push R y 0 (length R) refl in
    omega arith) in
    let found : (x : ℕ) → Contains b.drawn x → Contains R x ⊎ (y ≡ x) = (λ x c. Contains-push_cases R y x (subst (λ (xs : List ℕ). Contains xs x) is c)) in
    ⊎_elim
    (λ (l : y < count). subst (λ (a : Actor). IsActor count b a) (sym (ap (λ (c : Bool). cond {A = Actor} c (record { held = Some y; past = false; finished = b.reported }) (record { held = None; past = true; finished = b.reported })) (lt-ltb y count l)))
    (record {
      held = λ x. (
        (λ e. subst (λ (x : ℕ). Contains b.drawn x × (x < count) × (Contains R x → ⊥)) (same_Some y x e) (own, l, fresh)),
        (λ h. ⊎_elim (λ (c : Contains R x). absurd (h.2 c)) (λ (e : y ≡ x). ap (λ (n : ℕ). Some n) e) (found x h.0)),
      );
      past = (
        (λ e. absurd (cc)),
        (λ h. ⊎_elim
            (λ (c : Contains R h.0). let s = in_front count R h.0 low c in let f = h.2 in absurd (omega arith))
            (λ (e : y ≡ h.0). let f = h.2 in absurd (omega arith))
            (found h.0 h.1)),
      );
      finished = refl;
    }))
    (λ (g : count ≤ y). subst (λ (a : Actor). IsActor count b a) (sym (ap (λ (c : Bool). cond {A = Actor} c (record { held = Some y; past = false; finished = b.reported }) (record { held = None; past = true; finished = b.reported })) (le-ltb y count g)))
    (record {
      held = λ x. (
        (λ e. absurd (cc)),
        (λ h. ⊎_elim (λ (c : Contains R x). absurd (h.2 c)) (λ (e : y ≡ x). let f = h.1 in absurd (omega arith)) (found x h.0)),
      );
      past = ((λ e. (y, own, g)), (λ h. refl));
      finished = refl;
    }))
    (cases_lt y count)
actor_says count b (y ∷ z ∷ rest) short is ib = absurd (omega arith)

pub is_actor : (count : ℕ) (b : Book) → IsBook count b → IsActor count b (actor_of count b)
is_actor count b ib =
    let o = ib.in_order in
    subst (λ (l : List ℕ). IsActor count b (actor_with count b.reported l)) (sym (ap (drop (length b.reported)) o.2 ∙ rest_dropped b.reported o.0)) (actor_says count b o.0 o.1 o.2 ib)

all_in : (P : Book → Type 0) (views : List View) → ((id : ℕ) (v : View) → get_elem? views id ≡ some v → All P (books_in v)) → All P (books views)
all_in P [] h = All-nil P
all_in P (v ∷ views) h = All-append P (books_in v) (books views) (h 0 v refl) (all_in P views (λ id u e. h (suc id) u e))

pub actors_are_seats : ActorsAreSeats
actors_are_seats t words views r h is =
    let count = same_count t words views r h is in
    let fits = all_in (λ b. actor_at r b.number ≡ actor_of r.count b) views is.seats in
    let each = each_book t words views h in
    λ k d l.
    let b = get_or (books views) k d in
    subst (IsActor t.count b) (sym (fits k d l ∙ ap (λ n. actor_of n b) count)) (is_actor t.count b (each k d l))
