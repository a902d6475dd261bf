-- A board's steps in the round machine.
--   opens          a new board is the starting state
--   claim_event    a claim is the event Claim
--   report_event   a report is the event Report
--   split_stays, join_stays    a split and a join leave the state
--   reaches_more   one event more
use Rattle.std.proofs.Common.{◌≡◌, ◌≢◌, ℕ, zero, suc, ◌+◌, ◌<◌, ◌≤◌, min, Bool, true, false, cond, eqb, ltb, List, [], ◌∷◌, ◌++◌, length, get_or, set, map, drop, replicate, Some, None, refl, sym, ap, ◌∙◌, subst, ⊎_elim, arith, length-set, get_or-set_same, get_or-set_other}
use Rattle.std.specs.Prelude.{sum_by, All, IsSome, slice_index}
use Rattle.std.proofs.lemmas.Bool.{cases_lt, lt-ltb, le-ltb}
use Rattle.std.proofs.lemmas.Bool.Decides.{nat_tests}
use Rattle.std.proofs.lemmas.List.{length-replicate}
use Rattle.std.proofs.lemmas.List.Elements.{All-nil, All-cons, All-head, All-tail, All-push}
use Rattle.std.proofs.lemmas.List.Sums.{sum_by-cons}
use mathlib.Core.Option.{some, some-injective, some-ne-none}
use lib.ListN.{get_elem?}
use Rattle.atomic_table.proofs.Lists.{at_set, at_snoc, set_else}
use Rattle.lc_board.specs.Counting.{times}
use Rattle.lc_board.specs.Round.{Round, idle, actor_at, start, Possible, drew as actor_drew, finished as actor_finished, moved, Reaches}
use Rattle.lc_board.specs.Board.{empty_book, root_view, nothing, drew, told, split, newcomer, joined, AllReported, Owes, books_in, books, seat_numbers, BoardRule}
use Rattle.lc_board.specs.Machine.{actor_with, actor_of, IsRound, ClaimIsAnEvent, ReportIsAnEvent, SplitLeavesTheState, JoinLeavesTheState, OpensAtTheStart}
use Rattle.lc_board.specs.declared.round.Event.{Event}
use Rattle.lc_board.specs.declared.round.Event.TheVariants.{Claim, Report}
use Rattle.lc_board.specs.declared.round.Actor.{Actor}
use Rattle.lc_board.specs.declared.views.Terms.{Terms}
use Rattle.lc_board.specs.declared.views.Book.{Book}
use Rattle.lc_board.specs.declared.views.View.{View}
use Rattle.lc_board.proofs.Counting.{one_if, none_if, sum_flat, two_le_sum}
use Rattle.lc_board.proofs.Boards.{live, books_set, book_set, seats_count, no_other_root, split_sum, join_sum}

-- the books of other seats have other numbers

abbrev has : ℕ → Book → ℕ
has n b = cond (eqb b.number n) 1 0

has_itself : (n : ℕ) → cond {A = ℕ} (eqb n n) 1 0 ≡ 1
has_itself n = grind (arith, nat_tests)

none_there : (n : ℕ) (bs : List Book) → sum_by (has n) bs ≡ 0 → All (λ b. b.number ≢ n) bs
none_there n [] e = All-nil (λ (b : Book). b.number ≢ n)
none_there n (b ∷ bs) e =
    let s = sum_by-cons (has n) b bs in
    All-cons (λ (b : Book). b.number ≢ n) b bs
    (λ k. let one : has n b ≡ 1 = ap (λ (m : ℕ). cond {A = ℕ} (eqb m n) 1 0) k ∙ has_itself n in absurd (omega arith))
    (none_there n bs (omega arith))

at_most_one : (n made : ℕ) → cond {A = ℕ} (ltb n made) 1 0 ≤ 1
at_most_one n made = ⊎_elim
    (λ (l : n < made). let o = one_if (ltb n made) (lt-ltb n made l) in omega arith)
    (λ (l : made ≤ n). let o = none_if (ltb n made) (le-ltb n made l) in omega arith)
    (cases_lt n made)

module _ (t : Terms) (words : List ℕ) (views : List View) (id : ℕ) (v : View) (h : BoardRule t words views) (at : get_elem? views id ≡ some v) (e : v.spent ≡ false) where
  abbrev n : ℕ
  n = v.book.number

  all_once : sum_by (has n) (books views) ≤ 1
  all_once = let o = h.seats n in let c = seats_count n (books views) in let m = at_most_one n h.made in omega arith

  mine : sum_by (has n) (books_in v) ≡ 1 + sum_by (has n) v.left
  mine =
      let p : sum_by (has n) (books_in v) ≡ sum_by (has n) (v.book ∷ v.left) = ap (sum_by (has n)) (live v e) in
      let q = sum_by-cons (has n) v.book v.left in let o = has_itself n in
      omega arith

  in_all : sum_by (has n) (books_in v) ≤ sum_by (has n) (books views)
  in_all = let s = books_set (has n) views id v nothing at in omega arith

  pub present : 1 ≤ times n (seat_numbers (books views))
  present = let c = seats_count n (books views) in let a = mine in let b = in_all in omega arith

  pub number_small : n < h.made
  number_small =
      let o = h.seats n in let c = seats_count n (books views) in let a = mine in let b = in_all in
      ⊎_elim (λ (l : n < h.made). l) (λ (l : h.made ≤ n). let z = none_if (ltb n h.made) (le-ltb n h.made l) in absurd (omega arith)) (cases_lt n h.made)

  pub left_apart : All (λ b. b.number ≢ n) v.left
  left_apart = none_there n v.left (let a = mine in let b = in_all in let c = all_once in omega arith)

  pub others_apart : (j : ℕ) (u : View) → j ≢ id → get_elem? views j ≡ some u → All (λ b. b.number ≢ n) (books_in u)
  others_apart j u apart at' = none_there n (books_in u) (
      let s = two_le_sum (λ w. sum_by (has n) (books_in w)) views id j v u (λ k. apart (sym k)) at at' in
      let f = sum_flat (has n) books_in views in
      let a = mine in let c = all_once in omega arith)

-- actors

is_free : (count : ℕ) (b : Book) → AllReported b → actor_of count b ≡ record { held = None; past = false; finished = b.reported }
is_free count b all = ap (actor_with count b.reported) (ap (drop (length b.reported)) all ∙ none_dropped b.reported)
  where
    none_dropped : (ps : List (ℕ × ℕ)) → drop (length ps) (map (λ p. p.0) ps) ≡ []
    none_dropped [] = refl
    none_dropped (p ∷ ps) = none_dropped ps

one_pending : (ps : List (ℕ × ℕ)) (x : ℕ) → drop (length ps) (map (λ p. p.0) ps ++ x ∷ []) ≡ x ∷ []
one_pending [] x = refl
one_pending (p ∷ ps) x = one_pending ps x

none_pending : (ps : List (ℕ × ℕ)) (x value : ℕ) → drop (length (ps ++ (x, value) ∷ [])) (map (λ p. p.0) ps ++ x ∷ []) ≡ []
none_pending [] x value = refl
none_pending (p ∷ ps) x value = none_pending ps x value

owing : (count : ℕ) (b : Book) (x : ℕ) → Owes b x → actor_of count b ≡ actor_with count b.reported (x ∷ [])
owing count b x owes = ap (actor_with count b.reported) (ap (drop (length b.reported)) owes ∙ one_pending b.reported x)

holding : (count : ℕ) (b : Book) (x : ℕ) → Owes b x → x < count → actor_of count b ≡ record { held = Some x; past = false; finished = b.reported }
holding count b x owes l = owing count b x owes ∙ ap (λ (c : Bool). cond {A = Actor} c (record { held = Some x; past = false; finished = b.reported }) (record { held = None; past = true; finished = b.reported })) (lt-ltb x count l)

-- a change of one book is a change of one actor

get_set : (r : Round) (a : Actor) (i j : ℕ) → j ≢ i → get_or (set r.actors i a) j idle ≡ get_or r.actors j idle
get_set r a i j apart = get_or-set_other r.actors i j a idle apart

module _ (t : Terms) (words words' : List ℕ) (views : List View) (r : Round) (id : ℕ) (v : View) (b : Book) (a : Actor) (next best : ℕ) (h : BoardRule t words views) (is : IsRound words views r) (at : get_elem? views id ≡ some v) (e : v.spent ≡ false) where
  abbrev r' : Round
  r' = record r { next = next; best = best; actors = set r.actors v.book.number a }

  abbrev w : View
  w = record v { book = b }

  few : v.book.number < length r.actors
  few = let s = number_small t words views id v h at e in let m = h.few in let l = is.actors in omega arith

  kept : (bs : List Book) → All (λ b. b.number ≢ v.book.number) bs → All (λ b. actor_at r b.number ≡ actor_of r.count b) bs → All (λ b. actor_at r' b.number ≡ actor_of r.count b) bs
  kept bs apart all k d l = get_set r a v.book.number (get_or bs k d).number (apart k d l) ∙ all k d l

  pub book_event : words' ≡ next ∷ best ∷ r.first ∷ r.count ∷ [] → b.number ≡ v.book.number → a ≡ actor_of r.count b → IsRound words' (set views id w) r'
  book_event ws number new =
      let here = is.seats id v at in
      let mine : All (λ b. actor_at r b.number ≡ actor_of r.count b) (v.book ∷ v.left) = subst (All (λ (b : Book). actor_at r b.number ≡ actor_of r.count b)) (live v e) here in
      let own : actor_at r' b.number ≡ actor_of r.count b = ap (λ (n : ℕ). get_or (set r.actors v.book.number a) n idle) number ∙ get_or-set_same r.actors v.book.number a idle few ∙ new in
      let left = kept v.left (left_apart t words views id v h at e) (All-tail (λ (b : Book). actor_at r b.number ≡ actor_of r.count b) v.book v.left mine) in
      record {
        words_are = ws;
        running = is.running;
        actors = length-set r.actors v.book.number a ∙ is.actors;
        seats = λ j u e'. ⊎_elim
            (λ (x : (j ≡ id) × (w ≡ u)). subst (λ (u : View). All (λ b. actor_at r' b.number ≡ actor_of r.count b) (books_in u)) x.1
            (subst (All (λ (b : Book). actor_at r' b.number ≡ actor_of r.count b)) (sym (live w e)) (All-cons (λ (b : Book). actor_at r' b.number ≡ actor_of r.count b) b v.left own left)))
            (λ (x : (j ≢ id) × (get_elem? views j ≡ some u)). kept (books_in u) (others_apart t words views id v h at e j u x.0 x.1) (is.seats j u x.1))
            (at_set views id j w u e');
        others = λ k none.
            let s = book_set (has k) views id v b at e in
            let same : has k b ≡ has k v.book = ap (λ (m : ℕ). cond {A = ℕ} (eqb m k) 1 0) number in
            let c = seats_count k (books (set views id w)) in let d = seats_count k (books views) in
            let before : times k (seat_numbers (books views)) ≡ 0 = omega arith in
            let apart : k ≢ v.book.number = (λ same_number.
            let p = present t words views id v h at e in
            let here : times v.book.number (seat_numbers (books views)) ≡ 0 = subst (λ (m : ℕ). times m (seat_numbers (books views)) ≡ 0) same_number before in
            absurd (omega arith)) in
            get_set r a v.book.number k apart ∙ is.others k before;
      }

first_word : (words : List ℕ) (views : List View) (r : Round) → IsRound words views r → slice_index words 0 ≡ r.next
first_word words views r is = ap (λ l. get_or l 0 0) is.words_are

own_actor : (t : Terms) (words : List ℕ) (views : List View) (r : Round) (id : ℕ) (v : View) → IsRound words views r → get_elem? views id ≡ some v → v.spent ≡ false → actor_at r v.book.number ≡ actor_of r.count v.book
own_actor t words views r id v is at e = All-head (λ (b : Book). actor_at r b.number ≡ actor_of r.count b) v.book v.left (subst (All (λ (b : Book). actor_at r b.number ≡ actor_of r.count b)) (live v e) (is.seats id v at))

pub claim_event : ClaimIsAnEvent
claim_event t words views r id v h is at e all =
    let b : Book = record v.book { drawn = v.book.drawn ++ r.next ∷ [] } in
    let own = own_actor t words views r id v is at e ∙ is_free r.count v.book all in
    let l = few t words words views r id v b idle r.next r.best h is at e in
    let owes : Owes b r.next = ap (λ l. l ++ r.next ∷ []) all in
    let c = first_word words views r is in
    let new : actor_drew r.count r.next (actor_at r v.book.number) ≡ actor_of r.count b = ap (actor_drew r.count r.next) own ∙ sym (owing r.count b r.next owes) in
    let after = book_event t words (set words 0 (r.next + 1)) views r id v b (actor_drew r.count r.next (actor_at r v.book.number)) (r.next + 1) r.best h is at e (ap (λ l. set l 0 (r.next + 1)) is.words_are) refl new in (
      (is.running, l, ap (λ (a : Actor). a.held) own, ap (λ (a : Actor). a.past) own),
      subst (λ (m : ℕ). IsRound (set words 0 (m + 1)) (set views id (drew v m)) (moved r (Claim v.book.number))) (sym c) after,
    )

pub same_count : (t : Terms) (words : List ℕ) (views : List View) (r : Round) → BoardRule t words views → IsRound words views r → r.count ≡ t.count
same_count t words views r h is = ap (λ l. get_or l 3 0) (sym is.words_are ∙ h.words_are)

pub report_event : ReportIsAnEvent
report_event t words views r id v x value h is at e owes small =
    let b : Book = record v.book { reported = v.book.reported ++ (x, value) ∷ [] } in
    let low : x < r.count = (let s = same_count t words views r h is in omega arith) in
    let own = own_actor t words views r id v is at e ∙ holding r.count v.book x owes low in
    let l = few t words words views r id v b idle r.next r.best h is at e in
    let c : slice_index words 1 ≡ r.best = ap (λ l. get_or l 1 0) is.words_are in
    let new : actor_finished value (actor_at r v.book.number) ≡ actor_of r.count b = ap (actor_finished value) own ∙ sym (ap (actor_with r.count b.reported) (ap (drop (length b.reported)) owes ∙ none_pending v.book.reported x value)) in
    let after = book_event t words (set words 1 (min r.best value)) views r id v b (actor_finished value (actor_at r v.book.number)) r.next (min r.best value) h is at e (ap (λ l. set l 1 (min r.best value)) is.words_are) refl new in (
      (is.running, l, subst (λ (a : Actor). IsSome a.held) (sym own) refl),
      subst (λ (m : ℕ). IsRound (set words 1 (min m value)) (set views id (told v x value)) (moved r (Report v.book.number value))) (sym c) after,
    )

pub split_stays : SplitLeavesTheState
split_stays t words views r id v h is at e root room =
    let made : v.made ≡ h.made = (h.each_view id v at).root root in
    let views' : List View = set views id (split v) ++ newcomer v ∷ [] in
    let free : times v.made (seat_numbers (books views)) ≡ 0 = h.seats v.made ∙ none_if (ltb v.made h.made) (le-ltb v.made h.made (omega arith)) in
    let P : View → Type 0 = λ u. All (λ b. actor_at r b.number ≡ actor_of r.count b) (books_in u) in
    record {
      words_are = is.words_are;
      running = is.running;
      actors = is.actors;
      seats = λ j u e'. ⊎_elim
          (λ (was : get_elem? (set views id (split v)) j ≡ some u). ⊎_elim
          (λ (x : (j ≡ id) × (split v ≡ u)). subst P x.1 (is.seats id v at))
          (λ (x : (j ≢ id) × (get_elem? views j ≡ some u)). is.seats j u x.1)
          (at_set views id j (split v) u was))
          (λ (new : newcomer v ≡ u). subst P new (All-cons (λ (b : Book). actor_at r b.number ≡ actor_of r.count b) (empty_book v.made) [] (is.others v.made free) (All-nil (λ (b : Book). actor_at r b.number ≡ actor_of r.count b))))
          (at_snoc (set views id (split v)) (newcomer v) u j e');
      others = λ k none.
          let s = split_sum (has k) views id v at in
          let c = seats_count k (books views') in let d = seats_count k (books views) in
          is.others k (omega arith);
    }

pub join_stays : JoinLeavesTheState
join_stays t words views r id v other u h is at e root apart at' e' =
    let was : get_elem? views other ≡ some u = sym (set_else views id other (joined v u) apart) ∙ at' in
    let plain = no_other_root views id other v u h.one_root at root apart was in
    let empty = ((h.each_view other u was).others plain).1 in
    let views' : List View = set (set views id (joined v u)) other nothing in
    let Q : Book → Type 0 = λ b. actor_at r b.number ≡ actor_of r.count b in
    let P : View → Type 0 = λ u. All Q (books_in u) in
    let mine = subst (All Q) (live v e) (is.seats id v at) in
    let theirs = subst (All Q) (live u e') (is.seats other u was) in
    record {
      words_are = is.words_are;
      running = is.running;
      actors = is.actors;
      seats = λ j w k. ⊎_elim
          (λ (x : (j ≡ other) × (nothing ≡ w)). subst P x.1 (All-nil Q))
          (λ (x : (j ≢ other) × (get_elem? (set views id (joined v u)) j ≡ some w)). ⊎_elim
          (λ (y : (j ≡ id) × (joined v u ≡ w)). subst P y.1 (subst (All Q) (sym (live (joined v u) e)) (All-push Q (v.book ∷ v.left) u.book mine (All-head Q u.book u.left theirs))))
          (λ (y : (j ≢ id) × (get_elem? views j ≡ some w)). is.seats j w y.1)
          (at_set views id j (joined v u) w x.1))
          (at_set (set views id (joined v u)) other j nothing w k);
      others = λ k none.
          let s = join_sum (has k) views id other v u at e at' e' empty in
          let c = seats_count k (books views') in let d = seats_count k (books views) in
          is.others k (omega arith);
    }

nobody : (n a : ℕ) → get_or (replicate n idle) a idle ≡ idle
nobody zero a = refl
nobody (suc n) zero = refl
nobody (suc n) (suc a) = nobody n a

pub opens : OpensAtTheStart
opens t = record {
  words_are = refl;
  running = refl;
  actors = length-replicate 256 idle;
  seats = one;
  others = λ a _. nobody 256 a;
}
  where
    Q : Book → Type 0
    Q b = actor_at (start t.count t.first 256) b.number ≡ actor_of t.count b

    one : (id : ℕ) (v : View) → get_elem? (root_view t ∷ []) id ≡ some v → All (λ b. actor_at (start t.count t.first 256) b.number ≡ actor_of t.count b) (books_in v)
    one zero v e = subst (λ (v : View). All (λ b. actor_at (start t.count t.first 256) b.number ≡ actor_of t.count b) (books_in v)) (some-injective (root_view t) v e)
        (All-cons (λ (b : Book). actor_at (start t.count t.first 256) b.number ≡ actor_of t.count b) (empty_book 0) [] (nobody 256 0) (All-nil (λ (b : Book). actor_at (start t.count t.first 256) b.number ≡ actor_of t.count b)))
    one (suc id) v e = absurd (some-ne-none v (sym e))

pub reaches_more : (r s : Round) (es : List Event) (e : Event) → Reaches r es s → Possible s e → Reaches r (es ++ e ∷ []) (moved s e)
reaches_more r s [] e same p = (subst (λ (s : Round). Possible s e) same p, ap (λ (s : Round). moved s e) same)
reaches_more r s (f ∷ es) e h p = (h.0, reaches_more (moved r f) s es e h.1 p)
