-- The workers of a round.
--   both_done         two halves that have done their work are a whole that has
--   written_back      what a slice of a whole list writes back is the list
--   one_done          a list of one worker that has
--   all_after         what holds of each of two lists holds of each of the second
--   grown             what holds of each holds after one more
--   fresh_fits        rooms that have counted nothing were made for the blocks
--   all_fit           so do they with the rooms of workers that have done their work
--   nothing_counted   and their counts are together 0
--   is_root_last, last_is_root      the root's seat is the last worker's
--   none_numbered     before the first one there is no number
--   numbered_on       after one more worker the numbers go on
--   numbered_last     and with the root, whose number is 0, they are as they have to be
--   tables_of         the tables of the last seat and of the others
--   closed_at         what a board and the rooms show, for one count
--   closed            what a board and the rooms show after the seats of workers that have done their work have closed it
--   rooms_back        what the rooms have counted, beside others that have counted nothing
use Rattle.std.proofs.Common.{◌≡◌, ℕ, ◌+◌, ◌-◌, ◌<◌, ◌≤◌, min, ◌==◌, true, false, Some, List, [], ◌∷◌, ◌++◌, map, length, get_or, take, drop, set, refl, sym, ap, ap₂, ◌∙◌, subst, arith, length-append}
use Rattle.std.specs.Prelude.{All, sum_by}
use Rattle.std.proofs.lemmas.Bool.{false≢true}
use Rattle.std.proofs.lemmas.List.{map-append, take_at, get_or_push}
use Rattle.std.proofs.lemmas.List.Elements.{All-nil, All-cons, All-head, All-tail, All-append, All-map, All-weaker, All-pop, All-push}
use Rattle.std.proofs.lemmas.List.Sums.{sum_by-cons, sum_by-append}
use Rattle.lc_enumeration.specs.Message.{numbers_from}
use Rattle.lc_enumeration.proofs.RecordsLaws.{numbers_append}
use Rattle.lc_board.specs.Counting.{StandOnce, least}
use Rattle.lc_board.specs.Board.{drawn_numbers, reported_values}
use Rattle.lc_board.specs.Seats.{Opened, Seated, books_of}
use Rattle.lc_crew.specs.declared.halves.Worker.{Worker}
use Rattle.lc_crew.specs.Crew.{IsFresh, IsDone, Station, HaveDone, IsRootLast, AreNumbered, station, least_over}
use Rattle.lc_crew.proofs.GatherLaws.{Share, ShareDone, books_in, all_done}

module _ {W : Type 0} (fits : W → Type 0) (tally : W → ℕ → ℕ) (value : ℕ → ℕ) (share : ℕ → ℕ → ℕ) (b : Opened) where
  pub both_done : (whole front back front' back' : List (Worker W)) → whole ≡ front ++ back → HaveDone fits tally value share b front front' → HaveDone fits tally value share b back back' → HaveDone fits tally value share b whole (front' ++ back')
  both_done whole front back front' back' e h k = record {
    done = All-append (IsDone tally value share b) front' back' h.done k.done;
    rooms = All-append (λ (w : Worker W). fits w.room) front' back' h.rooms k.rooms;
    stations = map-append station front' back' ∙ ap₂ ◌++◌ h.stations k.stations ∙ sym (map-append station front back) ∙ ap (map station) (sym e);
  }

  pub written_back : (before now after : List (Worker W)) (n : ℕ) → now ≡ before → n ≡ length before → length after ≡ length now → HaveDone fits tally value share b now after
      → HaveDone fits tally value share b before (take n (after ++ drop (length after) before))
  written_back before now after n same whole kept h =
      let long : length now ≡ length before = ap (λ (l : List (Worker W)). length l) same in
      let is : take n (after ++ drop (length after) before) ≡ after = take_at after (drop (length after) before) n (omega arith) in
      subst (λ l. HaveDone fits tally value share b l (take n (after ++ drop (length after) before))) same (subst (HaveDone fits tally value share b now) (sym is) h)

pub one_done : {W : Type 0} (fits : W → Type 0) (tally : W → ℕ → ℕ) (value : ℕ → ℕ) (share : ℕ → ℕ → ℕ) (b : Opened) (ws : List (Worker W)) (w after : Worker W) → length ws < 2 → false ≡ (length ws == 0) → IsDone tally value share b after → fits after.room → station after ≡ station (get_or ws 0 w) → HaveDone fits tally value share b ws (set ws 0 after)
one_done fits tally value share b [] w after few some done room same = absurd (false≢true some)
one_done {W} fits tally value share b (x ∷ []) w after few some done room same = record {
  done = All-cons (IsDone tally value share b) after [] done (All-nil (IsDone tally value share b));
  rooms = All-cons (λ (w : Worker W). fits w.room) after [] room (All-nil (λ (w : Worker W). fits w.room));
  stations = ap (λ s. s ∷ []) same;
}
one_done fits tally value share b (x ∷ y ∷ ws) w after few some done room same = absurd (omega (arith, few))

pub all_after : {X : Type 0} (P : X → Type 0) (xs ys : List X) → All P (xs ++ ys) → All P ys
all_after P [] ys all = all
all_after P (x ∷ xs) ys all = all_after P xs ys (All-tail P x (xs ++ ys) all)

pub grown : {X : Type 0} (P : X → Type 0) (xs ys : List X) (x : X) → ys ≡ xs ++ x ∷ [] → All P xs → P x → All P ys
grown P xs ys x e all p = subst (All P) (sym e) (All-push P xs x all p)

pub fresh_fits : {W : Type 0} (fits : W → Type 0) (tally : W → ℕ → ℕ) (rooms : List W) → All (IsFresh fits tally) rooms → All fits rooms
fresh_fits fits tally rooms all = All-weaker (IsFresh fits tally) fits (λ w h. h.0) rooms all

pub all_fit : {W : Type 0} (fits : W → Type 0) (tally : W → ℕ → ℕ) (before after : List W) (ws : List (Worker W)) → after ≡ before ++ map (λ w. w.room) ws → All (IsFresh fits tally) before → All (λ w. fits w.room) ws → All fits after
all_fit {W} fits tally before after ws e fresh rooms =
    subst (All fits) (sym e) (All-append fits before (map (λ (w : Worker W). w.room) ws) (fresh_fits fits tally before fresh) (All-map fits (λ (w : Worker W). w.room) ws rooms))

pub nothing_counted : {W : Type 0} (fits : W → Type 0) (tally : W → ℕ → ℕ) (rooms : List W) (j : ℕ) → All (IsFresh fits tally) rooms → sum_by (λ w. tally w j) rooms ≡ 0
nothing_counted fits tally [] j all = refl
nothing_counted fits tally (w ∷ rooms) j all =
    omega (arith, sum_by-cons (λ w. tally w j) w rooms, (All-head (IsFresh fits tally) w rooms all).1 j, nothing_counted fits tally rooms j (All-tail (IsFresh fits tally) w rooms all))

pub is_root_last : {W : Type 0} (ws front : List (Worker W)) (last : Worker W) → ws ≡ front ++ last ∷ [] → last.number ≡ 0 → last.seat.view.root ≡ true → last.seat.view.made ≡ length ws → IsRootLast ws
is_root_last ws front last e number root made =
    (map station front, ap (map station) e ∙ map-append station front (last ∷ []) ∙ (λ i. map station front ++ (record { number = number i; root = root i; made = made i }) ∷ []))

pub last_is_root : {W : Type 0} (ws front : List (Worker W)) (last : Worker W) → IsRootLast ws → ws ≡ front ++ last ∷ [] → (last.seat.view.root ≡ true) × (last.seat.view.made ≡ length ws)
last_is_root ws front last r e =
    let end : Station = record { number = 0; root = true; made = length ws } in
    let same : map station front ++ station last ∷ [] ≡ r.0 ++ end ∷ [] = sym (map-append station front (last ∷ [])) ∙ ap (map station) (sym e) ∙ r.1 in
    let n = length (map station front) in
    let a = length-append (map station front) (station last ∷ []) in
    let b = length-append r.0 (end ∷ []) in
    let lengths : length (map station front ++ station last ∷ []) ≡ length (r.0 ++ end ∷ []) = ap (λ (l : List Station). length l) same in
    let ends : station last ≡ end =
    sym (get_or_push (map station front) (station last) (station last) n refl)
    ∙ ap (λ l. get_or l n (station last)) same
    ∙ get_or_push r.0 end (station last) n (omega arith) in
    (ap (λ (s : Station). s.root) ends, ap (λ (s : Station). s.made) ends)

pub none_numbered : {W : Type 0} (ws : List (Worker W)) → ws ≡ [] → map (λ w. w.number) ws ≡ numbers_from 1 0
unfolding numbers_from
none_numbered {W} ws e = ap (map (λ (w : Worker W). w.number)) e

pub numbered_on : {W : Type 0} (n : ℕ) (before after : List (Worker W)) (w : Worker W) → after ≡ before ++ w ∷ [] → map (λ w. w.number) before ≡ numbers_from 1 (n - 1) → 1 ≤ n → w.number ≡ n → map (λ w. w.number) after ≡ numbers_from 1 (n + 1 - 1)
unfolding numbers_from
numbered_on {W} n before after w e so some is =
    let number = λ (w : Worker W). w.number in
    let last : 1 + (n - 1) ≡ w.number = omega (arith, some, is) in
    let whole : n - 1 + 1 ≡ n + 1 - 1 = omega (arith, some) in
    ap (map number) e ∙ map-append number before (w ∷ []) ∙ ap₂ ◌++◌ so (ap (λ m. m ∷ []) (sym last)) ∙ sym (numbers_append 1 (n - 1) 1) ∙ ap (numbers_from 1) whole

pub numbered_last : {W : Type 0} (n : ℕ) (before after : List (Worker W)) (w : Worker W) → after ≡ before ++ w ∷ [] → map (λ w. w.number) before ≡ numbers_from 1 (n - 1) → length before + 1 ≡ n → w.number ≡ 0 → AreNumbered after
numbered_last {W} n before after w e so many is =
    let number = λ (w : Worker W). w.number in
    let whole : n ≡ length after = omega (arith, many, ap (λ (l : List (Worker W)). length l) e, length-append before (w ∷ [])) in
    ap (map number) e ∙ map-append number before (w ∷ []) ∙ ap₂ ◌++◌ so (ap (λ m. m ∷ []) is) ∙ ap (λ m. numbers_from 1 (m - 1) ++ 0 ∷ []) whole

pub tables_of : {W : Type 0} (b : Opened) (all front : List (Worker W)) (last : Worker W) → all ≡ front ++ last ∷ [] → All (λ w. w.seat.table ≡ b.table) all → (last.seat.table ≡ b.table) × All (λ s. s.table ≡ b.table) (map (λ w. w.seat) front)
tables_of {W} b all front last e h =
    let both = All-pop (λ (w : Worker W). w.seat.table ≡ b.table) all front (Some last) e h in
    (both.1, All-map (λ (s : Seated). s.table ≡ b.table) (λ (w : Worker W). w.seat) front both.0)

module _ {W : Type 0} (tally : W → ℕ → ℕ) (value : ℕ → ℕ) (share : ℕ → ℕ → ℕ) where
  -- the share of a worker for one count
  abbrev share_of : ℕ → Worker W → Share
  share_of j w = record { book = w.seat.view.book; total = tally w.room j }

  books_are : (j : ℕ) (ws : List (Worker W)) → books_in (map (share_of j) ws) ≡ map (λ s. s.view.book) (map (λ w. w.seat) ws)
  books_are j [] = refl
  books_are j (w ∷ ws) = ap (λ l. w.seat.view.book ∷ l) (books_are j ws)

  totals_are : (j : ℕ) (ws : List (Worker W)) → sum_by (λ (s : Share). s.total) (map (share_of j) ws) ≡ sum_by (λ w. tally w j) (map (λ w. w.room) ws)
  totals_are j [] = refl
  totals_are j (w ∷ ws) =
      sum_by-cons (λ (s : Share). s.total) (share_of j w) (map (share_of j) ws)
      ∙ ap (λ n. tally w.room j + n) (totals_are j ws)
      ∙ sym (sum_by-cons (λ w. tally w j) w.room (map (λ w. w.room) ws))

  pub closed_at : (j start : ℕ) (b : Opened) (all front : List (Worker W)) (last : Worker W) (root : Seated) (seats : List Seated) (next claimed best : ℕ)
      → all ≡ front ++ last ∷ [] → root ≡ last.seat → seats ≡ map (λ w. w.seat) front → All (IsDone tally (λ x. value (start + x)) (λ x. share (start + x)) b) all
      → StandOnce next (drawn_numbers (books_of root seats)) → claimed ≡ min next b.count → best ≡ least b.first (reported_values (books_of root seats))
      → (claimed ≡ b.count) × (best ≡ least_over value b.first start b.count) × (sum_by (λ w. tally w j) (map (λ w. w.room) all) ≡ sum_by (λ x. share x j) (numbers_from start b.count))
  closed_at j start b all front last root seats next claimed best parts is_root are_seats done once is_claimed is_best =
      let Done = IsDone tally (λ x. value (start + x)) (λ x. share (start + x)) b in
      let P = ShareDone (λ x. value (start + x)) (λ x. share (start + x) j) b.count in
      let both = All-pop Done all front (Some last) parts done in
      let shares = share_of j last ∷ map (share_of j) front in
      let each = All-cons P (share_of j last) (map (share_of j) front) (both.1.1 j) (All-map P (share_of j) front (All-weaker Done (λ w. P (share_of j w)) (λ w d. d.1 j) front both.0)) in
      let books : books_of root seats ≡ books_in shares = ap₂ (λ (r : Seated) (ss : List Seated). books_of r ss) is_root are_seats ∙ ap (λ l. last.seat.view.book ∷ l) (sym (books_are j front)) in
      let k = all_done value (λ x. share x j) b.first start b.count next shares (omega arith) each (subst (λ bs. StandOnce next (drawn_numbers bs)) books once) in
      let tallies = λ (w : W). tally w j in
      let rooms : map (λ w. w.room) all ≡ map (λ w. w.room) front ++ last.room ∷ [] = ap (map (λ (w : Worker W). w.room)) parts ∙ map-append (λ (w : Worker W). w.room) front (last ∷ []) in
      let whole : sum_by tallies (map (λ w. w.room) all) ≡ sum_by tallies (map (λ w. w.room) front) + sum_by tallies (last.room ∷ []) = ap (sum_by tallies) rooms ∙ sum_by-append tallies (map (λ w. w.room) front) (last.room ∷ []) in (
        is_claimed ∙ k.claimed,
        is_best ∙ ap (λ bs. least b.first (reported_values bs)) books ∙ k.best,
        omega (arith, whole, sum_by-cons tallies last.room [], totals_are j front, sum_by-cons (λ (s : Share). s.total) (share_of j last) (map (share_of j) front), k.sum),
      )

  pub closed : (start : ℕ) (b : Opened) (all front : List (Worker W)) (last : Worker W) (root : Seated) (seats : List Seated) (next claimed best : ℕ)
      → all ≡ front ++ last ∷ [] → root ≡ last.seat → seats ≡ map (λ w. w.seat) front → All (IsDone tally (λ x. value (start + x)) (λ x. share (start + x)) b) all
      → StandOnce next (drawn_numbers (books_of root seats)) → claimed ≡ min next b.count → best ≡ least b.first (reported_values (books_of root seats))
      → (claimed ≡ b.count) × (best ≡ least_over value b.first start b.count) × ((j : ℕ) → sum_by (λ w. tally w j) (map (λ w. w.room) all) ≡ sum_by (λ x. share x j) (numbers_from start b.count))
  closed start b all front last root seats next claimed best parts is_root are_seats done once is_claimed is_best =
      let at = λ (j : ℕ). closed_at j start b all front last root seats next claimed best parts is_root are_seats done once is_claimed is_best in
      ((at 0).0, (at 0).1, λ j. (at j).2)

pub rooms_back : {W : Type 0} (fits : W → Type 0) (tally : W → ℕ → ℕ) (before after rooms : List W) (j total : ℕ) → after ≡ before ++ rooms → All (IsFresh fits tally) before → sum_by (λ w. tally w j) rooms ≡ total → sum_by (λ w. tally w j) after ≡ total
rooms_back fits tally before after rooms j total e fresh is =
    let all = ap (sum_by (λ w. tally w j)) e in
    omega (arith, all, sum_by-append (λ w. tally w j) before rooms, nothing_counted fits tally before j fresh, is)
