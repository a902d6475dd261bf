-- What each step on a board's table asks for.
--   opened            a new board is under the rule
--   claim_keeps_rule, report_keeps_rule, split_keeps_rule, join_keeps_rule    and each step leaves it so
--   claims, reports, splits, joins    the step is allowed
--   joined_more       the root's view after one more join
--   closes, closed_by                            what the last state of a table says, with the root's view
use Rattle.std.proofs.Common.{◌≡◌, ℕ, ◌+◌, ◌%◌, ◌^◌, ◌<◌, ◌≤◌, min, true, false, cond, eqb, ltb, List, [], ◌∷◌, ◌++◌, length, get_or, set, append_assoc, map, refl, sym, ap, ◌∙◌, subst, arith}
use Rattle.std.specs.Prelude.{All, slice_index, count_by}
use Rattle.std.proofs.lemmas.List.{get_or_push, length-map, map-append}
use Rattle.std.proofs.Math.Nat.{mod-eq_of_lt}
use mathlib.Core.Option.{some, none}
use lib.ListN.{get_elem?}
use Rattle.atomic_table.specs.Table.{State, Me, step, keeps, Allows, Splits, Joins, Final, Seen}
use Rattle.lc_board.specs.Counting.{StandOnce, least}
use Rattle.lc_board.specs.Board.{root_view, nothing, drew, told, split, newcomer, joined, AllReported, Owes, reported_numbers, drawn_numbers, reported_values, BoardRule, Draws, Tells}
use Rattle.lc_board.specs.Round.{start, moved}
use Rattle.lc_board.specs.Machine.{IsReached, IsRuled, OpensUnderTheRule, ClaimKeepsTheRule, ReportKeepsTheRule, SplitKeepsTheRule, JoinKeepsTheRule}
use Rattle.lc_board.specs.declared.round.Event.TheVariants.{Claim, Report}
use Rattle.lc_board.specs.Seats.{Seated, joined_all}
use Rattle.lc_board.specs.declared.views.Terms.{Terms}
use Rattle.lc_board.specs.declared.views.Book.{Book}
use Rattle.lc_board.specs.declared.views.View.{View}
use Rattle.lc_board.proofs.Counting.{at_get}
use Rattle.lc_board.proofs.Machines.{opens, claim_event, report_event, split_stays, join_stays, reaches_more}
use Rattle.lc_board.proofs.Boards.{begins, drawn_below, claim_keeps, report_keeps, split_keeps, join_keeps, whole, far_below}

abbrev Holds : Terms → State (Unit {0}) View → Type 0
Holds t s = IsRuled t s.words s.views

counter : (t : Terms) (words : List ℕ) (views : List View) (h : BoardRule t words views) → slice_index words 0 ≡ h.next
counter t words views h = ap (λ l. get_or l 0 0) h.words_are

best_word : (t : Terms) (words : List ℕ) (views : List View) (h : BoardRule t words views) → slice_index words 1 ≡ h.best
best_word t words views h = ap (λ l. get_or l 1 0) h.words_are

-- word 0 doesn't wrap
no_wrap : (t : Terms) (words : List ℕ) (views : List View) (h : BoardRule t words views) → (slice_index words 0 + 1) % 2 ^ 64 ≡ h.next + 1
no_wrap t words views h =
    let c = counter t words views h in let f = far_below t words views h in let s = h.small in let w = h.few in
    let small : slice_index words 0 + 1 < 2 ^ 64 = omega arith in
    mod-eq_of_lt small ∙ ap (λ n. n + 1) c

claim_reached : (t : Terms) (words : List ℕ) (views : List View) (id : ℕ) (v : View) → IsRuled t words views → get_elem? views id ≡ some v → v.spent ≡ false → AllReported v.book
    → IsReached t (set words 0 (slice_index words 0 + 1)) (set views id (drew v (slice_index words 0)))
claim_reached t words views id v h at e all =
    let r = h.1.0 in
    let k = claim_event t words views r id v h.0 h.1.3 at e all in
    (moved r (Claim v.book.number), h.1.1 ++ Claim v.book.number ∷ [], reaches_more (start t.count t.first 256) r h.1.1 (Claim v.book.number) h.1.2 k.0, k.1)

pub claim_keeps_rule : ClaimKeepsTheRule
claim_keeps_rule t words views id v h at e all =
    let c = counter t words views h.0 in
    (subst (λ (n : ℕ). BoardRule t (set words 0 (n + 1)) (set views id (drew v n))) (sym c) (claim_keeps t words views id v h.0 at e all), claim_reached t words views id v h at e all)

claim_ruled : (t : Terms) (words : List ℕ) (views : List View) (id : ℕ) (v : View) → IsRuled t words views → get_elem? views id ≡ some v → v.spent ≡ false → AllReported v.book
    → IsRuled t (set words 0 ((slice_index words 0 + 1) % 2 ^ 64)) (set views id (drew v (slice_index words 0)))
claim_ruled t words views id v h at e all =
    let c = counter t words views h.0 in
    let same : (slice_index words 0 + 1) % 2 ^ 64 ≡ slice_index words 0 + 1 = no_wrap t words views h.0 ∙ ap (λ n. n + 1) (sym c) in
    subst (λ (n : ℕ). IsRuled t (set words 0 n) (set views id (drew v (slice_index words 0)))) (sym same) (claim_keeps_rule t words views id v h at e all)

pub claims : (t : Terms) (slots id : ℕ) (m : Me (Unit {0}) View) → m.0.spent ≡ false → AllReported m.0.book
    → Allows (Holds t) slots id m 0 (λ n. (n + 1) % 2 ^ 64) (Draws (step slots 0 1 0 none) m)
claims t slots id m e all s h sized at fits =
    let c = counter t s.words s.views h.0 in (
      drew m.0 (slice_index s.words 0),
      keeps,
      tt,
      claim_ruled t s.words s.views id m.0 h at e all,
      (refl, refl, subst (λ (n : ℕ). All (λ y. y < n) m.0.book.drawn) (sym c) (drawn_below t s.words s.views id m.0 h.0 at e)),
    )

-- a book owes one number at most
same_last : (b : Book) (x y : ℕ) → Owes b x → Owes b y → x ≡ y
same_last b x y p q = let e : get_or (reported_numbers b ++ x ∷ []) (length (reported_numbers b)) 0 ≡ get_or (reported_numbers b ++ y ∷ []) (length (reported_numbers b)) 0 = ap (λ l. get_or l (length (reported_numbers b)) 0) (sym p ∙ q) in
    sym (get_or_push (reported_numbers b) x 0 (length (reported_numbers b)) refl) ∙ e ∙ get_or_push (reported_numbers b) y 0 (length (reported_numbers b)) refl

pub report_keeps_rule : ReportKeepsTheRule
report_keeps_rule t words views id v x value h at e owes small =
    let r = h.1.0 in
    let b = best_word t words views h.0 in
    let k = report_event t words views r id v x value h.0 h.1.3 at e owes small in (
      subst (λ (n : ℕ). BoardRule t (set words 1 (min n value)) (set views id (told v x value))) (sym b) (report_keeps t words views id v x value h.0 at e owes small),
      (moved r (Report v.book.number value), h.1.1 ++ Report v.book.number value ∷ [], reaches_more (start t.count t.first 256) r h.1.1 (Report v.book.number value) h.1.2 k.0, k.1),
    )

pub reports : (t : Terms) (slots id x value : ℕ) (m : Me (Unit {0}) View) → m.0.spent ≡ false → Owes m.0.book x → x < t.count
    → Allows (Holds t) slots id m 1 (λ n. min n value) (Tells (step slots 1 value 0 none) m)
reports t slots id x value m e owes small s h sized at fits = (
  told m.0 x value,
  keeps,
  tt,
  report_keeps_rule t s.words s.views id m.0 x value h at e owes small,
  ((λ y owes'. ap (λ (z : ℕ). told m.0 z value) (same_last m.0.book x y owes owes')), refl),
)

pub split_keeps_rule : SplitKeepsTheRule
split_keeps_rule t words views id v h at e r room = (split_keeps t words views id v h.0 at e r room, (h.1.0, h.1.1, h.1.2, split_stays t words views h.1.0 id v h.0 h.1.3 at e r room))

pub splits : (t : Terms) (id : ℕ) (v : View) → v.spent ≡ false → v.root ≡ true → v.made < 256 → Splits (Holds t) id v (split v) (newcomer v)
splits t id v e r room s h at = split_keeps_rule t s.words s.views id v h at e r room

pub join_keeps_rule : JoinKeepsTheRule
join_keeps_rule t words views id v other w h at e r apart at' e' =
    (join_keeps t words views id other v w h.0 at e r apart at' e', (h.1.0, h.1.1, h.1.2, join_stays t words views h.1.0 id v other w h.0 h.1.3 at e r apart at' e'))

pub joins : (t : Terms) (id other : ℕ) (v w : View) → v.spent ≡ false → v.root ≡ true → w.spent ≡ false → Joins (Holds t) id v other w (joined v w) nothing
joins t id other v w e r e' s h at apart at' = join_keeps_rule t s.words s.views id v other w h at e r apart at' e'

-- a new board
pub opened : OpensUnderTheRule
opened t small = (begins t small, (start t.count t.first 256, [], refl, opens t))

-- what a closed board shows, from the root that took in all others
pub closes : (t : Terms) (id : ℕ) (v : View) (words : List ℕ) (slots : List (Unit {0})) → v.spent ≡ false → v.root ≡ true → length v.left + 1 ≡ v.made → Final (Seen (Holds t) id v) words slots
    → StandOnce (slice_index words 0) (drawn_numbers (v.book ∷ v.left)) × (slice_index words 1 ≡ least t.first (reported_values (v.book ∷ v.left)))
closes t id v words slots e r all final =
    let s = final.0 in let h = final.1.0.0 in let at = final.1.1 in
    let is = whole t s.words s.views id v h at e r all in (
      (λ x. subst (λ l. StandOnce (slice_index l 0) (drawn_numbers (v.book ∷ v.left))) final.2
          (λ y. ap (λ bs. count_by (λ z. eqb z y) (drawn_numbers bs)) (sym is) ∙ h.drawn y ∙ ap (λ n. cond (ltb y n) 1 0) (sym (counter t s.words s.views h))) x),
      ap (λ l. slice_index l 1) (sym final.2) ∙ best_word t s.words s.views h ∙ h.least_is ∙ ap (λ bs. least t.first (reported_values bs)) is,
    )

-- a root that took in one more
pub joined_more : (v now w : View) (ys : List Seated) (o : Seated) → now ≡ joined_all v ys → w ≡ o.view → joined now w ≡ joined_all v (ys ++ o ∷ [])
joined_more v now w ys o is e =
    ap (λ (n : View). joined n w) is ∙ ap (λ (w : View). joined (joined_all v ys) w) e
    ∙ ap (λ (l : List Book). let u : View = record v { left = l } in u) (append_assoc v.left (map (λ s. s.view.book) ys) (o.view.book ∷ []) ∙ ap (λ (l : List Book). v.left ++ l) (sym (map-append (λ (s : Seated). s.view.book) ys (o ∷ []))))

pub closed_by : (t : Terms) (id : ℕ) (root v : View) (others : List Seated) (words : List ℕ) (slots : List (Unit {0})) (next best : ℕ)
    → v ≡ joined_all root others → root.spent ≡ false → root.left ≡ [] → root.root ≡ true → length others + 1 ≡ root.made → Final (Seen (Holds t) id v) words slots
    → get_elem? words 0 ≡ some next → get_elem? words 1 ≡ some best
    → StandOnce next (drawn_numbers (root.book ∷ map (λ s. s.view.book) others)) × (best ≡ least t.first (reported_values (root.book ∷ map (λ s. s.view.book) others)))
closed_by t id root v others words slots next best is e empty r all final at at' =
    let bs : List Book = map (λ s. s.view.book) others in
    let left : v.left ≡ bs = ap (λ (v : View). v.left) is ∙ ap (λ l. l ++ bs) empty in
    let book : v.book ≡ root.book = ap (λ (v : View). v.book) is in
    let many : length v.left ≡ length others = ap (λ (l : List Book). length l) left ∙ length-map others (λ (s : Seated). s.view.book) in
    let made : v.made ≡ root.made = ap (λ (v : View). v.made) is in
    let k = closes t id v words slots (ap (λ (v : View). v.spent) is ∙ e) (ap (λ (v : View). v.root) is ∙ r) (omega arith) final in
    let all_books : v.book ∷ v.left ≡ root.book ∷ bs = λ i. book i ∷ left i in
    let n : slice_index words 0 ≡ next = (at_get words 0 next 0 at).1 in
    let b : slice_index words 1 ≡ best = (at_get words 1 best 0 at').1 in (
      subst (λ l. StandOnce next (drawn_numbers l)) all_books (subst (λ n. StandOnce n (drawn_numbers (v.book ∷ v.left))) n k.0),
      sym b ∙ k.1 ∙ ap (λ l. least t.first (reported_values l)) all_books,
    )
