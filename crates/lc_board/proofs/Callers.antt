-- For whoever draws, reports and closes.
--   owes         after a claim the seat owes the number
--   settled      after a report it owes none
--   was_drawn    a number below the counter stands among the drawn ones
--   is_below     a drawn number is below the counter
use Rattle.std.proofs.Common.{◌≡◌, ℕ, ◌<◌, ◌≤◌, cond, eqb, ltb, List, [], ◌∷◌, ◌++◌, get_or, sym, ap, ◌∙◌, subst, ⊎_elim, arith}
use Rattle.std.specs.Prelude.{Contains}
use Rattle.std.proofs.lemmas.Bool.{cases_lt, lt-ltb, le-ltb, eqb-true}
use Rattle.std.proofs.lemmas.Bool.Decides.{nat_tests}
use Rattle.std.proofs.lemmas.List.{map-append}
use Rattle.std.proofs.lemmas.List.Sums.{get_or-le-sum_by}
use Rattle.lc_board.specs.Counting.{StandOnce}
use Rattle.lc_board.specs.Board.{drew, told, AllReported, Owes}
use Rattle.lc_board.specs.declared.views.View.{View}
use Rattle.lc_board.proofs.Counting.{at_get, one_if, none_if}
use Rattle.lc_board.proofs.Sentences.{one_of}

pub owes : (v w : View) (x : ℕ) → AllReported v.book → w ≡ drew v x → Owes w.book x
owes v w x all e = subst (λ (w : View). Owes w.book x) (sym e) (ap (λ l. l ++ x ∷ []) all)

pub settled : (v w : View) (x value : ℕ) → Owes v.book x → w ≡ told v x value → AllReported w.book
settled v w x value owed e = subst (λ (w : View). AllReported w.book) (sym e) (owed ∙ sym (map-append (λ (p : ℕ × ℕ). p.0) v.book.reported ((x, value) ∷ [])))

pub was_drawn : (n : ℕ) (xs : List ℕ) (x : ℕ) → StandOnce n xs → x < n → Contains xs x
was_drawn n xs x once l =
    let f = one_of (λ (y : ℕ). eqb y x) xs (once x ∙ one_if (ltb x n) (lt-ltb x n l)) in
    let g = at_get xs f.0 f.1 x f.2 in
    (f.0, g.0, g.1 ∙ eqb-true f.1 x f.3)

pub is_below : (n : ℕ) (xs : List ℕ) (x : ℕ) → StandOnce n xs → Contains xs x → x < n
is_below n xs x once c =
    let a = get_or-le-sum_by (λ y. cond (eqb y x) 1 0) xs c.0 x c.1 in
    let same : cond {A = ℕ} (eqb (get_or xs c.0 x) x) 1 0 ≡ cond (eqb x x) 1 0 = ap (λ (y : ℕ). cond {A = ℕ} (eqb y x) 1 0) c.2 in
    let one : cond {A = ℕ} (eqb x x) 1 0 ≡ 1 = grind (arith, nat_tests) in
    let o = once x in
    ⊎_elim (λ (l : x < n). l) (λ (ge : n ≤ x). let z = none_if (ltb x n) (le-ltb x n ge) in absurd (omega arith)) (cases_lt x n)
