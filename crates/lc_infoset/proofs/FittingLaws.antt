-- The records of a true checkpoint fit the needs, and those of version 1 that are used give a true start.
--   answer_found, finished_state      the state that an answer tells
--   settled_is_best              a settled state is the best after the answer's blocks
--   best_fits                    the best word fits its need
--   settled_fits, underway_fits  so do a settled state and one under way
--   misfit_from_none, true_start_fits      a true start has no misfit
--   by_one                       1 for the divisor of each code
--   used_before, used_is_true    the used records of a true checkpoint of version 1 give a true start
--   used_later                   those of version 2 are all
use Rattle.std.proofs.Common.{◌≡◌, ℕ, suc, ◌*◌, ◌<◌, ◌≤◌, ◌⊎◌, Bool, true, false, ◌==◌, ◌&&◌, ◌||◌, nat_lt, nat_le, if◌then◌else◌, find, take, List, [], ◌∷◌, ◌++◌, length, Option, Some, None, option_map, unwrap_or, is_some, refl, sym, ap, subst, ◌∙◌, inl, inr, ⊎_elim, arith}
use Rattle.std.proofs.lemmas.Bool.{cases_Bool, cases_lt, and_from, or_left, or_right, eq-eqb, lt-ltb, false≢true}
use Rattle.std.proofs.lemmas.List.Elements.{All-head, All-tail}
use Rattle.lc_algebra.specs.Word.{weight}
use Rattle.lc_algebra.specs.Matrix.{Matrix}
use Rattle.lc_algebra.proofs.SpanLaws.{contains_cases}
use Rattle.lc_enumeration.specs.Search.{Found, Answer, no_word, exact, bracket, set_count, word_of, word_at, found_first, found_from, best, bound, is_done, answer_at, answer, may_end, finished, weight_at, fits, fits_settled}
use Rattle.lc_enumeration.specs.Records.{Progress, Start, found_of, IsBestAt}
use Rattle.lc_enumeration.specs.Fitting.{first_divisible, start_before, used_start, too_many, count_current, misfit_at, misfit_from, misfit}
use Rattle.lc_enumeration.specs.Truth.{IsAtPlace, answer_blocks, IsSettled, AreSettled, IsUnderway, IsUnderwayNext, IsTrueStart}
use Rattle.lc_enumeration.proofs.SearchLaws.{found_is}
use Rattle.lc_infoset.proofs.AnswerLaws.{some_set}
use Rattle.lc_infoset.proofs.BestLaws.{first_message, first_at_zero, first_weight, first_place, best_is}
use Rattle.lc_infoset.proofs.RoundLaws.{done_list}
use Rattle.lc_infoset.proofs.SessionLaws.{HaveRows, answer_is}

unfoldable pub answer_found : Answer → Found
answer_found no_word = record { weight = 0; place = 0 }
answer_found (exact x l) = x
answer_found (bracket low x l) = x

-- the state that an answer tells is that in which the search is finished
pub finished_state : (d : ℕ) (C : Matrix) (budget l : ℕ) (x : Found) (a : Answer) → finished d C budget l x ≡ Some a → (answer_found a ≡ x) × (answer_blocks a ≡ l)
unfolding finished answer_found answer_blocks
finished_state d C budget l x a e = first (may_end C l && nat_le x.weight (bound d C l x.weight)) (l == budget) e
  where
    told : (b : Answer) → Some b ≡ Some a → (answer_found b ≡ x) × (answer_blocks b ≡ l) → (answer_found a ≡ x) × (answer_blocks a ≡ l)
    told b same h = let equal : b ≡ a = ap (λ (o : Option Answer). unwrap_or o b) same in subst (λ (c : Answer). (answer_found c ≡ x) × (answer_blocks c ≡ l)) equal h

    first : (t u : Bool) → (if t then Some (exact x l) else (if u then Some (bracket (bound d C l x.weight) x l) else None)) ≡ Some a → (answer_found a ≡ x) × (answer_blocks a ≡ l)
    first true u same = told (exact x l) same (refl, refl)
    first false true same = told (bracket (bound d C l x.weight) x l) same (refl, refl)
    first false false same = absurd (false≢true (ap is_some same))

answer_best : (d : ℕ) (C : Matrix) (budget : ℕ) (o : Option ℕ) → answer_found (answer_at d C budget o) ≡ best C (set_count C) (answer_blocks (answer_at d C budget o))
unfolding answer_found answer_blocks answer_at
answer_best d C budget None = refl
answer_best d C budget (Some l) = refl

pub settled_is_best : (d : ℕ) (C : Matrix) (budget : ℕ) (s : Progress) → 0 < length C.rows → IsSettled d C budget s → IsBestAt C s
settled_is_best d C budget s rows h =
    let a = answer d C budget in
    let t = finished_state d C budget s.blocks (found_of s) a h in
    let is : answer_found a ≡ best C (set_count C) (answer_blocks a) = subst (λ (b : Answer). answer_found b ≡ best C (set_count C) (answer_blocks b)) (sym (answer_is d C budget rows)) (answer_best d C budget (find (is_done d C) (done_list C budget))) in
    sym t.0 ∙ is ∙ ap (best C (set_count C)) t.1

weight_there : (C : Matrix) (place : ℕ) (w : List ℕ) → IsAtPlace C (set_count C) place w → weight_at C place ≡ weight w
unfolding weight_at
weight_there C place w h = ap (λ (o : Option (List ℕ)). weight (unwrap_or o [])) h

fits_when : (C : Matrix) (l : ℕ) (x : Found) (w : List ℕ) → (x.place ≡ 0) ⊎ (x.place < l * 4096) → IsAtPlace C (set_count C) x.place w → weight w ≡ x.weight → fits C l x ≡ true
unfolding fits
fits_when C l x w place h e =
    and_from ((x.place == 0) || nat_lt x.place (l * 4096)) (is_some (word_at C (set_count C) x.place) && (weight_at C x.place == x.weight))
    (⊎_elim (λ z. or_left (x.place == 0) (nat_lt x.place (l * 4096)) (eq-eqb x.place 0 z)) (λ b. or_right (x.place == 0) (nat_lt x.place (l * 4096)) (lt-ltb x.place (l * 4096) b)) place)
    (and_from (is_some (word_at C (set_count C) x.place)) (weight_at C x.place == x.weight) (ap is_some h) (eq-eqb (weight_at C x.place) x.weight (weight_there C x.place w h ∙ e)))

pub best_fits : (C : Matrix) (l : ℕ) → 0 < length C.rows → fits C l (best C (set_count C) l) ≡ true
best_fits C l rows =
    let m = set_count C in
    let first = found_first C m in
    let from = found_from C m 0 l in
    let x = best C m l in
    let here : first ≡ x → fits C l x ≡ true = λ e. subst (λ (y : Found). fits C l y ≡ true) e (fits_when C l first (word_of C m 0 first_message) (inl (first_place C m)) (subst (λ p. IsAtPlace C m p (word_of C m 0 first_message)) (sym (first_place C m)) (first_at_zero C m rows (some_set C))) (sym (first_weight C m))) in
    ⊎_elim here
    (λ r. ⊎_elim here (λ s. let t = found_is C m 0 l x s in fits_when C l x t.word.0 (inr (omega (arith, t.before))) t.word.1 t.word.2) (contains_cases first x from r))
    (contains_cases first x (first ∷ from) (best_is C m l).one)

pub underway_fits : (C : Matrix) (s : Progress) → 0 < length C.rows → IsBestAt C s → fits C s.blocks (found_of s) ≡ true
underway_fits C s rows h = ap (fits C s.blocks) h ∙ best_fits C s.blocks rows

pub settled_fits : (d : ℕ) (C : Matrix) (budget : ℕ) (s : Progress) → 0 < length C.rows → IsSettled d C budget s → fits_settled d C budget s.blocks (found_of s) ≡ true
unfolding fits_settled
settled_fits d C budget s rows h = and_from (fits C s.blocks (found_of s)) (is_some (finished d C budget s.blocks (found_of s))) (underway_fits C s rows (settled_is_best d C budget s rows h)) (ap is_some h)

pub misfit_from_none : (divisor : Matrix → ℕ) (before after : List Matrix) (budget : ℕ) (settled : List Progress) (current : Option Progress) (need : ℕ) → HaveRows (before ++ after) → AreSettled divisor budget before settled → IsUnderwayNext divisor budget after current → misfit_from divisor need (before ++ after) budget settled current ≡ None
unfolding misfit_from too_many count_current
misfit_from_none divisor [] [] budget [] None need rows h under = refl
misfit_from_none divisor [] [] budget [] (Some s) need rows h under = absurd under
misfit_from_none divisor [] (C ∷ after) budget [] None need rows h under = refl
misfit_from_none divisor [] (C ∷ after) budget [] (Some s) need rows h under =
    ap (λ b. (if b then None else Some (misfit_at need C s))) (underway_fits C s (All-head (λ (D : Matrix). 0 < length D.rows) C after rows) under.best)
misfit_from_none divisor [] after budget (s ∷ settled) current need rows h under = absurd h
misfit_from_none divisor (C ∷ before) after budget [] current need rows h under = absurd h
misfit_from_none divisor (C ∷ before) after budget (s ∷ settled) current need rows h under =
    ap (λ b. (if b then misfit_from divisor (suc need) (before ++ after) budget settled current else Some (misfit_at need C s))) (settled_fits (divisor C) C budget s (All-head (λ (D : Matrix). 0 < length D.rows) C (before ++ after) rows) h.0)
    ∙ misfit_from_none divisor before after budget settled current (suc need) (All-tail (λ (D : Matrix). 0 < length D.rows) C (before ++ after) rows) h.1 under

pub true_start_fits : (divisor : Matrix → ℕ) (needs : List Matrix) (budget : ℕ) (start : Start) → HaveRows needs → IsTrueStart divisor needs budget start → misfit divisor needs budget start ≡ None
unfolding misfit
true_start_fits divisor needs budget start rows h =
    ap (λ ns. misfit_from divisor 0 ns budget start.settled start.current) h.split
    ∙ misfit_from_none divisor h.before h.after budget start.settled start.current 0 (subst HaveRows h.split rows) h.settled h.current

-- no divisor but 1
without : (n : ℕ) → 1 ≤ n → nat_lt 1 n ≡ false → 1 ≡ n
without n p f = ⊎_elim (λ l. absurd (false≢true (sym f ∙ lt-ltb 1 n l))) (λ l. omega (arith, l, p)) (cases_lt 1 n)

abbrev pub by_one : Matrix → ℕ
by_one C = 1

empty_start_is_true : (divisor : Matrix → ℕ) (needs : List Matrix) (budget : ℕ) → IsTrueStart divisor needs budget (record { settled = []; current = None })
empty_start_is_true divisor needs budget = record { before = []; after = needs; split = refl; settled = tt; current = tt }

with_settled : (divisor : Matrix → ℕ) (C : Matrix) (needs : List Matrix) (budget : ℕ) (s : Progress) (settled : List Progress) (current : Progress) (r : Option ℕ) → IsSettled (divisor C) C budget s → IsTrueStart divisor needs budget (start_before settled current r) → IsTrueStart divisor (C ∷ needs) budget (start_before (s ∷ settled) current (option_map suc r))
unfolding start_before
with_settled divisor C needs budget s settled current None one t = record {
  before = C ∷ t.before;
  after = t.after;
  split = ap (λ ns. C ∷ ns) t.split;
  settled = (one, t.settled);
  current = t.current;
}
with_settled divisor C needs budget s settled current (Some i) one t = record {
  before = C ∷ t.before;
  after = t.after;
  split = ap (λ ns. C ∷ ns) t.split;
  settled = (one, t.settled);
  current = t.current;
}

pub used_before : (divisor : Matrix → ℕ) → ((C : Matrix) → 1 ≤ divisor C) → (before after : List Matrix) (budget : ℕ) (settled : List Progress) (current : Progress) → AreSettled by_one budget before settled → IsUnderwayNext by_one budget after (Some current) → IsTrueStart divisor (before ++ after) budget (start_before settled current (first_divisible divisor (take (suc (length settled)) (before ++ after))))
unfolding first_divisible start_before
used_before divisor some [] [] budget [] current h under = absurd under
used_before divisor some [] (C ∷ after) budget [] current h under =
    let goal = λ (b : Bool). IsTrueStart divisor (C ∷ after) budget (start_before [] current (if b then Some 0 else None)) in
    ⊎_elim
    (λ t. subst goal (sym t) (empty_start_is_true divisor (C ∷ after) budget))
    (λ t. subst goal (sym t) (record {
      before = [];
      after = C ∷ after;
      split = refl;
      settled = tt;
      current = subst (λ n. IsUnderway n C budget current) (without (divisor C) (some C) t) under;
    }))
    (cases_Bool (nat_lt 1 (divisor C)))
used_before divisor some [] after budget (s ∷ settled) current h under = absurd h
used_before divisor some (C ∷ before) after budget [] current h under = absurd h
used_before divisor some (C ∷ before) after budget (s ∷ settled) current h under =
    let needs = before ++ after in
    let r = first_divisible divisor (take (suc (length settled)) needs) in
    let goal = λ (b : Bool). IsTrueStart divisor (C ∷ needs) budget (start_before (s ∷ settled) current (if b then Some 0 else option_map suc r)) in
    ⊎_elim
    (λ t. subst goal (sym t) (empty_start_is_true divisor (C ∷ needs) budget))
    (λ t. subst goal (sym t) (with_settled divisor C needs budget s settled current r (subst (λ n. IsSettled n C budget s) (without (divisor C) (some C) t) h.0) (used_before divisor some before after budget settled current h.1 under)))
    (cases_Bool (nat_lt 1 (divisor C)))

pub used_is_true : (divisor : Matrix → ℕ) (needs : List Matrix) (budget : ℕ) (settled : List Progress) (current : Progress) → ((C : Matrix) → 1 ≤ divisor C) → IsTrueStart by_one needs budget (record { settled = settled; current = Some current }) → IsTrueStart divisor needs budget (used_start divisor needs 1 settled current)
unfolding used_start
used_is_true divisor needs budget settled current some h =
    subst (λ ns. IsTrueStart divisor ns budget (start_before settled current (first_divisible divisor (take (suc (length settled)) ns)))) (sym h.split)
    (used_before divisor some h.before h.after budget settled current h.settled h.current)

pub used_later : (divisor : Matrix → ℕ) (needs : List Matrix) (settled : List Progress) (current : Progress) → used_start divisor needs 2 settled current ≡ record { settled = settled; current = Some current }
unfolding used_start start_before
used_later divisor needs settled current = refl
