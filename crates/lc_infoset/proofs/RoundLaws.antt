-- The rounds of a search, from a best word at no more blocks than its answer has, end at the answer.
--   Rises, rises_append, rises_below, rises_filter, rises_map      numbers that don't fall
--   find_least, find_some      among these a test finds the least that passes
--   plan_end                   how many blocks the phases of a plan have
--   end_at, end_in_ends        the phase ends of a plan
--   end_listed, end_done       a plan's end below the cut is a phase end, at which the search is done
--   done_list, in_list, first_done      the least number of blocks at which the search is done
--   may_end_done, done_may_end      a state that may be exact, and is, isn't before it; at a phase end it may be
--   target, Reached, reached   the blocks of the answer; there the search is finished with it, and not before
--   some_crossing              the phase that the cut ends
--   end_between                the end of a phase, between a block and a later phase end
--   some_end                   before the answer's blocks there is a phase end
--   round_within               a round of at most some blocks does a block at least, and none past the answer's blocks
--   Between, Ended, rounds_end so the rounds end at the answer, if the slice doesn't stop them
use Rattle.std.proofs.Common.{◌≡◌, ℕ, zero, suc, ◌+◌, ◌-◌, ◌*◌, ◌<◌, ◌≤◌, ◌⊎◌, min, Bool, true, false, ◌&&◌, ◌||◌, ◌==◌, nat_le, nat_lt, if◌then◌else◌, find, filter, cond, List, [], ◌∷◌, ◌++◌, length, map, Option, Some, None, is_some, unwrap_or, Contains, refl, sym, ap, subst, ◌∙◌, inl, inr, ⊎_elim, arith}
use Rattle.std.proofs.lemmas.Bool.{cases_Bool, cases_lt, and_parts, and_from, or_cases, or_left, or_right, leb-true, ltb-true, le-leb, lt-ltb, false≢true, eqb-true, eq-eqb}
use Rattle.std.proofs.lemmas.List.Elements.{Contains-append_cases}
use Rattle.std.proofs.lemmas.Simd.{map-map}
use Rattle.lc_algebra.specs.Field.{size}
use Rattle.lc_algebra.specs.Span.{below}
use Rattle.lc_algebra.specs.Matrix.{Matrix}
use Rattle.lc_algebra.proofs.SpanLaws.{contains_head, contains_tail, contains_cases, contains_map, map_contains, contains_below, below_contains}
use Rattle.lc_algebra.proofs.DivisorLaws.{no_member}
use Rattle.lc_enumeration.specs.Plan.{PlanPhase, cut, total, phase_at, plan_phases, blocks_before}
use Rattle.lc_enumeration.specs.InformationSet.{is_member}
use Rattle.lc_enumeration.specs.Search.{Found, Answer, exact, bracket, set_count, best, last_that, is_whole_below, level_below, levels_below, bound, is_done, ends_of, answer_at, may_end, finished}
use Rattle.lc_enumeration.specs.Records.{Progress, Rounds, found_of, progress_of, end_of_phase, within_slice, round_length, after_round, is_used_up, state_first, no_round, less_slice, rounds_within, last_state, IsBestAt}
use Rattle.lc_enumeration.proofs.MemberLaws.{member_true, true_member}
use Rattle.lc_enumeration.proofs.RecordsLaws.{round_is_best}
use Rattle.lc_enumeration.proofs.PlanLaws.{cut_is, blocks_least, end_is}
use Rattle.lc_infoset.proofs.SetLaws.{filter_passes, levels_are}
use Rattle.lc_infoset.proofs.BestLaws.{find_passes, product_positive}
use Rattle.lc_infoset.proofs.AnswerLaws.{find_none, filter_keeps, ends_to, ends_are, bound_whole, whole_is, level_of}

abbrev pub Rises : List ℕ → Type 0
Rises [] = Unit {0}
Rises (x ∷ xs) = ((y : ℕ) → Contains xs y → x ≤ y) × Rises xs

pub rises_append : (xs ys : List ℕ) → Rises xs → Rises ys → ((x y : ℕ) → Contains xs x → Contains ys y → x ≤ y) → Rises (xs ++ ys)
rises_append [] ys a b h = b
rises_append (x ∷ xs) ys a b h = (
  (λ y l. ⊎_elim (λ m. a.0 y m) (λ m. h x y (contains_head x xs) m) (Contains-append_cases xs ys y l)),
  rises_append xs ys a.1 b (λ z y l m. h z y (contains_tail x z xs l) m),
)

pub rises_below : (n : ℕ) → Rises (below n)
unfolding below
rises_below zero = tt
rises_below (suc n) = rises_append (below n) (n ∷ []) (rises_below n) ((λ y l. absurd (no_member y l)), tt) (λ x y l m. ⊎_elim (λ e. omega (arith, e, contains_below n x l)) (λ s. absurd (no_member y s)) (contains_cases n y [] m))

pub rises_filter : (p : ℕ → Bool) (xs : List ℕ) → Rises xs → Rises (filter p xs)
rises_filter p [] a = tt
rises_filter p (x ∷ xs) a =
    let goal = λ (b : Bool). Rises (cond b (x ∷ filter p xs) (filter p xs)) in
    let rest = rises_filter p xs a.1 in
    ⊎_elim
    (λ t. subst goal (sym t) ((λ y l. a.0 y (filter_passes p xs y l).member), rest))
    (λ t. subst goal (sym t) rest)
    (cases_Bool (p x))

pub rises_map : (h : ℕ → ℕ) → ((i j : ℕ) → i ≤ j → h i ≤ h j) → (xs : List ℕ) → Rises xs → Rises (map h xs)
rises_map h up [] a = tt
rises_map h up (x ∷ xs) a = ((λ y l. let t = contains_map h xs y l in subst (λ z. h x ≤ z) (sym t.2) (up x t.0 (a.0 t.0 t.1))), rises_map h up xs a.1)

pub find_least : (p : ℕ → Bool) (xs : List ℕ) (e x : ℕ) → Rises xs → find p xs ≡ Some e → Contains xs x → p x ≡ true → e ≤ x
find_least p [] e x a f l t = absurd (no_member x l)
find_least p (y ∷ xs) e x a f l t =
    ⊎_elim
    (λ u.
    let same : y ≡ e = ap (λ (o : Option ℕ). unwrap_or o y) (sym (ap (λ (b : Bool). cond b (Some y) (find p xs)) u) ∙ f) in
    ⊎_elim (λ s. omega (arith, same, s)) (λ s. omega (arith, same, a.0 x s)) (contains_cases y x xs l))
    (λ u. ⊎_elim
    (λ s. absurd (false≢true (sym u ∙ ap p s ∙ t)))
    (λ s. find_least p xs e x a.1 (sym (ap (λ (b : Bool). cond b (Some y) (find p xs)) u) ∙ f) s t)
    (contains_cases y x xs l))
    (cases_Bool (p y))

some_or_none : (o : Option ℕ) → ((e : ℕ) × (o ≡ Some e)) ⊎ (o ≡ None)
some_or_none (Some e) = inl (e, refl)
some_or_none None = inr refl

pub find_some : (p : ℕ → Bool) (xs : List ℕ) (x : ℕ) → Contains xs x → p x ≡ true → (e : ℕ) × (find p xs ≡ Some e)
find_some p xs x l t = ⊎_elim (λ s. s) (λ s. absurd (false≢true (sym (find_none p xs x s l) ∙ t))) (some_or_none (find p xs))

abbrev pub plan_end : Matrix → ℕ
plan_end C = blocks_before (length C.rows) (size C.field) (set_count C) (length C.rows * set_count C)

abbrev pub end_at : Matrix → ℕ → ℕ
end_at C p = blocks_before (length C.rows) (size C.field) (set_count C) (suc p)

pub end_in_ends : (C : Matrix) (p : ℕ) → p < length C.rows * set_count C → end_at C p < cut → Contains (ends_of C) (end_at C p)
end_in_ends C p inside uncut =
    subst (λ es. Contains es (end_at C p)) (sym (ends_are C))
    (filter_keeps (λ e. nat_lt e cut) (map (end_at C) (below (length C.rows * set_count C))) (end_at C p) (map_contains (end_at C) (below (length C.rows * set_count C)) p (below_contains (length C.rows * set_count C) p inside)) (lt-ltb (end_at C p) cut uncut))

-- the last phase
last_phase : (C : Matrix) → 0 < length C.rows → 0 < set_count C → (p : ℕ) × (p < length C.rows * set_count C) × (end_at C p ≡ plan_end C)
last_phase C rows sets =
    let n = length C.rows * set_count C in
    let some = product_positive (length C.rows) (set_count C) rows sets in
    let same : suc (n - 1) ≡ n = omega (arith, some) in
    (n - 1, omega (arith, some), ap (blocks_before (length C.rows) (size C.field) (set_count C)) same)

pub end_listed : (C : Matrix) → 0 < length C.rows → 0 < set_count C → plan_end C < cut → Contains (ends_of C) (plan_end C)
end_listed C rows sets uncut =
    let t = last_phase C rows sets in
    subst (Contains (ends_of C)) t.2 (end_in_ends C t.0 t.1 (omega (arith, t.2, uncut)))

last_passes : (test : ℕ → Bool) (n : ℕ) → test n ≡ true → last_that test n ≡ n
unfolding last_that
last_passes test zero t = refl
last_passes test (suc n) t = ap (λ b. cond b (suc n) (last_that test n)) t

top_level : (C : Matrix) → 0 < length C.rows → 0 < set_count C → plan_end C < cut → level_below C (plan_end C) (set_count C - 1) ≡ length C.rows
top_level C rows sets uncut =
    let k = length C.rows in
    let m = set_count C in
    let q = size C.field in
    let last = (k - 1) * m + suc (m - 1) in
    let product : (k - 1) * m + m ≡ k * m = row_more k m rows in
    let same : blocks_before k q m last ≡ plan_end C = ap (blocks_before k q m) (omega (arith, sets, product)) in
    level_of C (plan_end C) (m - 1)
    ∙ last_passes (is_whole_below k q m (plan_end C) (m - 1)) k
    (whole_is k q m (plan_end C) (m - 1) k
    ∙ and_from (nat_le (blocks_before k q m last) (plan_end C)) (nat_lt (blocks_before k q m last) cut)
    (le-leb (blocks_before k q m last) (plan_end C) (omega (arith, same))) (lt-ltb (blocks_before k q m last) cut (omega (arith, same, uncut))))
  where
    row_more : (k m : ℕ) → 0 < k → (k - 1) * m + m ≡ k * m
    row_more zero m l = absurd (omega (arith, l))
    row_more (suc k) m l = let e : suc k - 1 ≡ k = omega arith in ap (λ n. n * m + m) e ∙ omega arith

done_is : (d : ℕ) (C : Matrix) (l : ℕ) → is_done d C l ≡ nat_le (best C (set_count C) l).weight (bound d C l (best C (set_count C) l).weight)
unfolding is_done
done_is d C l = refl

pub end_done : (d : ℕ) (C : Matrix) → 0 < length C.rows → 0 < set_count C → plan_end C < cut → is_done d C (plan_end C) ≡ true
end_done d C rows sets uncut =
    let l = plan_end C in
    let w = (best C (set_count C) l).weight in
    let there : Contains (levels_below C l) (length C.rows) = subst (λ ls. Contains ls (length C.rows)) (sym (levels_are C l)) (subst (Contains (map (level_below C l) (below (set_count C)))) (top_level C rows sets uncut) (map_contains (level_below C l) (below (set_count C)) (set_count C - 1) (below_contains (set_count C) (set_count C - 1) (omega (arith, sets))))) in
    let whole = bound_whole d C l w (member_true (levels_below C l) (length C.rows) there) in
    done_is d C l ∙ le-leb w (bound d C l w) (omega (arith, whole))

abbrev pub done_list : Matrix → ℕ → List ℕ
done_list C budget = 0 ∷ ends_to C budget

ends_rise : (C : Matrix) → Rises (ends_of C)
ends_rise C =
    subst Rises (sym (ends_are C))
    (rises_filter (λ e. nat_lt e cut) (map (end_at C) (below (length C.rows * set_count C)))
    (rises_map (end_at C) (λ i j l. blocks_least (length C.rows) (size C.field) (set_count C) (suc i) (suc j) (omega (arith, l))) (below (length C.rows * set_count C)) (rises_below (length C.rows * set_count C))))

done_list_rises : (C : Matrix) (budget : ℕ) → Rises (done_list C budget)
done_list_rises C budget = ((λ y l. omega arith), rises_filter (λ e. nat_le e budget) (ends_of C) (ends_rise C))

pub first_done : (d : ℕ) (C : Matrix) (budget y : ℕ) → Contains (done_list C budget) y → is_done d C y ≡ true → (l : ℕ) × (find (is_done d C) (done_list C budget) ≡ Some l) × (l ≤ y)
first_done d C budget y m t =
    let f = find_some (is_done d C) (done_list C budget) y m t in
    (f.0, f.1, find_least (is_done d C) (done_list C budget) f.0 y (done_list_rises C budget) f.1 m t)

pub in_list : (C : Matrix) (budget l : ℕ) → Contains (ends_of C) l → l ≤ budget → Contains (done_list C budget) l
in_list C budget l m few = contains_tail 0 l (ends_to C budget) (filter_keeps (λ e. nat_le e budget) (ends_of C) l m (le-leb l budget few))

pub may_is : (C : Matrix) (l : ℕ) → may_end C l ≡ ((l == 0) || (is_member (ends_of C) l || (nat_lt (plan_end C) cut && nat_lt (total (length C.rows) (size C.field) (set_count C)) l)))
unfolding may_end
may_is C l = refl

total_of : (C : Matrix) → total (length C.rows) (size C.field) (set_count C) ≡ min (plan_end C) cut
unfolding total
total_of C = refl

pub may_end_done : (d : ℕ) (C : Matrix) (budget l : ℕ) → 0 < length C.rows → 0 < set_count C → l ≤ budget → may_end C l ≡ true → is_done d C l ≡ true → (e : ℕ) × (find (is_done d C) (done_list C budget) ≡ Some e) × (e ≤ l)
may_end_done d C budget l rows sets few may done =
    let whole = total (length C.rows) (size C.field) (set_count C) in
    ⊎_elim
    (λ z. first_done d C budget l (subst (Contains (done_list C budget)) (sym (eqb-true l 0 z)) (contains_head 0 (ends_to C budget))) done)
    (λ r. ⊎_elim
    (λ z. first_done d C budget l (in_list C budget l (true_member (ends_of C) l z) few) done)
    (λ z.
    let s = and_parts (nat_lt (plan_end C) cut) (nat_lt whole l) z in
    let uncut = ltb-true (plan_end C) cut s.0 in
    let past = ltb-true whole l s.1 in
    let before : plan_end C < l = omega (arith, past, total_of C, uncut) in
    let t = first_done d C budget (plan_end C) (in_list C budget (plan_end C) (end_listed C rows sets uncut) (omega (arith, before, few))) (end_done d C rows sets uncut) in
    (t.0, t.1, omega (arith, t.2, before)))
    (or_cases (is_member (ends_of C) l) (nat_lt (plan_end C) cut && nat_lt whole l) r))
    (or_cases (l == 0) (is_member (ends_of C) l || (nat_lt (plan_end C) cut && nat_lt whole l)) (sym (may_is C l) ∙ may))

-- what the search is done at, up to the budget, may end it
pub done_may_end : (C : Matrix) (budget l : ℕ) → Contains (done_list C budget) l → may_end C l ≡ true
done_may_end C budget l m =
    let past = nat_lt (plan_end C) cut && nat_lt (total (length C.rows) (size C.field) (set_count C)) l in
    may_is C l ∙
    ⊎_elim
    (λ e. or_left (l == 0) (is_member (ends_of C) l || past) (eq-eqb l 0 (sym e)))
    (λ r. or_right (l == 0) (is_member (ends_of C) l || past) (or_left (is_member (ends_of C) l) past (member_true (ends_of C) l (filter_passes (λ e. nat_le e budget) (ends_of C) l r).member)))
    (contains_cases 0 l (ends_to C budget) m)

abbrev pub target : Option ℕ → ℕ → ℕ
target o budget = unwrap_or o budget

finished_exact : (d : ℕ) (C : Matrix) (budget l : ℕ) (x : Found) → (may_end C l && nat_le x.weight (bound d C l x.weight)) ≡ true → finished d C budget l x ≡ Some (exact x l)
unfolding finished
finished_exact d C budget l x t = ap (λ b. (if b then Some (exact x l) else (if l == budget then Some (bracket (bound d C l x.weight) x l) else None))) t

finished_bracket : (d : ℕ) (C : Matrix) (budget l : ℕ) (x : Found) → (may_end C l && nat_le x.weight (bound d C l x.weight)) ≡ false → (l == budget) ≡ true → finished d C budget l x ≡ Some (bracket (bound d C l x.weight) x l)
unfolding finished
finished_bracket d C budget l x t u = ap (λ b. (if b then Some (exact x l) else (if l == budget then Some (bracket (bound d C l x.weight) x l) else None))) t ∙ ap (λ b. (if b then Some (bracket (bound d C l x.weight) x l) else None)) u

finished_not : (d : ℕ) (C : Matrix) (budget l : ℕ) (x : Found) → (may_end C l && nat_le x.weight (bound d C l x.weight)) ≡ false → (l == budget) ≡ false → finished d C budget l x ≡ None
unfolding finished
finished_not d C budget l x t u = ap (λ b. (if b then Some (exact x l) else (if l == budget then Some (bracket (bound d C l x.weight) x l) else None))) t ∙ ap (λ b. (if b then Some (bracket (bound d C l x.weight) x l) else None)) u

not_equal : (a b : ℕ) → a < b → (a == b) ≡ false
not_equal a b l = ⊎_elim (λ t. absurd (omega (arith, l, eqb-true a b t))) (λ f. f) (cases_Bool (a == b))

pub list_within : (C : Matrix) (budget l : ℕ) → Contains (done_list C budget) l → l ≤ budget
list_within C budget l m = ⊎_elim (λ e. omega (arith, e)) (λ r. leb-true l budget (filter_passes (λ e. nat_le e budget) (ends_of C) l r).passes) (contains_cases 0 l (ends_to C budget) m)

-- the test of a state that is the best, as the search being done
tested : (d : ℕ) (C : Matrix) (l : ℕ) (x : Found) → x ≡ best C (set_count C) l → (may_end C l && nat_le x.weight (bound d C l x.weight)) ≡ (may_end C l && is_done d C l)
tested d C l x e = ap (λ (a : Found). may_end C l && nat_le a.weight (bound d C l a.weight)) e ∙ ap (λ b. may_end C l && b) (sym (done_is d C l))

not_done : (d : ℕ) (C : Matrix) (budget l : ℕ) (x : Found) → 0 < length C.rows → 0 < set_count C → l ≤ budget → x ≡ best C (set_count C) l → ((e : ℕ) → find (is_done d C) (done_list C budget) ≡ Some e → e ≤ l → ⊥) → (may_end C l && nat_le x.weight (bound d C l x.weight)) ≡ false
not_done d C budget l x rows sets few same none =
    tested d C l x same ∙
    ⊎_elim
    (λ t. let s = and_parts (may_end C l) (is_done d C l) t in let f = may_end_done d C budget l rows sets few s.0 s.1 in absurd (none f.0 f.1 f.2))
    (λ f. f)
    (cases_Bool (may_end C l && is_done d C l))

pub record Reached (d : ℕ) (C : Matrix) (budget : ℕ) (o : Option ℕ) (l : ℕ) (x : Found) : Type 0 where
  pub here : l ≡ target o budget → finished d C budget l x ≡ Some (answer_at d C budget o)
  pub before : l < target o budget → finished d C budget l x ≡ None

bracket_is : (d : ℕ) (C : Matrix) (budget : ℕ) → answer_at d C budget None ≡ bracket (bound d C budget (best C (set_count C) budget).weight) (best C (set_count C) budget) budget
unfolding answer_at
bracket_is d C budget = refl

pub exact_is : (d : ℕ) (C : Matrix) (budget l : ℕ) → answer_at d C budget (Some l) ≡ exact (best C (set_count C) l) l
unfolding answer_at
exact_is d C budget l = refl

pub reached : (d : ℕ) (C : Matrix) (budget : ℕ) (o : Option ℕ) (l : ℕ) (x : Found) → 0 < length C.rows → 0 < set_count C → find (is_done d C) (done_list C budget) ≡ o → x ≡ best C (set_count C) l → l ≤ target o budget → Reached d C budget o l x
reached d C budget None l x rows sets f same few =
    let unmet = not_done d C budget l x rows sets few same (λ e g m. absurd (false≢true (ap is_some (sym f ∙ g)))) in
    record {
      here = λ e.
          let state : x ≡ best C (set_count C) budget = same ∙ ap (best C (set_count C)) e in
          finished_bracket d C budget l x unmet (eq-eqb l budget e)
          ∙ ap (λ (a : Found). Some (bracket (bound d C l a.weight) a l)) state
          ∙ ap (λ b. Some (bracket (bound d C b (best C (set_count C) budget).weight) (best C (set_count C) budget) b)) e
          ∙ ap Some (sym (bracket_is d C budget));
      before = λ less. finished_not d C budget l x unmet (not_equal l budget less);
    }
reached d C budget (Some e) l x rows sets f same few =
    let p = find_passes (is_done d C) (done_list C budget) e f in
    let within = list_within C budget e p.member in
    record {
      here = λ q.
          let may : may_end C l ≡ true = ap (may_end C) q ∙ done_may_end C budget e p.member in
          let done : is_done d C l ≡ true = ap (is_done d C) q ∙ p.passes in
          let state : x ≡ best C (set_count C) e = same ∙ ap (best C (set_count C)) q in
          finished_exact d C budget l x (tested d C l x same ∙ and_from (may_end C l) (is_done d C l) may done)
          ∙ ap (λ (a : Found). Some (exact a l)) state ∙ ap (λ b. Some (exact (best C (set_count C) e) b)) q ∙ ap Some (sym (exact_is d C budget e));
      before = λ less.
          finished_not d C budget l x
          (not_done d C budget l x rows sets (omega (arith, less, within)) same (λ g h m.
          let equal : g ≡ e = ap (λ (o : Option ℕ). unwrap_or o g) (sym h ∙ f) in omega (arith, less, m, equal)))
          (not_equal l budget (omega (arith, less, within)));
    }

pub some_crossing : (b : ℕ → ℕ) (n : ℕ) → b 0 < cut → cut ≤ b n → (p : ℕ) × (p < n) × (b p < cut) × (cut ≤ b (suc p))
some_crossing b zero low high = absurd (omega (arith, low, high))
some_crossing b (suc n) low high =
    ⊎_elim
    (λ l. (n, omega arith, l, high))
    (λ l. let t = some_crossing b n low l in (t.0, omega (arith, t.1), t.2, t.3))
    (cases_lt (b n) cut)

pub phase_end_at : Matrix → ℕ → ℕ
phase_end_at C p = (phase_at (length C.rows) (size C.field) (set_count C) p).end

pub starting : Matrix → List ℕ
starting C = filter (λ p. nat_lt (blocks_before (length C.rows) (size C.field) (set_count C) p) cut) (below (length C.rows * set_count C))

pub end_of_found : (C : Matrix) (l : ℕ) → end_of_phase C l ≡ unwrap_or (find (nat_lt l) (map (phase_end_at C) (starting C))) l
unfolding end_of_phase plan_phases phase_end_at starting
end_of_found C l = ap (λ es. unwrap_or (find (nat_lt l) es) l) (map-map (λ (p : PlanPhase). p.end) (phase_at (length C.rows) (size C.field) (set_count C)) (filter (λ p. nat_lt (blocks_before (length C.rows) (size C.field) (set_count C) p) cut) (below (length C.rows * set_count C))))

pub end_at_is : (C : Matrix) (p : ℕ) → phase_end_at C p ≡ min (end_at C p) cut
unfolding phase_end_at
end_at_is C p = end_is (length C.rows) (size C.field) (set_count C) p

starts : (C : Matrix) (p : ℕ) → p < length C.rows * set_count C → blocks_before (length C.rows) (size C.field) (set_count C) p < cut → Contains (starting C) p
unfolding starting
starts C p inside low = filter_keeps (λ r. nat_lt (blocks_before (length C.rows) (size C.field) (set_count C) r) cut) (below (length C.rows * set_count C)) p (below_contains (length C.rows * set_count C) p inside) (lt-ltb (blocks_before (length C.rows) (size C.field) (set_count C) p) cut low)

starting_rises : (C : Matrix) → Rises (starting C)
unfolding starting
starting_rises C = rises_filter (λ p. nat_lt (blocks_before (length C.rows) (size C.field) (set_count C) p) cut) (below (length C.rows * set_count C)) (rises_below (length C.rows * set_count C))

pub end_between : (C : Matrix) (l p : ℕ) → p < length C.rows * set_count C → blocks_before (length C.rows) (size C.field) (set_count C) p < cut → l < min (end_at C p) cut → (l < end_of_phase C l) × (end_of_phase C l ≤ min (end_at C p) cut)
end_between C l p inside low less =
    let ends = map (phase_end_at C) (starting C) in
    let x = phase_end_at C p in
    let is = end_at_is C p in
    let m : Contains ends x = map_contains (phase_end_at C) (starting C) p (starts C p inside low) in
    let t : nat_lt l x ≡ true = lt-ltb l x (omega (arith, less, is)) in
    let f = find_some (nat_lt l) ends x m t in
    let e : end_of_phase C l ≡ f.0 = end_of_found C l ∙ ap (λ (o : Option ℕ). unwrap_or o l) f.1 in
    let above = ltb-true l f.0 (find_passes (nat_lt l) ends f.0 f.1).passes in
    let up : (i j : ℕ) → i ≤ j → phase_end_at C i ≤ phase_end_at C j = λ i j n. omega (arith, end_at_is C i, end_at_is C j, blocks_least (length C.rows) (size C.field) (set_count C) (suc i) (suc j) (omega (arith, n))) in
    let few = find_least (nat_lt l) ends f.0 x (rises_map (phase_end_at C) up (starting C) (starting_rises C)) f.1 m t in
    (omega (arith, e, above), omega (arith, e, few, is))

no_blocks_before : (C : Matrix) → blocks_before (length C.rows) (size C.field) (set_count C) 0 ≡ 0
unfolding blocks_before
no_blocks_before C = refl

-- before the answer's blocks some phase ends after l, and for an exact answer no later than these blocks
pub some_end : (d : ℕ) (C : Matrix) (budget : ℕ) (o : Option ℕ) (l : ℕ) → 0 < length C.rows → 0 < set_count C → budget ≤ cut → find (is_done d C) (done_list C budget) ≡ o → l < target o budget → (p : ℕ) × (p < length C.rows * set_count C) × (blocks_before (length C.rows) (size C.field) (set_count C) p < cut) × (l < min (end_at C p) cut) × ((e : ℕ) → o ≡ Some e → min (end_at C p) cut ≤ e)
some_end d C budget None l rows sets small f less =
    ⊎_elim
    (λ uncut.
    let last = last_phase C rows sets in
    let p : ℕ = last.0 in
    let before : l < plan_end C = ⊎_elim (λ n. n) (λ n.
    let t = first_done d C budget (plan_end C) (in_list C budget (plan_end C) (end_listed C rows sets uncut) (omega (arith, n, less))) (end_done d C rows sets uncut) in
    absurd (false≢true (ap is_some (sym f ∙ t.1)))) (cases_lt l (plan_end C)) in
    let low = blocks_least (length C.rows) (size C.field) (set_count C) p (suc p) (omega arith) in
    (p, last.1, omega (arith, low, last.2, uncut), omega (arith, before, last.2, uncut), (λ e g. absurd (false≢true (ap is_some g)))))
    (λ high.
    let t = some_crossing (blocks_before (length C.rows) (size C.field) (set_count C)) (length C.rows * set_count C) (omega (arith, no_blocks_before C, cut_is)) high in
    (t.0, t.1, t.2, omega (arith, t.3, less, small), (λ e g. absurd (false≢true (ap is_some g)))))
    (cases_lt (plan_end C) cut)
some_end d C budget (Some e) l rows sets small f less =
    let m = (find_passes (is_done d C) (done_list C budget) e f).member in
    ⊎_elim
    (λ z. absurd (omega (arith, z, less)))
    (λ r.
    let listed : Contains (ends_of C) e = (filter_passes (λ x. nat_le x budget) (ends_of C) e r).member in
    let s = filter_passes (λ x. nat_lt x cut) (map (end_at C) (below (length C.rows * set_count C))) e (subst (λ es. Contains es e) (ends_are C) listed) in
    let uncut = ltb-true e cut s.passes in
    let t = contains_map (end_at C) (below (length C.rows * set_count C)) e s.member in
    let p : ℕ = t.0 in
    let low = blocks_least (length C.rows) (size C.field) (set_count C) p (suc p) (omega arith) in (
      p,
      contains_below (length C.rows * set_count C) p t.1,
      omega (arith, low, t.2, uncut),
      omega (arith, less, t.2, uncut),
      (λ x g.
          let same : e ≡ x = ap (λ (o : Option ℕ). unwrap_or o e) g in omega (arith, same, t.2)),
    ))
    (contains_cases 0 e (ends_to C budget) m)

slice_within : (slice : Option ℕ) (n : ℕ) → is_used_up slice ≡ false → 0 < n → (0 < within_slice slice n) × (within_slice slice n ≤ n)
unfolding within_slice is_used_up
slice_within None n u p = (p, omega arith)
slice_within (Some zero) n u p = absurd (false≢true (sym u))
slice_within (Some (suc left)) n u p = (omega (arith, p), omega arith)

round_is : (C : Matrix) (budget longest : ℕ) (slice : Option ℕ) (l : ℕ) → round_length C budget longest slice l ≡ within_slice slice (min longest (min (end_of_phase C l - l) (budget - l)))
unfolding round_length
round_is C budget longest slice l = refl

pub target_within : (d : ℕ) (C : Matrix) (budget : ℕ) (o : Option ℕ) → find (is_done d C) (done_list C budget) ≡ o → target o budget ≤ budget
target_within d C budget None f = omega arith
target_within d C budget (Some e) f = list_within C budget e (find_passes (is_done d C) (done_list C budget) e f).member

before_target : (budget : ℕ) (o : Option ℕ) (l x : ℕ) → x ≤ budget → ((e : ℕ) → o ≡ Some e → x ≤ e) → x ≤ target o budget
before_target budget None l x few h = few
before_target budget (Some e) l x few h = h e refl

pub round_within : (d : ℕ) (C : Matrix) (budget longest : ℕ) (slice o : Option ℕ) (l : ℕ) → 0 < length C.rows → 0 < set_count C → budget ≤ cut → 0 < longest → find (is_done d C) (done_list C budget) ≡ o → l < target o budget → is_used_up slice ≡ false → (0 < round_length C budget longest slice l) × (l + round_length C budget longest slice l ≤ target o budget)
round_within d C budget longest slice o l rows sets small long f less used =
    let t = some_end d C budget o l rows sets small f less in
    let b = end_between C l t.0 t.1 t.2 t.3 in
    let most = target_within d C budget o f in
    let n = min longest (min (end_of_phase C l - l) (budget - l)) in
    let s = slice_within slice n used (omega (arith, long, b.0, less, most)) in
    let is = round_is C budget longest slice l in (
      omega (arith, is, s.0),
      before_target budget o l (l + round_length C budget longest slice l) (omega (arith, is, s.1, less, most)) (λ e g. omega (arith, is, s.1, b.0, b.1, t.4 e g)),
    )

-- a state that the rounds from a state go through: the best at more blocks, but no more than the answer's
pub record Between (C : Matrix) (o : Option ℕ) (budget : ℕ) (s t : Progress) : Type 0 where
  pub best : IsBestAt C t
  pub more : s.blocks < t.blocks
  pub few : t.blocks ≤ target o budget

pub record Ended (d : ℕ) (C : Matrix) (budget : ℕ) (o : Option ℕ) (s : Progress) (r : Rounds) : Type 0 where
  pub each : (t : Progress) → Contains r.states t → Between C o budget s t
  pub best : IsBestAt C (last_state s r.states)
  pub few : (last_state s r.states).blocks ≤ target o budget
  pub ends : r.is_stopped ≡ false → finished d C budget (last_state s r.states).blocks (found_of (last_state s r.states)) ≡ Some (answer_at d C budget o)
  pub stops : r.is_stopped ≡ true → (finished d C budget (last_state s r.states).blocks (found_of (last_state s r.states)) ≡ None) × (r.left ≡ Some 0)

pub next_blocks : (C : Matrix) (s : Progress) (count : ℕ) → (after_round C s count).blocks ≡ s.blocks + count
unfolding after_round progress_of
next_blocks C s count = refl

pub used_up : (slice : Option ℕ) → is_used_up slice ≡ true → slice ≡ Some 0
unfolding is_used_up
used_up None e = absurd (false≢true e)
used_up (Some zero) e = refl
used_up (Some (suc n)) e = absurd (false≢true e)

pub rounds_end : (most d : ℕ) (C : Matrix) (budget longest : ℕ) (slice o : Option ℕ) (s : Progress) → 0 < length C.rows → 0 < set_count C → budget ≤ cut → 0 < longest → find (is_done d C) (done_list C budget) ≡ o → budget - s.blocks < most → IsBestAt C s → s.blocks ≤ target o budget → Ended d C budget o s (rounds_within most d C budget longest slice s)
unfolding rounds_within state_first no_round last_state
rounds_end zero d C budget longest slice o s rows sets small long f fuel h few = absurd (omega (arith, fuel))
rounds_end (suc most) d C budget longest slice o s rows sets small long f fuel h few =
    let count = round_length C budget longest slice s.blocks in
    let next = after_round C s count in
    let rest = rounds_within most d C budget longest (less_slice slice count) next in
    let go = λ (b : Bool). elim b as (λ _. Rounds) [ true ↦ no_round slice true | false ↦ state_first next rest ] in
    let on = λ (a : Option Answer). elim a as (λ _. Rounds) [ Some _ ↦ no_round slice false | None ↦ go (is_used_up slice) ] in
    let goal = λ (r : Rounds). Ended d C budget o s r in
    let state = reached d C budget o s.blocks (found_of s) rows sets f h few in
    ⊎_elim
    (λ less.
    let more = state.before less in
    subst (λ (a : Option Answer). goal (on a)) (sym more) (
    ⊎_elim
    (λ u. subst (λ (b : Bool). goal (go b)) (sym u) (record {
      each = λ t l. absurd (no_member t l);
      best = h;
      few = few;
      ends = λ e. absurd (false≢true (sym e));
      stops = λ e. (more, used_up slice u);
    }))
    (λ u.
    let w = round_within d C budget longest slice o s.blocks rows sets small long f less u in
    let blocks = next_blocks C s count in
    let best_next = round_is_best C s count h in
    let up : s.blocks < next.blocks = omega (arith, blocks, w.0) in
    let few_next : next.blocks ≤ target o budget = omega (arith, blocks, w.1) in
    let r = rounds_end most d C budget longest (less_slice slice count) o next rows sets small long f (omega (arith, fuel, blocks, w.0, less, target_within d C budget o f)) best_next few_next in
    subst (λ (b : Bool). goal (go b)) (sym u) (record {
      each = λ t l. ⊎_elim
          (λ e. subst (Between C o budget s) e (record { best = best_next; more = up; few = few_next }))
          (λ m. let b = r.each t m in record { best = b.best; more = omega (arith, up, b.more); few = b.few })
          (contains_cases next t rest.states l);
      best = r.best;
      few = r.few;
      ends = r.ends;
      stops = r.stops;
    }))
    (cases_Bool (is_used_up slice))))
    (λ least.
    let done = state.here (omega (arith, least, few)) in
    subst (λ (a : Option Answer). goal (on a)) (sym done) (record {
      each = λ t l. absurd (no_member t l);
      best = h;
      few = few;
      ends = λ e. done;
      stops = λ e. absurd (false≢true e);
    }))
    (cases_lt s.blocks (target o budget))
