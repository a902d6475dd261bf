-- What a search is made of, and what it answers.
--   plan_for            the plan of all sets is one for the kernel
--   light_word          the word at a place weighs at most 255
--   bound_whole, all_below      the bound, if some level is k or none is
--   first_there, first_made     there is a word at place 0, and a search that starts has it
--   level_inside, level_at      the level of a set
--   levels_counted, bound_here  the bound of the levels that are done
--   answer_exact, answer_bracket, answer_none      what is answered
--   state_exact, state_bracket, state_none         the same, for the state of a search
use Rattle.std.proofs.Common.{◌≡◌, ℕ, ◌<◌, ◌≤◌, max, Bool, true, false, ◌&&◌, ◌==◌, nat_le, nat_eq, if◌then◌else◌, List, [], ◌∷◌, length, map, slice_index, Option, Some, None, option_map, is_some, unwrap_or, refl, sym, ap, subst, ◌∙◌, ⊎_elim, arith}
use Rattle.std.specs.Prelude.{All, Contains}
use Rattle.std.specs.List.{list_any}
use Rattle.std.proofs.lemmas.Bool.{cases_Bool, cases_lt, and_from, and_parts, leb-true, le-leb, false≢true, eqb-true, eq-eqb}
use Rattle.std.proofs.lemmas.List.{get_or-map, length-map}
use Rattle.std.proofs.lemmas.List.Elements.{All-nil, All-cons, All-head, All-tail}
use Rattle.lc_algebra.specs.Word.{weight}
use Rattle.lc_algebra.specs.Span.{AreIndependent, below}
use Rattle.lc_algebra.specs.Matrix.{Matrix, AreRows}
use Rattle.lc_algebra.specs.Divisor.{divisor_of, rounded}
use Rattle.lc_algebra.proofs.WordLaws.{weight_at_most_length}
use Rattle.lc_algebra.proofs.SpanLaws.{span_word, contains_head, contains_tail, length_below, index_below}
use Rattle.lc_algebra.proofs.SpanSearch.{contains_any, any_contains}
use Rattle.lc_enumeration.specs.InformationSet.{is_member}
use Rattle.lc_enumeration.specs.Search.{Found, Answer, exact, bracket, set_count, ranks_of, word_of, word_at, found_first, level_below, levels_below, bound_sum, bound_of, bound, may_end, finished}
use Rattle.lc_enumeration.specs.Records.{found_of, progress_of, first_progress}
use Rattle.lc_enumeration.proofs.MemberLaws.{member_true}
use Rattle.lc_place.specs.Place.{PlanSize}
use Rattle.lc_infoset.proofs.BestLaws.{first_message, first_at_zero, place_word}
use Rattle.lc_infoset.proofs.GreedyLaws.{generators_are}
use Rattle.lc_infoset.proofs.AnswerLaws.{some_set}
use Rattle.lc_infoset.proofs.SetLaws.{levels_are}
use Rattle.lc_kernel.specs.Kernel.{IsPlanOf}
use Rattle.lc_search.proofs.LevelLaws.{levels_few}
use Rattle.lc_search.specs.State.{SearchState, first_state, answer_in, whole_plan}
use Rattle.lc_search.proofs.EndLaws.{finished_is}
use Rattle.lc_search.proofs.LevelLaws.{levels_few}

pub plan_for : (C : Matrix) (plan : PlanSize) → plan ≡ whole_plan C → 1 ≤ set_count C → IsPlanOf plan C
plan_for C plan e some = subst (λ (p : PlanSize). IsPlanOf p C) (sym e) (record { dimension = refl; field = refl; some = some; sets = omega arith })

pub light_word : (C : Matrix) (place : ℕ) (w : List ℕ) → AreRows C.field C.columns C.rows → AreIndependent C.field C.columns C.rows → C.columns ≤ 255 → 1 ≤ set_count C → word_at C (set_count C) place ≡ Some w → weight w ≤ 255
light_word C place w rows independent long some at =
    let t = place_word C place w (generators_are C rows independent) some at in
    let word = span_word C.field C.columns C.rows w rows t.0 in
    let few = weight_at_most_length w in
    omega (arith, few, word.long, long)

member_any : (xs : List ℕ) (x : ℕ) → list_any (λ y. nat_eq y x) xs ≡ true → is_member xs x ≡ true
member_any xs x t = let c = any_contains (λ y. nat_eq y x) xs t in member_true xs x (subst (Contains xs) (eqb-true c.0 x c.2) c.1)

pub bound_whole : (d k : ℕ) (ranks levels : List ℕ) (weight : ℕ) → list_any (λ y. nat_eq y k) levels ≡ true → weight ≡ bound_of d k ranks levels weight
unfolding bound_of
bound_whole d k ranks levels weight t = sym (ap (λ b. (if b then weight else rounded d (max 1 (bound_sum k ranks levels)))) (member_any levels k t))

pub all_below : (k : ℕ) (levels : List ℕ) → list_any (λ y. nat_eq y k) levels ≡ false → All (λ w. w ≤ k) levels → All (λ w. w < k) levels
all_below k [] t all = All-nil (λ w. w < k)
all_below k (w ∷ levels) t all =
    let head = All-head (λ w. w ≤ k) w levels all in
    All-cons (λ w. w < k) w levels
    (⊎_elim (λ l. l) (λ l. absurd (false≢true (sym t ∙ contains_any (λ y. nat_eq y k) (w ∷ levels) w (contains_head w levels) (eq-eqb w k (omega (arith, head, l)))))) (cases_lt w k))
    (all_below k levels (untrue (list_any (λ y. nat_eq y k) levels) (λ u. let c = any_contains (λ y. nat_eq y k) levels u in false≢true (sym t ∙ contains_any (λ y. nat_eq y k) (w ∷ levels) c.0 (contains_tail w c.0 levels c.1) c.2))) (All-tail (λ w. w ≤ k) w levels all))
  where
    untrue : (b : Bool) → (b ≡ true → ⊥) → b ≡ false
    untrue true n = absurd (n refl)
    untrue false n = refl

pub first_there : (C : Matrix) → 0 < length C.rows → word_at C (set_count C) 0 ≡ None → ⊥
first_there C rows e = false≢true (ap is_some (sym e ∙ first_at_zero C (set_count C) rows (some_set C)))

first_is : (C : Matrix) → found_first C (set_count C) ≡ record { weight = weight (word_of C (set_count C) 0 first_message); place = 0 }
unfolding found_first
first_is C = refl

pub first_made : (C : Matrix) (budget w : ℕ) → 0 < length C.rows → Some w ≡ option_map weight (word_at C (set_count C) 0) → record { code = C; budget = budget; progress = record { blocks = 0; weight = w; place = 0 } } ≡ first_state C budget
unfolding first_state first_progress progress_of
first_made C budget w rows e =
    let is : Some w ≡ Some (weight (word_of C (set_count C) 0 first_message)) = e ∙ ap (option_map weight) (first_at_zero C (set_count C) rows (some_set C)) in
    let same : w ≡ weight (word_of C (set_count C) 0 first_message) = ap (λ (o : Option ℕ). unwrap_or o 0) is in
    ap (λ n. record { code = C; budget = budget; progress = record { blocks = 0; weight = n; place = 0 } }) same
    ∙ ap (λ (f : Found). record { code = C; budget = budget; progress = record { blocks = 0; weight = f.weight; place = f.place } }) (sym (first_is C))

index_map : (f : ℕ → ℕ) (n j : ℕ) → j < n → slice_index (map f (below n)) j ≡ f j
index_map f n j l = get_or-map f (below n) j 0 0 (omega (arith, l, length_below n)) ∙ ap f (index_below n j 0 l)

pub levels_counted : (C : Matrix) (l : ℕ) (levels : List ℕ) → levels ≡ levels_below C l → length levels ≡ set_count C
levels_counted C l levels e = ap (λ (xs : List ℕ). length xs) (e ∙ levels_are C l) ∙ length-map (below (set_count C)) (level_below C l) ∙ length_below (set_count C)

pub level_inside : (C : Matrix) (l j : ℕ) (levels : List ℕ) → levels ≡ levels_below C l → j < set_count C → j < length levels
level_inside C l j levels e inside = let n = levels_counted C l levels e in omega (arith, n, inside)

pub level_at : (C : Matrix) (l j w : ℕ) (levels : List ℕ) → levels ≡ levels_below C l → j < set_count C → w ≡ slice_index levels j → w ≡ level_below C l j
level_at C l j w levels e inside is = is ∙ ap (λ xs. slice_index xs j) (e ∙ levels_are C l) ∙ index_map (level_below C l) (set_count C) j inside

pub bound_here : (d : ℕ) (C : Matrix) (l weight b : ℕ) (levels : List ℕ) → levels ≡ levels_below C l → b ≡ bound_of d (length C.rows) (ranks_of C) levels weight → b ≡ bound d C l weight
unfolding bound
bound_here d C l weight b levels e is = is ∙ ap (λ xs. bound_of d (length C.rows) (ranks_of C) xs weight) e

module _ (d : ℕ) (C : Matrix) (budget l : ℕ) (x : Found) (low : ℕ) where
  answered : Bool → Bool → Option Answer
  answered a b = (if a then Some (exact x l) else (if b then Some (bracket low x l) else None))

  answered_is : low ≡ bound d C l x.weight → finished d C budget l x ≡ answered (may_end C l && nat_le x.weight low) (l == budget)
  unfolding answered
  answered_is e = finished_is d C budget l x ∙ ap (λ n. (if may_end C l && nat_le x.weight n then Some (exact x l) else (if l == budget then Some (bracket n x l) else None))) (sym e)

  no_exact : (may_end C l ≡ true → low < x.weight) → (may_end C l && nat_le x.weight low) ≡ false
  no_exact more =
      ⊎_elim
      (λ t. let s = and_parts (may_end C l) (nat_le x.weight low) t in absurd (omega (arith, leb-true x.weight low s.1, more s.0)))
      (λ f. f)
      (cases_Bool (may_end C l && nat_le x.weight low))

  pub answer_exact : low ≡ bound d C l x.weight → may_end C l ≡ true → x.weight ≤ low → Some (exact x l) ≡ finished d C budget l x
  unfolding answered
  answer_exact e may few = sym (answered_is e ∙ ap (λ b. answered b (l == budget)) (and_from (may_end C l) (nat_le x.weight low) may (le-leb x.weight low few)))

  pub answer_bracket : low ≡ bound d C l x.weight → (may_end C l ≡ true → low < x.weight) → l ≡ budget → Some (bracket low x l) ≡ finished d C budget l x
  unfolding answered
  answer_bracket e more used = sym (answered_is e ∙ ap (λ b. answered b (l == budget)) (no_exact more) ∙ ap (answered false) (eq-eqb l budget used))

  pub answer_none : low ≡ bound d C l x.weight → (may_end C l ≡ true → low < x.weight) → (l ≡ budget → ⊥) → None ≡ finished d C budget l x
  unfolding answered
  answer_none e more left = sym (answered_is e ∙ ap (λ b. answered b (l == budget)) (no_exact more) ∙ ap (answered false) (other (l == budget) (λ t. left (eqb-true l budget t))))
    where
      other : (b : Bool) → (b ≡ true → ⊥) → b ≡ false
      other true n = absurd (n refl)
      other false n = refl

-- the same for the state of a search
module _ (s : SearchState) (low : ℕ) where
  pub state_exact : low ≡ bound (divisor_of s.code) s.code s.progress.blocks s.progress.weight → may_end s.code s.progress.blocks ≡ true → s.progress.weight ≤ low
      → Some (exact (record { weight = s.progress.weight; place = s.progress.place }) s.progress.blocks) ≡ answer_in s
  unfolding found_of
  state_exact e may few = answer_exact (divisor_of s.code) s.code s.budget s.progress.blocks (found_of s.progress) low e may few

  pub state_bracket : low ≡ bound (divisor_of s.code) s.code s.progress.blocks s.progress.weight → (may_end s.code s.progress.blocks ≡ true → low < s.progress.weight) → s.progress.blocks ≡ s.budget
      → Some (bracket low (record { weight = s.progress.weight; place = s.progress.place }) s.progress.blocks) ≡ answer_in s
  unfolding found_of
  state_bracket e more used = answer_bracket (divisor_of s.code) s.code s.budget s.progress.blocks (found_of s.progress) low e more used

  pub state_none : low ≡ bound (divisor_of s.code) s.code s.progress.blocks s.progress.weight → (may_end s.code s.progress.blocks ≡ true → low < s.progress.weight) → (s.progress.blocks ≡ s.budget → ⊥) → None ≡ answer_in s
  unfolding found_of
  state_none e more left = answer_none (divisor_of s.code) s.code s.budget s.progress.blocks (found_of s.progress) low e more left

pub ruleset start_laws = (first_there, first_made)

pub ruleset level_of_laws = (level_inside, level_at)

pub ruleset bound_laws = (levels_counted, bound_here, levels_few)
