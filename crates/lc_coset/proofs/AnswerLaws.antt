-- The answer of a search for a nearest word.
--   exact_at                   the answer at the first phase at whose beginning the search is done
--   first_answer               the answer if the first word is the given one
--   bracket_at                 the answer at a budget within a phase
--   whole_answer               the answer after all phases that there can be need of
--   unmet_next, begins_next    from one phase to the next
--   fewer_rows                 if the first word isn't the given one, there are fewer rows than columns
--   answer_holds               the answer is true
use Rattle.std.proofs.Common.{◌≡◌, ℕ, suc, ◌+◌, ◌-◌, ◌*◌, ◌^◌, ◌<◌, ◌≤◌, min, true, false, nat_le, List, [], length, Some, None, unwrap_or, refl, sym, ap, subst, ◌∙◌, ⊎_elim, arith}
use Rattle.std.proofs.lemmas.Bool.{cases_lt, leb-true}
use Rattle.std.proofs.lemmas.Bool.Decides.{nat_tests}
use Rattle.lc_algebra.specs.Field.{size}
use Rattle.lc_algebra.specs.Word.{IsWord, weight}
use Rattle.lc_algebra.specs.Span.{AreIndependent}
use Rattle.lc_algebra.specs.Matrix.{Matrix, AreRows}
use Rattle.lc_algebra.proofs.WordLaws.{weight_zero_word}
use Rattle.lc_enumeration.specs.InformationSet.{is_member}
use Rattle.lc_enumeration.specs.Plan.{cut}
use Rattle.lc_enumeration.specs.Search.{set_count, ranks_of}
use Rattle.lc_enumeration.specs.NearWord.{coset_phases, coset_word_at, levels_done, near_sum, near_bound, near_best, is_near_done, NearAnswer, near_at, near_answer, NearHolds}
use Rattle.lc_enumeration.proofs.PlanLaws.{cut_is}
use Rattle.lc_infoset.proofs.AnswerLaws.{some_set}
use Rattle.lc_coset_laws.proofs.PhaseLaws.{no_blocks, blocks_least}
use Rattle.lc_coset_laws.proofs.PlaceLaws.{before_of}
use Rattle.lc_coset_laws.proofs.SeenLaws.{phases_are}
use Rattle.lc_coset_laws.proofs.NearAnswers.{near_bound_open}
use Rattle.lc_coset_laws.proofs.CourseLaws.{near_exact_at, near_bracket_at}
use Rattle.lc_coset_laws.proofs.NearTruth.{answer_is_true}
use Rattle.lc_coset.specs.declared.best.Best.{Best}
use Rattle.lc_coset.specs.Near.{near_left}
use Rattle.lc_coset.specs.Phase.{IsBestAt}
use Rattle.lc_coset.proofs.FrameLaws.{first_near}
use Rattle.lc_coset.proofs.BoundLaws.{done_by_bound, done_whole, not_done, open_there, same_levels}

word_there : (C : Matrix) (x : List ℕ) (l : ℕ) (b : Best) → IsBestAt C x l b → unwrap_or (coset_word_at C x (near_best C x l).place) [] ≡ b.word
word_there C x l b h = ap (λ p. unwrap_or (coset_word_at C x p) []) (sym h.place_is) ∙ ap (λ o. unwrap_or o []) h.there

near_some : (C : Matrix) (x : List ℕ) (budget l : ℕ) (b : Best) → IsBestAt C x l b → near_at C x budget (Some l) ≡ record { exact = true; low = b.weight; weight = b.weight; word = b.word; blocks = l }
unfolding near_at
near_some C x budget l b h =
    let d = sym h.distance in
    let w = word_there C x l b h in
    λ i. record { exact = true; low = d i; weight = d i; word = w i; blocks = l }

near_none : (C : Matrix) (x : List ℕ) (budget low : ℕ) (b : Best) → IsBestAt C x budget b → low ≡ near_bound C x budget → near_at C x budget None ≡ record { exact = false; low = low; weight = b.weight; word = b.word; blocks = budget }
unfolding near_at
near_none C x budget low b h e =
    let d = sym h.distance in
    let w = word_there C x budget b h in
    let f = sym e in
    λ i. record { exact = false; low = f i; weight = d i; word = w i; blocks = budget }

pub exact_at : (C : Matrix) (x : List ℕ) (budget p l : ℕ) (b : Best) (a : NearAnswer) → 0 < length C.rows → p ≤ coset_phases (length C.rows) (set_count C) → l ≡ before_of C p → l < 2 ^ 40 → l ≤ budget → ((r : ℕ) → r < p → is_near_done C x (before_of C r) ≡ false)
    → is_near_done C x (before_of C p) ≡ true → IsBestAt C x l b → a ≡ record { exact = true; low = b.weight; weight = b.weight; word = b.word; blocks = l } → a ≡ near_answer C x budget
exact_at C x budget p l b a some within e uncut few before done h is =
    is ∙ sym (near_exact_at C x budget p some within (omega (arith, e, uncut, cut_is)) (omega (arith, e, few)) before done ∙ ap (λ n. near_at C x budget (Some n)) (sym e) ∙ near_some C x budget l b h)

pub first_answer : (C : Matrix) (x : List ℕ) (budget : ℕ) (b : Best) (a : NearAnswer) → 0 < length C.rows → b.weight ≡ 0 → IsBestAt C x 0 b → a ≡ record { exact = true; low = b.weight; weight = b.weight; word = b.word; blocks = 0 } → a ≡ near_answer C x budget
first_answer C x budget b a some none h is =
    let e : 0 ≡ before_of C 0 = sym (no_blocks (length C.rows) (size C.field) (set_count C)) in
    let done : is_near_done C x (before_of C 0) ≡ true = subst (λ l. is_near_done C x l ≡ true) e (done_by_bound C x 0 (omega (arith, none, h.distance))) in
    exact_at C x budget 0 0 b a some (omega arith) e (omega arith) (omega arith) (λ r l. absurd (omega (arith, l))) done h is

above : (a b : ℕ) → nat_le a b ≡ false → b < a
above a b e = grind (arith, nat_tests, e)

pub bracket_at : (C : Matrix) (x : List ℕ) (budget p l low last n : ℕ) (b : Best) (a : NearAnswer) → 0 < length C.rows → p ≤ length C.rows * set_count C → l ≡ before_of C p → l ≤ last → last ≡ min budget (2 ^ 40 - 1) → budget ≤ 2 ^ 40 → ((r : ℕ) → r < p → is_near_done C x (before_of C r) ≡ false)
    → low ≡ near_sum (length C.rows) (ranks_of C) (levels_done C (before_of C p)) → low < (near_best C x l).weight → nat_le (before_of C (suc p)) last ≡ false → n ≡ min budget (before_of C (suc p)) → IsBestAt C x n b
    → a ≡ record { exact = false; low = low; weight = b.weight; word = b.word; blocks = budget } → a ≡ near_answer C x budget
bracket_at C x budget p l low last n b a some within e from last_is small before low_is light past to h is =
    let k = length C.rows in
    let m = set_count C in
    let beyond : last < before_of C (suc p) = above (before_of C (suc p)) last past in
    let uncut : before_of C p < 2 ^ 40 = omega (arith, e, from, last_is) in
    let open_here : is_near_done C x (before_of C p) ≡ false = not_done C x p within uncut (omega (arith, low_is, light, ap (λ t. (near_best C x t).weight) e)) in
    let whole : n ≡ budget = omega (arith, to, beyond, last_is, small) in
    let levels : levels_done C budget ≡ levels_done C (before_of C p) = same_levels C p budget (omega (arith, e, from, last_is)) small (omega (arith, beyond, last_is, small)) (λ u. omega (arith, u, beyond, last_is)) in
    let member : is_member (levels_done C budget) (k + 1) ≡ false = ap (λ ls. is_member ls (k + 1)) levels ∙ open_there C p within uncut in
    let bound : low ≡ near_bound C x budget = low_is ∙ ap (near_sum k (ranks_of C)) (sym levels) ∙ sym (near_bound_open C x budget member) in
    let none : (r : ℕ) → r ≤ coset_phases k m → before_of C r < cut → before_of C r ≤ budget → is_near_done C x (before_of C r) ≡ false =
    λ r _ uncut_r few. ⊎_elim
    (λ less. before r less)
    (λ most. ⊎_elim
    (λ more. absurd (omega (arith, uncut_r, cut_is, few, beyond, last_is, blocks_least k (size C.field) m (suc p) r more)))
    (λ here. let same : r ≡ p = omega (arith, most, here) in subst (λ t. is_near_done C x (before_of C t) ≡ false) (sym same) open_here)
    (cases_lt p r))
    (cases_lt r p) in
    is ∙ sym (near_bracket_at C x budget some none ∙ near_none C x budget low b (subst (λ t. IsBestAt C x t b) whole h) bound)

pub whole_answer : (C : Matrix) (x : List ℕ) (budget p l : ℕ) (b : Best) (a : NearAnswer) → 0 < length C.rows → p ≡ length C.rows * set_count C + 1 → l ≡ before_of C p → l < 2 ^ 40 → l ≤ budget → ((r : ℕ) → r < p → is_near_done C x (before_of C r) ≡ false)
    → IsBestAt C x l b → a ≡ record { exact = true; low = b.weight; weight = b.weight; word = b.word; blocks = l } → a ≡ near_answer C x budget
whole_answer C x budget p l b a some all e uncut few before h is =
    exact_at C x budget p l b a some (omega (arith, all, phases_are (length C.rows) (set_count C), some_set C)) e uncut few before (done_whole C x p all (omega (arith, e, uncut))) h is

pub phase_answer : (C : Matrix) (x : List ℕ) (budget p l low : ℕ) (b : Best) (a : NearAnswer) → 0 < length C.rows → p ≤ length C.rows * set_count C → l ≡ before_of C p → l < 2 ^ 40 → l ≤ budget → ((r : ℕ) → r < p → is_near_done C x (before_of C r) ≡ false)
    → low ≡ near_sum (length C.rows) (ranks_of C) (levels_done C (before_of C p)) → b.weight ≤ low → IsBestAt C x l b → a ≡ record { exact = true; low = b.weight; weight = b.weight; word = b.word; blocks = l } → a ≡ near_answer C x budget
phase_answer C x budget p l low b a some within e uncut few before low_is light h is =
    exact_at C x budget p l b a some (omega (arith, within, phases_are (length C.rows) (set_count C))) e uncut few before (done_by_bound C x (before_of C p) (omega (arith, light, low_is, h.distance, ap (λ t. (near_best C x t).weight) e))) h is

pub fewer_rows : (C : Matrix) (x : List ℕ) (w : ℕ) → AreRows C.field C.columns C.rows → AreIndependent C.field C.columns C.rows → IsWord C.field C.columns x → length C.rows ≤ C.columns → w ≡ weight (near_left C x 0) → (w ≡ 0 → ⊥) → length C.rows < C.columns
fewer_rows C x w r free is few e apart =
    ⊎_elim
    (λ l. l)
    (λ m. absurd (apart (e ∙ ap weight (first_near C x (near_left C x 0) 0 r free is (some_set C) (omega (arith, few, m)) refl) ∙ weight_zero_word C.columns)))
    (cases_lt (length C.rows) C.columns)

pub answer_holds : (C : Matrix) (x : List ℕ) (budget : ℕ) (a : NearAnswer) → AreRows C.field C.columns C.rows → AreIndependent C.field C.columns C.rows → IsWord C.field C.columns x → a ≡ near_answer C x budget → NearHolds C x a
answer_holds C x budget a r free is e = subst (NearHolds C x) (sym e) (answer_is_true C x budget r free is)

pub unmet_next : (C : Matrix) (x : List ℕ) (p l low : ℕ) (b : Best) → p ≤ length C.rows * set_count C → l ≡ before_of C p → l < 2 ^ 40 → low ≡ near_sum (length C.rows) (ranks_of C) (levels_done C (before_of C p)) → IsBestAt C x l b → low < b.weight
    → ((r : ℕ) → r < p → is_near_done C x (before_of C r) ≡ false) → (r : ℕ) → r < p + 1 → is_near_done C x (before_of C r) ≡ false
unmet_next C x p l low b within e uncut low_is h light before r less =
    let here : is_near_done C x (before_of C p) ≡ false = not_done C x p within (omega (arith, e, uncut)) (omega (arith, low_is, light, h.distance, ap (λ t. (near_best C x t).weight) e)) in
    ⊎_elim
    (λ a. before r a)
    (λ a. let same : r ≡ p = omega (arith, a, less) in subst (λ t. is_near_done C x (before_of C t) ≡ false) (sym same) here)
    (cases_lt r p)

pub begins_next : (C : Matrix) (p l n last budget : ℕ) → last ≡ min budget (2 ^ 40 - 1) → l + n ≡ min budget (before_of C (suc p)) → nat_le (before_of C (suc p)) last ≡ true → (l + n ≡ before_of C (p + 1)) × (l + n ≤ last)
begins_next C p l n last budget e to within =
    let next : p + 1 ≡ suc p = omega arith in
    let few = leb-true (before_of C (suc p)) last within in
    rw next (omega (arith, e, to, few), omega (arith, e, to, few))
