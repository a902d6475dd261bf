-- The answer of a search for a nearest word, phase by phase.
--   near_list C budget         0 and the phase ends up to the budget
--   near_answer_is             the answer of a code with a row
--   ListedAt, listed_at, at_listed      these are the blocks before the phases that begin below the cut and within the budget
--   near_exact_at              at the first phase that begins with a done search, the answer is exact
--   near_bracket_at            if there is none, it is the bracket at the budget
use Rattle.std.proofs.Common.{◌≡◌, ℕ, zero, suc, ◌<◌, ◌≤◌, Bool, true, false, ◌==◌, nat_le, nat_lt, find, if◌then◌else◌, List, ◌∷◌, length, map, Option, Some, None, Contains, refl, sym, ap, subst, ◌∙◌, ⊎_elim, arith}
use Rattle.std.proofs.lemmas.Bool.{cases_lt, false≢true, eqb-true, leb-true, ltb-true, cases_Bool}
use Rattle.lc_algebra.specs.Field.{size}
use Rattle.lc_algebra.specs.Span.{below}
use Rattle.lc_algebra.specs.Matrix.{Matrix}
use Rattle.lc_algebra.proofs.SpanLaws.{contains_head, contains_tail, contains_cases, contains_map, contains_below}
use Rattle.lc_enumeration.specs.Plan.{cut}
use Rattle.lc_enumeration.specs.Search.{set_count}
use Rattle.lc_enumeration.specs.NearWord.{coset_phases, coset_ends, is_near_done, near_at, near_answer}
use Rattle.lc_enumeration.proofs.PlanLaws.{cut_is}
use Rattle.lc_infoset.proofs.SetLaws.{filter_passes}
use Rattle.lc_infoset.proofs.BestLaws.{find_passes}
use Rattle.lc_infoset.proofs.RoundLaws.{Rises, rises_below, rises_filter, rises_map, find_some}
use Rattle.lc_coset_laws.proofs.PhaseLaws.{no_blocks, blocks_least}
use Rattle.lc_coset_laws.proofs.PlaceLaws.{before_of}
use Rattle.lc_coset_laws.proofs.NearAnswers.{near_ends_to, end_of, ends_are, end_in_ends, zero_answer}
use Rattle.lc_infoset.proofs.RoundLaws.{find_least}

abbrev pub near_list : Matrix → ℕ → List ℕ
near_list C budget = 0 ∷ near_ends_to C budget

pub near_answer_is : (C : Matrix) (x : List ℕ) (budget : ℕ) → 0 < length C.rows → near_answer C x budget ≡ near_at C x budget (find (is_near_done C x) (near_list C budget))
unfolding near_answer
near_answer_is C x budget rows =
    ap (λ (b : Bool). if b then zero_answer C x else near_at C x budget (find (is_near_done C x) (near_list C budget)))
    (⊎_elim (λ t. absurd (omega (arith, rows, eqb-true (length C.rows) 0 t))) (λ t. t) (cases_Bool (length C.rows == 0)))

pub record ListedAt (C : Matrix) (budget e : ℕ) : Type 0 where
  pub phase : ℕ
  pub inside : phase ≤ coset_phases (length C.rows) (set_count C)
  pub uncut : before_of C phase < cut
  pub few : before_of C phase ≤ budget
  pub same : e ≡ before_of C phase

nothing_before : (C : Matrix) → before_of C 0 ≡ 0
nothing_before C = no_blocks (length C.rows) (size C.field) (set_count C)

pub listed_at : (C : Matrix) (budget e : ℕ) → Contains (near_list C budget) e → ListedAt C budget e
listed_at C budget e l =
    ⊎_elim
    (λ z. record {
      phase = 0;
      inside = omega arith;
      uncut = omega (arith, nothing_before C, cut_is);
      few = omega (arith, nothing_before C);
      same = sym z ∙ sym (nothing_before C);
    })
    (λ r.
    let n = coset_phases (length C.rows) (set_count C) in
    let a = filter_passes (λ end. nat_le end budget) (coset_ends (length C.rows) (size C.field) (set_count C)) e r in
    let b = filter_passes (λ end. nat_lt end cut) (map (end_of C) (below n)) e (subst (λ es. Contains es e) (ends_are C) a.member) in
    let t = contains_map (end_of C) (below n) e b.member in
    let p : ℕ = t.0 in
    record {
      phase = suc p;
      inside = omega (arith, contains_below n p t.1);
      uncut = omega (arith, t.2, ltb-true e cut b.passes);
      few = omega (arith, t.2, leb-true e budget a.passes);
      same = t.2;
    })
    (contains_cases 0 e (near_ends_to C budget) l)

pub at_listed : (C : Matrix) (budget p : ℕ) → p ≤ coset_phases (length C.rows) (set_count C) → before_of C p < cut → before_of C p ≤ budget → Contains (near_list C budget) (before_of C p)
at_listed C budget zero within uncut few = subst (Contains (near_list C budget)) (sym (nothing_before C)) (contains_head 0 (near_ends_to C budget))
at_listed C budget (suc p) within uncut few = contains_tail 0 (before_of C (suc p)) (near_ends_to C budget) (end_in_ends C budget p (omega (arith, within)) uncut few)

ends_rise : (C : Matrix) (budget : ℕ) → Rises (near_list C budget)
ends_rise C budget =
    let k = length C.rows in
    let q = size C.field in
    let m = set_count C in
    let up : (i j : ℕ) → i ≤ j → end_of C i ≤ end_of C j = λ i j l. blocks_least k q m (suc i) (suc j) (omega (arith, l)) in
    let rises = rises_filter (λ end. nat_le end budget) (coset_ends k q m) (subst Rises (sym (ends_are C)) (rises_filter (λ end. nat_lt end cut) (map (end_of C) (below (coset_phases k m))) (rises_map (end_of C) up (below (coset_phases k m)) (rises_below (coset_phases k m))))) in
    ((λ y l. omega arith), rises)

pub near_exact_at : (C : Matrix) (x : List ℕ) (budget p : ℕ) → 0 < length C.rows → p ≤ coset_phases (length C.rows) (set_count C) → before_of C p < cut → before_of C p ≤ budget → ((r : ℕ) → r < p → is_near_done C x (before_of C r) ≡ false) → is_near_done C x (before_of C p) ≡ true → near_answer C x budget ≡ near_at C x budget (Some (before_of C p))
near_exact_at C x budget p rows within uncut few earlier done =
    let done_is = is_near_done C x in
    let list = near_list C budget in
    let listed = at_listed C budget p within uncut few in
    let s = find_some done_is list (before_of C p) listed done in
    let e : ℕ = s.0 in
    let f = find_passes done_is list e s.1 in
    let at = listed_at C budget e f.member in
    let least = find_least done_is list e (before_of C p) (ends_rise C budget) s.1 listed done in
    let later : p ≤ at.phase = ⊎_elim
    (λ l. absurd (false≢true (sym (earlier at.phase l) ∙ ap done_is (sym at.same) ∙ f.passes)))
    (λ l. l)
    (cases_lt at.phase p) in
    let same : e ≡ before_of C p = omega (arith, least, at.same, blocks_least (length C.rows) (size C.field) (set_count C) p at.phase later) in
    near_answer_is C x budget rows ∙ ap (near_at C x budget) (s.1 ∙ ap Some same)

pub near_bracket_at : (C : Matrix) (x : List ℕ) (budget : ℕ) → 0 < length C.rows → ((r : ℕ) → r ≤ coset_phases (length C.rows) (set_count C) → before_of C r < cut → before_of C r ≤ budget → is_near_done C x (before_of C r) ≡ false) → near_answer C x budget ≡ near_at C x budget None
near_bracket_at C x budget rows unmet = near_answer_is C x budget rows ∙ ap (near_at C x budget) (none (find (is_near_done C x) (near_list C budget)) refl)
  where
    none : (o : Option ℕ) → find (is_near_done C x) (near_list C budget) ≡ o → o ≡ None
    none None e = refl
    none (Some l) e =
        let f = find_passes (is_near_done C x) (near_list C budget) l e in
        let at = listed_at C budget l f.member in
        absurd (false≢true (sym (unmet at.phase at.inside at.uncut at.few) ∙ ap (is_near_done C x) (sym at.same) ∙ f.passes))
