-- Which levels are done after some blocks, and whether a search may be exact there.
--   open_inside, open_cut, open_past      the open phase: of block l; of the last block, if the plan is cut; none, past its end
--   open_found, open_end      the same for what the plan finds
--   level_is                the level of a set that is done, by the level and the set of the open phase
--   level_made              the same, as it is made
--   level_few, levels_few   no level is above k
--   levels_none, levels_more, levels_whole      the levels of all sets, one after the other
use Rattle.std.proofs.Common.{◌≡◌, ℕ, zero, suc, ◌+◌, ◌-◌, ◌*◌, ◌/◌, ◌%◌, ◌^◌, ◌<◌, ◌≤◌, ◌⊎◌, min, Bool, true, false, cond, ◌&&◌, nat_le, nat_lt, List, [], ◌∷◌, ◌++◌, length, map, take, set, refl, sym, ap, ap₂, subst, ◌∙◌, inl, inr, ⊎_elim, arith}
use Rattle.std.specs.Prelude.{All}
use Rattle.std.proofs.lemmas.Bool.{cases_Bool, cases_lt, and_parts, and_from, leb-true, ltb-true, le-leb, lt-ltb, le-ltb}
use Rattle.std.proofs.lemmas.List.{map-append, take_all}
use Rattle.std.proofs.lemmas.List.Elements.{All-nil, All-cons}
use Rattle.std.proofs.Math.Seq.{take-suc-set}
use Rattle.std.proofs.Math.Nat.{mul-le-mul_right, mod-add-div'}
use Rattle.lc_algebra.specs.Field.{size}
use Rattle.lc_algebra.specs.Span.{below}
use Rattle.lc_algebra.specs.Matrix.{Matrix}
use Rattle.lc_enumeration.specs.Plan.{cut, total, phase_at, phase_level, phase_set, blocks_before, IsInPhase}
use Rattle.lc_enumeration.specs.Search.{set_count, last_that, is_whole_below, level_below, levels_below}
use Rattle.lc_enumeration.proofs.PlanLaws.{cut_is, blocks_least, within}
use Rattle.lc_place.specs.declared.phase.Phase.{Phase}
use Rattle.lc_place.specs.Place.{PlanSize, plan_phase}
use Rattle.lc_place.proofs.Phases.{ranked}
use Rattle.lc_search.specs.Levels.{IsOpenAt}
use Rattle.lc_search.specs.State.{whole_plan}
use Rattle.lc_infoset.proofs.SeenLaws.{last_that_is}
use Rattle.lc_infoset.proofs.AnswerLaws.{whole_is, level_of}
use Rattle.lc_infoset.proofs.SetLaws.{levels_are}

pub total_is : (k q m : ℕ) → total k q m ≡ min (blocks_before k q m (k * m)) cut
unfolding total
total_is k q m = refl

module _ (k q m : ℕ) where
  pub open_inside : (l p : ℕ) → IsInPhase k q m p l → IsOpenAt k q m l p
  open_inside l p h =
      let w = within k q m p l h in record {
        whole = λ r less. let most = blocks_least k q m (suc r) p less in (omega (arith, most, w.after), omega (arith, most, w.after, w.below_cut, cut_is));
        others = λ r above inside. inl (omega (arith, w.before, blocks_least k q m (suc p) (suc r) (omega (arith, above))));
      }

  pub open_cut : (l b p : ℕ) → total k q m ≡ cut → cut ≤ l → b + 1 ≡ cut → IsInPhase k q m p b → IsOpenAt k q m l p
  open_cut l b p whole past last h =
      let w = within k q m p b h in record {
        whole = λ r less. let most = blocks_least k q m (suc r) p less in (omega (arith, most, w.after, past, last), omega (arith, most, w.after, last));
        others = λ r above inside. inr (omega (arith, w.before, last, blocks_least k q m (suc p) (suc r) (omega (arith, above))));
      }

  pub open_past : (l : ℕ) → total k q m < cut → total k q m ≤ l → IsOpenAt k q m l (k * m)
  open_past l uncut past =
      let is = total_is k q m in record {
        whole = λ r less. let most = blocks_least k q m (suc r) (k * m) less in (omega (arith, most, is, uncut, past), omega (arith, most, is, uncut));
        others = λ r above inside. absurd (omega (arith, above, inside));
      }

phase_number : (m p : ℕ) → (phase_level m p - 1) * m + phase_set m p ≡ p
unfolding phase_level phase_set
phase_number m p = let e : p / m + 1 - 1 ≡ p / m = omega arith in ap (λ n. n * m + p % m) e ∙ (let d = mod-add-div' p m in omega (arith, d))

-- the phase that the plan finds of a block, or of its last one
pub open_found : (k q m l b : ℕ) (ph : Phase) → (p : ℕ) × IsInPhase k q m p b × (plan_phase ph ≡ phase_at k q m p) → b ≡ min l (total k q m - 1) → ((l < total k q m) ⊎ (2 ^ 40 ≤ total k q m)) → IsOpenAt k q m l ((ph.level - 1) * m + ph.set)
open_found k q m l b ph f e where_it =
    let r = ranked k q m f.0 b ph f.1 f.2 in
    let number : (ph.level - 1) * m + ph.set ≡ f.0 = ap (λ n. (n - 1) * m + ph.set) r.level ∙ ap (λ n. (phase_level m f.0 - 1) * m + n) r.set ∙ phase_number m f.0 in
    let is = total_is k q m in
    let go : (l < total k q m) ⊎ (total k q m ≤ l) → IsOpenAt k q m l f.0 = ⊎_elim
    (λ less. let same : b ≡ l = omega (arith, e, less) in open_inside k q m l f.0 (subst (IsInPhase k q m f.0) same f.1))
    (λ past. open_cut k q m l b f.0
    (⊎_elim (λ less. absurd (omega (arith, past, less))) (λ most. omega (arith, is, most, cut_is)) where_it)
    (⊎_elim (λ less. absurd (omega (arith, past, less))) (λ most. omega (arith, most, past, cut_is)) where_it)
    (⊎_elim (λ less. absurd (omega (arith, past, less))) (λ most. omega (arith, e, is, most, past, cut_is)) where_it)
    f.1) in
    subst (IsOpenAt k q m l) (sym number) (go (cases_lt l (total k q m)))

pub open_end : (k q m l : ℕ) → total k q m < 2 ^ 40 → total k q m ≤ l → IsOpenAt k q m l ((k + 1 - 1) * m + 0)
open_end k q m l uncut past =
    let e : k ≡ k + 1 - 1 = omega arith in
    let same : k * m ≡ (k + 1 - 1) * m + 0 = ap (λ n. n * m) e ∙ (let z : (k + 1 - 1) * m ≡ (k + 1 - 1) * m + 0 = omega arith in z) in
    subst (IsOpenAt k q m l) same (open_past k q m l (omega (arith, uncut, cut_is)) past)

last_exact : (test : ℕ → Bool) (n t : ℕ) → t ≤ n → ((w : ℕ) → 0 < w → w ≤ t → test w ≡ true) → ((w : ℕ) → t < w → w ≤ n → test w ≡ false) → last_that test n ≡ t
unfolding last_that
last_exact test zero t few up down = omega (arith, few)
last_exact test (suc n) t few up down =
    ⊎_elim
    (λ less. ap (λ b. cond b (suc n) (last_that test n)) (down (suc n) less (omega arith)) ∙ last_exact test n t (omega (arith, less)) up (λ w a b. down w a (omega (arith, b))))
    (λ above. let same : suc n ≡ t = omega (arith, few, above) in ap (λ b. cond b (suc n) (last_that test n)) (up (suc n) (omega arith) (omega (arith, same))) ∙ same)
    (cases_lt t (suc n))

and_none : (a b c d : ℕ) → ((b < a) ⊎ (d ≤ c)) → (nat_le a b && nat_lt c d) ≡ false
and_none a b c d no_more =
    ⊎_elim
    (λ (t : (nat_le a b && nat_lt c d) ≡ true). let s = and_parts (nat_le a b) (nat_lt c d) t in
    absurd (⊎_elim (λ l. omega (arith, l, leb-true a b s.0)) (λ l. omega (arith, l, ltb-true c d s.1)) no_more))
    (λ f. f)
    (cases_Bool (nat_le a b && nat_lt c d))

row_before : (m w : ℕ) → 0 < w → (w - 1) * m + m ≡ w * m
row_before m zero l = absurd (omega (arith, l))
row_before m (suc w) l = let e : suc w - 1 ≡ w = omega arith in ap (λ n. n * m + m) e ∙ omega arith

-- the level and the set of the open phase
pub level_is : (C : Matrix) (l level set j : ℕ) → 1 ≤ level → level ≤ length C.rows + 1 → set < set_count C → (level ≤ length C.rows ⊎ (set ≡ 0)) → j < set_count C
    → IsOpenAt (length C.rows) (size C.field) (set_count C) l ((level - 1) * set_count C + set) → level_below C l j ≡ cond (nat_lt j set) level (level - 1)
level_is C l level set j some few inside top listed h =
    let k = length C.rows in
    let q = size C.field in
    let m = set_count C in
    let p = (level - 1) * m + set in
    let done : (w : ℕ) → 0 < w → (w - 1) * m + j < p → is_whole_below k q m l j w ≡ true = λ w a less.
    let r = (w - 1) * m + suc j in
    let t = h.whole ((w - 1) * m + j) less in
    let same : suc ((w - 1) * m + j) ≡ r = omega arith in
    let e = ap (blocks_before k q m) same in
    whole_is k q m l j w ∙ and_from (nat_le (blocks_before k q m r) l) (nat_lt (blocks_before k q m r) cut) (le-leb (blocks_before k q m r) l (omega (arith, t.0, e))) (lt-ltb (blocks_before k q m r) cut (omega (arith, t.1, e))) in
    let undone : (w : ℕ) → 0 < w → w ≤ k → p ≤ (w - 1) * m + j → is_whole_below k q m l j w ≡ false = λ w a b above.
    let r = (w - 1) * m + suc j in
    let same : suc ((w - 1) * m + j) ≡ r = omega arith in
    let within_all : (w - 1) * m + j < k * m = (let x = row_before m w a in let y = mul-le-mul_right m b in omega (arith, x, y, listed)) in
    let t = h.others ((w - 1) * m + j) above within_all in
    let e = ap (blocks_before k q m) same in
    whole_is k q m l j w ∙ and_none (blocks_before k q m r) l (blocks_before k q m r) cut (⊎_elim (λ x. inl (omega (arith, x, e))) (λ x. inr (omega (arith, x, e))) t) in
    let mine : (t : ℕ) → t ≤ k → ((w : ℕ) → 0 < w → w ≤ t → (w - 1) * m + j < p) → ((w : ℕ) → t < w → w ≤ k → p ≤ (w - 1) * m + j) → level_below C l j ≡ t = λ t a up down.
    level_of C l j ∙ last_exact (is_whole_below k q m l j) k t a (λ w x y. done w x (up w x y)) (λ w x y. undone w (omega (arith, x)) y (down w x y)) in
    ⊎_elim
    (λ less.
    let bit : nat_lt j set ≡ true = lt-ltb j set less in
    mine level (⊎_elim (λ x. x) (λ x. absurd (omega (arith, x, less))) top)
    (λ w a b. let x = mul-le-mul_right m (below_one w level b) in omega (arith, x, less))
    (λ w a b. let x = mul-le-mul_right m (below_one level (w - 1) (omega (arith, a))) in let y = row_before m level some in let z : level * m ≤ (w - 1) * m = mul-le-mul_right m (omega (arith, a)) in omega (arith, y, z, inside))
    ∙ ap (λ b. cond b level (level - 1)) (sym bit))
    (λ above.
    let bit : nat_lt j set ≡ false = not_less j set above in
    mine (level - 1) (omega (arith, few, some))
    (λ w a b. let x = row_before m w a in let y : w * m ≤ (level - 1) * m = mul-le-mul_right m b in omega (arith, x, y, listed))
    (λ w a b. let y : (level - 1) * m ≤ (w - 1) * m = mul-le-mul_right m (omega (arith, a)) in omega (arith, y, above))
    ∙ ap (λ b. cond b level (level - 1)) (sym bit))
    (cases_lt j set)
  where
    below_one : (a b : ℕ) → a ≤ b → a - 1 ≤ b - 1
    below_one a b l = omega (arith, l)

    not_less : (a b : ℕ) → b ≤ a → nat_lt a b ≡ false
    not_less a b l = ⊎_elim (λ t. absurd (omega (arith, l, ltb-true a b t))) (λ f. f) (cases_Bool (nat_lt a b))

-- the level of a set, as it is made from the open phase
pub level_made : (C : Matrix) (plan : PlanSize) (l level set j w : ℕ) → plan ≡ whole_plan C → 1 ≤ level → level ≤ plan.k + 1 → set < plan.m → ((level ≤ plan.k) ⊎ (set ≡ 0)) → IsOpenAt plan.k plan.q plan.m l ((level - 1) * plan.m + set) → j < set_count C
    → (j < set → w ≡ level) → (set ≤ j → w + 1 ≡ level) → w ≡ level_below C l j
level_made C plan l level set j w e some few inside top opened listed before after =
    let k : plan.k ≡ length C.rows = ap (λ (p : PlanSize). p.k) e in
    let m : plan.m ≡ set_count C = ap (λ (p : PlanSize). p.m) e in
    let is = level_is C l level set j some (omega (arith, few, k)) (omega (arith, inside, m)) (⊎_elim (λ x. inl (omega (arith, x, k))) (λ x. inr x) top) listed
    (subst (λ (p : PlanSize). IsOpenAt p.k p.q p.m l ((level - 1) * p.m + set)) e opened) in
    ⊎_elim
    (λ less. before less ∙ ap (λ b. cond b level (level - 1)) (sym (lt-ltb j set less)) ∙ sym is)
    (λ above.
    let off : nat_lt j set ≡ false = le-ltb j set above in
    (let x = after above in let y : w ≡ level - 1 = omega (arith, x, some) in y) ∙ ap (λ b. cond b level (level - 1)) (sym off) ∙ sym is)
    (cases_lt j set)

pub level_few : (C : Matrix) (l j : ℕ) → level_below C l j ≤ length C.rows
level_few C l j = let e = level_of C l j in let t = last_that_is (is_whole_below (length C.rows) (size C.field) (set_count C) l j) (length C.rows) in omega (arith, e, t.inside)

pub levels_few : (C : Matrix) (l : ℕ) → All (λ w. w ≤ length C.rows) (levels_below C l)
levels_few C l = subst (All (λ w. w ≤ length C.rows)) (sym (levels_are C l)) (each (below (set_count C)))
  where
    each : (js : List ℕ) → All (λ w. w ≤ length C.rows) (map (level_below C l) js)
    each [] = All-nil (λ w. w ≤ length C.rows)
    each (j ∷ js) = All-cons (λ w. w ≤ length C.rows) (level_below C l j) (map (level_below C l) js) (level_few C l j) (each js)

-- the levels so far, in their order
pub levels_none : (C : Matrix) (l : ℕ) → [] ≡ map (level_below C l) (below 0)
unfolding below
levels_none C l = refl

pub levels_more : (C : Matrix) (l j w : ℕ) (levels : List ℕ) → j < length levels → take j levels ≡ map (level_below C l) (below j) → w ≡ level_below C l j → take (j + 1) (set levels j w) ≡ map (level_below C l) (below (j + 1))
unfolding below
levels_more C l j w levels inside so_far is =
    let next : suc j ≡ j + 1 = omega arith in
    subst (λ n. take n (set levels j w) ≡ map (level_below C l) (below n)) next
    (take-suc-set levels j w inside ∙ ap₂ (λ xs x. xs ++ x ∷ []) so_far is ∙ sym (map-append (level_below C l) (below j) (j ∷ [])))

pub levels_whole : (C : Matrix) (l n : ℕ) (levels : List ℕ) → n ≡ set_count C → length levels ≤ n → take n levels ≡ map (level_below C l) (below n) → levels ≡ levels_below C l
levels_whole C l n levels many long so_far = sym (take_all n levels long) ∙ so_far ∙ ap (λ m. map (level_below C l) (below m)) many ∙ sym (levels_are C l)

pub ruleset put_levels_laws = (levels_none, levels_whole)
