-- True lines with parts of all blocks that a search needs are joined.
--   next_block               a state under way that isn't answered has a next block, below those of the answer and in a phase
--   all_needed               parts that cover all blocks below the budget cover those that the search needs
--   covered_on               a part that covers the next block goes on from a state
--   covered_answered         parts that cover the blocks that the search needs bring it to its answer
--   none_missing             lines that are enough lack no block
--   same_word                true parts of one range have one word
--   none_disagree            true lines don't disagree
--   on_within, some_on       whether a part goes on
--   joined_from              passes are made from the beginning, as long as one brings the search on
--   some_text                lines that are enough make a text
--   session_ends             how a session over lines that are enough may end
use Rattle.std.proofs.Common.{◌≡◌, ℕ, zero, suc, ◌+◌, ◌^◌, ◌<◌, ◌≤◌, ◌==◌, ◌&&◌, ◌⊎◌, inl, inr, nat_le, nat_lt, not, Bool, true, false, find, List, [], ◌∷◌, length, All, Contains, Option, is_some, refl, sym, ap, ap₂, subst, ◌∙◌, ⊎_elim, arith}
use Rattle.std.proofs.lemmas.Bool.{cases_Bool, cases_lt, and_parts, and_from, leb-true, ltb-true, le-leb, lt-ltb, eq-eqb, eqb-true, false≢true}
use Rattle.std.proofs.lemmas.List.Elements.{All-contains, All-cons}
use Rattle.lc_algebra.specs.Matrix.{Matrix}
use Rattle.lc_algebra.specs.Divisor.{divisor_of}
use Rattle.lc_algebra.proofs.SpanLaws.{contains_head, contains_tail}
use Rattle.lc_enumeration.specs.Search.{Found, Answer, set_count, is_done, found_first, found_from, least_of, answer, finished}
use Rattle.lc_enumeration.specs.Records.{Progress, found_of}
use Rattle.lc_enumeration.specs.Truth.{IsUnderway, answer_blocks}
use Rattle.lc_enumeration.proofs.PlanLaws.{cut_is}
use Rattle.lc_infoset.proofs.AnswerLaws.{some_set}
use Rattle.lc_infoset.proofs.RoundLaws.{done_list, target, target_within, reached, some_end, end_between}
use Rattle.lc_infoset.proofs.SessionLaws.{target_is}
use Rattle.lc_formats.specs.Checkpoint.{checkpoint_text}
use Rattle.lc_part_laws.specs.Point.{joined_point}
use Rattle.lc_parts.specs.Part.{Part, Facts, part_end, found_in, IsTruePart, facts_of}
use Rattle.lc_parts.specs.Along.{first_by, end_by, is_answered, end_wanted, continues, along}
use Rattle.lc_parts.specs.Joined.{differs_from}
use Rattle.lc_parts.proofs.FactsLaws.{end_is, finished_is}
use Rattle.lc_share.specs.PartSession.{Ends, HasRead}
use Rattle.lc_join.specs.Asked.{JoinOptions, asked, join_options}
use Rattle.lc_join.specs.Lines.{Numbered, Agree, Disagree, lines_in, parts_in}
use Rattle.lc_join.specs.Joining.{times, IsJoined, Joins, HasText, Lacks}
use Rattle.lc_join.specs.JoinSession.{JoinEnding, printed, refused, source_fault, sink_fault, no_memory, too_long, missing, no_part, disagree, EndsSo, Does, IsJoinSession}
use Rattle.lc_join.specs.Cover.{CoverBelow, AreEnough, WroteOrFailed}
use Rattle.lc_join.specs.Truth.{IsTrueLine}
use Rattle.lc_join.proofs.TruthLaws.{true_parts, underway}
use Rattle.lc_join.proofs.WalkLaws.{along_append, along_grows, along_rests}

-- ---- the next block

-- the blocks of the answer
abbrev needed : Matrix → ℕ → ℕ
needed C budget = answer_blocks (answer (divisor_of C) C budget)

-- where the search is done within the budget
abbrev done_at : Matrix → ℕ → Option ℕ
done_at C budget = find (is_done (divisor_of C) C) (done_list C budget)

record HasNext (C : Matrix) (budget l : ℕ) : Type 0 where
  pub few : l < needed C budget
  pub inside : l < end_by (facts_of C) l

answered_is : (C : Matrix) (budget : ℕ) (s : Progress) → is_answered (facts_of C) budget s ≡ is_some (finished (divisor_of C) C budget s.blocks (found_of s))
unfolding is_answered
answered_is C budget s = ap (λ (o : Option Answer). is_some o) (finished_is C budget s)

next_block : (C : Matrix) (budget : ℕ) (s : Progress) → 0 < length C.rows → budget ≤ 2 ^ 40 → IsUnderway (divisor_of C) C budget s → is_answered (facts_of C) budget s ≡ false → HasNext C budget s.blocks
next_block C budget s rows small h open_still =
    let d = divisor_of C in
    let o = done_at C budget in
    let is = target_is d C budget rows in
    let state = reached d C budget o s.blocks (found_of s) rows (some_set C) refl h.best (omega (arith, h.few, is)) in
    let less : s.blocks < target o budget = ⊎_elim
    (λ l. l)
    (λ g. absurd (false≢true (sym open_still ∙ answered_is C budget s ∙ ap (λ (a : Option Answer). is_some a) (state.here (omega (arith, g, h.few, is))))))
    (cases_lt s.blocks (target o budget)) in
    let t = some_end d C budget o s.blocks rows (some_set C) (omega (arith, small, cut_is)) refl less in
    let b = end_between C s.blocks t.0 t.1 t.2 t.3 in
    record { few = omega (arith, less, is); inside = omega (arith, b.0, end_is C s.blocks) }

pub all_needed : (C : Matrix) (budget : ℕ) (parts : List Part) → 0 < length C.rows → CoverBelow (facts_of C) budget budget parts → CoverBelow (facts_of C) budget (answer_blocks (answer (divisor_of C) C budget)) parts
all_needed C budget parts rows cover = λ b less inside.
    cover b (omega (arith, less, target_is (divisor_of C) C budget rows, target_within (divisor_of C) C budget (done_at C budget) refl)) inside

-- ---- parts that cover the blocks

covered_on : (f : Facts) (budget : ℕ) (s : Progress) (p : Part) → p.start ≤ s.blocks → s.blocks < part_end p → part_end p ≤ end_by f s.blocks → part_end p ≤ budget → continues f budget s p ≡ true
unfolding continues end_wanted
covered_on f budget s p from more phase few =
    and_from _ _ (le-leb p.start s.blocks from) (and_from _ _ (lt-ltb s.blocks (part_end p) more) (le-leb (part_end p) (end_wanted f budget s) (omega (arith, phase, few))))

covered_answered : (C : Matrix) (budget : ℕ) (parts : List Part) (s : Progress) → 0 < length C.rows → budget ≤ 2 ^ 40 → All (IsTruePart C) parts → CoverBelow (facts_of C) budget (needed C budget) parts → IsJoined (facts_of C) budget parts s → is_answered (facts_of C) budget s ≡ true
covered_answered C budget parts s rows small all cover j =
    let f = facts_of C in
    ⊎_elim
    (λ done. done)
    (λ (ends : All (λ p. continues f budget s p ≡ false) parts). ⊎_elim
    (λ t. t)
    (λ open_still.
    let n = next_block C budget s rows small (underway C budget parts s rows small all j) open_still in
    let c = cover s.blocks n.few n.inside in
    absurd (false≢true (sym (All-contains (λ p. continues f budget s p ≡ false) parts c.0 ends c.1) ∙ covered_on f budget s c.0 c.2 c.3 c.4 c.5)))
    (cases_Bool (is_answered f budget s)))
    j.ended

pub none_missing : (digest : List ℕ) (C : Matrix) (budget : ℕ) (lines : List Numbered) → 0 < length C.rows → budget ≤ 2 ^ 40 → AreEnough digest C budget lines → (a b : ℕ) → Lacks budget lines a b → ⊥
none_missing digest C budget lines rows small enough a b h =
    let j = h.0 in
    let first : IsTrueLine digest C j.first = subst (All (IsTrueLine digest C)) j.lines_are enough.holds 0 j.first (omega arith) in
    let joined : IsJoined (facts_of C) budget (parts_in lines) j.state = subst (λ (f : Facts). IsJoined f budget (parts_in lines) j.state) first.facts j.joined in
    false≢true (sym h.1 ∙ ap (λ (f : Facts). is_answered f budget j.state) first.facts ∙ covered_answered C budget (parts_in lines) j.state rows small (true_parts digest C lines enough.holds) enough.cover joined)

-- ---- true lines

same_word : (C : Matrix) (p q : Part) → IsTruePart C p → IsTruePart C q → differs_from p q ≡ false
unfolding differs_from found_in
same_word C p q h k = by (p.start == q.start) (p.count == q.count) refl refl
  where
    by : (a b : Bool) → (p.start == q.start) ≡ a → (p.count == q.count) ≡ b → (a && (b && not ((p.weight == q.weight) && (p.place == q.place)))) ≡ false
    by false b s t = refl
    by true false s t = refl
    by true true s t =
        let m = set_count C in
        let same : found_in p ≡ found_in q = h ∙ ap₂ (λ start count. least_of (found_first C m) (found_from C m start count)) (eqb-true p.start q.start s) (eqb-true p.count q.count t) ∙ sym k in
        ap not (and_from (p.weight == q.weight) (p.place == q.place) (eq-eqb p.weight q.weight (ap (λ (x : Found). x.weight) same)) (eq-eqb p.place q.place (ap (λ (x : Found). x.place) same)))

true_agree : (digest : List ℕ) (C : Matrix) (a b : Numbered) → IsTrueLine digest C a → IsTrueLine digest C b → Agree a b
true_agree digest C a b h k = ((k.script ∙ sym h.script, k.facts ∙ sym h.facts), same_word C a.line.part b.line.part h.part k.part)

pub none_disagree : (digest : List ℕ) (C : Matrix) (lines : List Numbered) → All (IsTrueLine digest C) lines → (i j : ℕ) → Disagree lines i j → ⊥
none_disagree digest C lines all i j h =
    h.disagree
    (true_agree digest C h.one h.other (subst (IsTrueLine digest C) h.one_is (all h.first h.one (omega (arith, h.earlier, h.inside)))) (subst (IsTrueLine digest C) h.other_is (all h.second h.other h.inside)))

-- ---- the text

-- a part that goes on ends after the state, within the budget
on_within : (f : Facts) (budget : ℕ) (s : Progress) (p : Part) → continues f budget s p ≡ true → (s.blocks < part_end p) × (part_end p ≤ budget)
unfolding continues end_wanted
on_within f budget s p h =
    let a = and_parts (nat_le p.start s.blocks) (nat_lt s.blocks (part_end p) && nat_le (part_end p) (end_wanted f budget s)) h in
    let b = and_parts (nat_lt s.blocks (part_end p)) (nat_le (part_end p) (end_wanted f budget s)) a.1 in
    (ltb-true s.blocks (part_end p) b.0, omega (arith, leb-true (part_end p) (end_wanted f budget s) b.1))

some_on : (f : Facts) (budget : ℕ) (s : Progress) (parts : List Part) → All (λ p. continues f budget s p ≡ false) parts ⊎ ((p : Part) × Contains parts p × (continues f budget s p ≡ true))
some_on f budget s [] = inl (λ k d l. absurd (omega (arith, l)))
some_on f budget s (p ∷ parts) =
    ⊎_elim
    (λ (t : continues f budget s p ≡ true). inr (p, contains_head p parts, t))
    (λ (u : continues f budget s p ≡ false). ⊎_elim
    (λ none. inl (All-cons (λ q. continues f budget s q ≡ false) p parts u none))
    (λ (x : (q : Part) × Contains parts q × (continues f budget s q ≡ true)). inr (x.0, contains_tail p x.0 parts x.1, x.2))
    (some_on f budget s parts))
    (cases_Bool (continues f budget s p))

module _ (f : Facts) (budget : ℕ) (parts : List Part) where
  -- what some passes bring the search to
  abbrev reached_in : ℕ → Progress
  reached_in n = along f budget (first_by f) (times n parts)

  ended_at : (n : ℕ) → (is_answered f budget (reached_in n) ≡ true) ⊎ All (λ p. continues f budget (reached_in n) p ≡ false) parts → (s : Progress) × IsJoined f budget parts s
  ended_at n e = (reached_in n, record { passes = n; reached = refl; ended = e })

  joined_from : (few n : ℕ) → budget ≤ (reached_in n).blocks + few → (s : Progress) × IsJoined f budget parts s
  joined_from zero n whole =
      ⊎_elim
      (λ none. ended_at n (inr none))
      (λ (x : (p : Part) × Contains parts p × (continues f budget (reached_in n) p ≡ true)). let w = on_within f budget (reached_in n) x.0 x.2 in absurd (omega (arith, whole, w.0, w.1)))
      (some_on f budget (reached_in n) parts)
  joined_from (suc few) n whole =
      let s = reached_in n in
      let more : reached_in (suc n) ≡ along f budget s parts = along_append f budget (first_by f) (times n parts) parts in
      ⊎_elim
      (λ (l : s.blocks < (along f budget s parts).blocks). joined_from few (suc n) (omega (arith, whole, l, ap (λ (x : Progress). x.blocks) more)))
      (λ (still : (along f budget s parts).blocks ≤ s.blocks). ended_at n (along_rests f budget s parts (omega (arith, still, along_grows f budget s parts))).done)
      (cases_lt s.blocks (along f budget s parts).blocks)

pub some_text : (digest : List ℕ) (C : Matrix) (budget : ℕ) (lines : List Numbered) → 0 < length C.rows → budget ≤ 2 ^ 40 → AreEnough digest C budget lines → (text : List ℕ) × HasText budget lines text
some_text digest C budget [] rows small enough = absurd (omega (arith, enough.some))
some_text digest C budget (x ∷ xs) rows small enough =
    let lines = x ∷ xs in
    let first : IsTrueLine digest C x = enough.holds 0 x (omega arith) in
    let r = joined_from (facts_of C) budget (parts_in lines) budget zero (omega arith) in
    let j : Joins budget lines = record {
      first = x;
      others = xs;
      lines_are = refl;
      agreed = λ i k d less inside. true_agree digest C _ _ (enough.holds i d (omega (arith, less, inside))) (enough.holds k d inside);
      state = r.0;
      joined = subst (λ (f : Facts). IsJoined f budget (parts_in lines) r.0) (sym first.facts) r.1;
    } in
    let answered = covered_answered C budget (parts_in lines) r.0 rows small (true_parts digest C lines enough.holds) enough.cover r.1 in
    (checkpoint_text (joined_point x.line.script budget r.0), (j, ap (λ (f : Facts). is_answered f budget r.0) first.facts ∙ answered, refl))

-- ---- sessions

pub session_ends : (arguments : List (List ℕ)) (old new : Ends) (ending : JoinEnding) (digest : List ℕ) (C : Matrix) (budget : ℕ) → 0 < length C.rows → budget ≤ 2 ^ 40 → join_options arguments ≡ asked budget
    → ((bytes : List ℕ) → HasRead old new bytes → AreEnough digest C budget (lines_in bytes)) → IsJoinSession arguments old new ending → WroteOrFailed ending
session_ends arguments old new ending digest C budget rows small e enough h = by ending (subst (λ (o : JoinOptions). Does o old new ending) e h)
  where
    by : (x : JoinEnding) → EndsSo budget old new x → WroteOrFailed x
    by printed k = tt
    by (refused i) k = k
    by source_fault k = tt
    by sink_fault k = tt
    by no_memory k = tt
    by too_long k = tt
    by (missing a b) k = none_missing digest C budget (lines_in k.0) rows small (enough k.0 k.1) a b k.3
    by no_part k = omega (arith, (enough k.0 k.1).some, ap (λ (lines : List Numbered). length lines) k.3)
    by (disagree i j) k = none_disagree digest C (lines_in k.0) (enough k.0 k.1).holds i j k.3
