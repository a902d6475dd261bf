-- Parts that are taken until none goes on.
--   pass_more, pass_end      the search after the lines so far, and after all
--   Walked, walked_first, walked_more    what is kept from pass to pass
--   drawn                        what is taken in some passes is among the parts
--   walked_end                   where a pass changes nothing
--   pass_grows                   no pass goes back
--   Sought, sought_first, sought_more, sought_other, sought_end      the next begin among the parts seen so far
use Rattle.std.proofs.Common.{◌≡◌, ◌≢◌, ℕ, zero, suc, ◌⊎◌, inl, inr, ◌+◌, ◌<◌, ◌≤◌, min, ◌&&◌, true, false, nat_le, nat_lt, if◌then◌else◌, List, [], ◌∷◌, ◌++◌, length, map, drop, get_or, All, Contains, refl, sym, ap, ap₂, subst, ◌∙◌, ⊎_elim, arith}
use Rattle.std.proofs.lemmas.Bool.{cases_Bool, cases_eq, cases_lt, and_parts, ltb-true}
use Rattle.std.proofs.lemmas.List.{at_drop_more, at_drop_all, get_or-map, get_or_default, length-map}
use Rattle.std.proofs.lemmas.List.Elements.{All-append}
use Rattle.lc_enumeration.specs.Records.{Progress, progress_of}
use Rattle.lc_parts.specs.Part.{Part, Facts, part_end}
use Rattle.lc_parts.specs.Along.{first_by, is_answered, end_wanted, continues, after_part, with_part, along}
use Rattle.lc_parts.specs.Joined.{JoinState, with_line, with_lines}
use Rattle.lc_parts.proofs.JoinLaws.{lines_along, lines_keep}
use Rattle.lc_parts.specs.Seen.{part_of}
use Rattle.lc_part_lines.specs.Seen.{line_of}
use Rattle.lc_join.specs.Lines.{parts_in}
use Rattle.lc_join.specs.Joining.{times, IsJoined, IsMissing}
use Rattle.lc_join.specs.Seen.{numbered_of}
use Rattle.lc_join.specs.declared.lines.Numbered.{Numbered}

-- ---- one pass

-- the parts of some lines
abbrev pub parts_of : List Numbered → List Part
parts_of xs = parts_in (map numbered_of xs)

part_is : (x : Numbered) → (numbered_of x).line.part ≡ part_of x.line.part
unfolding numbered_of line_of
part_is x = refl

pass_cons : (s : JoinState) (p : Part) (ps : List Part) → with_lines s (p ∷ ps) ≡ with_lines (with_line s p) ps
unfolding with_lines
pass_cons s p ps = refl

pass_nil : (s : JoinState) → with_lines s [] ≡ s
unfolding with_lines
pass_nil s = refl

pub pass_more : (whole s t : JoinState) (xs : List Numbered) (i : ℕ) (x : Numbered) → i < length xs → t ≡ with_line s (part_of (get_or xs i x).line.part) → with_lines s (parts_of (drop i xs)) ≡ whole → with_lines t (parts_of (drop (i + 1) xs)) ≡ whole
pass_more whole s t xs i x l made so_far =
    let rest = parts_of (drop (i + 1) xs) in
    ap (λ z. with_lines z rest) (made ∙ ap (with_line s) (sym (part_is (get_or xs i x))))
    ∙ sym (pass_cons s (numbered_of (get_or xs i x)).line.part rest)
    ∙ sym (at_drop_more (λ ys. with_lines s (parts_of ys)) xs i x l)
    ∙ so_far

pub pass_end : (whole s : JoinState) (xs : List Numbered) (i : ℕ) → length xs ≤ i → with_lines s (parts_of (drop i xs)) ≡ whole → s ≡ whole
pass_end whole s xs i l so_far = sym (pass_nil s) ∙ sym (at_drop_all (λ ys. with_lines s (parts_of ys)) xs i l) ∙ so_far

-- ---- passes

pub with_is : (f : Facts) (b : ℕ) (s : Progress) (p : Part) → with_part f b s p ≡ (if is_answered f b s then s else (if continues f b s p then after_part s p else s))
unfolding with_part
with_is f b s p = refl

after_blocks : (s : Progress) (p : Part) → (after_part s p).blocks ≡ part_end p
unfolding after_part progress_of
after_blocks s p = refl

reaches_on : (f : Facts) (b : ℕ) (s : Progress) (p : Part) → continues f b s p ≡ true → s.blocks < part_end p
unfolding continues
reaches_on f b s p t =
    let a = and_parts (nat_le p.start s.blocks) (nat_lt s.blocks (part_end p) && nat_le (part_end p) (end_wanted f b s)) t in
    let c = and_parts (nat_lt s.blocks (part_end p)) (nat_le (part_end p) (end_wanted f b s)) a.1 in
    ltb-true s.blocks (part_end p) c.0

-- one part moves the search on, or the state stays
pub record Stays (f : Facts) (b : ℕ) (s : Progress) (p : Part) : Type 0 where
  pub same : with_part f b s p ≡ s
  pub done : (is_answered f b s ≡ true) ⊎ (continues f b s p ≡ false)

step : (f : Facts) (b : ℕ) (s : Progress) (p : Part) → (s.blocks < (with_part f b s p).blocks) ⊎ Stays f b s p
step f b s p =
    ⊎_elim
    (λ (t : is_answered f b s ≡ true). inr (record { same = with_is f b s p ∙ ap (λ a. if a then s else (if continues f b s p then after_part s p else s)) t; done = inl t }))
    (λ (t : is_answered f b s ≡ false). ⊎_elim
    (λ (u : continues f b s p ≡ true). inl (let e = with_is f b s p ∙ ap₂ (λ a c. if a then s else (if c then after_part s p else s)) t u in omega (arith, ap (λ (x : Progress). x.blocks) e, after_blocks s p, reaches_on f b s p u)))
    (λ (u : continues f b s p ≡ false). inr (record { same = with_is f b s p ∙ ap₂ (λ a c. if a then s else (if c then after_part s p else s)) t u; done = inr u }))
    (cases_Bool (continues f b s p)))
    (cases_Bool (is_answered f b s))

pub along_cons : (f : Facts) (b : ℕ) (s : Progress) (p : Part) (ps : List Part) → along f b s (p ∷ ps) ≡ along f b (with_part f b s p) ps
unfolding along
along_cons f b s p ps = refl

pub along_nil : (f : Facts) (b : ℕ) (s : Progress) → along f b s [] ≡ s
unfolding along
along_nil f b s = refl

step_grows : (f : Facts) (b : ℕ) (s : Progress) (p : Part) → s.blocks ≤ (with_part f b s p).blocks
step_grows f b s p = ⊎_elim (λ l. omega (arith, l)) (λ (h : Stays f b s p). omega (arith, ap (λ (x : Progress). x.blocks) h.same)) (step f b s p)

pub along_grows : (f : Facts) (b : ℕ) (s : Progress) (ps : List Part) → s.blocks ≤ (along f b s ps).blocks
along_grows f b s [] = omega (arith, ap (λ (x : Progress). x.blocks) (along_nil f b s))
along_grows f b s (p ∷ ps) = omega (arith, ap (λ (x : Progress). x.blocks) (along_cons f b s p ps), step_grows f b s p, along_grows f b (with_part f b s p) ps)

pub along_append : (f : Facts) (b : ℕ) (s : Progress) (ps qs : List Part) → along f b s (ps ++ qs) ≡ along f b (along f b s ps) qs
along_append f b s [] qs = ap (λ x. along f b x qs) (sym (along_nil f b s))
along_append f b s (p ∷ ps) qs = along_cons f b s p (ps ++ qs) ∙ along_append f b (with_part f b s p) ps qs ∙ ap (λ x. along f b x qs) (sym (along_cons f b s p ps))

-- where a pass does no block, the state stays, and the search is answered or no part goes on
pub record Rests (f : Facts) (b : ℕ) (s : Progress) (ps : List Part) : Type 0 where
  pub same : along f b s ps ≡ s
  pub done : (is_answered f b s ≡ true) ⊎ All (λ p. continues f b s p ≡ false) ps

none_of : (f : Facts) (b : ℕ) (s : Progress) (p : Part) (ps : List Part) → continues f b s p ≡ false → All (λ q. continues f b s q ≡ false) ps → All (λ q. continues f b s q ≡ false) (p ∷ ps)
none_of f b s p ps h all zero d l = h
none_of f b s p ps h all (suc k) d l = all k d (omega (arith, l))

pub along_rests : (f : Facts) (b : ℕ) (s : Progress) (ps : List Part) → (along f b s ps).blocks ≡ s.blocks → Rests f b s ps
along_rests f b s [] e = record { same = along_nil f b s; done = inr (λ k d l. absurd (omega (arith, l))) }
along_rests f b s (p ∷ ps) e =
    ⊎_elim
    (λ l. absurd (omega (arith, l, e, ap (λ (x : Progress). x.blocks) (along_cons f b s p ps), along_grows f b (with_part f b s p) ps)))
    (λ (h : Stays f b s p).
    let whole : along f b s (p ∷ ps) ≡ along f b s ps = along_cons f b s p ps ∙ ap (λ x. along f b x ps) h.same in
    let rest = along_rests f b s ps (sym (ap (λ (x : Progress). x.blocks) whole) ∙ e) in
    record {
      same = whole ∙ rest.same;
      done = ⊎_elim (λ t. inl t) (λ u. ⊎_elim (λ t. inl t) (λ all. inr (none_of f b s p ps u all)) rest.done) h.done;
    })
    (step f b s p)

pub record Walked (first s : JoinState) (ps : List Part) : Type 0 where
  pub passes : ℕ
  pub reached : along first.facts first.budget (first_by first.facts) (times passes ps) ≡ s.progress
  pub facts : s.facts ≡ first.facts
  pub budget : s.budget ≡ first.budget
  pub script : s.script ≡ first.script

pub walked_first : (first : JoinState) (ps : List Part) → first.progress ≡ first_by first.facts → Walked first first ps
walked_first first ps e = record {
  passes = zero;
  reached = along_nil first.facts first.budget (first_by first.facts) ∙ sym e;
  facts = refl;
  budget = refl;
  script = refl;
}

themselves : (ps : List Part) → All (Contains ps) ps
themselves ps k d l = (k, l, get_or_default ps k (get_or ps k d) d l)

pub drawn : (n : ℕ) (ps : List Part) → All (Contains ps) (times n ps)
drawn zero ps = λ k d l. absurd (omega (arith, l))
drawn (suc n) ps = All-append (Contains ps) (times n ps) ps (drawn n ps) (themselves ps)

pub walked_more : (first s t : JoinState) (ps : List Part) → t ≡ with_lines s ps → Walked first s ps → Walked first t ps
walked_more first s t ps made h =
    let kept = lines_keep s ps in
    record {
      passes = suc h.passes;
      reached = along_append first.facts first.budget (first_by first.facts) (times h.passes ps) ps
          ∙ ap (λ x. along first.facts first.budget x ps) h.reached
          ∙ ap₂ (λ f b. along f b s.progress ps) (sym h.facts) (sym h.budget)
          ∙ sym (lines_along s ps) ∙ ap (λ (x : JoinState). x.progress) (sym made);
      facts = ap (λ (x : JoinState). x.facts) made ∙ kept.0 ∙ h.facts;
      budget = ap (λ (x : JoinState). x.budget) made ∙ kept.1 ∙ h.budget;
      script = ap (λ (x : JoinState). x.script) made ∙ kept.2 ∙ h.script;
    }

pub pass_grows : (s t : JoinState) (ps : List Part) → t ≡ with_lines s ps → s.progress.blocks ≤ t.progress.blocks
pass_grows s t ps made = omega (arith, along_grows s.facts s.budget s.progress ps, ap (λ (x : Progress). x.blocks) (lines_along s ps), ap (λ (x : JoinState). x.progress.blocks) made)

pub walked_end : (first s t : JoinState) (ps : List Part) → t ≡ with_lines s ps → t.progress.blocks ≡ s.progress.blocks → Walked first s ps → IsJoined first.facts first.budget ps t.progress
walked_end first s t ps made still h =
    let went : t.progress ≡ along s.facts s.budget s.progress ps = ap (λ (x : JoinState). x.progress) made ∙ lines_along s ps in
    let r = along_rests s.facts s.budget s.progress ps (sym (ap (λ (x : Progress). x.blocks) went) ∙ still) in
    let same : t.progress ≡ s.progress = went ∙ r.same in
    let done : (is_answered first.facts first.budget t.progress ≡ true) ⊎ All (λ p. continues first.facts first.budget t.progress p ≡ false) ps = rw (sym h.facts, sym h.budget, same) r.done in
    record { passes = h.passes; reached = h.reached ∙ sym same; ended = done }

-- ---- what is missing

-- the least begin after these blocks among the first parts, if that is before the end wanted; else that end
pub record Sought (blocks wanted : ℕ) (ps : List Part) (i next : ℕ) : Type 0 where
  pub more : blocks < next
  pub within : next ≤ wanted
  pub before : (k : ℕ) (d : Part) → k < i → k < length ps → blocks < (get_or ps k d).start → next ≤ (get_or ps k d).start
  pub last : (next ≡ wanted) ⊎ ((p : Part) × Contains ps p × (blocks < p.start) × (p.start ≡ next))

pub sought_first : (blocks wanted next : ℕ) (ps : List Part) → blocks < wanted → next ≡ wanted → Sought blocks wanted ps 0 next
sought_first blocks wanted next ps l e = record { more = omega (arith, l, e); within = omega (arith, e); before = λ k d m _ _. absurd (omega (arith, m)); last = inl e }

-- the part of a line
pub part_at : (xs : List Numbered) (i : ℕ) (x : Numbered) (d : Part) → i < length xs → get_or (parts_of xs) i d ≡ part_of (get_or xs i x).line.part
part_at xs i x d l =
    get_or-map (λ y. y.line.part) (map numbered_of xs) i (numbered_of x) d (omega (arith, length-map xs numbered_of, l))
    ∙ ap (λ y. y.line.part) (get_or-map numbered_of xs i x (numbered_of x) l)
    ∙ part_is (get_or xs i x)

pub parts_length : (xs : List Numbered) → length (parts_of xs) ≡ length xs
parts_length xs = length-map (map numbered_of xs) (λ y. y.line.part) ∙ length-map xs numbered_of

pub sought_more : (blocks wanted next nearer : ℕ) (xs : List Numbered) (i : ℕ) (x : Numbered) → i < length xs → blocks < (get_or xs i x).line.part.start → nearer ≡ min next (get_or xs i x).line.part.start → Sought blocks wanted (parts_of xs) i next → Sought blocks wanted (parts_of xs) (i + 1) nearer
sought_more blocks wanted next nearer xs i x l after made h =
    let ps = parts_of xs in
    let y = get_or xs i x in
    let here : (d : Part) → get_or ps i d ≡ part_of y.line.part = λ d. part_at xs i x d l in
    record {
      more = omega (arith, made, h.more, after);
      within = omega (arith, made, h.within);
      before = λ k d low inside late. ⊎_elim
          (λ (e : k ≡ i). omega (arith, made, ap (λ (p : Part). p.start) (ap (λ j. get_or ps j d) e ∙ here d)))
          (λ (n : k ≢ i). omega (arith, made, h.before k d (omega (arith, low, n)) inside late))
          (cases_eq k i);
      last = ⊎_elim
          (λ (less : y.line.part.start < next). inr (part_of y.line.part, (i, omega (arith, l, parts_length xs), here (part_of y.line.part)), after, omega (arith, made, less)))
          (λ (more : next ≤ y.line.part.start). let same : nearer ≡ next = omega (arith, made, more) in rw same h.last)
          (cases_lt y.line.part.start next);
    }

pub sought_other : (blocks wanted next : ℕ) (xs : List Numbered) (i : ℕ) (x : Numbered) → i < length xs → (get_or xs i x).line.part.start ≤ blocks → Sought blocks wanted (parts_of xs) i next → Sought blocks wanted (parts_of xs) (i + 1) next
sought_other blocks wanted next xs i x l before h =
    let ps = parts_of xs in
    let here : (d : Part) → get_or ps i d ≡ part_of (get_or xs i x).line.part = λ d. part_at xs i x d l in
    record {
      more = h.more;
      within = h.within;
      before = λ k d low inside late. ⊎_elim
          (λ (e : k ≡ i). absurd (omega (arith, before, late, ap (λ (p : Part). p.start) (ap (λ j. get_or ps j d) e ∙ here d))))
          (λ (n : k ≢ i). h.before k d (omega (arith, low, n)) inside late)
          (cases_eq k i);
      last = h.last;
    }

pub sought_end : (f : Facts) (budget : ℕ) (s : Progress) (ps : List Part) (i next b : ℕ) → length ps ≤ i → b + 1 ≡ next → Sought s.blocks (end_wanted f budget s) ps i next → IsMissing f budget ps s b
sought_end f budget s ps i next b l is h = record {
  inside = omega (arith, is, h.within);
  before = λ k d inside late. omega (arith, is, h.before k d (omega (arith, inside, l)) inside late);
  last = subst (λ n. (n ≡ end_wanted f budget s) ⊎ ((p : Part) × Contains ps p × (s.blocks < p.start) × (p.start ≡ n))) (sym is) h.last;
}
