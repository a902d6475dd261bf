-- Joins of the same true parts agree.
--   end_later, continues_later      what goes on from a state before, past a state, goes on from this state
--   step_no_farther, along_no_farther      if none of the parts goes on from a state, they bring no state before it past it
--   settled_blocks           a settled state has the blocks of the answer
--   no_farther               a join that ended is as far as any other of its parts
--   same_state               two joins of the same parts are in one state
--   texts_agree, lacks_agree, one_outcome      so they make the same text, or lack the same blocks
use Rattle.std.proofs.Common.{◌≡◌, ℕ, ◌+◌, ◌^◌, ◌<◌, ◌≤◌, ◌==◌, ◌&&◌, Bool, true, false, nat_le, nat_lt, find, cond, if◌then◌else◌, List, [], ◌∷◌, length, map, All, Contains, Option, Some, None, unwrap_or, refl, sym, ap, subst, ◌∙◌, ⊎_elim, arith}
use Rattle.std.proofs.lemmas.Bool.{cases_lt, and_parts, and_from, leb-true, ltb-false, le-leb, lt-ltb, le-ltb, false≢true}
use Rattle.std.proofs.lemmas.List.Elements.{All-contains, All-head, All-tail}
use Rattle.lc_algebra.specs.Matrix.{Matrix}
use Rattle.lc_algebra.specs.Divisor.{divisor_of}
use Rattle.lc_enumeration.specs.Plan.{plan_phases}
use Rattle.lc_enumeration.specs.Search.{Found, Answer, exact, bracket, set_count, best, bound, answer, may_end, finished}
use Rattle.lc_enumeration.specs.Records.{Progress, found_of, progress_of}
use Rattle.lc_enumeration.specs.Truth.{IsSettled, IsUnderway, answer_blocks}
use Rattle.lc_formats.specs.Checkpoint.{checkpoint_text}
use Rattle.lc_parts.specs.Part.{Part, Facts, part_end, IsTruePart, facts_of}
use Rattle.lc_parts.specs.Along.{set_number, first_by, end_by, is_answered, end_wanted, continues, after_part, with_part, along}
use Rattle.lc_parts.proofs.AlongLaws.{answered_settled}
use Rattle.lc_join.specs.Lines.{Numbered, parts_in, HaveSameParts}
use Rattle.lc_part_laws.specs.Point.{joined_point}
use Rattle.lc_join.specs.Joining.{times, IsJoined, IsMissing, Joins, HasText, Lacks}
use Rattle.lc_join.specs.Truth.{IsTrueLine}
use Rattle.lc_join.proofs.TruthLaws.{true_parts, underway}
use Rattle.lc_join.proofs.WalkLaws.{drawn}

-- ---- the parts that go on

find_later : (t s e : ℕ) (xs : List ℕ) → t ≤ s → s < e → find (nat_lt t) xs ≡ Some e → find (nat_lt s) xs ≡ Some e
find_later t s e [] l m h = absurd (let k = h in cc)
find_later t s e (x ∷ xs) l m h = by (nat_lt t x) refl (find_later t s e xs l m) h
  where
    by : (b : Bool) → nat_lt t x ≡ b → (find (nat_lt t) xs ≡ Some e → find (nat_lt s) xs ≡ Some e) → cond b (Some x) (find (nat_lt t) xs) ≡ Some e → cond (nat_lt s x) (Some x) (find (nat_lt s) xs) ≡ Some e
    by true q rest k =
        let same : x ≡ e = (let z = k in cc) in
        ap (λ (b : Bool). cond b (Some x) (find (nat_lt s) xs)) (lt-ltb s x (omega (arith, m, same))) ∙ k
    by false q rest k = ap (λ (b : Bool). cond b (Some x) (find (nat_lt s) xs)) (le-ltb s x (omega (arith, l, ltb-false t x q))) ∙ rest k

end_later : (f : Facts) (t s x : ℕ) → t ≤ s → s < x → x ≤ end_by f t → x ≤ end_by f s
unfolding end_by
end_later f t s x l m h = by (find (nat_lt t) (map (λ p. p.end) (plan_phases f.k f.q (set_number f)))) refl h
  where
    by : (o : Option ℕ) → find (nat_lt t) (map (λ p. p.end) (plan_phases f.k f.q (set_number f))) ≡ o → x ≤ unwrap_or o t → x ≤ unwrap_or (find (nat_lt s) (map (λ p. p.end) (plan_phases f.k f.q (set_number f)))) s
    by None q k = absurd (omega (arith, l, m, k))
    by (Some e) q k = subst (λ (o : Option ℕ). x ≤ unwrap_or o s) (sym (find_later t s e (map (λ p. p.end) (plan_phases f.k f.q (set_number f))) l (omega (arith, m, k)) q)) k

continues_later : (f : Facts) (budget : ℕ) (t s : Progress) (p : Part) → t.blocks ≤ s.blocks → s.blocks < part_end p → continues f budget t p ≡ true → continues f budget s p ≡ true
unfolding continues end_wanted
continues_later f budget t s p l m h =
    let a = and_parts (nat_le p.start t.blocks) (nat_lt t.blocks (part_end p) && nat_le (part_end p) (end_wanted f budget t)) h in
    let b = and_parts (nat_lt t.blocks (part_end p)) (nat_le (part_end p) (end_wanted f budget t)) a.1 in
    let few = leb-true (part_end p) (end_wanted f budget t) b.1 in
    let phase = end_later f t.blocks s.blocks (part_end p) l m (omega (arith, few)) in
    and_from _ _ (le-leb p.start s.blocks (omega (arith, l, leb-true p.start t.blocks a.0)))
    (and_from _ _ (lt-ltb s.blocks (part_end p) m) (le-leb (part_end p) (end_wanted f budget s) (omega (arith, few, phase))))

after_blocks : (s : Progress) (p : Part) → (after_part s p).blocks ≡ part_end p
unfolding after_part progress_of
after_blocks s p = refl

step_no_farther : (f : Facts) (budget : ℕ) (s t : Progress) (p : Part) → continues f budget s p ≡ false → t.blocks ≤ s.blocks → (with_part f budget t p).blocks ≤ s.blocks
unfolding with_part
step_no_farther f budget s t p ends l = by (is_answered f budget t) (continues f budget t p) refl
  where
    by : (a b : Bool) → continues f budget t p ≡ b → (if a then t else (if b then after_part t p else t)).blocks ≤ s.blocks
    by true b e = l
    by false false e = l
    by false true e =
        ⊎_elim
        (λ less. absurd (false≢true (sym ends ∙ continues_later f budget t s p l less e)))
        (λ more. omega (arith, more, after_blocks t p))
        (cases_lt s.blocks (part_end p))

along_no_farther : (f : Facts) (budget : ℕ) (parts : List Part) (s t : Progress) (taken : List Part) → All (λ p. continues f budget s p ≡ false) parts → All (Contains parts) taken → t.blocks ≤ s.blocks → (along f budget t taken).blocks ≤ s.blocks
unfolding along
along_no_farther f budget parts s t [] ends drawn l = l
along_no_farther f budget parts s t (p ∷ taken) ends drawn l =
    along_no_farther f budget parts s (with_part f budget t p) taken ends (All-tail (Contains parts) p taken drawn)
    (step_no_farther f budget s t p (All-contains (λ q. continues f budget s q ≡ false) parts p ends (All-head (Contains parts) p taken drawn)) l)

-- ---- the states

finished_blocks : (d : ℕ) (C : Matrix) (budget l : ℕ) (x : Found) (a : Answer) → finished d C budget l x ≡ Some a → answer_blocks a ≡ l
unfolding finished answer_blocks
finished_blocks d C budget l x a h = by (may_end C l && nat_le x.weight (bound d C l x.weight)) (l == budget) h
  where
    by : (b c : Bool) → (if b then Some (exact x l) else (if c then Some (bracket (bound d C l x.weight) x l) else None)) ≡ Some a → answer_blocks a ≡ l
    by true c k = let same : exact x l ≡ a = (let z = k in cc) in subst (λ (y : Answer). answer_blocks y ≡ l) same refl
    by false true k = let same : bracket (bound d C l x.weight) x l ≡ a = (let z = k in cc) in subst (λ (y : Answer). answer_blocks y ≡ l) same refl
    by false false k = absurd (let z = k in cc)

settled_blocks : (C : Matrix) (budget : ℕ) (s : Progress) → IsSettled (divisor_of C) C budget s → answer_blocks (answer (divisor_of C) C budget) ≡ s.blocks
settled_blocks C budget s h = finished_blocks (divisor_of C) C budget s.blocks (found_of s) (answer (divisor_of C) C budget) h

first_least : (f : Facts) (s : Progress) → (first_by f).blocks ≤ s.blocks
unfolding first_by
first_least f s = omega arith

-- true parts that are joined, and how far they brought the search of a code
record AreJoined (C : Matrix) (budget : ℕ) (parts : List Part) (s : Progress) : Type 0 where
  holds : All (IsTruePart C) parts
  joined : IsJoined (facts_of C) budget parts s

module _ (C : Matrix) (budget : ℕ) (rows : 0 < length C.rows) (small : budget ≤ 2 ^ 40) where
  going : (parts : List Part) (s : Progress) → AreJoined C budget parts s → IsUnderway (divisor_of C) C budget s
  going parts s h = underway C budget parts s rows small h.holds h.joined

  no_farther : (parts others : List Part) (s t : Progress) → AreJoined C budget parts s → AreJoined C budget others t → ((p : Part) → Contains others p → Contains parts p) → t.blocks ≤ s.blocks
  no_farther parts others s t h k among =
      ⊎_elim
      (λ done. omega (arith, (going others t k).few, settled_blocks C budget s (answered_settled C budget s rows (going parts s h) done)))
      (λ ends. subst (λ (r : Progress). r.blocks ≤ s.blocks) k.joined.reached
      (along_no_farther (facts_of C) budget parts s (first_by (facts_of C)) (times k.joined.passes others) ends (λ i d l. among _ (drawn k.joined.passes others i d l)) (first_least (facts_of C) s)))
      h.joined.ended

  told_by_blocks : (parts others : List Part) (s t : Progress) → AreJoined C budget parts s → AreJoined C budget others t → s.blocks ≡ t.blocks → s ≡ t
  unfolding found_of
  told_by_blocks parts others s t h k e =
      let same : found_of s ≡ found_of t = (going parts s h).best ∙ ap (best C (set_count C)) e ∙ sym (going others t k).best in
      ap (λ n. record { blocks = n; weight = s.weight; place = s.place }) e ∙ ap (λ (x : Found). record { blocks = t.blocks; weight = x.weight; place = x.place }) same

  same_state : (parts others : List Part) (s t : Progress) → AreJoined C budget parts s → AreJoined C budget others t → ((p : Part) → Contains parts p → Contains others p) → ((p : Part) → Contains others p → Contains parts p) → s ≡ t
  same_state parts others s t h k to from =
      let less = no_farther others parts t s k h to in
      let more = no_farther parts others s t h k from in
      told_by_blocks parts others s t h k (omega (arith, less, more))

pub missing_least : (f : Facts) (budget : ℕ) (parts others : List Part) (s : Progress) (b d : ℕ) → IsMissing f budget parts s b → IsMissing f budget others s d → ((p : Part) → Contains parts p → Contains others p) → d ≤ b
missing_least f budget parts others s b d h k to =
    ⊎_elim
    (λ e. omega (arith, e, k.inside))
    (λ (x : (p : Part) × Contains parts p × (s.blocks < p.start) × (p.start ≡ b + 1)). omega (arith, All-contains (λ p. s.blocks < p.start → d < p.start) others x.0 k.before (to x.0 x.1) x.2, x.3))
    h.last

-- ---- the lines

module _ (digest : List ℕ) (C : Matrix) (budget : ℕ) (lines : List Numbered) (all : All (IsTrueLine digest C) lines) (j : Joins budget lines) where
  first_true : IsTrueLine digest C j.first
  first_true = subst (All (IsTrueLine digest C)) j.lines_are all 0 j.first (omega arith)

  lines_joined : AreJoined C budget (parts_in lines) j.state
  lines_joined = record {
    holds = true_parts digest C lines all;
    joined = subst (λ (f : Facts). IsJoined f budget (parts_in lines) j.state) first_true.facts j.joined;
  }

module _ (digest : List ℕ) (C : Matrix) (budget : ℕ) (lines others : List Numbered) (rows : 0 < length C.rows) (small : budget ≤ 2 ^ 40) (all : All (IsTrueLine digest C) lines) (each : All (IsTrueLine digest C) others) (same : HaveSameParts lines others) where
  one_state : (j : Joins budget lines) (k : Joins budget others) → j.state ≡ k.state
  one_state j k = same_state C budget rows small (parts_in lines) (parts_in others) j.state k.state (lines_joined digest C budget lines all j) (lines_joined digest C budget others each k) (λ p c. (same p).0 c) (λ p c. (same p).1 c)

  one_test : (j : Joins budget lines) (k : Joins budget others) → is_answered j.first.line.facts budget j.state ≡ is_answered k.first.line.facts budget k.state
  one_test j k =
      ap (λ (f : Facts). is_answered f budget j.state) ((first_true digest C budget lines all j).facts ∙ sym (first_true digest C budget others each k).facts)
      ∙ ap (λ (s : Progress). is_answered k.first.line.facts budget s) (one_state j k)

  pub texts_agree : (text other : List ℕ) → HasText budget lines text → HasText budget others other → text ≡ other
  texts_agree text other h k =
      h.2
      ∙ ap (λ script. checkpoint_text (joined_point script budget h.0.state)) ((first_true digest C budget lines all h.0).script ∙ sym (first_true digest C budget others each k.0).script)
      ∙ ap (λ (s : Progress). checkpoint_text (joined_point k.0.first.line.script budget s)) (one_state h.0 k.0)
      ∙ sym k.2

  pub lacks_agree : (a b c d : ℕ) → Lacks budget lines a b → Lacks budget others c d → (a ≡ c) × (b ≡ d)
  lacks_agree a b c d h k =
      let e = one_state h.0 k.0 in
      let one : IsMissing (facts_of C) budget (parts_in lines) h.0.state b = subst (λ (f : Facts). IsMissing f budget (parts_in lines) h.0.state b) (first_true digest C budget lines all h.0).facts h.3 in
      let there : IsMissing (facts_of C) budget (parts_in others) k.0.state d = subst (λ (f : Facts). IsMissing f budget (parts_in others) k.0.state d) (first_true digest C budget others each k.0).facts k.3 in
      let other : IsMissing (facts_of C) budget (parts_in others) h.0.state d = subst (λ (s : Progress). IsMissing (facts_of C) budget (parts_in others) s d) (sym e) there in
      let less = missing_least (facts_of C) budget (parts_in lines) (parts_in others) h.0.state b d one other (λ p m. (same p).0 m) in
      let more = missing_least (facts_of C) budget (parts_in others) (parts_in lines) h.0.state d b other one (λ p m. (same p).1 m) in
      (sym h.2 ∙ ap (λ (s : Progress). s.blocks) e ∙ k.2, omega (arith, less, more))

  pub one_outcome : (text : List ℕ) (a b : ℕ) → HasText budget lines text → Lacks budget others a b → ⊥
  one_outcome text a b h k = false≢true (sym k.1 ∙ sym (one_test h.0 k.0) ∙ h.1)
