-- Some lines make one thing, whether they are true or not.
--   rests         where the search is answered or no part goes on, the parts change nothing
--   one_end       passes over the same parts end in one state
--   one_text, one_gap, one_kind      so some lines make one text, or lack one range of blocks, and not both
use Rattle.std.proofs.Common.{◌≡◌, ℕ, zero, suc, ◌⊎◌, inl, inr, ◌<◌, ◌≤◌, true, false, if◌then◌else◌, List, [], ◌∷◌, All, sym, ap, subst, ◌∙◌, ⊎_elim, arith}
use Rattle.std.proofs.lemmas.Bool.{cases_Bool, cases_lt, false≢true}
use Rattle.lc_enumeration.specs.Records.{Progress}
use Rattle.lc_formats.specs.Checkpoint.{checkpoint_text}
use Rattle.lc_part_laws.specs.Point.{joined_point}
use Rattle.lc_parts.specs.Part.{Part, Facts}
use Rattle.lc_parts.specs.Along.{first_by, is_answered, continues, after_part, with_part, along}
use Rattle.lc_join.specs.Lines.{Numbered, parts_in}
use Rattle.lc_join.specs.Joining.{times, IsJoined, IsMissing, Joins, HasText, Lacks}
use Rattle.lc_join.proofs.AgreeLaws.{missing_least}
use Rattle.lc_join.proofs.WalkLaws.{with_is, along_cons, along_nil, along_append}

abbrev HasEnded : Facts → ℕ → Progress → List Part → Type 0
HasEnded f b s ps = (is_answered f b s ≡ true) ⊎ All (λ p. continues f b s p ≡ false) ps

stays : (f : Facts) (b : ℕ) (s : Progress) (p : Part) → (is_answered f b s ≡ true) ⊎ (continues f b s p ≡ false) → with_part f b s p ≡ s
stays f b s p (inl t) = with_is f b s p ∙ ap (λ a. if a then s else (if continues f b s p then after_part s p else s)) t
stays f b s p (inr u) =
    with_is f b s p ∙ ap (λ c. if is_answered f b s then s else (if c then after_part s p else s)) u
    ∙ ⊎_elim
    (λ (t : is_answered f b s ≡ true). ap (λ a. if a then s else s) t)
    (λ (t : is_answered f b s ≡ false). ap (λ a. if a then s else s) t)
    (cases_Bool (is_answered f b s))

rests : (f : Facts) (b : ℕ) (s : Progress) (ps : List Part) → HasEnded f b s ps → along f b s ps ≡ s
rests f b s [] e = along_nil f b s
rests f b s (p ∷ ps) (inl t) = along_cons f b s p ps ∙ ap (λ x. along f b x ps) (stays f b s p (inl t)) ∙ rests f b s ps (inl t)
rests f b s (p ∷ ps) (inr none) = along_cons f b s p ps ∙ ap (λ x. along f b x ps) (stays f b s p (inr (none 0 p (omega arith)))) ∙ rests f b s ps (inr (λ k d l. none (suc k) d (omega (arith, l))))

later : (f : Facts) (b : ℕ) (s : Progress) (ps : List Part) (m n : ℕ) → m ≤ n → along f b (first_by f) (times m ps) ≡ s → along f b s ps ≡ s → along f b (first_by f) (times n ps) ≡ s
later f b s ps m zero le e same = let here : m ≡ zero = omega (arith, le) in subst (λ i. along f b (first_by f) (times i ps) ≡ s) here e
later f b s ps m (suc n) le e same =
    ⊎_elim
    (λ (l : n < m). let here : m ≡ suc n = omega (arith, l, le) in subst (λ i. along f b (first_by f) (times i ps) ≡ s) here e)
    (λ (l : m ≤ n). along_append f b (first_by f) (times n ps) ps ∙ ap (λ x. along f b x ps) (later f b s ps m n l e same) ∙ same)
    (cases_lt n m)

one_end : (f : Facts) (b : ℕ) (ps : List Part) (s t : Progress) → IsJoined f b ps s → IsJoined f b ps t → s ≡ t
one_end f b ps s t h k =
    ⊎_elim
    (λ (l : h.passes < k.passes). sym (later f b s ps h.passes k.passes (omega (arith, l)) h.reached (rests f b s ps h.ended)) ∙ k.reached)
    (λ (l : k.passes ≤ h.passes). sym h.reached ∙ later f b t ps k.passes h.passes l k.reached (rests f b t ps k.ended))
    (cases_lt h.passes k.passes)

heads : (x y : Numbered) (xs ys : List Numbered) → x ∷ xs ≡ y ∷ ys → x ≡ y
heads x y xs ys e = let z = e in cc

module _ (budget : ℕ) (lines : List Numbered) (j k : Joins budget lines) where
  one_first : j.first ≡ k.first
  one_first = heads j.first k.first j.others k.others (sym j.lines_are ∙ k.lines_are)

  one_state : j.state ≡ k.state
  one_state = one_end k.first.line.facts budget (parts_in lines) j.state k.state (subst (λ (x : Numbered). IsJoined x.line.facts budget (parts_in lines) j.state) one_first j.joined) k.joined

pub one_text : (budget : ℕ) (lines : List Numbered) (text other : List ℕ) → HasText budget lines text → HasText budget lines other → text ≡ other
one_text budget lines text other h k =
    h.2
    ∙ ap (λ (x : Numbered). checkpoint_text (joined_point x.line.script budget h.0.state)) (one_first budget lines h.0 k.0)
    ∙ ap (λ (s : Progress). checkpoint_text (joined_point k.0.first.line.script budget s)) (one_state budget lines h.0 k.0)
    ∙ sym k.2

one_last : (f : Facts) (budget : ℕ) (ps : List Part) (s : Progress) (b d : ℕ) → IsMissing f budget ps s b → IsMissing f budget ps s d → d ≤ b
one_last f budget ps s b d h k = missing_least f budget ps ps s b d h k (λ p c. c)

pub one_gap : (budget : ℕ) (lines : List Numbered) (a b c d : ℕ) → Lacks budget lines a b → Lacks budget lines c d → (a ≡ c) × (b ≡ d)
one_gap budget lines a b c d h k =
    let first = one_first budget lines h.0 k.0 in
    let state = one_state budget lines h.0 k.0 in
    let there : IsMissing k.0.first.line.facts budget (parts_in lines) k.0.state b =
    subst (λ (s : Progress). IsMissing k.0.first.line.facts budget (parts_in lines) s b) state
    (subst (λ (x : Numbered). IsMissing x.line.facts budget (parts_in lines) h.0.state b) first h.3) in
    let less = one_last k.0.first.line.facts budget (parts_in lines) k.0.state b d there k.3 in
    let more = one_last k.0.first.line.facts budget (parts_in lines) k.0.state d b k.3 there in
    (sym h.2 ∙ ap (λ (s : Progress). s.blocks) state ∙ k.2, omega (arith, less, more))

pub one_kind : (budget : ℕ) (lines : List Numbered) (text : List ℕ) (a b : ℕ) → HasText budget lines text → Lacks budget lines a b → ⊥
one_kind budget lines text a b h k =
    let same : is_answered h.0.first.line.facts budget h.0.state ≡ is_answered k.0.first.line.facts budget k.0.state =
    ap (λ (x : Numbered). is_answered x.line.facts budget h.0.state) (one_first budget lines h.0 k.0)
    ∙ ap (λ (s : Progress). is_answered k.0.first.line.facts budget s) (one_state budget lines h.0 k.0) in
    false≢true (sym k.1 ∙ sym same ∙ h.1)
