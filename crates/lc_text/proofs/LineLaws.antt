-- The lines of answers.
--   answered_parts       an answer of a search tells its word and its blocks
--   answered_word        the word of the answer is there
--   exact_word, bracket_word      there is a word at its place
--   exact_line, between_line     the lines of distances
--   exact_said, between_said     the lines of certificates
use Rattle.std.proofs.Common.{◌≡◌, ◌++◌, ℕ, true, List, [], Some, unwrap_or, Result, IfOk, codes, decimal, refl, sym, ap, subst, ◌∙◌}
use Rattle.std.specs.Global.{Vec}
use Rattle.std.proofs.lemmas.Result.{IfOk-weaker}
use Rattle.lc_algebra.specs.Matrix.{Matrix, AreRows}
use Rattle.lc_algebra.specs.Span.{AreIndependent}
use Rattle.lc_algebra.specs.Divisor.{divisor_of}
use Rattle.lc_enumeration.specs.Search.{Found, exact, fits, set_count, word_at}
use Rattle.lc_enumeration.specs.Records.{found_of}
use Rattle.lc_enumeration.specs.Truth.{HasWord, answer_blocks}
use Rattle.lc_infoset.proofs.FittingLaws.{answer_found, finished_state}
use Rattle.lc_formats.specs.Text.{line}
use Rattle.lc_language.specs.Print.{distance_line, bracket_line}
use Rattle.lc_language.specs.Query.{QueryKind, distance_answer_line, certificate_answer_line, word_at_place}
use Rattle.lc_search.specs.State.{SearchState, answer_in, answer_of}
use Rattle.lc_search.specs.declared.answer.Answer.{Answer as Answered}
use Rattle.lc_search.specs.declared.answer.Answer.TheVariants.{Exact, Bracket}
use Rattle.lc_search.proofs.FitLaws.{fitting_word}

abbrev pub found_in : Answered → Found
found_in (Exact weight place blocks) = record { weight = weight; place = place }
found_in (Bracket low weight place blocks) = record { weight = weight; place = place }

found_same : (a : Answered) → answer_found (answer_of a) ≡ found_in a
unfolding answer_found
found_same (Exact weight place blocks) = refl
found_same (Bracket low weight place blocks) = refl

pub answered_parts : (s : SearchState) (a : Answered) → answer_in s ≡ Some (answer_of a) → (found_in a ≡ found_of s.progress) × (answer_blocks (answer_of a) ≡ s.progress.blocks)
answered_parts s a e =
    let t = finished_state (divisor_of s.code) s.code s.budget s.progress.blocks (found_of s.progress) (answer_of a) e in
    (sym (found_same a) ∙ t.0, t.1)

pub answered_word : {D : Matrix} (s : SearchState) (a : Answered) → answer_in s ≡ Some (answer_of a) → fits s.code s.progress.blocks (found_of s.progress) ≡ true → D ≡ s.code → AreRows D.field D.columns D.rows → AreIndependent D.field D.columns D.rows → HasWord s.code (found_in a)
answered_word {D = D} s a e f same rows free =
    let words : AreRows s.code.field s.code.columns s.code.rows = subst (λ (B : Matrix). AreRows B.field B.columns B.rows) same rows in
    let apart : AreIndependent s.code.field s.code.columns s.code.rows = subst (λ (B : Matrix). AreIndependent B.field B.columns B.rows) same free in
    subst (HasWord s.code) (sym (answered_parts s a e).0) (fitting_word s.code s.progress.blocks (found_of s.progress) words apart f)

-- ---- the places

pub exact_word : {D : Matrix} (s : SearchState) (a : Answered) (weight place blocks : ℕ) → a ≡ Exact weight place blocks → answer_in s ≡ Some (answer_of a) → fits s.code s.progress.blocks (found_of s.progress) ≡ true → D ≡ s.code → AreRows D.field D.columns D.rows → AreIndependent D.field D.columns D.rows → HasWord s.code (record { weight = weight; place = place })
exact_word s a weight place blocks is e f same rows free = subst (λ (x : Answered). HasWord s.code (found_in x)) is (answered_word s a e f same rows free)

pub bracket_word : {D : Matrix} (s : SearchState) (a : Answered) (low weight place blocks : ℕ) → a ≡ Bracket low weight place blocks → answer_in s ≡ Some (answer_of a) → fits s.code s.progress.blocks (found_of s.progress) ≡ true → D ≡ s.code → AreRows D.field D.columns D.rows → AreIndependent D.field D.columns D.rows → HasWord s.code (record { weight = weight; place = place })
bracket_word s a low weight place blocks is e f same rows free = subst (λ (x : Answered). HasWord s.code (found_in x)) is (answered_word s a e f same rows free)

-- ---- the lines

pub exact_line : {E : Type 0} (C : Matrix) (a : Answered) (weight place blocks : ℕ) (w : List ℕ) (r : Result (Vec ℕ) E) → a ≡ Exact weight place blocks → word_at C (set_count C) place ≡ Some w → IfOk r (λ line. line.items ≡ distance_line weight w blocks) → IfOk r (λ line. line.items ≡ distance_answer_line C (answer_of a))
unfolding distance_answer_line word_at_place
exact_line C a weight place blocks w r is at h =
    let word = ap (λ o. distance_line weight (unwrap_or o []) blocks) (sym at) in
    IfOk-weaker r (λ line. line.items ≡ distance_line weight w blocks) (λ line. line.items ≡ distance_answer_line C (answer_of a)) (λ line l. l ∙ word ∙ ap (λ (x : Answered). distance_answer_line C (answer_of x)) (sym is)) h

pub between_line : {E : Type 0} (C : Matrix) (a : Answered) (low weight place blocks : ℕ) (w : List ℕ) (r : Result (Vec ℕ) E) → a ≡ Bracket low weight place blocks → word_at C (set_count C) place ≡ Some w → IfOk r (λ line. line.items ≡ bracket_line low weight w blocks) → IfOk r (λ line. line.items ≡ distance_answer_line C (answer_of a))
unfolding distance_answer_line word_at_place
between_line C a low weight place blocks w r is at h =
    let word = ap (λ o. bracket_line low weight (unwrap_or o []) blocks) (sym at) in
    IfOk-weaker r (λ line. line.items ≡ bracket_line low weight w blocks) (λ line. line.items ≡ distance_answer_line C (answer_of a)) (λ line l. l ∙ word ∙ ap (λ (x : Answered). distance_answer_line C (answer_of x)) (sym is)) h

blocks_told : (s : SearchState) (weight place blocks : ℕ) → answer_in s ≡ Some (answer_of (Exact weight place blocks)) → blocks ≡ s.progress.blocks
unfolding answer_blocks
blocks_told s weight place blocks e = (answered_parts s (Exact weight place blocks) e).1

pub exact_said : (k : QueryKind) (s : SearchState) (a : Answered) (weight place blocks : ℕ) (text : List ℕ) → a ≡ Exact weight place blocks → answer_in s ≡ Some (answer_of a) → text ≡ certificate_answer_line k s.code (exact (record { weight = weight; place = place }) s.progress.blocks) → text ≡ certificate_answer_line k s.code (answer_of a)
exact_said k s a weight place blocks text is e h =
    let done = blocks_told s weight place blocks (subst (λ (x : Answered). answer_in s ≡ Some (answer_of x)) is e) in
    h ∙ ap (λ (n : ℕ). certificate_answer_line k s.code (exact (record { weight = weight; place = place }) n)) (sym done) ∙ ap (λ (x : Answered). certificate_answer_line k s.code (answer_of x)) (sym is)

between : (k : QueryKind) (C : Matrix) (low weight place blocks : ℕ) → certificate_answer_line k C (answer_of (Bracket low weight place blocks)) ≡ line (codes "certificate none between " ++ decimal low ++ codes " and " ++ decimal weight)
unfolding certificate_answer_line
between k C low weight place blocks = refl

pub between_said : (k : QueryKind) (C : Matrix) (a : Answered) (low weight place blocks : ℕ) (text : List ℕ) → a ≡ Bracket low weight place blocks → text ≡ line (codes "certificate none between " ++ decimal low ++ codes " and " ++ decimal weight) → text ≡ certificate_answer_line k C (answer_of a)
between_said k C a low weight place blocks text is h = h ∙ sym (between k C low weight place blocks) ∙ ap (λ (x : Answered). certificate_answer_line k C (answer_of x)) (sym is)
