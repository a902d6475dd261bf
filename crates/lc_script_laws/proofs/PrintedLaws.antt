-- What a script prints of its searches, of the words that it counts and for nearest words is true.
--   exact_stated, bracket_stated      the line of a distance, and that of a bracket
--   dear_or_text         the line of a certificate says a cost or a length, or is the text of one that can be afforded
--   certificate_said     the line of a certificate
--   line_true            the line of a query on a code that a script searches
--   text_made            a text is made of pieces, of which those of the queries on codes are the lines of its needs, the weight
--                        distributions those of the codes that it counts, and the others those of its queries for nearest words
--   text_true            and these are true
--   needs_true           the answers for the needs of a script are true
--   large_exact, large_stated      a budget of as many blocks as all sets together have messages gives an exact answer
use Rattle.std.proofs.Common.{◌≡◌, ℕ, suc, ◌-◌, ◌*◌, ◌/◌, ◌^◌, ◌≤◌, ◌⊎◌, ◌==◌, min, nat_le, nat_lt, if◌then◌else◌, Bool, true, false, List, [], ◌∷◌, ◌++◌, length, find, filter, All, codes, inl, inr, ⊎_elim, refl, sym, ap, subst, ◌∙◌, arith}
use Rattle.std.specs.Prelude.{Option, Some, None, slice_get}
use Rattle.std.proofs.lemmas.Bool.{cases_Bool, ltb-true, ltb-false}
use Rattle.std.proofs.lemmas.List.{append-nil}
use Rattle.std.proofs.lemmas.List.Elements.{All-nil, All-cons}
use Rattle.lc_algebra.specs.Field.{size}
use Rattle.lc_algebra.specs.Matrix.{Matrix}
use Rattle.lc_algebra.specs.Divisor.{divisor_of}
use Rattle.lc_enumeration.specs.Search.{Found, Answer, no_word, exact, bracket, set_count, is_done, ends_of, answer_at, answer}
use Rattle.lc_enumeration.specs.Truth.{IsAtPlace, AnswerHolds}
use Rattle.lc_infoset.proofs.SearchTruth.{own_answer}
use Rattle.lc_infoset.proofs.PlanCount.{whole_budget}
use Rattle.lc_formats.specs.Certificate.{Certificate, cost}
use Rattle.lc_formats.specs.CertificateText.{certificate_text}
use Rattle.lc_formats.specs.Text.{line}
use Rattle.lc_grammar.specs.Tree.{Statement}
use Rattle.lc_grammar.specs.Grammar.{Reads, Fault, IsFault}
use Rattle.lc_language.specs.declared.Call.{Call}
use Rattle.lc_language.specs.Value.{Binding}
use Rattle.lc_language.specs.Print.{fault_line}
use Rattle.lc_language.specs.Query.{QueryKind, distance, by_levels, by_scan, longest, certificate_of, no_certificate_line, certificate_line, word_at_place, distance_answer_line, certificate_answer_line, query_line, distribution_line, near_line}
use Rattle.lc_language.specs.Evaluation.{Step, Steps, binds, prints, asks, counts, nears, fails, Prints, Runs, IsText}
use Rattle.lc_session_rules.specs.Needs.{Needs, IsNeeds, MeetsFirst}
use Rattle.lc_session_rules.specs.Nears.{Nears, AreNears}
use Rattle.lc_session_rules.proofs.AnswerLaws.{met_whole}
use Rattle.lc_session_rules.proofs.AskLaws.{met_rows}
use Rattle.lc_certify.specs.Accepted.{IsSearchable, IsAcceptedFor}
use Rattle.lc_certify.proofs.ValidLaws.{code_distance, valid_at, exact_at}
use Rattle.lc_certify.proofs.AcceptedLaws.{told_accepted, shaped_at}
use Rattle.lc_script_laws.specs.Counted.{Counts, AreCounted}
use Rattle.lc_script_laws.specs.Printed.{Piece, plain, asked, counted, nearest, pieces_text, codes_in, counted_in, nears_in, StatesDistance, StatesBracket, SaysBetween, SaysDear, IsTrueLine, IsTruePiece}
use Rattle.lc_script_laws.proofs.AskShapes.{AreCodesOfRows}
use Rattle.lc_script_laws.proofs.CertificateLaws.{need_searchable}
use Rattle.lc_script_laws.proofs.CountedLaws.{distribution_stated, counted_shaped}
use Rattle.lc_script_laws.proofs.NearestLaws.{AreNearQueries, nears_asked, near_stated}

-- ---- distances

pub exact_stated : (C : Matrix) (budget l : ℕ) (x : Found) → IsSearchable C → answer (divisor_of C) C budget ≡ exact x l → StatesDistance C (distance_answer_line C (exact x l))
unfolding distance_answer_line
exact_stated C budget l x h e =
    let t = exact_at C budget l x h e in
    record { distance = x.weight; word = word_at_place C x.place; blocks = l; line_is = refl; least = code_distance C (word_at_place C x.place) x.weight l h t.0; inside = t.0.inside; weighs = t.0.weighs }

bracket_at : (d : ℕ) (C : Matrix) (budget : ℕ) (o : Option ℕ) (low l : ℕ) (x : Found) → answer_at d C budget o ≡ bracket low x l → l ≡ budget
unfolding answer_at
bracket_at d C budget None low l x e = (let f = e in cc)
bracket_at d C budget (Some m) low l x e = absurd (let f = e in cc)

-- the blocks of a bracket are the budget
bracket_blocks : (d : ℕ) (C : Matrix) (budget low l : ℕ) (x : Found) → answer d C budget ≡ bracket low x l → l ≡ budget
unfolding answer
bracket_blocks d C budget low l x e = by (length C.rows == 0) e
  where
    by : (b : Bool) → (if b then no_word else answer_at d C budget (find (is_done d C) (0 ∷ filter (λ end. nat_le end budget) (ends_of C)))) ≡ bracket low x l → l ≡ budget
    by true e = absurd (let f = e in cc)
    by false e = bracket_at d C budget (find (is_done d C) (0 ∷ filter (λ end. nat_le end budget) (ends_of C))) low l x e

word_here : (C : Matrix) (place : ℕ) (w : List ℕ) → IsAtPlace C (set_count C) place w → word_at_place C place ≡ w
unfolding word_at_place
word_here C place w at = rw at refl

holds : (C : Matrix) (budget : ℕ) (a : Answer) → IsSearchable C → answer (divisor_of C) C budget ≡ a → AnswerHolds C a
holds C budget a h e = subst (AnswerHolds C) e (own_answer C budget h.words h.independent)

pub bracket_stated : (C : Matrix) (budget low l : ℕ) (x : Found) → IsSearchable C → answer (divisor_of C) C budget ≡ bracket low x l → StatesBracket C budget (distance_answer_line C (bracket low x l))
unfolding distance_answer_line
bracket_stated C budget low l x h e =
    let (between, has) = holds C budget (bracket low x l) h e in
    let (w, at, inside, weighs) = has.word in
    let same = word_here C x.place w at in
    record {
      low = low;
      high = x.weight;
      word = word_at_place C x.place;
      line_is = rw (bracket_blocks (divisor_of C) C budget low l x e) refl;
      between = between;
      inside = rw same inside;
      nonzero = has.nonzero;
      weighs = rw same weighs;
    }

-- a code that is searched has rows
none_empty : {A : Type 0} (C : Matrix) → IsSearchable C → C.rows ≡ [] → A
none_empty C h e = absurd (omega (arith, h.some_rows, ap (λ (rows : List (List ℕ)). length rows) e))

distance_said : (C : Matrix) (budget : ℕ) (a : Answer) → IsSearchable C → answer (divisor_of C) C budget ≡ a → StatesDistance C (distance_answer_line C a) ⊎ StatesBracket C budget (distance_answer_line C a)
distance_said C budget no_word h e = none_empty C h (holds C budget no_word h e)
distance_said C budget (exact x l) h e = inl (exact_stated C budget l x h e)
distance_said C budget (bracket low x l) h e = inr (bracket_stated C budget low l x h e)

-- ---- certificates

pub dear_or_text : (c : Certificate) → SaysDear (certificate_line c) ⊎ ((cost c ≤ 2 ^ 32) × (certificate_line c ≡ line (certificate_text c)))
unfolding certificate_line longest
dear_or_text c =
    let text = line (certificate_text c) in
    let costly = no_certificate_line (codes "cost") (min (cost c) (2 ^ 64 - 1)) in
    let long = no_certificate_line (codes "length") (length text) in
    let inner = if nat_lt longest (length text) then long else text in
    ⊎_elim
    (λ t. inl (subst (λ b. SaysDear (if b then costly else inner)) (sym t) (record { why = codes "cost"; number = min (cost c) (2 ^ 64 - 1); why_is = inl (refl, omega (arith, ltb-true (2 ^ 32) (cost c) t)); line_is = refl })))
    (λ t. ⊎_elim
    (λ s. inl (subst (λ b. SaysDear (if b then costly else inner)) (sym t) (subst (λ b. SaysDear (if b then long else text)) (sym s) (record { why = codes "length"; number = length text; why_is = inr (refl, ltb-true longest (length text) s); line_is = refl }))))
    (λ s. inr (ltb-false (2 ^ 32) (cost c) t, ap (λ b. if b then costly else inner) t ∙ ap (λ b. if b then long else text) s))
    (cases_Bool (nat_lt longest (length text))))
    (cases_Bool (nat_lt (2 ^ 32) (cost c)))

exact_said : (kind : QueryKind) (C : Matrix) (budget l : ℕ) (x : Found) → IsSearchable C → answer (divisor_of C) C budget ≡ exact x l → let text = certificate_line (certificate_of kind C (word_at_place C x.place) x.weight l) in IsAcceptedFor C text ⊎ SaysDear text
unfolding certificate_of
exact_said kind C budget l x h e =
    let w = word_at_place C x.place in
    let t = exact_at C budget l x h e in
    let c = certificate_of kind C w x.weight l in
    let shaped = shaped_at kind C w x.weight l h t.1 t.0 in
    ⊎_elim
    (λ (s : SaysDear (certificate_line c)). inr s)
    (λ (s : (cost c ≤ 2 ^ 32) × (certificate_line c ≡ line (certificate_text c))). inl (rw s.1 (record {
      distance = x.weight;
      least = code_distance C w x.weight l h t.0;
      accepted = told_accepted c shaped (valid_at kind C w x.weight l h t.1 t.0 s.0);
    })))
    (dear_or_text c)

pub certificate_said : (kind : QueryKind) (C : Matrix) (budget : ℕ) (a : Answer) → IsSearchable C → answer (divisor_of C) C budget ≡ a
    → IsAcceptedFor C (certificate_answer_line kind C a) ⊎ (SaysBetween C (certificate_answer_line kind C a) ⊎ SaysDear (certificate_answer_line kind C a))
unfolding certificate_answer_line
certificate_said kind C budget no_word h e = none_empty C h (holds C budget no_word h e)
certificate_said kind C budget (exact x l) h e = ⊎_elim (λ s. inl s) (λ s. inr (inr s)) (exact_said kind C budget l x h e)
certificate_said kind C budget (bracket low x l) h e = inr (inl (record { low = low; high = x.weight; line_is = refl; between = (holds C budget (bracket low x l) h e).0 }))

pub line_true : (table : List Call) (bytes : List ℕ) (needs : List Matrix) → MeetsFirst table bytes needs → (i : ℕ) (C : Matrix) → slice_get needs i ≡ Some C → (kind : QueryKind) (budget : ℕ) → IsTrueLine kind C budget (query_line kind C budget)
unfolding query_line
line_true table bytes needs met i C at distance budget = distance_said C budget (answer (divisor_of C) C budget) (need_searchable table bytes needs met i C at) refl
line_true table bytes needs met i C at by_levels budget = certificate_said by_levels C budget (answer (divisor_of C) C budget) (need_searchable table bytes needs met i C at) refl
line_true table bytes needs met i C at by_scan budget = certificate_said by_scan C budget (answer (divisor_of C) C budget) (need_searchable table bytes needs met i C at) refl

-- ---- texts

-- the text of some statements is made of pieces
abbrev IsMade : List Call → ℕ → List Binding → List Statement → List ℕ → Type 0
IsMade table budget env ss text = (pieces : List Piece) × (text ≡ pieces_text budget pieces) × Needs table env ss (codes_in pieces) × Counts table env ss (counted_in pieces) × Nears table env ss (nears_in pieces)

goes_on : (table : List Call) (budget : ℕ) (env : List Binding) (s : Statement) (ss : List Statement) (step : Step) (text : List ℕ) (ends : Bool) → Steps table env s step
    → ((later : List Binding) (rest : List ℕ) → Runs table budget later ss rest ends → IsMade table budget later ss rest)
    → Prints budget env step (λ later. Runs table budget later ss) text ends → IsMade table budget env (s ∷ ss) text
goes_on table budget env s ss (binds b) text ends steps later runs = let all = later (b ∷ env) text runs in (all.0, all.1, (binds b, steps, all.2), (binds b, steps, all.3), (binds b, steps, all.4))
goes_on table budget env s ss (prints l) text ends steps later (rest, runs, is) = let all = later env rest runs in (plain l ∷ all.0, is ∙ ap (λ (t : List ℕ). l ++ t) all.1, (prints l, steps, all.2), (prints l, steps, all.3), (prints l, steps, all.4))
goes_on table budget env s ss (asks kind C) text ends steps later (rest, runs, is) =
    let all = later env rest runs in (asked kind C ∷ all.0, is ∙ ap (λ (t : List ℕ). query_line kind C budget ++ t) all.1, (asks kind C, steps, (codes_in all.0, all.2, refl)), (asks kind C, steps, all.3), (asks kind C, steps, all.4))
goes_on table budget env s ss (counts C) text ends steps later (rest, runs, is) = let all = later env rest runs in (counted C ∷ all.0, is ∙ ap (λ (t : List ℕ). distribution_line C ++ t) all.1, (counts C, steps, all.2), (counts C, steps, (counted_in all.0, all.3, refl)), (counts C, steps, all.4))
goes_on table budget env s ss (nears C x) text ends steps later (rest, runs, is) = let all = later env rest runs in (nearest C x ∷ all.0, is ∙ ap (λ (t : List ℕ). near_line C x budget ++ t) all.1, (nears C x, steps, all.2), (nears C x, steps, all.3), (nears C x, steps, (nears_in all.0, all.4, refl)))
goes_on table budget env s ss (fails r) text ends steps later (is, ended) = (plain text ∷ [], sym (append-nil text), (fails r, steps, refl), (fails r, steps, refl), (fails r, steps, refl))

made : (table : List Call) (budget : ℕ) (env : List Binding) (ss : List Statement) (text : List ℕ) (ends : Bool) → Runs table budget env ss text ends → IsMade table budget env ss text
made table budget env [] text ends (is, ended) = ([], is, refl, refl, refl)
made table budget env (s ∷ ss) text ends (step, steps, runs) = goes_on table budget env s ss step text ends steps (λ later rest r. made table budget later ss rest ends r) runs

pub text_made : (table : List Call) (budget : ℕ) (bytes text : List ℕ) (ends : Bool) → IsText table budget bytes text ends → (pieces : List Piece) × (text ≡ pieces_text budget pieces) × IsNeeds table bytes (codes_in pieces) × AreCounted table bytes (counted_in pieces) × AreNears table bytes (nears_in pieces)
text_made table budget bytes text ends is =
    ⊎_elim
    (λ (a : (ss : List Statement) × Reads bytes ss × Runs table budget [] ss text ends). (let m = made table budget [] a.0 text ends a.2 in (m.0, m.1, inl (a.0, a.1, m.2), inl (a.0, a.1, m.3), inl (a.0, a.1, m.4))))
    (λ (a : (fault : Fault) × IsFault bytes fault × (text ≡ fault_line fault.number fault.offset []) × (ends ≡ true)). (plain text ∷ [], sym (append-nil text), inr (a.0, a.1, refl), inr (a.0, a.1, refl), inr (a.0, a.1, refl))) is

each_true : (budget : ℕ) (pieces : List Piece) → ((i : ℕ) (C : Matrix) → slice_get (codes_in pieces) i ≡ Some C → (kind : QueryKind) → IsTrueLine kind C budget (query_line kind C budget)) → AreCodesOfRows (counted_in pieces) → AreNearQueries (nears_in pieces) → All (IsTruePiece budget) pieces
each_true budget [] all rows words = All-nil (IsTruePiece budget)
each_true budget (plain text ∷ pieces) all rows words = All-cons (IsTruePiece budget) (plain text) pieces tt (each_true budget pieces all rows words)
each_true budget (asked kind C ∷ pieces) all rows words = All-cons (IsTruePiece budget) (asked kind C) pieces (all 0 C refl kind) (each_true budget pieces (λ i D at. all (suc i) D at) rows words)
each_true budget (counted C ∷ pieces) all rows words = All-cons (IsTruePiece budget) (counted C) pieces (distribution_stated C rows.0) (each_true budget pieces all rows.1 words)
each_true budget (nearest C x ∷ pieces) all rows words = All-cons (IsTruePiece budget) (nearest C x) pieces (near_stated budget (record { code = C; word = x }) words.0) (each_true budget pieces all rows words.1)

needs_met : (table : List Call) (bytes : List ℕ) (needs : List Matrix) → IsNeeds table bytes needs → MeetsFirst table bytes needs
needs_met table bytes needs all =
    ⊎_elim (λ (a : (ss : List Statement) × Reads bytes ss × Needs table [] ss needs). met_whole table bytes a.0 needs a.1 a.2) (λ (a : (fault : Fault) × IsFault bytes fault × (needs ≡ [])). inl a.2) all

pub text_true : (table : List Call) (budget : ℕ) (bytes text : List ℕ) (ends : Bool) → IsText table budget bytes text ends → (pieces : List Piece) × (text ≡ pieces_text budget pieces) × IsNeeds table bytes (codes_in pieces) × AreCounted table bytes (counted_in pieces) × AreNears table bytes (nears_in pieces) × All (IsTruePiece budget) pieces
text_true table budget bytes text ends is =
    let (pieces, same, needs, codes, near) = text_made table budget bytes text ends is in
    (pieces, same, needs, codes, near, each_true budget pieces (λ i C at kind. line_true table bytes (codes_in pieces) (needs_met table bytes (codes_in pieces) needs) i C at kind budget) (counted_shaped table bytes (counted_in pieces) codes) (nears_asked table bytes (nears_in pieces) near))

each_holds : (budget : ℕ) (needs : List Matrix) → ((i : ℕ) (C : Matrix) → slice_get needs i ≡ Some C → IsSearchable C) → All (λ C. AnswerHolds C (answer (divisor_of C) C budget)) needs
each_holds budget [] all = All-nil (λ C. AnswerHolds C (answer (divisor_of C) C budget))
each_holds budget (C ∷ needs) all = All-cons (λ D. AnswerHolds D (answer (divisor_of D) D budget)) C needs (holds C budget (answer (divisor_of C) C budget) (all 0 C refl) refl) (each_holds budget needs (λ i D at. all (suc i) D at))

pub needs_true : (table : List Call) (bytes : List ℕ) (needs : List Matrix) (budget : ℕ) → MeetsFirst table bytes needs → All (λ C. AnswerHolds C (answer (divisor_of C) C budget)) needs
needs_true table bytes needs budget met = each_holds budget needs (λ i C at. need_searchable table bytes needs met i C at)

-- ---- large budgets

module _ (table : List Call) (bytes : List ℕ) (needs : List Matrix) (met : MeetsFirst table bytes needs) (i : ℕ) (C : Matrix) (at : slice_get needs i ≡ Some C) (budget : ℕ) where
  pub large_exact : set_count C * ((size C.field ^ length C.rows - 1) / (size C.field - 1)) ≤ budget → budget ≤ 2 ^ 40 → (x : Found) × (l : ℕ) × (answer (divisor_of C) C budget ≡ exact x l)
  large_exact large small = whole_budget (divisor_of C) C budget (met_rows table bytes needs met i C at) (need_searchable table bytes needs met i C at).few_columns small large

  pub large_stated : set_count C * ((size C.field ^ length C.rows - 1) / (size C.field - 1)) ≤ budget → budget ≤ 2 ^ 40 → StatesDistance C (query_line distance C budget)
  unfolding query_line
  large_stated large small =
      let (x, l, e) = large_exact large small in
      rw e (exact_stated C budget l x (need_searchable table bytes needs met i C at) e)
