-- What a script prints for its queries for nearest words is true.
--   nears_asked          each is of a code with reduced rows, and for a word of its length over its field
--   nears_true           so each is answered truly, under every budget
--   near_stated          and its line is true
--   nears_stated, large_nears      the same of all of them; under a large budget each line states a nearest word
use Rattle.std.proofs.Common.{◌≡◌, ℕ, ◌*◌, ◌^◌, ◌≤◌, ◌==◌, Bool, true, false, nat_le, if◌then◌else◌, List, [], ◌∷◌, ◌++◌, length, find, filter, Option, Some, None, All, codes, decimal, inl, inr, ⊎_elim, refl, sym, ap, subst, ◌∙◌, true≢false}
use Rattle.std.specs.List.{AllByRecursion}
use Rattle.std.proofs.lemmas.Bool.{cases_Bool}
use Rattle.std.proofs.lemmas.List.Elements.{All-nil, All-cons}
use Rattle.lc_algebra.specs.Field.{size}
use Rattle.lc_algebra.specs.Word.{IsWord, zero_word, weight, distance}
use Rattle.lc_algebra.specs.Matrix.{Matrix}
use Rattle.lc_algebra.proofs.ReducedLaws.{reduced_independent}
use Rattle.lc_enumeration.specs.Search.{set_count}
use Rattle.lc_enumeration.specs.NearWord.{NearAnswer, near_at, near_answer, is_near_done, coset_ends, NearHolds}
use Rattle.lc_coset_laws.proofs.NearCount.{whole_budget}
use Rattle.lc_coset_laws.proofs.NearTruth.{answer_is_true}
use Rattle.lc_formats.specs.Text.{line, numbers_text}
use Rattle.lc_grammar.specs.Tree.{Statement}
use Rattle.lc_grammar.specs.Grammar.{Reads, Fault, IsFault}
use Rattle.lc_language.specs.declared.Call.{Call}
use Rattle.lc_language.specs.Value.{Binding}
use Rattle.lc_language.specs.Query.{near_text, near_line}
use Rattle.lc_language.specs.Evaluation.{Step, Steps, binds, prints, asks, counts, nears, fails}
use Rattle.lc_session_rules.specs.Nears.{NearQuery, NearsOn, Nears, AreNears, NearsHold}
use Rattle.lc_session_rules.proofs.AskLaws.{near_allowed}
use Rattle.lc_script_laws.specs.Shapes.{IsCodeOfRows}
use Rattle.lc_script_laws.specs.Nearest.{StatesNearest, StatesNear, IsTrueNear}
use Rattle.lc_script_laws.proofs.AskShapes.{AreBound, HasShape, steps_shaped}

-- ---- what is asked

abbrev pub IsNearQuery : NearQuery → Type 0
IsNearQuery q = IsCodeOfRows q.code × IsWord q.code.field q.code.columns q.word

abbrev pub AreNearQueries : List NearQuery → Type 0
AreNearQueries queries = AllByRecursion IsNearQuery queries

queries_as : (queries others : List NearQuery) → queries ≡ others → AreNearQueries others → AreNearQueries queries
queries_as queries others e h = subst AreNearQueries (sym e) h

on_nears : (table : List Call) (s : Statement) (step : Step) (env : List Binding) (Later : List Binding → List NearQuery → Type 0) (queries : List NearQuery) → AreBound env → Steps table env s step → HasShape step
    → ((later : List Binding) (rest : List NearQuery) → AreBound later → Later later rest → AreNearQueries rest) → NearsOn env step Later queries → AreNearQueries queries
on_nears table s (binds b) env Later queries bound steps t f h = f (b ∷ env) queries (t, bound) h
on_nears table s (prints l) env Later queries bound steps t f h = f env queries bound h
on_nears table s (asks kind C) env Later queries bound steps t f h = f env queries bound h
on_nears table s (counts C) env Later queries bound steps t f h = f env queries bound h
on_nears table s (nears C x) env Later queries bound steps t f h = queries_as queries (record { code = C; word = x } ∷ h.0) h.2 ((t, (near_allowed table env s C x steps).1), f env h.0 bound h.1)
on_nears table s (fails r) env Later queries bound steps t f h = queries_as queries [] h tt

all_asked : (table : List Call) (ss : List Statement) (env : List Binding) (queries : List NearQuery) → AreBound env → Nears table env ss queries → AreNearQueries queries
all_asked table [] env queries bound h = queries_as queries [] h tt
all_asked table (s ∷ ss) env queries bound h = on_nears table s h.0 env (λ later. Nears table later ss) queries bound h.1 (steps_shaped table env s h.0 bound h.1) (λ later rest l k. all_asked table ss later rest l k) h.2

pub nears_asked : (table : List Call) (bytes : List ℕ) (queries : List NearQuery) → AreNears table bytes queries → AreNearQueries queries
nears_asked table bytes queries all =
    ⊎_elim (λ (a : (ss : List Statement) × Reads bytes ss × Nears table [] ss queries). all_asked table a.0 [] queries tt a.2) (λ (a : (fault : Fault) × IsFault bytes fault × (queries ≡ [])). queries_as queries [] a.2 tt) all

-- ---- the answers

query_holds : (budget : ℕ) (q : NearQuery) → IsNearQuery q → NearHolds q.code q.word (near_answer q.code q.word budget)
query_holds budget q h = answer_is_true q.code q.word budget h.0.rows (reduced_independent q.code.field q.code.columns q.code.rows h.0.rows h.0.reduced) h.1

-- what holds of each query that may be asked holds of those that are
of_each : (P : NearQuery → Type 0) → ((q : NearQuery) → IsNearQuery q → P q) → (queries : List NearQuery) → AreNearQueries queries → All P queries
of_each P f [] h = All-nil P
of_each P f (q ∷ queries) h = All-cons P q queries (f q h.0) (of_each P f queries h.1)

pub nears_true : (table : List Call) (bytes : List ℕ) (budget : ℕ) → NearsHold table bytes budget
nears_true table bytes budget queries all = of_each (λ q. NearHolds q.code q.word (near_answer q.code q.word budget)) (query_holds budget) queries (nears_asked table bytes queries all)

-- ---- the lines

-- the blocks of a bracket are the budget
blocks_at : (C : Matrix) (x : List ℕ) (budget : ℕ) (o : Option ℕ) → (near_at C x budget o).exact ≡ false → (near_at C x budget o).blocks ≡ budget
unfolding near_at
blocks_at C x budget None e = refl
blocks_at C x budget (Some l) e = absurd (true≢false e)

bracket_blocks : (C : Matrix) (x : List ℕ) (budget : ℕ) → (near_answer C x budget).exact ≡ false → (near_answer C x budget).blocks ≡ budget
unfolding near_answer
bracket_blocks C x budget e = by (length C.rows == 0) e
  where
    at_once : NearAnswer
    at_once = record { exact = true; low = weight x; weight = weight x; word = zero_word C.columns; blocks = 0 }

    found : NearAnswer
    found = near_at C x budget (find (is_near_done C x) (0 ∷ filter (λ end. nat_le end budget) (coset_ends (length C.rows) (size C.field) (set_count C))))

    by : (b : Bool) → (if b then at_once else found).exact ≡ false → (if b then at_once else found).blocks ≡ budget
    by true e = absurd (true≢false e)
    by false e = blocks_at C x budget (find (is_near_done C x) (0 ∷ filter (λ end. nat_le end budget) (coset_ends (length C.rows) (size C.field) (set_count C)))) e

abbrev exact_text : NearAnswer → List ℕ
exact_text a = codes "nearest " ++ numbers_text a.word ++ codes " at " ++ decimal a.weight ++ codes " blocks " ++ decimal a.blocks

abbrev bracket_text : NearAnswer → List ℕ
bracket_text a = codes "nearest between " ++ decimal a.low ++ codes " and " ++ decimal a.weight ++ codes " word " ++ numbers_text a.word ++ codes " blocks " ++ decimal a.blocks

exact_line : (a : NearAnswer) → a.exact ≡ true → near_text a ≡ exact_text a
unfolding near_text
exact_line a e = ap (λ (b : Bool). if b then exact_text a else bracket_text a) e

bracket_line : (a : NearAnswer) → a.exact ≡ false → near_text a ≡ bracket_text a
unfolding near_text
bracket_line a e = ap (λ (b : Bool). if b then exact_text a else bracket_text a) e

exact_stated : (C : Matrix) (x : List ℕ) (budget : ℕ) → NearHolds C x (near_answer C x budget) → (near_answer C x budget).exact ≡ true → StatesNearest C x (near_line C x budget)
unfolding near_line
exact_stated C x budget h e =
    let a = near_answer C x budget in
    record {
      word = a.word;
      away = a.weight;
      blocks = a.blocks;
      line_is = ap line (exact_line a e);
      inside = h.inside;
      distance_is = h.distance_is;
      least = λ v s. subst (λ (n : ℕ). n ≤ distance C.field x v) (h.nearest e) (h.at_least v s);
    }

bracket_stated : (C : Matrix) (x : List ℕ) (budget : ℕ) → NearHolds C x (near_answer C x budget) → (near_answer C x budget).exact ≡ false → StatesNear C x budget (near_line C x budget)
unfolding near_line
bracket_stated C x budget h e =
    let a = near_answer C x budget in
    record {
      low = a.low;
      high = a.weight;
      word = a.word;
      line_is = ap line (bracket_line a e ∙ ap (λ n. codes "nearest between " ++ decimal a.low ++ codes " and " ++ decimal a.weight ++ codes " word " ++ numbers_text a.word ++ codes " blocks " ++ decimal n) (bracket_blocks C x budget e));
      inside = h.inside;
      distance_is = h.distance_is;
      at_least = h.at_least;
    }

pub near_stated : (budget : ℕ) (q : NearQuery) → IsNearQuery q → IsTrueNear q.code q.word budget (near_line q.code q.word budget)
near_stated budget q asked =
    let h = query_holds budget q asked in
    ⊎_elim (λ e. inl (exact_stated q.code q.word budget h e)) (λ e. inr (bracket_stated q.code q.word budget h e)) (cases_Bool (near_answer q.code q.word budget).exact)

pub nears_stated : (table : List Call) (bytes : List ℕ) (queries : List NearQuery) (budget : ℕ) → AreNears table bytes queries → All (λ q. IsTrueNear q.code q.word budget (near_line q.code q.word budget)) queries
nears_stated table bytes queries budget all = of_each (λ q. IsTrueNear q.code q.word budget (near_line q.code q.word budget)) (near_stated budget) queries (nears_asked table bytes queries all)

large_stated : (budget : ℕ) (q : NearQuery) → IsNearQuery q → set_count q.code * size q.code.field ^ length q.code.rows ≤ budget → budget ≤ 2 ^ 40 → StatesNearest q.code q.word (near_line q.code q.word budget)
large_stated budget q asked large small = exact_stated q.code q.word budget (query_holds budget q asked) (whole_budget q.code q.word budget asked.0.long small large)

pub large_nears : (table : List Call) (bytes : List ℕ) (queries : List NearQuery) (budget : ℕ) → AreNears table bytes queries
    → All (λ q. set_count q.code * size q.code.field ^ length q.code.rows ≤ budget → budget ≤ 2 ^ 40 → StatesNearest q.code q.word (near_line q.code q.word budget)) queries
large_nears table bytes queries budget all =
    of_each (λ q. set_count q.code * size q.code.field ^ length q.code.rows ≤ budget → budget ≤ 2 ^ 40 → StatesNearest q.code q.word (near_line q.code q.word budget)) (large_stated budget) queries (nears_asked table bytes queries all)
