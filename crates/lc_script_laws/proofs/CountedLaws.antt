-- What a script prints of the words that it counts is true.
--   words_of_weight      the list of words of a code, and those that have a weight
--   distribution_stated  the weight distribution of a code
--   counted_shaped       the codes that a script counts have reduced rows
--   distributions_true   so what it prints of them is true
use Rattle.std.proofs.Common.{◌≡◌, ◌≢◌, ◌⊎◌, ℕ, suc, ◌+◌, ◌*◌, ◌^◌, ◌<◌, ◌≤◌, ◌==◌, List, [], ◌∷◌, length, map, filter, sum, sum_by, count_by, slice_index, All, refl, sym, ap, subst, ◌∙◌, ⊎_elim, arith}
use Rattle.std.proofs.Math.Nat.{mul-one, one-mul}
use Rattle.std.proofs.lemmas.Bool.{eq-eqb, eqb-true}
use Rattle.std.proofs.lemmas.List.{length-map, get_or-map}
use Rattle.std.proofs.lemmas.List.Sums.{length-filter, sum-map}
use Rattle.std.proofs.lemmas.List.Kept.{AllPairs-filter}
use Rattle.std.proofs.lemmas.List.Elements.{All-nil, All-cons}
use Rattle.lc_algebra.specs.Field.{size}
use Rattle.lc_algebra.specs.Word.{weight}
use Rattle.lc_algebra.specs.Span.{below, words}
use Rattle.lc_algebra.specs.Matrix.{Matrix}
use Rattle.lc_algebra.proofs.WordLaws.{weight_at_most_length}
use Rattle.lc_algebra.proofs.SpanLaws.{span_word, word_of_member, member_of_word, length_words, length_below, index_below}
use Rattle.lc_algebra.proofs.DimensionLaws.{words_distinct, pairs_from_distinct}
use Rattle.lc_algebra.proofs.ReducedLaws.{reduced_independent}
use Rattle.lc_enumeration.specs.Distribution.{count_of_weight, weight_distribution, distribution_of}
use Rattle.lc_infoset.proofs.SetLaws.{filter_passes}
use Rattle.lc_infoset.proofs.AnswerLaws.{filter_keeps}
use Rattle.lc_macwilliams.proofs.CountLaws.{sum_same, sum_constant, sum_grouped}
use Rattle.lc_grammar.specs.Tree.{Statement}
use Rattle.lc_grammar.specs.Grammar.{Reads, Fault, IsFault}
use Rattle.lc_language.specs.declared.Call.{Call}
use Rattle.lc_language.specs.Value.{Binding}
use Rattle.lc_language.specs.Query.{distribution_line}
use Rattle.lc_language.specs.Evaluation.{Step, binds, prints, asks, counts, nears, fails}
use Rattle.lc_script_laws.specs.Shapes.{IsCodeOfRows}
use Rattle.lc_script_laws.specs.Counted.{CountsOn, Counts, AreCounted, HasWordsOfWeight}
use Rattle.lc_script_laws.specs.Printed.{StatesDistribution}
use Rattle.lc_script_laws.proofs.AskShapes.{AreBound, HasShape, AreCodesOfRows, codes_as, steps_shaped}

-- ---- the words of a weight

pub words_of_weight : (C : Matrix) (j : ℕ) → IsCodeOfRows C → HasWordsOfWeight C j (count_of_weight C.field C.columns C.rows j)
unfolding count_of_weight
words_of_weight C j h =
    let all : List (List ℕ) = words C.field C.columns C.rows in
    let free = reduced_independent C.field C.columns C.rows h.rows h.reduced in
    record {
      listed = filter (λ w. weight w == j) all;
      members = λ w. (
        (λ c. let k = filter_passes (λ w. weight w == j) all w c in (word_of_member C.field C.columns C.rows w k.member, eqb-true (weight w) j k.passes)),
        (λ s. filter_keeps (λ w. weight w == j) all w (member_of_word C.field C.columns C.rows w s.0) (eq-eqb (weight w) j s.1)),
      );
      once = AllPairs-filter (λ v w. v ≢ w) (λ w. weight w == j) all (pairs_from_distinct all (words_distinct C.field C.columns C.rows h.rows free));
      many = length-filter (λ w. weight w == j) all;
    }

-- ---- the distribution

entry_is : (C : Matrix) (j : ℕ) → j ≤ C.columns → slice_index (distribution_of C) j ≡ count_of_weight C.field C.columns C.rows j
unfolding distribution_of weight_distribution
entry_is C j l =
    let long : j < length (below (suc C.columns)) = omega (arith, l, length_below (suc C.columns)) in
    get_or-map (count_of_weight C.field C.columns C.rows) (below (suc C.columns)) j 0 0 long ∙ ap (count_of_weight C.field C.columns C.rows) (index_below (suc C.columns) j 0 (omega (arith, l)))

entries_long : (C : Matrix) → length (distribution_of C) ≡ C.columns + 1
unfolding distribution_of weight_distribution
entries_long C = omega (arith, length-map (below (suc C.columns)) (count_of_weight C.field C.columns C.rows), length_below (suc C.columns))

entries_sum : (C : Matrix) → IsCodeOfRows C → sum (distribution_of C) ≡ size C.field ^ length C.rows
unfolding distribution_of weight_distribution count_of_weight
entries_sum C h =
    let all : List (List ℕ) = words C.field C.columns C.rows in
    let numbers : List ℕ = below (suc C.columns) in
    let count : ℕ → ℕ = λ j. count_by (λ w. weight w == j) all in
    let grouped : sum_by (λ w. 1) all ≡ sum_by (λ j. 1 * count j) numbers =
    sum_grouped weight (λ _. 1) (suc C.columns) all (λ w c. omega (arith, weight_at_most_length w, (span_word C.field C.columns C.rows w h.rows (word_of_member C.field C.columns C.rows w c)).long)) in
    let same : sum_by (λ j. 1 * count j) numbers ≡ sum_by count numbers = sum_same (λ j. 1 * count j) count numbers (λ j _. one-mul (count j)) in
    let one : sum_by (λ w. 1) all ≡ length all * 1 = sum_constant (λ w. 1) 1 all (λ w _. refl) in
    sum-map count numbers ∙ sym same ∙ sym grouped ∙ one ∙ mul-one (length all) ∙ length_words C.field C.columns C.rows

pub distribution_stated : (C : Matrix) → IsCodeOfRows C → StatesDistribution C (distribution_line C)
unfolding distribution_line
distribution_stated C h = record {
  numbers = distribution_of C;
  line_is = refl;
  long = entries_long C;
  each = λ j l. subst (HasWordsOfWeight C j) (sym (entry_is C j l)) (words_of_weight C j h);
  whole = entries_sum C h;
}

-- ---- the codes that a script counts

on_counted : (step : Step) (env : List Binding) (Later : List Binding → List Matrix → Type 0) (codes : List Matrix) → AreBound env → HasShape step → ((later : List Binding) (rest : List Matrix) → AreBound later → Later later rest → AreCodesOfRows rest) → CountsOn env step Later codes → AreCodesOfRows codes
on_counted (binds b) env Later codes s t f h = f (b ∷ env) codes (t, s) h
on_counted (prints l) env Later codes s t f h = f env codes s h
on_counted (asks kind C) env Later codes s t f h = f env codes s h
on_counted (counts C) env Later codes s t f h = codes_as codes (C ∷ h.0) h.2 (t, f env h.0 s h.1)
on_counted (nears C x) env Later codes s t f h = f env codes s h
on_counted (fails r) env Later codes s t f h = codes_as codes [] h tt

counts_shaped : (table : List Call) (ss : List Statement) (env : List Binding) (codes : List Matrix) → AreBound env → Counts table env ss codes → AreCodesOfRows codes
counts_shaped table [] env codes s h = codes_as codes [] h tt
counts_shaped table (t ∷ ss) env codes s h = on_counted h.0 env (λ later. Counts table later ss) codes s (steps_shaped table env t h.0 s h.1) (λ later rest l k. counts_shaped table ss later rest l k) h.2

pub counted_shaped : (table : List Call) (bytes : List ℕ) (codes : List Matrix) → AreCounted table bytes codes → AreCodesOfRows codes
counted_shaped table bytes codes all =
    ⊎_elim (λ (a : (ss : List Statement) × Reads bytes ss × Counts table [] ss codes). counts_shaped table a.0 [] codes tt a.2) (λ (a : (fault : Fault) × IsFault bytes fault × (codes ≡ [])). codes_as codes [] a.2 tt) all

each_stated : (codes : List Matrix) → AreCodesOfRows codes → All (λ C. StatesDistribution C (distribution_line C)) codes
each_stated [] h = All-nil (λ C. StatesDistribution C (distribution_line C))
each_stated (C ∷ codes) h = All-cons (λ D. StatesDistribution D (distribution_line D)) C codes (distribution_stated C h.0) (each_stated codes h.1)

pub distributions_true : (table : List Call) (bytes : List ℕ) (codes : List Matrix) → AreCounted table bytes codes → All (λ C. StatesDistribution C (distribution_line C)) codes
distributions_true table bytes codes all = each_stated codes (counted_shaped table bytes codes all)
