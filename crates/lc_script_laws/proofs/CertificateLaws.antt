-- What a script prints for a certificate is accepted.
--   need_searchable      a need of a script is a code as the laws of certificates ask for
--   levels_accepted, scan_accepted      so the line of a certificate of it says that there is none, or is accepted
--   no_rows              the line for a code without rows says that there is none
use Rattle.std.proofs.Common.{◌≡◌, ◌⊎◌, ℕ, List, length, Some, refl, sym, subst, arith}
use Rattle.std.specs.Prelude.{slice_get}
use Rattle.lc_algebra.specs.Matrix.{Matrix}
use Rattle.lc_algebra.specs.Divisor.{divisor_of}
use Rattle.lc_algebra.proofs.ReducedLaws.{reduced_independent, reduced_at_most}
use Rattle.lc_enumeration.specs.Search.{Answer, no_word, answer}
use Rattle.lc_language.specs.declared.Call.{Call}
use Rattle.lc_language.specs.Query.{QueryKind, by_levels, by_scan, certificate_answer_line, query_line}
use Rattle.lc_session_rules.specs.Needs.{MeetsFirst}
use Rattle.lc_session_rules.proofs.AskLaws.{met_rows}
use Rattle.lc_certify.specs.Accepted.{IsSearchable, SaysNone, IsAcceptedFor}
use Rattle.lc_certify.proofs.AcceptedLaws.{printed, empty_none}
use Rattle.lc_script_laws.proofs.AskShapes.{met_shaped}
use Rattle.lc_script_laws.proofs.RangeLaws.{need_is_code}

pub need_searchable : (table : List Call) (bytes : List ℕ) (needs : List Matrix) → MeetsFirst table bytes needs → (i : ℕ) (C : Matrix) → slice_get needs i ≡ Some C → IsSearchable C
need_searchable table bytes needs met i C at =
    let code = need_is_code needs i C (met_shaped table bytes needs met) at in
    let some = met_rows table bytes needs met i C at in
    record {
      symbol = code.symbol;
      some_columns = omega (arith, some, reduced_at_most C.columns C.rows code.reduced);
      few_columns = code.long;
      some_rows = omega (arith, some);
      words = code.rows;
      independent = reduced_independent C.field C.columns C.rows code.rows code.reduced;
    }

pub levels_accepted : (table : List Call) (bytes : List ℕ) (needs : List Matrix) → MeetsFirst table bytes needs → (i : ℕ) (C : Matrix) → slice_get needs i ≡ Some C → (budget : ℕ) → SaysNone (query_line by_levels C budget) ⊎ IsAcceptedFor C (query_line by_levels C budget)
unfolding query_line
levels_accepted table bytes needs met i C at budget = printed by_levels C budget (need_searchable table bytes needs met i C at)

pub scan_accepted : (table : List Call) (bytes : List ℕ) (needs : List Matrix) → MeetsFirst table bytes needs → (i : ℕ) (C : Matrix) → slice_get needs i ≡ Some C → (budget : ℕ) → SaysNone (query_line by_scan C budget) ⊎ IsAcceptedFor C (query_line by_scan C budget)
unfolding query_line
scan_accepted table bytes needs met i C at budget = printed by_scan C budget (need_searchable table bytes needs met i C at)

-- ---- codes without rows

none_answered : (C : Matrix) (budget : ℕ) → length C.rows ≡ 0 → answer (divisor_of C) C budget ≡ no_word
unfolding answer
none_answered C budget e = rw e refl

none_line : (kind : QueryKind) (C : Matrix) (budget : ℕ) → length C.rows ≡ 0 → SaysNone (certificate_answer_line kind C (answer (divisor_of C) C budget))
none_line kind C budget e = subst (λ (a : Answer). SaysNone (certificate_answer_line kind C a)) (sym (none_answered C budget e)) (empty_none kind C)

pub no_rows : (C : Matrix) (budget : ℕ) → length C.rows ≡ 0 → SaysNone (query_line by_levels C budget) × SaysNone (query_line by_scan C budget)
unfolding query_line
no_rows C budget e = (none_line by_levels C budget e, none_line by_scan C budget e)
