-- The statements that a script comes to, and what the query `AlternantCertificate` prints.
--   GoesTo env step later         what holds of the statements after one that does this
--   ComesTo table env ss now s    of the statements ss, before which names are bound as in env, s is come to with the bindings now
--   IsReached table bytes env s   so is a statement of a script; one after a fault isn't
--   IsFormQuery table s           the statement is a query `AlternantCertificate`
--   AsksForm table env s C form x      the statement asks for the certificate of this form of the code C for the word x
--   IsAcceptedForm C form x text  the text is the line of the certificate of the form for x, which is valid; the least weight of C
--                                 is r + 1; and `check` says of the text that it is accepted, with this distance
--   IsCertified table env s text  the text is the accepted line of a form for which the statement asks
use Rattle.std.specs.Prelude.{◌≡◌, ℕ, ◌+◌, ◌⊎◌, List, [], ◌∷◌, ◌++◌, codes, decimal, Some, None}
use Rattle.lc_algebra.specs.Span.{IsDistance}
use Rattle.lc_algebra.specs.Matrix.{Matrix}
use Rattle.lc_constructions.specs.Alternant.{AlternantForm}
use Rattle.lc_formats.specs.Claim.{form_certificate}
use Rattle.lc_formats.specs.ClaimMeaning.{IsValidTree}
use Rattle.lc_formats.specs.Document.{IsCheckText}
use Rattle.lc_formats.specs.Text.{line}
use Rattle.lc_grammar.specs.Tree.{Exprs, call, Statement}
use Rattle.lc_grammar.specs.Grammar.{Reads}
use Rattle.lc_language.specs.declared.Call.{Call}
use Rattle.lc_language.specs.declared.Call.TheVariants.{Query}
use Rattle.lc_language.specs.declared.QueryCall.TheVariants as query
use Rattle.lc_language.specs.Value.{Value, Binding}
use Rattle.lc_language.specs.Calls.{call_named, bind_query, alternant_certificate}
use Rattle.lc_language.specs.Query.{form_line}
use Rattle.lc_language.specs.Evaluation.{all_give, EvaluatesAll, Step, Steps, binds, fails, query_of}

abbrev pub GoesTo : List Binding → Step → (List Binding → Type 0) → Type 0
GoesTo env (binds b) later = later (b ∷ env)
GoesTo env (fails r) later = ⊥
GoesTo env _ later = later env

abbrev pub ComesTo : List Call → List Binding → List Statement → List Binding → Statement → Type 0
ComesTo table env [] now s = ⊥
ComesTo table env (t ∷ ss) now s = ((now ≡ env) × (s ≡ t)) ⊎ ((step : Step) × Steps table env t step × GoesTo env step (λ later. ComesTo table later ss now s))

abbrev pub IsReached : List Call → List ℕ → List Binding → Statement → Type 0
IsReached table bytes env s = (ss : List Statement) × Reads bytes ss × ComesTo table [] ss env s

abbrev pub IsFormQuery : List Call → Statement → Type 0
IsFormQuery table s = (s.target ≡ None) × (query_of table s.expr ≡ Some query.AlternantCertificate)

pub record AsksForm (table : List Call) (env : List Binding) (s : Statement) (C : Matrix) (form : AlternantForm) (x : List ℕ) : Type 0 where
  pub offset : ℕ
  pub name : List ℕ
  pub arguments : Exprs
  pub values : List Value
  pub alone : s.target ≡ None
  pub seen : s.expr ≡ call offset name arguments
  pub named : call_named table name ≡ Some (Query query.AlternantCertificate)
  pub evaluated : EvaluatesAll table env arguments (all_give values)
  pub bound : bind_query query.AlternantCertificate values ≡ Some (alternant_certificate C (Some form) x)

pub record IsAcceptedForm (C : Matrix) (form : AlternantForm) (x text : List ℕ) : Type 0 where
  pub line_is : text ≡ form_line C form x
  pub valid : IsValidTree (form_certificate C.field form x)
  pub least : IsDistance C.field C.columns C.rows (form.r + 1)
  pub accepted : IsCheckText text (line (codes "accepted distance " ++ decimal (form.r + 1)))

abbrev pub IsCertified : List Call → List Binding → Statement → List ℕ → Type 0
IsCertified table env s text = (C : Matrix) × ((form : AlternantForm) × ((x : List ℕ) × AsksForm table env s C form x × IsAcceptedForm C form x text))
