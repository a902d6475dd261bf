-- Traces of small fields, and refusals of codes over subfields and of erasures, by evaluation.
--   degrees                the degrees of fields over others
--   traces_of_four, traces_of_nine      the sums that the traces stand for, of each element
--   subfields_refused      when TraceCode and SubfieldSubcode are refused
--   erasures_refused       when FillErasures is
--   fillings               what FillErasures prints
use Rattle.std.proofs.Common.{◌≡◌, ℕ, List, [], ◌∷◌, ◌++◌, map, Option, Some, None, refl}
use Rattle.std.specs.Prelude.{codes}
use Rattle.lc_algebra.specs.declared.FieldName.TheVariants.{Gf2, Gf3, Gf4, Gf9, Gf16, Gf25}
use Rattle.std.specs.Fmt.{digits}
use Rattle.lc_algebra.specs.Residue.{digits as residues, number, plus, minus, times, top, up, times_x, product}
use Rattle.lc_algebra.specs.Field.{shape, shape_of, size, is_symbol, coefficients, add, mul, pow}
use Rattle.lc_algebra.specs.Embedding.{is_subfield}
use Rattle.lc_algebra.specs.Matrix.{Matrix}
use Rattle.lc_constructions.specs.declared.refusal.CodeRefusal.TheVariants.{BadPositions, NotASubfield, FieldTooLarge}
use Rattle.lc_constructions.specs.Refusal.{refuse_if, first_refusal}
use Rattle.lc_constructions.specs.Refusals.{is_rising, too_large, not_subfield}
use Rattle.lc_formats.specs.Text.{line, numbers_text, bracketed}
use Rattle.lc_language.specs.Erasures.{filled, unfilled, ambiguous, erased_refusals}
use Rattle.lc_language.specs.Print.{filling_line}
use Rattle.lc_language.specs.Trace.{extension_degree, trace_sum, subfield_refusals}

abbrev nines : Matrix
nines = record { field = Gf9; columns = 3; rows = [] }

pub degrees : extension_degree Gf2 Gf16 ∷ extension_degree Gf4 Gf16 ∷ extension_degree Gf3 Gf9 ∷ extension_degree Gf9 Gf9 ∷ [] ≡ 4 ∷ 2 ∷ 2 ∷ 1 ∷ []
unfolding shape shape_of extension_degree
degrees = refl

pub traces_of_four : map (trace_sum Gf4 2 2) (0 ∷ 1 ∷ 2 ∷ 3 ∷ []) ≡ 0 ∷ 0 ∷ 1 ∷ 1 ∷ []
unfolding residues number plus minus times top up times_x product shape shape_of size coefficients add mul pow trace_sum
traces_of_four = refl

-- the elements 0, 1 and 2, of GF(3), have the traces 0, 2 and 1, their doubles
pub traces_of_nine : map (trace_sum Gf9 3 2) (0 ∷ 1 ∷ 2 ∷ []) ≡ 0 ∷ 2 ∷ 1 ∷ []
unfolding residues number plus minus times top up times_x product shape shape_of size coefficients add mul pow trace_sum
traces_of_nine = refl

pub subfields_refused : map (λ f. first_refusal (subfield_refusals nines f)) (Gf3 ∷ Gf9 ∷ Gf2 ∷ Gf25 ∷ []) ≡ None ∷ None ∷ Some NotASubfield ∷ Some FieldTooLarge ∷ []
unfolding shape shape_of size is_symbol is_subfield refuse_if first_refusal too_large not_subfield subfield_refusals
subfields_refused = refl

pub erasures_refused : map (λ erased. first_refusal (erased_refusals nines erased)) ([] ∷ (0 ∷ 1 ∷ 2 ∷ []) ∷ (1 ∷ 0 ∷ []) ∷ (1 ∷ 1 ∷ []) ∷ (3 ∷ []) ∷ []) ≡ None ∷ None ∷ Some BadPositions ∷ Some BadPositions ∷ Some BadPositions ∷ []
unfolding refuse_if first_refusal is_rising erased_refusals
erasures_refused = refl

pub fillings : filling_line (filled (1 ∷ 0 ∷ 2 ∷ [])) ++ filling_line unfilled ++ filling_line ambiguous ≡ codes "[1,0,2]" ++ 10 ∷ codes "none" ++ 10 ∷ codes "many" ++ 10 ∷ []
unfolding digits bracketed numbers_text line filling_line
fillings = refl
