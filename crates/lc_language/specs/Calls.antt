-- The calls of the language, each with its name, its forms, its refusals and what it gives. A call gives a value, or it is a query:
-- a statement of its own, without `:=`, that prints a line of its own.
--   BoundCall                      a call that gives a value, with its arguments; b of a BCH code is 1 if it isn't given
--   BoundQuery                     a query with its arguments; the alternant form of a code, if it has one, counts for two of them
--   value_name c, query_name c     its name (GUAVA manual; LeastWord, ConcatenatedCode, the certificates, WeightDistribution,
--                                  NearestWord, FillErasures, TraceCode, SubfieldSubcode, IsSubcode, IsSameCode, AddWords, ScaleWord,
--                                  Encode and CirculantCode are this project's own)
--   value_forms c, query_forms c   its forms: the kinds of its arguments, and the call with them; BCHCode has two
--   refusals_of b, query_refusals_of b      its refusals in their order
--   refusal_of b, query_refusal_of b        the first of them
--   Gives b v                      what it gives that isn't refused
--   IsNotDivisor b                 the polynomial of a cyclic code doesn't divide x^n - 1: refusal 4. That is a fact and not a test
--   value_calls, query_calls       those that give a value, and the queries, in the order of the table
--   all_calls                      both
--   name_of c                      the name of a call
--   signatures c                   the kinds of its arguments in each form
--   call_named table x             the call of the table with this name; a call that the table lacks is an unknown name
--   signature_for c n              the kinds of its arguments, if it takes n of them
--   bind c arguments               the call with these arguments; None if they are not of its kinds
--   bind_query c arguments         the query with these arguments
-- What a query does is in `Evaluation`.
use Rattle.std.specs.Prelude.{◌≡◌, ℕ, ◌+◌, ◌-◌, ◌*◌, ◌^◌, ◌↔◌, Bool, true, not, nat_lt, ◌==◌, IsTrue, List, [], ◌∷◌, ◌++◌, length, map, find, codes, Option}
use Rattle.std.specs.List.{list_any}
use Rattle.lc_algebra.specs.declared.FieldName.{FieldName}
use Rattle.lc_algebra.specs.declared.FieldName.TheVariants.{Gf2, Gf3}
use Rattle.lc_algebra.specs.Field.{size}
use Rattle.lc_algebra.specs.Polynomial.{Divides, x_power_minus_one}
use Rattle.lc_algebra.specs.Word.{word_sum, scale, weight}
use Rattle.lc_algebra.specs.Span.{combine}
use Rattle.lc_algebra.specs.Matrix.{Matrix}
use Rattle.lc_constructions.specs.Code.{InCode, IsCode, CheckedBy}
use Rattle.lc_constructions.specs.Basic.{GeneratedBy, IsConstant, IsAny, IsZero, hamming_checks, hamming_length, reed_muller_rows}
use Rattle.lc_constructions.specs.Cyclic.{all_fields, trimmed, IsMultipleOf, IsCheckedBy, binary_golay_generator, ternary_golay_generator}
use Rattle.lc_constructions.specs.Alternant.{AlternantForm, IsAlternantWord, IsGoppaWord, goppa_form}
use Rattle.lc_constructions.specs.Combined.{InDual, InExtended, InPunctured, InShortened, InEvenWeight, InDirectSum, InUuv, InDirectProduct, InIntersection}
use Rattle.lc_constructions.specs.Concatenated.{InConcatenated}
use Rattle.lc_constructions.specs.Coset.{syndrome}
use Rattle.lc_constructions.specs.Nearest.{IsNearest}
use Rattle.lc_constructions.specs.Refusals.{columns_of, matrix_refusals, length_refusals, hamming_refusals, reed_muller_refusals, cyclic_refusals, bch_refusals, reed_solomon_refusals, goppa_refusals, alternant_refusals, extended_refusals, deleted_refusals, even_weight_refusals, direct_sum_refusals, uuv_refusals, direct_product_refusals, intersection_refusals, concatenated_refusals}
use Rattle.lc_formats.specs.Text.{same_bytes}
use Rattle.lc_language.specs.declared.Call.{Call}
use Rattle.lc_language.specs.declared.Call.TheVariants.{Value as Value_, Query}
use Rattle.lc_language.specs.declared.ValueCall.{ValueCall}
use Rattle.lc_language.specs.declared.ValueCall.TheVariants as call
use Rattle.lc_language.specs.declared.QueryCall.{QueryCall}
use Rattle.lc_language.specs.declared.QueryCall.TheVariants as query
use Rattle.lc_language.specs.declared.Kind.{Kind}
use Rattle.lc_language.specs.declared.Kind.TheVariants.{Number, Field, Numbers, Lists, Code}
use Rattle.lc_language.specs.Value.{Value, number, field, numbers, lists, truth}
use Rattle.lc_language.specs.Forms.{Form, form, one, kinds_of, bound}
use Rattle.lc_language.specs.Refusal.{Refusal, refuse, when, first_of, from_codes, word_refusals, coset_refusal, no_form, not_attained, no_distribution}
use Rattle.lc_language.specs.Meaning.{Made, MadeWith, IsGolay, IsExtendedGolay, IsBch, IsReedSolomon}
use Rattle.lc_language.specs.QuadraticResidues.{InResidueCode, period, not_residue_length}
use Rattle.lc_language.specs.Relations.{hamming_distance, IsSubcode, IsSameCode, IsSelfOrthogonal, IsSelfDual, IsCyclic, IsMessageOf, InUnion, InAugmented, add_refusals, scale_refusals, distance_refusals, message_refusals, augmented_refusals, not_codeword}
use Rattle.lc_language.specs.Erasures.{erased_refusals}
use Rattle.lc_language.specs.Trace.{InTrace, InSubfieldSubcode, subfield_refusals}
use Rattle.lc_language.specs.Circulant.{circulant, circulants, circulant_refusals, quasi_cyclic_refusals}
use Rattle.lc_language.specs.ConstructionX.{InConstructionX, construction_x_refusals}
use Rattle.lc_language.specs.Residual.{InResidual, residual_refusals}

pub data BoundCall : Type 0 where
  gf : ℕ → BoundCall
  generator_mat_code : List (List ℕ) → FieldName → BoundCall
  check_mat_code : List (List ℕ) → FieldName → BoundCall
  repetition_code : ℕ → FieldName → BoundCall
  whole_space_code : ℕ → FieldName → BoundCall
  null_code : ℕ → FieldName → BoundCall
  hamming_code : ℕ → FieldName → BoundCall
  reed_muller_code : ℕ → ℕ → BoundCall
  generator_pol_code : List ℕ → ℕ → FieldName → BoundCall
  check_pol_code : List ℕ → ℕ → FieldName → BoundCall
  qr_code : ℕ → FieldName → BoundCall
  binary_golay_code : BoundCall
  ternary_golay_code : BoundCall
  extended_binary_golay_code : BoundCall
  extended_ternary_golay_code : BoundCall
  bch_code : ℕ → ℕ → ℕ → FieldName → BoundCall
  reed_solomon_code : ℕ → ℕ → BoundCall
  goppa_code : List ℕ → List ℕ → FieldName → FieldName → BoundCall
  alternant_code : ℕ → List ℕ → List ℕ → FieldName → FieldName → BoundCall
  dual_code : Matrix → BoundCall
  extended_code : Matrix → BoundCall
  punctured_code : Matrix → List ℕ → BoundCall
  shortened_code : Matrix → List ℕ → BoundCall
  even_weight_subcode : Matrix → BoundCall
  direct_sum_code : Matrix → Matrix → BoundCall
  uuv_code : Matrix → Matrix → BoundCall
  direct_product_code : Matrix → Matrix → BoundCall
  intersection_code : Matrix → Matrix → BoundCall
  concatenated_code : Matrix → Matrix → BoundCall
  dimension : Matrix → BoundCall
  word_length : Matrix → BoundCall
  generator_mat : Matrix → BoundCall
  check_mat : Matrix → BoundCall
  weight_of : List ℕ → BoundCall
  is_codeword : Matrix → List ℕ → BoundCall
  decode : Matrix → List ℕ → BoundCall
  syndrome_of : Matrix → List ℕ → BoundCall
  is_subcode : Matrix → Matrix → BoundCall
  is_same_code : Matrix → Matrix → BoundCall
  is_self_orthogonal_code : Matrix → BoundCall
  is_self_dual_code : Matrix → BoundCall
  is_cyclic_code : Matrix → BoundCall
  add_words : List ℕ → List ℕ → FieldName → BoundCall
  scale_word : ℕ → List ℕ → FieldName → BoundCall
  distance_codeword : List ℕ → List ℕ → BoundCall
  encode : Matrix → List ℕ → BoundCall
  information_word : Matrix → List ℕ → BoundCall
  union_code : Matrix → Matrix → BoundCall
  augmented_code : Matrix → List (List ℕ) → BoundCall
  trace_code : Matrix → FieldName → BoundCall
  subfield_subcode : Matrix → FieldName → BoundCall
  circulant_code : List ℕ → ℕ → FieldName → BoundCall
  quasi_cyclic_code : List (List ℕ) → ℕ → FieldName → BoundCall
  construction_x_code : Matrix → Matrix → Matrix → BoundCall
  residue_code : Matrix → List ℕ → BoundCall

pub data BoundQuery : Type 0 where
  algebraic_decode : Matrix → Option AlternantForm → List ℕ → BoundQuery
  least_word : List (List ℕ) → FieldName → BoundQuery
  minimum_distance : Matrix → BoundQuery
  certificate : Matrix → BoundQuery
  scan_certificate : Matrix → BoundQuery
  weight_distribution : Matrix → BoundQuery
  alternant_certificate : Matrix → Option AlternantForm → List ℕ → BoundQuery
  nearest_word : Matrix → List ℕ → BoundQuery
  fill_erasures : Matrix → List ℕ → List ℕ → BoundQuery

-- ---- names

unfoldable pub value_name : ValueCall → List ℕ
value_name call.Gf = codes "GF"
value_name call.GeneratorMatCode = codes "GeneratorMatCode"
value_name call.CheckMatCode = codes "CheckMatCode"
value_name call.RepetitionCode = codes "RepetitionCode"
value_name call.WholeSpaceCode = codes "WholeSpaceCode"
value_name call.NullCode = codes "NullCode"
value_name call.HammingCode = codes "HammingCode"
value_name call.ReedMullerCode = codes "ReedMullerCode"
value_name call.GeneratorPolCode = codes "GeneratorPolCode"
value_name call.CheckPolCode = codes "CheckPolCode"
value_name call.QrCode = codes "QRCode"
value_name call.BinaryGolayCode = codes "BinaryGolayCode"
value_name call.TernaryGolayCode = codes "TernaryGolayCode"
value_name call.ExtendedBinaryGolayCode = codes "ExtendedBinaryGolayCode"
value_name call.ExtendedTernaryGolayCode = codes "ExtendedTernaryGolayCode"
value_name call.BchCode = codes "BCHCode"
value_name call.ReedSolomonCode = codes "ReedSolomonCode"
value_name call.GoppaCode = codes "GoppaCode"
value_name call.AlternantCode = codes "AlternantCode"
value_name call.DualCode = codes "DualCode"
value_name call.ExtendedCode = codes "ExtendedCode"
value_name call.PuncturedCode = codes "PuncturedCode"
value_name call.ShortenedCode = codes "ShortenedCode"
value_name call.EvenWeightSubcode = codes "EvenWeightSubcode"
value_name call.DirectSumCode = codes "DirectSumCode"
value_name call.UuvCode = codes "UUVCode"
value_name call.DirectProductCode = codes "DirectProductCode"
value_name call.IntersectionCode = codes "IntersectionCode"
value_name call.ConcatenatedCode = codes "ConcatenatedCode"
value_name call.Dimension = codes "Dimension"
value_name call.WordLength = codes "WordLength"
value_name call.GeneratorMat = codes "GeneratorMat"
value_name call.CheckMat = codes "CheckMat"
value_name call.Weight = codes "Weight"
value_name call.IsCodeword = codes "IsCodeword"
value_name call.Decode = codes "Decode"
value_name call.Syndrome = codes "Syndrome"
value_name call.IsSubcode = codes "IsSubcode"
value_name call.IsSameCode = codes "IsSameCode"
value_name call.IsSelfOrthogonalCode = codes "IsSelfOrthogonalCode"
value_name call.IsSelfDualCode = codes "IsSelfDualCode"
value_name call.IsCyclicCode = codes "IsCyclicCode"
value_name call.AddWords = codes "AddWords"
value_name call.ScaleWord = codes "ScaleWord"
value_name call.DistanceCodeword = codes "DistanceCodeword"
value_name call.Encode = codes "Encode"
value_name call.InformationWord = codes "InformationWord"
value_name call.UnionCode = codes "UnionCode"
value_name call.AugmentedCode = codes "AugmentedCode"
value_name call.TraceCode = codes "TraceCode"
value_name call.SubfieldSubcode = codes "SubfieldSubcode"
value_name call.CirculantCode = codes "CirculantCode"
value_name call.QuasiCyclicCode = codes "QuasiCyclicCode"
value_name call.ConstructionXCode = codes "ConstructionXCode"
value_name call.ResidueCode = codes "ResidueCode"

unfoldable pub query_name : QueryCall → List ℕ
query_name query.AlgebraicDecode = codes "AlgebraicDecode"
query_name query.LeastWord = codes "LeastWord"
query_name query.MinimumDistance = codes "MinimumDistance"
query_name query.Certificate = codes "Certificate"
query_name query.ScanCertificate = codes "ScanCertificate"
query_name query.WeightDistribution = codes "WeightDistribution"
query_name query.AlternantCertificate = codes "AlternantCertificate"
query_name query.NearestWord = codes "NearestWord"
query_name query.FillErasures = codes "FillErasures"

-- ---- forms

unfoldable pub value_forms : ValueCall → List (Form BoundCall)
value_forms call.Gf = one (Number ∷ []) gf
value_forms call.GeneratorMatCode = one (Lists ∷ Field ∷ []) generator_mat_code
value_forms call.CheckMatCode = one (Lists ∷ Field ∷ []) check_mat_code
value_forms call.RepetitionCode = one (Number ∷ Field ∷ []) repetition_code
value_forms call.WholeSpaceCode = one (Number ∷ Field ∷ []) whole_space_code
value_forms call.NullCode = one (Number ∷ Field ∷ []) null_code
value_forms call.HammingCode = one (Number ∷ Field ∷ []) hamming_code
value_forms call.ReedMullerCode = one (Number ∷ Number ∷ []) reed_muller_code
value_forms call.GeneratorPolCode = one (Numbers ∷ Number ∷ Field ∷ []) generator_pol_code
value_forms call.CheckPolCode = one (Numbers ∷ Number ∷ Field ∷ []) check_pol_code
value_forms call.QrCode = one (Number ∷ Field ∷ []) qr_code
value_forms call.BinaryGolayCode = one [] binary_golay_code
value_forms call.TernaryGolayCode = one [] ternary_golay_code
value_forms call.ExtendedBinaryGolayCode = one [] extended_binary_golay_code
value_forms call.ExtendedTernaryGolayCode = one [] extended_ternary_golay_code
value_forms call.BchCode = form (Number ∷ Number ∷ Field ∷ []) (λ n d f. bch_code n 1 d f) ∷ one (Number ∷ Number ∷ Number ∷ Field ∷ []) bch_code
value_forms call.ReedSolomonCode = one (Number ∷ Number ∷ []) reed_solomon_code
value_forms call.GoppaCode = one (Numbers ∷ Numbers ∷ Field ∷ Field ∷ []) goppa_code
value_forms call.AlternantCode = one (Number ∷ Numbers ∷ Numbers ∷ Field ∷ Field ∷ []) alternant_code
value_forms call.DualCode = one (Code ∷ []) (λ C. dual_code C.code)
value_forms call.ExtendedCode = one (Code ∷ []) (λ C. extended_code C.code)
value_forms call.PuncturedCode = one (Code ∷ Numbers ∷ []) (λ C coordinates. punctured_code C.code coordinates)
value_forms call.ShortenedCode = one (Code ∷ Numbers ∷ []) (λ C coordinates. shortened_code C.code coordinates)
value_forms call.EvenWeightSubcode = one (Code ∷ []) (λ C. even_weight_subcode C.code)
value_forms call.DirectSumCode = one (Code ∷ Code ∷ []) (λ C D. direct_sum_code C.code D.code)
value_forms call.UuvCode = one (Code ∷ Code ∷ []) (λ C D. uuv_code C.code D.code)
value_forms call.DirectProductCode = one (Code ∷ Code ∷ []) (λ C D. direct_product_code C.code D.code)
value_forms call.IntersectionCode = one (Code ∷ Code ∷ []) (λ C D. intersection_code C.code D.code)
value_forms call.ConcatenatedCode = one (Code ∷ Code ∷ []) (λ C D. concatenated_code C.code D.code)
value_forms call.Dimension = one (Code ∷ []) (λ C. dimension C.code)
value_forms call.WordLength = one (Code ∷ []) (λ C. word_length C.code)
value_forms call.GeneratorMat = one (Code ∷ []) (λ C. generator_mat C.code)
value_forms call.CheckMat = one (Code ∷ []) (λ C. check_mat C.code)
value_forms call.Weight = one (Numbers ∷ []) weight_of
value_forms call.IsCodeword = one (Code ∷ Numbers ∷ []) (λ C x. is_codeword C.code x)
value_forms call.Decode = one (Code ∷ Numbers ∷ []) (λ C x. decode C.code x)
value_forms call.Syndrome = one (Code ∷ Numbers ∷ []) (λ C x. syndrome_of C.code x)
value_forms call.IsSubcode = one (Code ∷ Code ∷ []) (λ C D. is_subcode C.code D.code)
value_forms call.IsSameCode = one (Code ∷ Code ∷ []) (λ C D. is_same_code C.code D.code)
value_forms call.IsSelfOrthogonalCode = one (Code ∷ []) (λ C. is_self_orthogonal_code C.code)
value_forms call.IsSelfDualCode = one (Code ∷ []) (λ C. is_self_dual_code C.code)
value_forms call.IsCyclicCode = one (Code ∷ []) (λ C. is_cyclic_code C.code)
value_forms call.AddWords = one (Numbers ∷ Numbers ∷ Field ∷ []) add_words
value_forms call.ScaleWord = one (Number ∷ Numbers ∷ Field ∷ []) scale_word
value_forms call.DistanceCodeword = one (Numbers ∷ Numbers ∷ []) distance_codeword
value_forms call.Encode = one (Code ∷ Numbers ∷ []) (λ C u. encode C.code u)
value_forms call.InformationWord = one (Code ∷ Numbers ∷ []) (λ C x. information_word C.code x)
value_forms call.UnionCode = one (Code ∷ Code ∷ []) (λ C D. union_code C.code D.code)
value_forms call.AugmentedCode = one (Code ∷ Lists ∷ []) (λ C rows. augmented_code C.code rows)
value_forms call.TraceCode = one (Code ∷ Field ∷ []) (λ C f. trace_code C.code f)
value_forms call.SubfieldSubcode = one (Code ∷ Field ∷ []) (λ C f. subfield_subcode C.code f)
value_forms call.CirculantCode = one (Numbers ∷ Number ∷ Field ∷ []) circulant_code
value_forms call.QuasiCyclicCode = one (Lists ∷ Number ∷ Field ∷ []) quasi_cyclic_code
value_forms call.ConstructionXCode = one (Code ∷ Code ∷ Code ∷ []) (λ C D E. construction_x_code C.code D.code E.code)
value_forms call.ResidueCode = one (Code ∷ Numbers ∷ []) (λ C x. residue_code C.code x)

unfoldable pub query_forms : QueryCall → List (Form BoundQuery)
query_forms query.AlgebraicDecode = one (Code ∷ Numbers ∷ []) (λ C x. algebraic_decode C.code C.form x)
query_forms query.LeastWord = one (Lists ∷ Field ∷ []) least_word
query_forms query.MinimumDistance = one (Code ∷ []) (λ C. minimum_distance C.code)
query_forms query.Certificate = one (Code ∷ []) (λ C. certificate C.code)
query_forms query.ScanCertificate = one (Code ∷ []) (λ C. scan_certificate C.code)
query_forms query.WeightDistribution = one (Code ∷ []) (λ C. weight_distribution C.code)
query_forms query.AlternantCertificate = one (Code ∷ Numbers ∷ []) (λ C x. alternant_certificate C.code C.form x)
query_forms query.NearestWord = one (Code ∷ Numbers ∷ []) (λ C x. nearest_word C.code x)
query_forms query.FillErasures = one (Code ∷ Numbers ∷ Numbers ∷ []) (λ C x erased. fill_erasures C.code x erased)

-- ---- refusals

-- of the cyclic codes, besides: the polynomial doesn't divide x^n - 1, as `IsNotDivisor` says
unfoldable pub refusals_of : BoundCall → List (Option Refusal)
refusals_of (gf q) = when (not (list_any (λ f. size f == q) all_fields)) (refuse 1 []) ∷ []
refusals_of (generator_mat_code rows f) = from_codes (matrix_refusals f rows)
refusals_of (check_mat_code rows f) = from_codes (matrix_refusals f rows)
refusals_of (repetition_code n f) = from_codes (length_refusals f n)
refusals_of (whole_space_code n f) = from_codes (length_refusals f n)
refusals_of (null_code n f) = from_codes (length_refusals f n)
refusals_of (hamming_code r f) = from_codes (hamming_refusals f r)
refusals_of (reed_muller_code r m) = from_codes (reed_muller_refusals r m)
refusals_of (generator_pol_code x n f) = from_codes (cyclic_refusals f x n true)
refusals_of (check_pol_code x n f) = from_codes (cyclic_refusals f x n true)
refusals_of (qr_code n f) = from_codes (length_refusals f n) ++ not_residue_length f n ∷ []
refusals_of binary_golay_code = []
refusals_of ternary_golay_code = []
refusals_of extended_binary_golay_code = []
refusals_of extended_ternary_golay_code = []
refusals_of (bch_code n b d f) = from_codes (bch_refusals f n d)
refusals_of (reed_solomon_code n d) = from_codes (reed_solomon_refusals n d)
refusals_of (goppa_code g points K f) = from_codes (goppa_refusals f K g points)
refusals_of (alternant_code r points multipliers K f) = from_codes (alternant_refusals f K r points multipliers)
refusals_of (dual_code C) = []
refusals_of (extended_code C) = from_codes (extended_refusals C)
refusals_of (punctured_code C coordinates) = from_codes (deleted_refusals C coordinates)
refusals_of (shortened_code C coordinates) = from_codes (deleted_refusals C coordinates)
refusals_of (even_weight_subcode C) = from_codes (even_weight_refusals C)
refusals_of (direct_sum_code C D) = from_codes (direct_sum_refusals C D)
refusals_of (uuv_code C D) = from_codes (uuv_refusals C D)
refusals_of (direct_product_code C D) = from_codes (direct_product_refusals C D)
refusals_of (intersection_code C D) = from_codes (intersection_refusals C D)
refusals_of (concatenated_code C D) = from_codes (concatenated_refusals C D)
refusals_of (dimension C) = []
refusals_of (word_length C) = []
refusals_of (generator_mat C) = []
refusals_of (check_mat C) = []
refusals_of (weight_of x) = []
refusals_of (is_codeword C x) = from_codes (word_refusals C x)
refusals_of (decode C x) = from_codes (word_refusals C x) ++ coset_refusal C ∷ []
refusals_of (syndrome_of C x) = from_codes (word_refusals C x)
refusals_of (is_subcode C D) = from_codes (intersection_refusals C D)
refusals_of (is_same_code C D) = from_codes (intersection_refusals C D)
refusals_of (is_self_orthogonal_code C) = []
refusals_of (is_self_dual_code C) = []
refusals_of (is_cyclic_code C) = []
refusals_of (add_words x y f) = from_codes (add_refusals f x y)
refusals_of (scale_word c x f) = from_codes (scale_refusals f c x)
refusals_of (distance_codeword x y) = from_codes (distance_refusals x y)
refusals_of (encode C u) = from_codes (message_refusals C u)
refusals_of (information_word C x) = from_codes (word_refusals C x) ++ not_codeword C x ∷ []
refusals_of (union_code C D) = from_codes (intersection_refusals C D)
refusals_of (augmented_code C rows) = from_codes (augmented_refusals C rows)
refusals_of (trace_code C f) = from_codes (subfield_refusals C f)
refusals_of (subfield_subcode C f) = from_codes (subfield_refusals C f)
refusals_of (circulant_code x n f) = from_codes (circulant_refusals f x n)
refusals_of (quasi_cyclic_code xs n f) = from_codes (quasi_cyclic_refusals f xs n)
refusals_of (construction_x_code C D E) = construction_x_refusals C D E
refusals_of (residue_code C x) = residual_refusals C x

unfoldable pub refusal_of : BoundCall → Option Refusal
refusal_of b = first_of (refusals_of b)

unfoldable pub query_refusals_of : BoundQuery → List (Option Refusal)
query_refusals_of (algebraic_decode C form x) = no_form form ∷ from_codes (word_refusals C x)
query_refusals_of (least_word rows f) = from_codes (matrix_refusals f rows) ++ when (nat_lt (2 ^ 16) (size f ^ length rows)) (refuse 16 []) ∷ []
query_refusals_of (minimum_distance C) = []
query_refusals_of (certificate C) = []
query_refusals_of (scan_certificate C) = []
query_refusals_of (weight_distribution C) = no_distribution C ∷ []
query_refusals_of (alternant_certificate C form x) = no_form form ∷ from_codes (word_refusals C x) ++ not_attained C form x ∷ []
query_refusals_of (nearest_word C x) = from_codes (word_refusals C x)
query_refusals_of (fill_erasures C x erased) = from_codes (word_refusals C x) ++ from_codes (erased_refusals C erased)

unfoldable pub query_refusal_of : BoundQuery → Option Refusal
query_refusal_of b = first_of (query_refusals_of b)

-- ---- values

abbrev pub Gives : BoundCall → Value → Type 0
Gives (gf q) v = (f : FieldName) × (size f ≡ q) × (v ≡ field f)
Gives (generator_mat_code rows f) v = Made f (columns_of rows) (GeneratedBy f (columns_of rows) rows) v
Gives (check_mat_code rows f) v = Made f (columns_of rows) (CheckedBy f rows) v
Gives (repetition_code n f) v = Made f n IsConstant v
Gives (whole_space_code n f) v = Made f n IsAny v
Gives (null_code n f) v = Made f n IsZero v
Gives (hamming_code r f) v = Made f (hamming_length (size f) r) (CheckedBy f (hamming_checks (size f) r)) v
Gives (reed_muller_code r m) v = Made Gf2 (2 ^ m) (GeneratedBy Gf2 (2 ^ m) (reed_muller_rows r m)) v
Gives (generator_pol_code x n f) v = Made f n (IsMultipleOf f n (trimmed x)) v
Gives (check_pol_code x n f) v = Made f n (IsCheckedBy f n (trimmed x)) v
Gives (qr_code n f) v = Made f n (InResidueCode f n (period f n)) v
Gives binary_golay_code v = IsGolay Gf2 23 binary_golay_generator v
Gives ternary_golay_code v = IsGolay Gf3 11 ternary_golay_generator v
Gives extended_binary_golay_code v = IsExtendedGolay Gf2 23 binary_golay_generator v
Gives extended_ternary_golay_code v = IsExtendedGolay Gf3 11 ternary_golay_generator v
Gives (bch_code n b d f) v = IsBch f n b d v
Gives (reed_solomon_code n d) v = IsReedSolomon n d v
Gives (goppa_code g points K f) v = MadeWith f (length points) (IsGoppaWord f K (trimmed g) points) (goppa_form K (trimmed g) points) v
Gives (alternant_code r points multipliers K f) v =
    let form : AlternantForm = record { locator = K; points = points; multipliers = multipliers; r = r } in
    MadeWith f (length points) (IsAlternantWord f form) form v
Gives (dual_code C) v = Made C.field C.columns (InDual C) v
Gives (extended_code C) v = Made C.field (C.columns + 1) (InExtended C) v
Gives (punctured_code C coordinates) v = Made C.field (C.columns - length coordinates) (InPunctured C coordinates) v
Gives (shortened_code C coordinates) v = Made C.field (C.columns - length coordinates) (InShortened C coordinates) v
Gives (even_weight_subcode C) v = Made C.field C.columns (InEvenWeight C) v
Gives (direct_sum_code C D) v = Made C.field (C.columns + D.columns) (InDirectSum C D) v
Gives (uuv_code C D) v = Made C.field (C.columns + D.columns) (InUuv C D) v
Gives (direct_product_code C D) v = Made C.field (C.columns * D.columns) (InDirectProduct C D) v
Gives (intersection_code C D) v = Made C.field C.columns (InIntersection C D) v
Gives (concatenated_code C D) v = Made D.field (C.columns * D.columns) (InConcatenated C D) v
Gives (dimension C) v = v ≡ number (length C.rows)
Gives (word_length C) v = v ≡ number C.columns
Gives (generator_mat C) v = v ≡ lists C.rows
Gives (check_mat C) v = (D : Matrix) × IsCode C.field C.columns (InDual C) D × (v ≡ lists D.rows)
Gives (weight_of x) v = v ≡ number (weight x)
Gives (is_codeword C x) v = (b : Bool) × (v ≡ truth b) × (IsTrue b ↔ InCode C x)
Gives (decode C x) v = (w : List ℕ) × IsNearest C x w × (v ≡ numbers w)
Gives (syndrome_of C x) v = (H : Matrix) × IsCode C.field C.columns (InDual C) H × (v ≡ numbers (syndrome C.field H.rows x))
Gives (is_subcode C D) v = (b : Bool) × (v ≡ truth b) × (IsTrue b ↔ IsSubcode C D)
Gives (is_same_code C D) v = (b : Bool) × (v ≡ truth b) × (IsTrue b ↔ IsSameCode C D)
Gives (is_self_orthogonal_code C) v = (b : Bool) × (v ≡ truth b) × (IsTrue b ↔ IsSelfOrthogonal C)
Gives (is_self_dual_code C) v = (b : Bool) × (v ≡ truth b) × (IsTrue b ↔ IsSelfDual C)
Gives (is_cyclic_code C) v = (b : Bool) × (v ≡ truth b) × (IsTrue b ↔ IsCyclic C)
Gives (add_words x y f) v = v ≡ numbers (word_sum f x y)
Gives (scale_word c x f) v = v ≡ numbers (scale f c x)
Gives (distance_codeword x y) v = v ≡ number (hamming_distance x y)
Gives (encode C u) v = v ≡ numbers (combine C.field C.columns u C.rows)
Gives (information_word C x) v = (u : List ℕ) × IsMessageOf C x u × (v ≡ numbers u)
Gives (union_code C D) v = Made C.field C.columns (InUnion C D) v
Gives (augmented_code C rows) v = Made C.field C.columns (InAugmented C rows) v
Gives (trace_code C f) v = Made f C.columns (InTrace C f) v
Gives (subfield_subcode C f) v = Made f C.columns (InSubfieldSubcode C f) v
Gives (circulant_code x n f) v = Made f n (GeneratedBy f n (circulant n x)) v
Gives (quasi_cyclic_code xs n f) v = Made f (length xs * n) (GeneratedBy f (length xs * n) (circulants n xs)) v
Gives (construction_x_code C D E) v = Made C.field (C.columns + E.columns) (InConstructionX C D E) v
Gives (residue_code C x) v = Made C.field (C.columns - weight x) (InResidual C x) v

abbrev pub IsNotDivisor : BoundCall → Type 0
IsNotDivisor (generator_pol_code x n f) = ¬ Divides f (trimmed x) (x_power_minus_one f n)
IsNotDivisor (check_pol_code x n f) = ¬ Divides f (trimmed x) (x_power_minus_one f n)
IsNotDivisor _ = ⊥

-- ---- the table

unfoldable pub value_calls : List ValueCall
value_calls = call.Gf ∷ call.GeneratorMatCode ∷ call.CheckMatCode ∷ call.RepetitionCode ∷ call.WholeSpaceCode ∷ call.NullCode ∷ call.HammingCode ∷ call.ReedMullerCode ∷ call.GeneratorPolCode ∷ call.CheckPolCode ∷ call.QrCode ∷ call.BinaryGolayCode ∷ call.TernaryGolayCode ∷ call.ExtendedBinaryGolayCode ∷ call.ExtendedTernaryGolayCode ∷ call.BchCode ∷ call.ReedSolomonCode ∷ call.GoppaCode ∷ call.AlternantCode ∷ call.DualCode ∷ call.ExtendedCode ∷ call.PuncturedCode ∷ call.ShortenedCode ∷ call.EvenWeightSubcode ∷ call.DirectSumCode ∷ call.UuvCode ∷ call.DirectProductCode ∷ call.IntersectionCode ∷ call.ConcatenatedCode ∷ call.Dimension ∷ call.WordLength ∷ call.GeneratorMat ∷ call.CheckMat ∷ call.Weight ∷ call.IsCodeword ∷ call.Decode ∷ call.Syndrome ∷ call.IsSubcode ∷ call.IsSameCode ∷ call.IsSelfOrthogonalCode ∷ call.IsSelfDualCode ∷ call.IsCyclicCode ∷ call.AddWords ∷ call.ScaleWord ∷ call.DistanceCodeword ∷ call.Encode ∷ call.InformationWord ∷ call.UnionCode ∷ call.AugmentedCode ∷ call.TraceCode ∷ call.SubfieldSubcode ∷ call.CirculantCode ∷ call.QuasiCyclicCode ∷ call.ConstructionXCode ∷ call.ResidueCode ∷ []

unfoldable pub query_calls : List QueryCall
query_calls = query.AlgebraicDecode ∷ query.LeastWord ∷ query.MinimumDistance ∷ query.Certificate ∷ query.ScanCertificate ∷ query.WeightDistribution ∷ query.AlternantCertificate ∷ query.NearestWord ∷ query.FillErasures ∷ []

unfoldable pub all_calls : List Call
all_calls = map Value_ value_calls ++ map Query query_calls

unfoldable pub name_of : Call → List ℕ
name_of (Value_ c) = value_name c
name_of (Query c) = query_name c

unfoldable pub signatures : Call → List (List Kind)
signatures (Value_ c) = kinds_of (value_forms c)
signatures (Query c) = kinds_of (query_forms c)

unfoldable pub call_named : List Call → List ℕ → Option Call
call_named table x = find (λ c. same_bytes x (name_of c)) table

unfoldable pub signature_for : Call → ℕ → Option (List Kind)
signature_for c n = find (λ kinds. length kinds == n) (signatures c)

unfoldable pub bind : ValueCall → List Value → Option BoundCall
bind c vs = bound (value_forms c) vs

unfoldable pub bind_query : QueryCall → List Value → Option BoundQuery
bind_query c vs = bound (query_forms c) vs
