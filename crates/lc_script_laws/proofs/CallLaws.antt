-- What holds of each call: that it gives one value, or as a statement does one thing; and that the codes that it gives or asks for are
-- over symbol fields and have a length of at most 255 and reduced rows, if the codes among its arguments are such.
--   gives_one, queries_one   a call that isn't refused gives one value; a query does one thing
--   length_allowed, sum_short, ..      by each list of refusals: a code that isn't refused is over a symbol field, and at most 255 long
--   GivesShaped b            the value of a bound call that isn't refused is shaped
--   calls_shaped             so it is in every form of a call
--   HaveQueryShapes b        the code of a query that a search answers is one of rows
--   queries_shaped           so it is in every form of a query
--   IsDeterminate c          whatever its arguments, the call gives one value, or does one thing
--   built_one                the calls that are built are such
--   bind_shaped, bind_query_shaped       shaped arguments bind a call, and a query, of which this holds
use Rattle.std.proofs.Common.{◌≡◌, ◌≤◌, ◌+◌, ◌*◌, ◌%◌, ◌^◌, ℕ, Bool, true, List, [], ◌∷◌, ◌++◌, length, Option, None, Some, refl, sym, ap, ◌∙◌, arith}
use Rattle.std.specs.Prelude.{IsTrue}
use Rattle.std.specs.List.{AllByRecursion}
use Rattle.lc_algebra.specs.declared.FieldName.{FieldName}
use Rattle.lc_algebra.specs.declared.FieldName.TheVariants.{Gf2, Gf3}
use Rattle.lc_algebra.specs.Field.{size, is_symbol}
use Rattle.lc_algebra.specs.Matrix.{Matrix}
use Rattle.lc_algebra.proofs.EmbeddingTests.{told_by_size}
use Rattle.lc_constructions.specs.Code.{InCode, IsCode}
use Rattle.lc_constructions.specs.Combined.{InDual}
use Rattle.lc_constructions.specs.Coset.{syndrome}
use Rattle.lc_constructions.specs.Nearest.{IsNearest}
use Rattle.lc_constructions.specs.Refusals.{columns_of, matrix_refusals, length_refusals, hamming_refusals, reed_muller_refusals, cyclic_refusals, bch_refusals, goppa_refusals, form_refusals, alternant_refusals, extended_refusals, direct_sum_refusals, uuv_refusals, direct_product_refusals, degree_over, nested_refusals, concatenated_refusals}
use Rattle.lc_constructions.specs.Basic.{hamming_length}
use Rattle.lc_language.specs.Refusal.{Refusal, first_of, from_codes}
use Rattle.lc_language.specs.QuadraticResidues.{not_residue_length}
use Rattle.lc_language.specs.declared.Call.{Call}
use Rattle.lc_language.specs.declared.Call.TheVariants.{Value as Value_, Query}
use Rattle.lc_language.specs.declared.ValueCall.{ValueCall}
use Rattle.lc_language.specs.declared.ValueCall.TheVariants as call
use Rattle.lc_language.specs.declared.QueryCall.{QueryCall}
use Rattle.lc_language.specs.declared.QueryCall.TheVariants as query
use Rattle.lc_language.specs.Value.{Value, numbers, field, lists}
use Rattle.lc_language.specs.Trace.{subfield_refusals}
use Rattle.lc_language.specs.Relations.{IsSubcode, IsSameCode, IsSelfOrthogonal, IsSelfDual, IsCyclic, IsMessageOf}
use Rattle.lc_language.specs.Circulant.{circulant_refusals, quasi_cyclic_refusals}
use Rattle.lc_language.specs.ConstructionX.{not_subcode, unlike_codes, unfit_tail, construction_x_refusals}
use Rattle.lc_language.specs.Calls as bound
use Rattle.lc_language.specs.Calls.{BoundCall, BoundQuery, value_forms, query_forms, refusals_of, refusal_of, Gives, bind, bind_query}
use Rattle.lc_language.specs.Query.{distance, by_levels, by_scan, form_line}
use Rattle.lc_language.specs.Evaluation.{prints, counts, Queries}
use Rattle.lc_code.proofs.CoordinateSteps.{small_size}
use Rattle.lc_calls.specs.Built.{built_calls}
use Rattle.lc_script_laws.specs.Shapes.{IsCodeOfRows}
use Rattle.lc_script_laws.proofs.AtMostOne.{One, one_value, one_some}
use Rattle.lc_script_laws.proofs.OneNearest.{nearest_one}
use Rattle.lc_script_laws.proofs.OneValue.{code_one, made_one, extended_golay_one, bch_one, reed_solomon_one, truth_one, message_one, prints_least_one, prints_filling_one, asks_one, nears_one, decoded_by_form}
use Rattle.lc_script_laws.proofs.FormedLaws.{bch_formed, solomon_formed, goppa_formed, alternant_formed}
use Rattle.lc_script_laws.proofs.ShapeLaws.{IsShaped, AreShaped, InForms, bound_shaped, shaped_as, made_shaped, formed_shaped, IsAllowed, none_refuses, none_behind, allowed, short, over_symbols, binary, ternary}

pub gives_one : (b : BoundCall) → refusal_of b ≡ None → One (Gives b)
gives_one (bound.gf q) r = one_some (λ f. size f ≡ q) (λ f v. v ≡ field f) (λ f g a b. told_by_size f g (a ∙ sym b)) (λ f. one_value (field f))
gives_one (bound.generator_mat_code rows f) r = made_one _ _ _ _
gives_one (bound.check_mat_code rows f) r = made_one _ _ _ _
gives_one (bound.repetition_code n f) r = made_one _ _ _ _
gives_one (bound.whole_space_code n f) r = made_one _ _ _ _
gives_one (bound.null_code n f) r = made_one _ _ _ _
gives_one (bound.hamming_code r f) e = made_one _ _ _ _
gives_one (bound.reed_muller_code r m) e = made_one _ _ _ _
gives_one (bound.generator_pol_code x n f) r = made_one _ _ _ _
gives_one (bound.check_pol_code x n f) r = made_one _ _ _ _
gives_one (bound.qr_code n f) r = made_one _ _ _ _
gives_one bound.binary_golay_code r = made_one _ _ _ _
gives_one bound.ternary_golay_code r = made_one _ _ _ _
gives_one bound.extended_binary_golay_code r = extended_golay_one _ _ _
gives_one bound.extended_ternary_golay_code r = extended_golay_one _ _ _
gives_one (bound.bch_code n b d f) r = bch_one n b d f
gives_one (bound.reed_solomon_code n d) r = reed_solomon_one n d
gives_one (bound.goppa_code g points K f) r = made_one _ _ _ _
gives_one (bound.alternant_code r points multipliers K f) e = made_one _ _ _ _
gives_one (bound.dual_code C) r = made_one _ _ _ _
gives_one (bound.extended_code C) r = made_one _ _ _ _
gives_one (bound.punctured_code C coordinates) r = made_one _ _ _ _
gives_one (bound.shortened_code C coordinates) r = made_one _ _ _ _
gives_one (bound.even_weight_subcode C) r = made_one _ _ _ _
gives_one (bound.direct_sum_code C D) r = made_one _ _ _ _
gives_one (bound.uuv_code C D) r = made_one _ _ _ _
gives_one (bound.direct_product_code C D) r = made_one _ _ _ _
gives_one (bound.intersection_code C D) r = made_one _ _ _ _
gives_one (bound.concatenated_code C D) r = made_one _ _ _ _
gives_one (bound.dimension C) r = one_value _
gives_one (bound.word_length C) r = one_value _
gives_one (bound.generator_mat C) r = one_value _
gives_one (bound.check_mat C) r = one_some (IsCode C.field C.columns (InDual C)) (λ D v. v ≡ lists D.rows) (code_one _ _ _) (λ D. one_value (lists D.rows))
gives_one (bound.weight_of x) r = one_value _
gives_one (bound.is_codeword C x) r = truth_one (InCode C x)
gives_one (bound.decode C x) r = one_some (IsNearest C x) (λ w v. v ≡ numbers w) (nearest_one C x r) (λ w. one_value (numbers w))
gives_one (bound.syndrome_of C x) r = one_some (IsCode C.field C.columns (InDual C)) (λ H v. v ≡ numbers (syndrome C.field H.rows x)) (code_one _ _ _) (λ H. one_value (numbers (syndrome C.field H.rows x)))
gives_one (bound.is_subcode C D) r = truth_one (IsSubcode C D)
gives_one (bound.is_same_code C D) r = truth_one (IsSameCode C D)
gives_one (bound.is_self_orthogonal_code C) r = truth_one (IsSelfOrthogonal C)
gives_one (bound.is_self_dual_code C) r = truth_one (IsSelfDual C)
gives_one (bound.is_cyclic_code C) r = truth_one (IsCyclic C)
gives_one (bound.add_words x y f) r = one_value _
gives_one (bound.scale_word c x f) r = one_value _
gives_one (bound.distance_codeword x y) r = one_value _
gives_one (bound.encode C u) r = one_value _
gives_one (bound.information_word C x) r = one_some (IsMessageOf C x) (λ u v. v ≡ numbers u) (message_one C x) (λ u. one_value (numbers u))
gives_one (bound.union_code C D) r = made_one _ _ _ _
gives_one (bound.augmented_code C rows) r = made_one _ _ _ _
gives_one (bound.trace_code C f) r = made_one _ _ _ _
gives_one (bound.subfield_subcode C f) r = made_one _ _ _ _
gives_one (bound.circulant_code x n f) r = made_one _ _ _ _
gives_one (bound.quasi_cyclic_code xs n f) r = made_one _ _ _ _
gives_one (bound.construction_x_code C D E) r = made_one _ _ _ _
gives_one (bound.residue_code C x) r = made_one _ _ _ _

pub queries_one : (b : BoundQuery) → One (Queries b)
queries_one (bound.algebraic_decode C form x) = decoded_by_form C x form
queries_one (bound.least_word rows f) = prints_least_one rows f
queries_one (bound.minimum_distance C) = asks_one distance C
queries_one (bound.certificate C) = asks_one by_levels C
queries_one (bound.scan_certificate C) = asks_one by_scan C
queries_one (bound.weight_distribution C) = one_value (counts C)
queries_one (bound.alternant_certificate C None x) = λ s t h k. absurd h
queries_one (bound.alternant_certificate C (Some form) x) = one_value (prints (form_line C form x))
queries_one (bound.nearest_word C x) = nears_one C x
queries_one (bound.fill_erasures C x erased) = prints_filling_one C x erased

-- ---- codes that aren't refused are short, and over symbol fields

matrix_allowed : (f : FieldName) (rows : List (List ℕ)) → first_of (from_codes (matrix_refusals f rows)) ≡ None → IsAllowed f (columns_of rows)
unfolding matrix_refusals
matrix_allowed f rows e = let h = none_refuses _ e in allowed f (columns_of rows) h.0 h.1.0

length_allowed : (f : FieldName) (n : ℕ) → first_of (from_codes (length_refusals f n)) ≡ None → IsAllowed f n
unfolding length_refusals
length_allowed f n e = let h = none_refuses _ e in allowed f n h.0 h.1.0

first_before : (xs ys : List (Option Refusal)) → first_of (xs ++ ys) ≡ None → first_of xs ≡ None
unfolding first_of
first_before [] ys e = refl
first_before (None ∷ xs) ys e = first_before xs ys e
first_before (Some r ∷ xs) ys e = e

residue_allowed : (f : FieldName) (n : ℕ) → first_of (from_codes (length_refusals f n) ++ not_residue_length f n ∷ []) ≡ None → IsAllowed f n
residue_allowed f n e = length_allowed f n (first_before (from_codes (length_refusals f n)) _ e)

cyclic_allowed : (f : FieldName) (x : List ℕ) (n : ℕ) → first_of (from_codes (cyclic_refusals f x n true)) ≡ None → IsAllowed f n
unfolding cyclic_refusals
cyclic_allowed f x n e = let h = none_refuses _ e in allowed f n h.0 h.1.0

nested_short : (C D : Matrix) (s : Option ℕ) → first_of (from_codes (nested_refusals C D s)) ≡ None → C.columns * D.columns ≤ 255
unfolding nested_refusals
nested_short C D None e = absurd (let f = (none_refuses _ e).0 in cc)
nested_short C D (Some s) e = short (C.columns * D.columns) (none_refuses _ e).1.0

hamming_allowed : (f : FieldName) (r : ℕ) → first_of (from_codes (hamming_refusals f r)) ≡ None → IsAllowed f (hamming_length (size f) r)
unfolding hamming_refusals
hamming_allowed f r e = let h = none_refuses _ e in allowed f (hamming_length (size f) r) h.0 h.1.1.0

reed_muller_short : (r m : ℕ) → first_of (from_codes (reed_muller_refusals r m)) ≡ None → 2 ^ m ≤ 255
unfolding reed_muller_refusals
reed_muller_short r m e = short (2 ^ m) (none_refuses _ e).0

bch_allowed : (f : FieldName) (n d : ℕ) → first_of (from_codes (bch_refusals f n d)) ≡ None → IsAllowed f n
unfolding bch_refusals
bch_allowed f n d e = let h = none_refuses _ e in allowed f n h.0 h.1.0

goppa_allowed : (f K : FieldName) (g points : List ℕ) → first_of (from_codes (goppa_refusals f K g points)) ≡ None → IsAllowed f (length points)
unfolding goppa_refusals
goppa_allowed f K g points e = let h = none_refuses _ e in allowed f (length points) h.0 h.1.1.0

alternant_allowed : (f K : FieldName) (r : ℕ) (points multipliers : List ℕ) → first_of (from_codes (alternant_refusals f K r points multipliers)) ≡ None → IsAllowed f (length points)
unfolding alternant_refusals form_refusals
alternant_allowed f K r points multipliers e = let h = none_refuses _ e in allowed f (length points) h.0 h.1.1.0

extended_short : (C : Matrix) → first_of (from_codes (extended_refusals C)) ≡ None → C.columns + 1 ≤ 255
unfolding extended_refusals
extended_short C e = short (C.columns + 1) (none_refuses _ e).0

sum_short : (C D : Matrix) → first_of (from_codes (direct_sum_refusals C D)) ≡ None → C.columns + D.columns ≤ 255
unfolding direct_sum_refusals
sum_short C D e = short (C.columns + D.columns) (none_refuses _ e).1.0

uuv_short : (C D : Matrix) → first_of (from_codes (uuv_refusals C D)) ≡ None → C.columns + D.columns ≤ 255
unfolding uuv_refusals
uuv_short C D e = short (C.columns + D.columns) (none_refuses _ e).1.1.0

product_short : (C D : Matrix) → first_of (from_codes (direct_product_refusals C D)) ≡ None → C.columns * D.columns ≤ 255
unfolding direct_product_refusals
product_short C D e = short (C.columns * D.columns) (none_refuses _ e).1.0

concatenated_short : (C D : Matrix) → first_of (from_codes (concatenated_refusals C D)) ≡ None → C.columns * D.columns ≤ 255
unfolding concatenated_refusals
concatenated_short C D e = nested_short C D (degree_over (size D.field) (size C.field)) e

subfield_allowed : (C : Matrix) (f : FieldName) → C.columns ≤ 255 → first_of (from_codes (subfield_refusals C f)) ≡ None → IsAllowed f C.columns
unfolding subfield_refusals
subfield_allowed C f l e = (l, over_symbols f (none_refuses _ e).0)

circulant_allowed : (f : FieldName) (x : List ℕ) (n : ℕ) → first_of (from_codes (circulant_refusals f x n)) ≡ None → IsAllowed f n
unfolding circulant_refusals
circulant_allowed f x n e = let h = none_refuses _ e in allowed f n h.0 h.1.0

quasi_allowed : (f : FieldName) (xs : List (List ℕ)) (n : ℕ) → first_of (from_codes (quasi_cyclic_refusals f xs n)) ≡ None → IsAllowed f (length xs * n)
unfolding quasi_cyclic_refusals
quasi_allowed f xs n e = let h = none_refuses _ e in allowed f (length xs * n) h.0 h.1.0

construction_x_short : (C D E : Matrix) → first_of (construction_x_refusals C D E) ≡ None → C.columns + E.columns ≤ 255
unfolding construction_x_refusals unfit_tail
construction_x_short C D E e =
    short (C.columns + E.columns) (none_refuses _ (none_behind (not_subcode C D ∷ []) _ (none_behind (from_codes (unlike_codes C D E)) _ e))).1.0

solomon_allowed : (f : FieldName) (n : ℕ) → size f ≡ n + 1 → IsTrue (is_symbol f) → IsAllowed f n
solomon_allowed f n e h = let few = small_size f h in (omega (arith, few, e), h)

-- ---- shapes

abbrev pub GivesShaped : BoundCall → Type 0
GivesShaped b = (v : Value) → refusal_of b ≡ None → Gives b v → IsShaped v

calls_shaped : (c : ValueCall) → InForms GivesShaped (value_forms c)
unfolding value_forms refusal_of refusals_of
calls_shaped call.Gf = (λ q v e g. shaped_as v _ g.2 tt, tt)
calls_shaped call.GeneratorMatCode = (λ rows f v e g. made_shaped _ _ _ v (matrix_allowed f rows e) g, tt)
calls_shaped call.CheckMatCode = (λ rows f v e g. made_shaped _ _ _ v (matrix_allowed f rows e) g, tt)
calls_shaped call.RepetitionCode = (λ n f v e g. made_shaped _ _ _ v (length_allowed f n e) g, tt)
calls_shaped call.WholeSpaceCode = (λ n f v e g. made_shaped _ _ _ v (length_allowed f n e) g, tt)
calls_shaped call.NullCode = (λ n f v e g. made_shaped _ _ _ v (length_allowed f n e) g, tt)
calls_shaped call.HammingCode = (λ r f v e g. made_shaped _ _ _ v (hamming_allowed f r e) g, tt)
calls_shaped call.ReedMullerCode = (λ r m v e g. made_shaped Gf2 _ _ v (reed_muller_short r m e, binary) g, tt)
calls_shaped call.GeneratorPolCode = (λ x n f v e g. made_shaped _ _ _ v (cyclic_allowed f x n e) g, tt)
calls_shaped call.CheckPolCode = (λ x n f v e g. made_shaped _ _ _ v (cyclic_allowed f x n e) g, tt)
calls_shaped call.QrCode = (λ n f v e g. made_shaped _ _ _ v (residue_allowed f n e) g, tt)
calls_shaped call.BinaryGolayCode = (λ v e g. made_shaped Gf2 _ _ v (omega arith, binary) g, tt)
calls_shaped call.TernaryGolayCode = (λ v e g. made_shaped Gf3 _ _ v (omega arith, ternary) g, tt)
calls_shaped call.ExtendedBinaryGolayCode = (λ v e g. made_shaped Gf2 _ _ v (omega arith, binary) g.2, tt)
calls_shaped call.ExtendedTernaryGolayCode = (λ v e g. made_shaped Gf3 _ _ v (omega arith, ternary) g.2, tt)
calls_shaped call.BchCode = (
  λ n d f v e g. formed_shaped _ _ _ _ v (bch_allowed f n d e) (λ C c. bch_formed f g.0 n (1 % n) d C e g.1 c) g.2,
  (λ n b d f v e g. formed_shaped _ _ _ _ v (bch_allowed f n d e) (λ C c. bch_formed f g.0 n (b % n) d C e g.1 c) g.2, tt),
)
calls_shaped call.ReedSolomonCode = (λ n d v e g. formed_shaped _ _ _ _ v (solomon_allowed g.0 n g.1 g.2) (λ C c. solomon_formed g.0 n d C g.1 g.2 c) g.3, tt)
calls_shaped call.GoppaCode = (λ g points K f v e k. formed_shaped _ _ _ _ v (goppa_allowed f K g points e) (λ C c. goppa_formed f K g points C e c) k, tt)
calls_shaped call.AlternantCode = (λ r points multipliers K f v e g. formed_shaped _ _ _ _ v (alternant_allowed f K r points multipliers e) (λ C c. alternant_formed f K r points multipliers C _ refl e c) g, tt)
calls_shaped call.DualCode = (λ C h v e g. made_shaped _ _ _ v (h.0.long, h.0.symbol) g, tt)
calls_shaped call.ExtendedCode = (λ C h v e g. made_shaped _ _ _ v (extended_short C.code e, h.0.symbol) g, tt)
calls_shaped call.PuncturedCode = (λ C h coordinates v e g. made_shaped _ _ _ v (omega (arith, h.0.long), h.0.symbol) g, tt)
calls_shaped call.ShortenedCode = (λ C h coordinates v e g. made_shaped _ _ _ v (omega (arith, h.0.long), h.0.symbol) g, tt)
calls_shaped call.EvenWeightSubcode = (λ C h v e g. made_shaped _ _ _ v (h.0.long, h.0.symbol) g, tt)
calls_shaped call.DirectSumCode = (λ C h D k v e g. made_shaped _ _ _ v (sum_short C.code D.code e, h.0.symbol) g, tt)
calls_shaped call.UuvCode = (λ C h D k v e g. made_shaped _ _ _ v (uuv_short C.code D.code e, h.0.symbol) g, tt)
calls_shaped call.DirectProductCode = (λ C h D k v e g. made_shaped _ _ _ v (product_short C.code D.code e, h.0.symbol) g, tt)
calls_shaped call.IntersectionCode = (λ C h D k v e g. made_shaped _ _ _ v (h.0.long, h.0.symbol) g, tt)
calls_shaped call.ConcatenatedCode = (λ C h D k v e g. made_shaped _ _ _ v (concatenated_short C.code D.code e, k.0.symbol) g, tt)
calls_shaped call.Dimension = (λ C h v e g. shaped_as v _ g tt, tt)
calls_shaped call.WordLength = (λ C h v e g. shaped_as v _ g tt, tt)
calls_shaped call.GeneratorMat = (λ C h v e g. shaped_as v _ g tt, tt)
calls_shaped call.CheckMat = (λ C h v e g. shaped_as v _ g.2 tt, tt)
calls_shaped call.Weight = (λ x v e g. shaped_as v _ g tt, tt)
calls_shaped call.IsCodeword = (λ C h x v e g. shaped_as v _ g.1 tt, tt)
calls_shaped call.Decode = (λ C h x v e g. shaped_as v _ g.2 tt, tt)
calls_shaped call.Syndrome = (λ C h x v e g. shaped_as v _ g.2 tt, tt)
calls_shaped call.IsSubcode = (λ C h D k v e g. shaped_as v _ g.1 tt, tt)
calls_shaped call.IsSameCode = (λ C h D k v e g. shaped_as v _ g.1 tt, tt)
calls_shaped call.IsSelfOrthogonalCode = (λ C h v e g. shaped_as v _ g.1 tt, tt)
calls_shaped call.IsSelfDualCode = (λ C h v e g. shaped_as v _ g.1 tt, tt)
calls_shaped call.IsCyclicCode = (λ C h v e g. shaped_as v _ g.1 tt, tt)
calls_shaped call.AddWords = (λ x y f v e g. shaped_as v _ g tt, tt)
calls_shaped call.ScaleWord = (λ c x f v e g. shaped_as v _ g tt, tt)
calls_shaped call.DistanceCodeword = (λ x y v e g. shaped_as v _ g tt, tt)
calls_shaped call.Encode = (λ C h u v e g. shaped_as v _ g tt, tt)
calls_shaped call.InformationWord = (λ C h x v e g. shaped_as v _ g.2 tt, tt)
calls_shaped call.UnionCode = (λ C h D k v e g. made_shaped _ _ _ v (h.0.long, h.0.symbol) g, tt)
calls_shaped call.AugmentedCode = (λ C h rows v e g. made_shaped _ _ _ v (h.0.long, h.0.symbol) g, tt)
calls_shaped call.TraceCode = (λ C h f v e g. made_shaped _ _ _ v (subfield_allowed C.code f h.0.long e) g, tt)
calls_shaped call.SubfieldSubcode = (λ C h f v e g. made_shaped _ _ _ v (subfield_allowed C.code f h.0.long e) g, tt)
calls_shaped call.CirculantCode = (λ x n f v e g. made_shaped _ _ _ v (circulant_allowed f x n e) g, tt)
calls_shaped call.QuasiCyclicCode = (λ xs n f v e g. made_shaped _ _ _ v (quasi_allowed f xs n e) g, tt)
calls_shaped call.ConstructionXCode = (λ C h D k E l v e g. made_shaped _ _ _ v (construction_x_short C.code D.code E.code e, h.0.symbol) g, tt)
calls_shaped call.ResidueCode = (λ C h x v e g. made_shaped _ _ _ v (omega (arith, h.0.long), h.0.symbol) g, tt)

abbrev pub HaveQueryShapes : BoundQuery → Type 0
HaveQueryShapes (bound.minimum_distance C) = IsCodeOfRows C
HaveQueryShapes (bound.certificate C) = IsCodeOfRows C
HaveQueryShapes (bound.scan_certificate C) = IsCodeOfRows C
HaveQueryShapes (bound.weight_distribution C) = IsCodeOfRows C
HaveQueryShapes (bound.nearest_word C x) = IsCodeOfRows C
HaveQueryShapes _ = Unit {0}

queries_shaped : (c : QueryCall) → InForms HaveQueryShapes (query_forms c)
unfolding query_forms
queries_shaped query.AlgebraicDecode = (λ C h x. tt, tt)
queries_shaped query.LeastWord = (λ rows f. tt, tt)
queries_shaped query.MinimumDistance = (λ C h. h.0, tt)
queries_shaped query.Certificate = (λ C h. h.0, tt)
queries_shaped query.ScanCertificate = (λ C h. h.0, tt)
queries_shaped query.WeightDistribution = (λ C h. h.0, tt)
queries_shaped query.AlternantCertificate = (λ C h x. tt, tt)
queries_shaped query.NearestWord = (λ C h x. h.0, tt)
queries_shaped query.FillErasures = (λ C h x erased. tt, tt)

-- ---- all calls

-- whatever its arguments, a call that is bound gives one value if it isn't refused; a query does one thing
abbrev pub IsOneValued : ValueCall → Type 0
IsOneValued c = (vs : List Value) (b : BoundCall) → bind c vs ≡ Some b → refusal_of b ≡ None → One (Gives b)

abbrev pub IsOneAnswered : QueryCall → Type 0
IsOneAnswered c = (vs : List Value) (b : BoundQuery) → bind_query c vs ≡ Some b → One (Queries b)

abbrev pub IsDeterminate : Call → Type 0
IsDeterminate (Value_ c) = IsOneValued c
IsDeterminate (Query c) = IsOneAnswered c

determinate : (c : Call) → IsDeterminate c
determinate (Value_ c) = λ vs b e r. gives_one b r
determinate (Query c) = λ vs b e. queries_one b

all_determinate : (calls : List Call) → AllByRecursion IsDeterminate calls
all_determinate [] = tt
all_determinate (c ∷ calls) = (determinate c, all_determinate calls)

pub built_one : AllByRecursion IsDeterminate built_calls
built_one = all_determinate built_calls

pub bind_shaped : (c : ValueCall) (vs : List Value) (b : BoundCall) → AreShaped vs → bind c vs ≡ Some b → GivesShaped b
unfolding bind
bind_shaped c vs b s e = bound_shaped GivesShaped (value_forms c) vs b (calls_shaped c) s e

pub bind_query_shaped : (c : QueryCall) (vs : List Value) (b : BoundQuery) → AreShaped vs → bind_query c vs ≡ Some b → HaveQueryShapes b
unfolding bind_query
bind_query_shaped c vs b s e = bound_shaped HaveQueryShapes (query_forms c) vs b (queries_shaped c) s e
