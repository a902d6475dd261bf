use Rattle.std.proofs.Common.{◌+◌, ◌-◌, ◌*◌, ◌^◌, length, refl, ap}
use Rattle.lc_algebra.specs.declared.FieldName.TheVariants.{Gf2}
use Rattle.lc_algebra.specs.Field.{size}
use Rattle.lc_constructions.specs.Code.{CheckedBy}
use Rattle.lc_constructions.specs.Basic.{GeneratedBy, IsConstant, IsAny, IsZero, hamming_checks, hamming_length, reed_muller_rows}
use Rattle.lc_constructions.specs.Combined.{InExtended, InPunctured, InShortened, InEvenWeight, InDirectSum, InUuv, InDirectProduct, InIntersection}
use Rattle.lc_constructions.specs.Concatenated.{InConcatenated}
use Rattle.lc_constructions.specs.Refusals.{length_refusals, hamming_refusals, reed_muller_refusals, extended_refusals, deleted_refusals, even_weight_refusals, direct_sum_refusals, uuv_refusals, direct_product_refusals, intersection_refusals, concatenated_refusals}
use Rattle.lc_language.specs.Calls as bound
use Rattle.lc_language.specs.Value.{number, truth}
use Rattle.lc_language.specs.Relations.{InUnion}
use Rattle.lc_language.specs.Calls.{refusals_of}
use Rattle.lc_calls.specs.Value.{value_of}
use Rattle.lc_eval.proofs.AnswerLaws.{made_applies, never_refused}
use Rattle.lc_eval.proofs.FormCertificateLaws.{bch_few, reed_solomon_few}
use Rattle.lc_eval.proofs.FormLaws.{bch_applies, reed_solomon_applies}
use Rattle.lc_language.specs.Trace.{InTrace, InSubfieldSubcode, subfield_refusals}
use Rattle.lc_eval.proofs.apply.apply.Goals as goal

pub returns-in-RepetitionCode-clause-is : goal.returns-in-RepetitionCode-clause-is
unfolding refusals_of
returns-in-RepetitionCode-clause-is c = rw c.in-RepetitionCode.is (made_applies c.args.offset (bound.repetition_code c.in-RepetitionCode.n c.in-RepetitionCode.field.now) (length_refusals c.in-RepetitionCode.field.now c.in-RepetitionCode.n) c.in-RepetitionCode.field.now c.in-RepetitionCode.n IsConstant c.repetition.result c.made.result refl (λ n. n) (λ v h. h) c.repetition.ensures.code c.repetition.ensures.refused c.made.ensures.is)

pub returns-in-WholeSpaceCode-clause-is : goal.returns-in-WholeSpaceCode-clause-is
unfolding refusals_of
returns-in-WholeSpaceCode-clause-is c = rw c.in-WholeSpaceCode.is (made_applies c.args.offset (bound.whole_space_code c.in-WholeSpaceCode.n c.in-WholeSpaceCode.field.now) (length_refusals c.in-WholeSpaceCode.field.now c.in-WholeSpaceCode.n) c.in-WholeSpaceCode.field.now c.in-WholeSpaceCode.n IsAny c.whole_space.result c.made-in-WholeSpaceCode.result refl (λ n. n) (λ v h. h) c.whole_space.ensures.code c.whole_space.ensures.refused c.made-in-WholeSpaceCode.ensures.is)

pub returns-in-NullCode-clause-is : goal.returns-in-NullCode-clause-is
unfolding refusals_of
returns-in-NullCode-clause-is c = rw c.in-NullCode.is (made_applies c.args.offset (bound.null_code c.in-NullCode.n c.in-NullCode.field.now) (length_refusals c.in-NullCode.field.now c.in-NullCode.n) c.in-NullCode.field.now c.in-NullCode.n IsZero c.null_code.result c.made-in-NullCode.result refl (λ n. n) (λ v h. h) c.null_code.ensures.code c.null_code.ensures.refused c.made-in-NullCode.ensures.is)

pub returns-in-HammingCode-clause-is : goal.returns-in-HammingCode-clause-is
unfolding refusals_of
returns-in-HammingCode-clause-is c = rw c.in-HammingCode.is (made_applies c.args.offset (bound.hamming_code c.in-HammingCode.r c.in-HammingCode.field.now) (hamming_refusals c.in-HammingCode.field.now c.in-HammingCode.r) c.in-HammingCode.field.now (hamming_length (size c.in-HammingCode.field.now) c.in-HammingCode.r) (CheckedBy c.in-HammingCode.field.now (hamming_checks (size c.in-HammingCode.field.now) c.in-HammingCode.r)) c.hamming.result c.made-in-HammingCode.result refl (λ n. n) (λ v h. h) c.hamming.ensures.code c.hamming.ensures.refused c.made-in-HammingCode.ensures.is)

pub returns-in-ReedMullerCode-clause-is : goal.returns-in-ReedMullerCode-clause-is
unfolding refusals_of
returns-in-ReedMullerCode-clause-is c = rw c.in-ReedMullerCode.is (made_applies c.args.offset (bound.reed_muller_code c.in-ReedMullerCode.r c.in-ReedMullerCode.m) (reed_muller_refusals c.in-ReedMullerCode.r c.in-ReedMullerCode.m) Gf2 (2 ^ c.in-ReedMullerCode.m) (GeneratedBy Gf2 (2 ^ c.in-ReedMullerCode.m) (reed_muller_rows c.in-ReedMullerCode.r c.in-ReedMullerCode.m)) c.reed_muller.result c.made-in-ReedMullerCode.result refl (λ n. n) (λ v h. h) c.reed_muller.ensures.code c.reed_muller.ensures.refused c.made-in-ReedMullerCode.ensures.is)

pub returns-in_ok-code_value-in-BinaryGolayCode-clause-is : goal.returns-in_ok-code_value-in-BinaryGolayCode-clause-is
unfolding refusals_of
returns-in_ok-code_value-in-BinaryGolayCode-clause-is c = rw c.in-BinaryGolayCode.is (never_refused c.args.offset bound.binary_golay_code (value_of c.in_ok-code_value-in-BinaryGolayCode.field-0) refl (λ n. n) (record { code_is = (c.in_ok-binary_golay-in-BinaryGolayCode.field-0, c.in_ok-binary_golay-in-BinaryGolayCode.ensures.code, c.in_ok-code_value-in-BinaryGolayCode.ensures) }))

pub returns-in_ok-code_value-in-TernaryGolayCode-clause-is : goal.returns-in_ok-code_value-in-TernaryGolayCode-clause-is
unfolding refusals_of
returns-in_ok-code_value-in-TernaryGolayCode-clause-is c = rw c.in-TernaryGolayCode.is (never_refused c.args.offset bound.ternary_golay_code (value_of c.in_ok-code_value-in-TernaryGolayCode.field-0) refl (λ n. n) (record { code_is = (c.in_ok-ternary_golay-in-TernaryGolayCode.field-0, c.in_ok-ternary_golay-in-TernaryGolayCode.ensures.code, c.in_ok-code_value-in-TernaryGolayCode.ensures) }))

pub returns-in-BchCode-clause-is : goal.returns-in-BchCode-clause-is
returns-in-BchCode-clause-is c = rw c.in-BchCode.is (bch_applies c.args.offset c.in-BchCode.n c.in-BchCode.b c.in-BchCode.d c.in-BchCode.field.now c.bch.result c.formed.result c.bch.ensures.code c.bch.ensures.locator c.bch.ensures.form c.bch.ensures.refused c.formed.ensures)

pub returns-in-ReedSolomonCode-clause-is : goal.returns-in-ReedSolomonCode-clause-is
returns-in-ReedSolomonCode-clause-is c = rw c.in-ReedSolomonCode.is (reed_solomon_applies c.args.offset c.in-ReedSolomonCode.n c.in-ReedSolomonCode.d c.reed_solomon.result c.formed-in-ReedSolomonCode.result c.reed_solomon.ensures.size c.reed_solomon.ensures.code c.reed_solomon.ensures.form c.reed_solomon.ensures.formed c.reed_solomon.ensures.refused c.formed-in-ReedSolomonCode.ensures)

pub returns-in_ok-code_value-in-DualCode-clause-is : goal.returns-in_ok-code_value-in-DualCode-clause-is
unfolding refusals_of
returns-in_ok-code_value-in-DualCode-clause-is c = rw c.in-DualCode.is (never_refused c.args.offset (bound.dual_code c.in-DualCode.code.now) (value_of c.in_ok-code_value-in-DualCode.field-0) refl (λ n. n) (record { code_is = (c.in_ok-dual-in-DualCode.field-0, c.in_ok-dual-in-DualCode.ensures.code, c.in_ok-code_value-in-DualCode.ensures) }))

pub returns-in-ExtendedCode-clause-is : goal.returns-in-ExtendedCode-clause-is
unfolding refusals_of
returns-in-ExtendedCode-clause-is c =
    let C = c.in-ExtendedCode.code.now in
    rw c.in-ExtendedCode.is (made_applies c.args.offset (bound.extended_code C) (extended_refusals C) C.field (C.columns + 1) (InExtended C) c.extended.result c.made-in-ExtendedCode.result refl (λ n. n) (λ v h. h) c.extended.ensures.code c.extended.ensures.refused c.made-in-ExtendedCode.ensures.is)

pub returns-in-PuncturedCode-clause-is : goal.returns-in-PuncturedCode-clause-is
unfolding refusals_of
returns-in-PuncturedCode-clause-is c =
    let C = c.in-PuncturedCode.code.now in
    let coordinates = c.in-PuncturedCode.coordinates.now in
    rw c.in-PuncturedCode.is (made_applies c.args.offset (bound.punctured_code C coordinates) (deleted_refusals C coordinates) C.field (C.columns - length coordinates) (InPunctured C coordinates) c.punctured.result c.made-in-PuncturedCode.result refl (λ n. n) (λ v h. h) c.punctured.ensures.code c.punctured.ensures.refused c.made-in-PuncturedCode.ensures.is)

pub returns-in-ShortenedCode-clause-is : goal.returns-in-ShortenedCode-clause-is
unfolding refusals_of
returns-in-ShortenedCode-clause-is c =
    let C = c.in-ShortenedCode.code.now in
    let coordinates = c.in-ShortenedCode.coordinates.now in
    rw c.in-ShortenedCode.is (made_applies c.args.offset (bound.shortened_code C coordinates) (deleted_refusals C coordinates) C.field (C.columns - length coordinates) (InShortened C coordinates) c.shortened.result c.made-in-ShortenedCode.result refl (λ n. n) (λ v h. h) c.shortened.ensures.code c.shortened.ensures.refused c.made-in-ShortenedCode.ensures.is)

pub returns-in-EvenWeightSubcode-clause-is : goal.returns-in-EvenWeightSubcode-clause-is
unfolding refusals_of
returns-in-EvenWeightSubcode-clause-is c =
    let C = c.in-EvenWeightSubcode.code.now in
    rw c.in-EvenWeightSubcode.is (made_applies c.args.offset (bound.even_weight_subcode C) (even_weight_refusals C) C.field (C.columns) (InEvenWeight C) c.even_weight.result c.made-in-EvenWeightSubcode.result refl (λ n. n) (λ v h. h) c.even_weight.ensures.code c.even_weight.ensures.refused c.made-in-EvenWeightSubcode.ensures.is)

pub returns-in-DirectSumCode-clause-is : goal.returns-in-DirectSumCode-clause-is
unfolding refusals_of
returns-in-DirectSumCode-clause-is c =
    let C = c.in-DirectSumCode.a.now in
    let D = c.in-DirectSumCode.b.now in
    rw c.in-DirectSumCode.is (made_applies c.args.offset (bound.direct_sum_code C D) (direct_sum_refusals C D) C.field (C.columns + D.columns) (InDirectSum C D) c.direct_sum.result c.made-in-DirectSumCode.result refl (λ n. n) (λ v h. h) c.direct_sum.ensures.code c.direct_sum.ensures.refused c.made-in-DirectSumCode.ensures.is)

pub returns-in-UuvCode-clause-is : goal.returns-in-UuvCode-clause-is
unfolding refusals_of
returns-in-UuvCode-clause-is c =
    let C = c.in-UuvCode.a.now in
    let D = c.in-UuvCode.b.now in
    rw c.in-UuvCode.is (made_applies c.args.offset (bound.uuv_code C D) (uuv_refusals C D) C.field (C.columns + D.columns) (InUuv C D) c.uuv.result c.made-in-UuvCode.result refl (λ n. n) (λ v h. h) c.uuv.ensures.code c.uuv.ensures.refused c.made-in-UuvCode.ensures.is)

pub returns-in-DirectProductCode-clause-is : goal.returns-in-DirectProductCode-clause-is
unfolding refusals_of
returns-in-DirectProductCode-clause-is c =
    let C = c.in-DirectProductCode.a.now in
    let D = c.in-DirectProductCode.b.now in
    rw c.in-DirectProductCode.is (made_applies c.args.offset (bound.direct_product_code C D) (direct_product_refusals C D) C.field (C.columns * D.columns) (InDirectProduct C D) c.direct_product.result c.made-in-DirectProductCode.result refl (λ n. n) (λ v h. h) c.direct_product.ensures.code c.direct_product.ensures.refused c.made-in-DirectProductCode.ensures.is)

pub returns-in-IntersectionCode-clause-is : goal.returns-in-IntersectionCode-clause-is
unfolding refusals_of
returns-in-IntersectionCode-clause-is c =
    let C = c.in-IntersectionCode.a.now in
    let D = c.in-IntersectionCode.b.now in
    rw c.in-IntersectionCode.is (made_applies c.args.offset (bound.intersection_code C D) (intersection_refusals C D) C.field (C.columns) (InIntersection C D) c.intersection.result c.made-in-IntersectionCode.result refl (λ n. n) (λ v h. h) c.intersection.ensures.code c.intersection.ensures.refused c.made-in-IntersectionCode.ensures.is)

pub returns-in-ConcatenatedCode-clause-is : goal.returns-in-ConcatenatedCode-clause-is
unfolding refusals_of
returns-in-ConcatenatedCode-clause-is c =
    let C = c.in-ConcatenatedCode.outer.now in
    let D = c.in-ConcatenatedCode.inner.now in
    rw c.in-ConcatenatedCode.is (made_applies c.args.offset (bound.concatenated_code C D) (concatenated_refusals C D) D.field (C.columns * D.columns) (InConcatenated C D) c.concatenated.result c.made-in-ConcatenatedCode.result refl (λ n. n) (λ v h. h) c.concatenated.ensures.code c.concatenated.ensures.refused c.made-in-ConcatenatedCode.ensures.is)

pub returns-in-TraceCode-clause-is : goal.returns-in-TraceCode-clause-is
unfolding refusals_of
returns-in-TraceCode-clause-is c =
    let C = c.in-TraceCode.code.now in
    let f = c.in-TraceCode.field.now in
    rw c.in-TraceCode.is (made_applies c.args.offset (bound.trace_code C f) (subfield_refusals C f) f C.columns (InTrace C f) c.trace_code.result c.made-in-TraceCode.result refl (λ n. n) (λ v h. h) c.trace_code.ensures.code c.trace_code.ensures.refused c.made-in-TraceCode.ensures.is)

pub returns-in-SubfieldSubcode-clause-is : goal.returns-in-SubfieldSubcode-clause-is
unfolding refusals_of
returns-in-SubfieldSubcode-clause-is c =
    let C = c.in-SubfieldSubcode.code.now in
    let f = c.in-SubfieldSubcode.field.now in
    rw c.in-SubfieldSubcode.is (made_applies c.args.offset (bound.subfield_subcode C f) (subfield_refusals C f) f C.columns (InSubfieldSubcode C f) c.subfield_subcode.result c.made-in-SubfieldSubcode.result refl (λ n. n) (λ v h. h) c.subfield_subcode.ensures.code c.subfield_subcode.ensures.refused c.made-in-SubfieldSubcode.ensures.is)

pub returns-in-Dimension-clause-is : goal.returns-in-Dimension-clause-is
unfolding refusals_of
returns-in-Dimension-clause-is c = rw c.in-Dimension.is (never_refused c.args.offset (bound.dimension c.in-Dimension.code.now) (number c.dimension.result) refl (λ n. n) (ap number c.dimension.ensures.is))

pub returns-in-WordLength-clause-is : goal.returns-in-WordLength-clause-is
unfolding refusals_of
returns-in-WordLength-clause-is c = rw c.in-WordLength.is (never_refused c.args.offset (bound.word_length c.in-WordLength.code.now) (number c.length.result) refl (λ n. n) (ap number c.length.ensures.is))

pub returns-in_ok-rows_value-in-GeneratorMat-clause-is : goal.returns-in_ok-rows_value-in-GeneratorMat-clause-is
unfolding refusals_of
returns-in_ok-rows_value-in-GeneratorMat-clause-is c = rw c.in-GeneratorMat.is (never_refused c.args.offset (bound.generator_mat c.in-GeneratorMat.code.now) (value_of c.in_ok-rows_value-in-GeneratorMat.field-0) refl (λ n. n) c.in_ok-rows_value-in-GeneratorMat.ensures)

pub returns-in_ok-rows_value-in-CheckMat-clause-is : goal.returns-in_ok-rows_value-in-CheckMat-clause-is
unfolding refusals_of
returns-in_ok-rows_value-in-CheckMat-clause-is c = rw c.in-CheckMat.is (never_refused c.args.offset (bound.check_mat c.in-CheckMat.code.now) (value_of c.in_ok-rows_value-in-CheckMat.field-0) refl (λ n. n) (c.in_ok-dual-in-CheckMat.field-0, c.in_ok-dual-in-CheckMat.ensures.code, c.in_ok-rows_value-in-CheckMat.ensures))

pub returns-in-Weight-clause-is : goal.returns-in-Weight-clause-is
unfolding refusals_of
returns-in-Weight-clause-is c = rw c.in-Weight.is (never_refused c.args.offset (bound.weight_of c.in-Weight.list.now) (number c.nonzero.result) refl (λ n. n) (ap number c.nonzero.ensures))

pub formed-requires-clause-few : goal.formed-requires-clause-few
formed-requires-clause-few c = bch_few c.in-BchCode.field.now c.in-BchCode.n c.in-BchCode.b c.in-BchCode.d c.bch.result c.bch.ensures.refused c.bch.ensures.form

pub formed-requires-in-ReedSolomonCode-clause-few : goal.formed-requires-in-ReedSolomonCode-clause-few
formed-requires-in-ReedSolomonCode-clause-few c = reed_solomon_few c.in-ReedSolomonCode.n c.in-ReedSolomonCode.d c.reed_solomon.result c.reed_solomon.ensures.refused c.reed_solomon.ensures.size c.reed_solomon.ensures.form

pub returns-in-IsSelfOrthogonalCode-clause-is : goal.returns-in-IsSelfOrthogonalCode-clause-is
unfolding refusals_of
returns-in-IsSelfOrthogonalCode-clause-is c =
    let t = c.is_self_orthogonal.result in
    rw c.in-IsSelfOrthogonalCode.is (never_refused c.args.offset (bound.is_self_orthogonal_code c.in-IsSelfOrthogonalCode.code.now) (truth t) refl (λ n. n) (t, refl, c.is_self_orthogonal.ensures.is))

pub returns-in_ok-is_self_dual-in-IsSelfDualCode-clause-is : goal.returns-in_ok-is_self_dual-in-IsSelfDualCode-clause-is
unfolding refusals_of
returns-in_ok-is_self_dual-in-IsSelfDualCode-clause-is c =
    let t = c.in_ok-is_self_dual-in-IsSelfDualCode.field-0 in
    rw c.in-IsSelfDualCode.is (never_refused c.args.offset (bound.is_self_dual_code c.in-IsSelfDualCode.code.now) (truth t) refl (λ n. n) (t, refl, c.in_ok-is_self_dual-in-IsSelfDualCode.ensures.is))

pub returns-in_ok-is_cyclic-in-IsCyclicCode-clause-is : goal.returns-in_ok-is_cyclic-in-IsCyclicCode-clause-is
unfolding refusals_of
returns-in_ok-is_cyclic-in-IsCyclicCode-clause-is c =
    let t = c.in_ok-is_cyclic-in-IsCyclicCode.field-0 in
    rw c.in-IsCyclicCode.is (never_refused c.args.offset (bound.is_cyclic_code c.in-IsCyclicCode.code.now) (truth t) refl (λ n. n) (t, refl, c.in_ok-is_cyclic-in-IsCyclicCode.ensures.is))

pub returns-in-UnionCode-clause-is : goal.returns-in-UnionCode-clause-is
unfolding refusals_of
returns-in-UnionCode-clause-is c =
    let C = c.in-UnionCode.a.now in
    let D = c.in-UnionCode.b.now in
    rw c.in-UnionCode.is (made_applies c.args.offset (bound.union_code C D) (intersection_refusals C D) C.field C.columns (InUnion C D) c.union_of.result c.made-in-UnionCode.result refl (λ n. n) (λ v h. h) c.union_of.ensures.code c.union_of.ensures.refused c.made-in-UnionCode.ensures.is)
