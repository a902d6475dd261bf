use Rattle.std.proofs.Common.{◌≡◌, ℕ, [], length, bit_or, bit_xor, count_ones, slice_index, slice_index_or, subst, arith}
use Rattle.lc_distances.specs.Least.{IsLeastPairOr}
use Rattle.lc_distances.proofs.LeastLaws.{least_lesser, columns_four}
use Rattle.lc_distances.proofs.halves.rows_by_four.Goals as goal

pub loop-row-preserved : goal.loop-row-preserved
loop-row-preserved c = record {
  first = least_lesser _ _ c.args.bound _ _ c.loop-row.invariant.first c.nearer-first.ensures.is;
  second = least_lesser _ _ c.args.bound _ _ c.loop-row.invariant.second c.nearer-second.ensures.is;
  third = least_lesser _ _ c.args.bound _ _ c.loop-row.invariant.third c.nearer-third.ensures.is;
  fourth = least_lesser _ _ c.args.bound _ _ c.loop-row.invariant.fourth c.nearer-fourth.ensures.is;
}

pub returns : goal.returns
returns c =
    let f : ℕ → ℕ → ℕ = λ h t. count_ones (bit_or (bit_xor (slice_index (slice_index_or c.args.heads.now h []) 1) (slice_index c.args.twos.now t)) (bit_xor (slice_index (slice_index_or c.args.heads.now h []) 0) (slice_index c.args.ones.now t))) in
    let all : c.loop-row.row ≡ length c.args.heads.now = omega (arith, c.loop-row-test.false, c.loop-row.auto.row-end) in
    let now = c.loop-row.invariant in
    let least = columns_four c.loop-row.row f c.args.bound _ _ _ _ c.min-3.result now.first now.second now.third now.fourth (omega (arith, c.min.ensures, c.min-2.ensures, c.min-3.ensures)) in
    record { is = subst (λ z. IsLeastPairOr z 4 f c.args.bound c.min-3.result) all least }
