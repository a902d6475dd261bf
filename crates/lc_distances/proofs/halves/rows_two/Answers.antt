use Rattle.std.proofs.Common.{ℕ, List, [], ◌∷◌, ◌+◌, length, bit_or, bit_xor, count_ones, slice_index, slice_index_or, refl, arith}
use Rattle.lc_distances.proofs.LeastLaws.{pairs_none, rows_by_two}
use Rattle.lc_distances.proofs.halves.rows_two.Goals as goal

pub loop-row-init : goal.loop-row-init
loop-row-init c = record { inside = omega arith; least = pairs_none (length c.args.ones.now) _ c.args.bound }

pub loop-row-preserved : goal.loop-row-preserved
loop-row-preserved c =
    let f : ℕ → ℕ → ℕ = λ h t. count_ones (bit_or (bit_xor (slice_index (slice_index_or c.args.heads.now h []) 1) (slice_index c.args.twos.now t)) (bit_xor (slice_index (slice_index_or c.args.heads.now h []) 0) (slice_index c.args.ones.now t))) in
    let pair : List (List ℕ) = slice_index_or c.args.heads.now c.loop-row.row [] ∷ slice_index_or c.args.heads.now c.min-next.result [] ∷ [] in
    let g : ℕ → ℕ → ℕ = λ h t. count_ones (bit_or (bit_xor (slice_index (slice_index_or pair h []) 1) (slice_index c.args.twos.now t)) (bit_xor (slice_index (slice_index_or pair h []) 0) (slice_index c.args.ones.now t))) in
    record {
      inside = omega (arith, c.min-next.ensures, c.loop-row-test.true);
      least = rows_by_two c.loop-row.row c.min-next.result (length c.args.ones.now) f g c.args.bound c.loop-row.least c.pair_two-least.result
          (omega (arith, c.min-next.ensures, c.loop-row-test.true)) (omega (arith, c.min-next.ensures)) (λ j. refl) (λ j. refl) c.loop-row.invariant.least c.pair_two-least.ensures.is;
    }
