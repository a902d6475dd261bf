use Rattle.std.proofs.Common.{◌≡◌, ◌+◌, ◌-◌, ◌*◌, ◌≤◌, [], length, take, drop, slice_index_or, arith}
use Rattle.std.proofs.Math.Nat.{mul-le-mul_right}
use Rattle.lc_distances.specs.declared.halves.Halves.{Halves}
use Rattle.lc_distances.specs.Halves.{AreHalves, tail_apart}
use Rattle.lc_distances.proofs.PlaneLaws.{apart_two, apart_three, apart_four, by_planes}
use Rattle.lc_distances.proofs.LeastLaws.{piece_long, pairs_same}
use Rattle.lc_distances.proofs.halves.rows_apart.Goals as goal

-- how many tails there are among the numbers of the first plane
tails_there : (a : Halves) → AreHalves a → length (take (a.start + a.tails - a.start) (drop a.start a.bits.now)) ≡ a.tails
tails_there a h =
    let some : 1 * a.words ≤ a.planes * a.words = mul-le-mul_right a.words (omega (arith, h.least)) in
    omega (arith, piece_long a.start (a.start + a.tails) a.bits.now (omega (arith, h.long, h.room, some)))

pub returns-then-planes-eq2 : goal.returns-then-planes-eq2
returns-then-planes-eq2 c =
    let a = c.args.halves.now in
    record {
      is = pairs_same (length c.args.heads.now) _ a.tails _ (λ h t. tail_apart a (slice_index_or c.args.heads.now h []) t) c.args.bound c.rows_two.result (tails_there a c.requires.halves)
          (λ h t m. by_planes a.planes 2 _ a.words (a.start + t) (slice_index_or c.args.heads.now h []) a.bits.now c.if-planes-eq2.true (apart_two (slice_index_or c.args.heads.now h []) a.bits.now a.words a.start a.tails t m))
          c.rows_two.ensures.is;
    }

pub returns-then-planes-eq3 : goal.returns-then-planes-eq3
returns-then-planes-eq3 c =
    let a = c.args.halves.now in
    record {
      is = pairs_same (length c.args.heads.now) _ a.tails _ (λ h t. tail_apart a (slice_index_or c.args.heads.now h []) t) c.args.bound c.rows_three.result (tails_there a c.requires.halves)
          (λ h t m. by_planes a.planes 3 _ a.words (a.start + t) (slice_index_or c.args.heads.now h []) a.bits.now c.if-planes-eq3.true (apart_three (slice_index_or c.args.heads.now h []) a.bits.now a.words a.start a.tails t m))
          c.rows_three.ensures.is;
    }

pub returns : goal.returns
returns c =
    let a = c.args.halves.now in
    let planes : a.planes ≡ 4 = omega (arith, c.requires.halves.least, c.requires.halves.most, c.if-planes-eq2.false, c.if-planes-eq3.false) in
    record {
      is = pairs_same (length c.args.heads.now) _ a.tails _ (λ h t. tail_apart a (slice_index_or c.args.heads.now h []) t) c.args.bound c.rows_four.result (tails_there a c.requires.halves)
          (λ h t m. by_planes a.planes 4 _ a.words (a.start + t) (slice_index_or c.args.heads.now h []) a.bits.now planes (apart_four (slice_index_or c.args.heads.now h []) a.bits.now a.words a.start a.tails t m))
          c.rows_four.ensures.is;
    }
