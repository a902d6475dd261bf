use Rattle.std.proofs.Common.{◌*◌, ◌^◌, ◌<◌, ◌≤◌, ◌∙◌, length, ap, arith}
use Rattle.lc_algebra.specs.Word.{zero_word}
use Rattle.lc_planes.proofs.PackingLaws.{array_small}
use Rattle.lc_weights.proofs.RoomLaws.{heads_few, tails_few, rooms_counted}
use Rattle.lc_weights.proofs.rooms.count_rooms.Goals as goal

pub first_counts-requires : goal.first_counts-requires
first_counts-requires g c =
    let C = c.args.code.now in
    let P = g.row.P in
    let N = g.row.N in
    let planes : P * 8 < 2 ^ 63 = omega (arith, c.requires.planes.1) in
    let tails : length c.as_slice.result.now ≤ 4096 = omega (arith, ap length c.as_slice.ensures.value, tails_few C.field P N C.columns c.split_of-split.result C.rows c.in_ok-tails.tails.items c.in_ok-tails.ensures.are c.split_of-split.ensures.few) in
    (array_small P N c.requires.planes.1 c.requires.parts.1, (planes, (c.requires.parts.1, tails)))

pub run_rooms-requires-after_bounds : goal.run_rooms-requires-after_bounds
run_rooms-requires-after_bounds g c κs within =
    let C = c.args.code.now in
    let P = g.row.P in
    let N = g.row.N in
    let planes : P * 8 < 2 ^ 63 = omega (arith, c.requires.planes.1) in
    let tails : length c.as_slice-3.result.now ≤ 4096 = omega (arith, ap length c.as_slice-3.ensures.value, tails_few C.field P N C.columns c.split_of-split.result C.rows c.in_ok-tails.tails.items c.in_ok-tails.ensures.are c.split_of-split.ensures.few) in
    let heads : length c.as_slice-2.result.now ≤ 2 ^ 40 = omega (arith, ap length c.as_slice-2.ensures.value, heads_few C.field P N C.columns c.split_of-split.result C.rows c.in_ok-heads.heads.items c.in_ok-heads.ensures.are c.split_of-split.ensures.most c.requires.small) in
    (array_small P N c.requires.planes.1 c.requires.parts.1, (planes, (c.requires.workers, (c.requires.planes.1, (c.requires.parts.1, (tails, heads))))))

pub returns : goal.returns
returns g c =
    let C = c.args.code.now in
    let zero = c.symbols.ensures.are ∙ c.in_ok-word.ensures.is ∙ ap zero_word c.length.ensures.is in
    record {
      counted = rooms_counted C g.row.P g.row.N c.split_of-split.result c.symbols.result.now c.pack-zero.result c.in_ok-first.first.items c.in_ok-heads.heads.items c.in_ok-tails.tails.items c.as_slice-2.result.now c.as_slice-3.result.now c.as_slice.result.now c.in_ok-rooms.rooms.items
          c.matrix-matrix.ensures.rows c.requires.planes.0 c.requires.parts.0 c.as_slice-2.ensures.value c.as_slice-3.ensures.value c.as_slice.ensures.value zero c.pack-zero.ensures.is c.in_ok-heads.ensures.are c.in_ok-tails.ensures.are c.in_ok-first.ensures.long c.in_ok-first.ensures.are c.in_ok-rooms.ensures.rooms c.in_ok-rooms.ensures.sums;
    }
