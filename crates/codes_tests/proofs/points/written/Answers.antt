use Rattle.std.proofs.Common.{◌≡◌, ◌<◌, rules, arith, length, map}
use Rattle.std.proofs.lemmas.List.{length-map}
use Rattle.lc_formats.proofs.CheckpointSize.{text_fits}
use Rattle.lc_checkpoint.specs.Seen.{settled_of, point_of}
use Rattle.codes_tests.proofs.points.written.Goals as goal

pub encode-requires : goal.encode-requires
unfolding point_of
encode-requires c =
    let p = c.args.point.now in
    let few : length (map settled_of c.args.point.now.settled.items) < 70000 = omega (arith, length-map c.args.point.now.settled.items settled_of, c.len.ensures) in
    let newest : c.args.point.now.version ≡ 2 = search rules in
    record { writable = record { in_range = c.requires.ranged; newest = newest; short = text_fits (point_of p) c.requires.ranged few } }
