use Rattle.std.proofs.Common.{◌≡◌, ◌-◌, length, take, drop, arith}
use Rattle.std.proofs.lemmas.List.{length-drop, take_all}
use Rattle.lc_distances.proofs.LeastLaws.{first_after, one_least}
use Rattle.lc_distances.proofs.counts.first_least.Goals as goal

pub returns-in-Some-clause-is : goal.returns-in-Some-clause-is
returns-in-Some-clause-is c =
    let counts = c.args.counts.now in
    let from = c.least_piece-least.result.1 in
    let rest : take (length counts - from) (drop from counts) ≡ drop from counts = take_all (length counts - from) (drop from counts) (omega (arith, length-drop from counts)) in
    first_after counts (take (length counts - from) (drop from counts)) from c.least_piece-least.result.0 c.in-Some.at rest c.least_piece-least.ensures.is c.least_piece-least.ensures.before c.in-Some.ensures.inside c.in-Some.ensures.is c.in-Some.ensures.before

pub returns-in-None-clause-is : goal.returns-in-None-clause-is
returns-in-None-clause-is c =
    let counts = c.args.counts.now in
    let from = c.least_piece-least.result.1 in
    let rest : take (length counts - from) (drop from counts) ≡ drop from counts = take_all (length counts - from) (drop from counts) (omega (arith, length-drop from counts)) in
    absurd (one_least counts (take (length counts - from) (drop from counts)) from c.least_piece-least.result.0 rest c.requires.some c.requires.few c.least_piece-least.ensures.is c.least_piece-least.ensures.before c.in-None.ensures.none)
