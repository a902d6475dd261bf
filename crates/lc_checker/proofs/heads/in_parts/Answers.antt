use Rattle.std.proofs.Common.{◌+◌, ◌-◌, ◌<◌, length, drop, sym, ap, subst, ◌∙◌, arith}
use Rattle.std.proofs.lemmas.List.{take_all, length-drop}
use Rattle.lc_algebra.specs.Span.{words}
use Rattle.lc_planes.specs.Packing.{ArePacked}
use Rattle.lc_checker.specs.Walk.{AreSums}
use Rattle.lc_checker.specs.Heavy.{AreMultiples}
use Rattle.lc_checker.proofs.WalkLaws.{sums_zero}
use Rattle.lc_checker.proofs.HeadLaws.{levels_heavy}
use Rattle.lc_checker.proofs.heads.in_parts.Goals as goal

pub some_lead-light-requires : goal.some_lead-light-requires
some_lead-light-requires g c =
    let C = c.args.rows.now in
    let P = g.row.P in
    let N = g.row.N in
    let rest = drop c.split_of-split.result C.rows in
    let all = take_all (c.rows.result - c.split_of-split.result) rest (omega (arith, length-drop c.split_of-split.result C.rows, c.rows.ensures.is)) in
    let tails = subst (λ ws. ArePacked P N ws c.deref-2.result.now) (c.as_slice.ensures.value ∙ c.in_ok-list.ensures.are ∙ ap (words C.field C.columns) all)
    (subst (ArePacked P N c.as_slice.result.now) (sym c.deref-2.ensures.value) c.in_ok-packed.ensures.are) in
    let e = c.in_ok-sums.ensures in
    let sums = subst (AreSums C) (sym c.deref_mut.ensures.value) (sums_zero C (c.split_of-split.result + 1) c.in_ok-sums.sums.items (omega (arith, e.many)) (λ i l. rw (← c.cols.ensures.is) (e.zero i (omega (arith, l))))) in
    let room : c.split_of-split.result + 1 < length c.deref_mut.result.now = omega (arith, e.many, ap length c.deref_mut.ensures.value) in
    let multiples = subst (AreMultiples C) (sym c.deref.ensures.value) c.in_ok-words.ensures.are in
    (omega arith, (c.requires.planes, (c.requires.parts, (c.requires.rows, (c.split_of-split.ensures.most, (tails, (room, (multiples, sums))))))))

pub returns : goal.returns
returns g c = record { none = λ no level. levels_heavy c.args.distance c.args.rows.now c.rows.ensures.words (c.some_lead-light.ensures.heavy no) level }
