use Rattle.std.proofs.Common.{◌<◌, ◌≤◌, ◌+◌, ◌^◌, get_or, arith, refl, sym}
use Rattle.lc_place.proofs.Counting.{start_first}
use Rattle.lc_place.proofs.Phases.{stands, below_cut}
use Rattle.lc_place.proofs.table.Size.phase.Goals as goal

pub level_of-level-requires-clause-first : goal.level_of-level-requires-clause-first
level_of-level-requires-clause-first c = omega (arith, c.requires.starts.entry 0 (omega arith), start_first c.args.self.now.k c.args.self.now.q c.args.self.now.m)

pub nonzero_rem-start : goal.nonzero_rem-start
nonzero_rem-start c =
    let e : c.level_of-level.result < c.args.self.now.k = omega (arith, c.level_of-level.ensures.inside, c.requires.starts.many) in
    (stands c.args.self.now.k c.args.self.now.q c.args.self.now.m c.level_of-level.result c.args.block (get_or c.args.starts.now c.level_of-level.result 0) (get_or c.args.starts.now (c.level_of-level.result + 1) 0) (get_or c.args.counts.now c.level_of-level.result 0) _ e (c.requires.starts.entry c.level_of-level.result (omega (arith, e))) (c.requires.starts.entry (c.level_of-level.result + 1) (omega (arith, e))) (c.requires.counts.entry c.level_of-level.result e) c.level_of-level.ensures.after c.level_of-level.ensures.before refl).some

pub nonzero_div-result : goal.nonzero_div-result
nonzero_div-result c =
    let e : c.level_of-level.result < c.args.self.now.k = omega (arith, c.level_of-level.ensures.inside, c.requires.starts.many) in
    (stands c.args.self.now.k c.args.self.now.q c.args.self.now.m c.level_of-level.result c.args.block (get_or c.args.starts.now c.level_of-level.result 0) (get_or c.args.starts.now (c.level_of-level.result + 1) 0) (get_or c.args.counts.now c.level_of-level.result 0) _ e (c.requires.starts.entry c.level_of-level.result (omega (arith, e))) (c.requires.starts.entry (c.level_of-level.result + 1) (omega (arith, e))) (c.requires.counts.entry c.level_of-level.result e) c.level_of-level.ensures.after c.level_of-level.ensures.before refl).some

pub overflow_add-start : goal.overflow_add-start
overflow_add-start c =
    let e : c.level_of-level.result < c.args.self.now.k = omega (arith, c.level_of-level.ensures.inside, c.requires.starts.many) in
    let small : get_or c.args.counts.now c.level_of-level.result 0 ≤ 2 ^ 53 = omega (arith, c.requires.counts.entry c.level_of-level.result e) in
    let few : c.args.block < 2 ^ 40 = below_cut c.args.self.now.k c.args.self.now.q c.args.self.now.m c.args.self.now.k c.args.block c.requires.inside in
    omega (arith, small, few)

pub returns-clause-found : goal.returns-clause-found
returns-clause-found c =
    let e : c.level_of-level.result < c.args.self.now.k = omega (arith, c.level_of-level.ensures.inside, c.requires.starts.many) in
    let s = stands c.args.self.now.k c.args.self.now.q c.args.self.now.m c.level_of-level.result c.args.block (get_or c.args.starts.now c.level_of-level.result 0) (get_or c.args.starts.now (c.level_of-level.result + 1) 0) (get_or c.args.counts.now c.level_of-level.result 0) _ e (c.requires.starts.entry c.level_of-level.result (omega (arith, e))) (c.requires.starts.entry (c.level_of-level.result + 1) (omega (arith, e))) (c.requires.counts.entry c.level_of-level.result e) c.level_of-level.ensures.after c.level_of-level.ensures.before refl in
    (_, s.phase, rw c.min.ensures (sym s.is))

pub returns-clause-set : goal.returns-clause-set
returns-clause-set c =
    let e : c.level_of-level.result < c.args.self.now.k = omega (arith, c.level_of-level.ensures.inside, c.requires.starts.many) in
    (stands c.args.self.now.k c.args.self.now.q c.args.self.now.m c.level_of-level.result c.args.block (get_or c.args.starts.now c.level_of-level.result 0) (get_or c.args.starts.now (c.level_of-level.result + 1) 0) (get_or c.args.counts.now c.level_of-level.result 0) _ e (c.requires.starts.entry c.level_of-level.result (omega (arith, e))) (c.requires.starts.entry (c.level_of-level.result + 1) (omega (arith, e))) (c.requires.counts.entry c.level_of-level.result e) c.level_of-level.ensures.after c.level_of-level.ensures.before refl).set
