use Rattle.std.proofs.Common.{◌≡◌, ◌+◌, ◌≤◌, length, Some, None, sym, subst, arith}
use Rattle.lc_algebra.specs.Field.{size}
use Rattle.lc_enumeration.specs.Plan.{total}
use Rattle.lc_enumeration.specs.Search.{set_count}
use Rattle.lc_enumeration.specs.Records.{round_length}
use Rattle.lc_search.specs.State.{SearchState, answer_in}
use Rattle.lc_search.proofs.StepLaws.{going_inside, going_left, end_within, round_made}
use Rattle.lc_search.proofs.search.Search.length_of_round.Goals as goal

pub phase_end-requires : goal.phase_end-requires
phase_end-requires c =
    let s = c.self.inside in
    going_inside (record { code = s.sets; budget = s.budget; progress = record { blocks = s.blocks; weight = s.best.weight; place = s.best.place } }) s.plan _ c.self.invariant.0
    (let k = c.dimension-some.ensures in omega (arith, k.is, k.least))
    (subst (λ (t : SearchState). answer_in t ≡ None) (sym c.self.view_is) c.requires.going)

pub returns-clause-is : goal.returns-clause-is
returns-clause-is c =
    let s = c.self.inside in
    subst (λ (t : SearchState). c.min-3.result ≡ round_length t.code t.budget c.args.longest (Some c.args.limit) t.progress.blocks) c.self.view_is
    (round_made (record { code = s.sets; budget = s.budget; progress = record { blocks = s.blocks; weight = s.best.weight; place = s.best.place } }) s.plan c.args.longest c.args.limit c.phase_end.result c.min-3.result c.self.invariant.0.plan_is c.phase_end.ensures.found
    (omega (arith, c.min.ensures, c.min-2.ensures, c.min-3.ensures)))

pub returns-clause-some : goal.returns-clause-some
returns-clause-some c =
    let s = c.self.inside in
    let left = going_left (record { code = s.sets; budget = s.budget; progress = record { blocks = s.blocks; weight = s.best.weight; place = s.best.place } }) s.plan _ c.self.invariant.0
    (let k = c.dimension-some.ensures in omega (arith, k.is, k.least))
    (subst (λ (t : SearchState). answer_in t ≡ None) (sym c.self.view_is) c.requires.going) in
    omega (arith, left, c.phase_end.ensures.after, c.min.ensures, c.min-2.ensures, c.min-3.ensures, c.requires.limit, c.requires.longest)

pub returns-clause-inside : goal.returns-clause-inside
returns-clause-inside c =
    let s = c.self.inside in
    let most = end_within s.sets s.plan s.blocks c.phase_end.result c.self.invariant.0.plan_is c.phase_end.ensures.found in
    subst (λ (t : SearchState). t.progress.blocks + c.min-3.result ≤ total (length t.code.rows) (size t.code.field) (set_count t.code)) c.self.view_is
    (omega (arith, most, c.phase_end.ensures.after, c.min.ensures, c.min-2.ensures, c.min-3.ensures))
