use Rattle.std.proofs.Common.{◌≡◌, Some, ap, sym, subst, ◌∙◌}
use Rattle.lc_enumeration.specs.Records.{round_length}
use Rattle.lc_search.specs.State.{SearchState, after_search_round}
use Rattle.lc_search.proofs.StepLaws.{round_after, value_after}
use Rattle.lc_search.proofs.search.Search.round_within.Goals as goal

pub returns-clause-state : goal.returns-clause-state
returns-clause-state g c =
    let s = c.self.inside in
    let done = subst (λ (t : SearchState). c.length_of_round-done.result ≡ round_length t.code t.budget c.args.longest (Some c.args.limit) t.progress.blocks) (sym c.self.view_is) c.length_of_round-done.ensures.is in
    c.move_on.ensures.is
    ∙ round_after (record { code = s.sets; budget = s.budget; progress = record { blocks = s.blocks; weight = s.best.weight; place = s.best.place } }) c.args.longest c.args.limit c.length_of_round-done.result c.in_ok-found.found done c.in_ok-found.ensures.found
    ∙ ap (λ (t : SearchState). after_search_round t c.args.longest c.args.limit) c.self.view_is

pub returns-clause-record : goal.returns-clause-record
returns-clause-record g c =
    let f = c.in_ok-found.ensures.found in
    let done = c.length_of_round-done.ensures.is in
    record {
      blocks = ap (λ (t : SearchState). t.progress.blocks) c.self-2.view_is;
      bound_is = c.bound.ensures.is;
      best = ap (λ (t : SearchState). t.progress.weight) c.self-2.view_is;
      done_is = done;
      count = f.count_is ∙ done;
      claimed = f.claimed ∙ done;
      value = value_after c.move_on.new.self _ _ _ _ _ _ _ c.in_ok-found.found f c.move_on.ensures.is;
    }
