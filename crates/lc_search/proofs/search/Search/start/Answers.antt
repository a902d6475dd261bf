use Rattle.std.proofs.Common.{◌<◌, length, sym, ap, subst, ◌∙◌}
use Rattle.lc_algebra.specs.Matrix.{Matrix}
use Rattle.lc_search.specs.State.{first_state}
use Rattle.lc_search.proofs.StateLaws.{first_made}
use Rattle.lc_search.proofs.search.Search.start.Goals as goal

pub returns : goal.returns
returns c =
    let C = c.in_ok-sets.sets in
    let is = c.in_ok-sets.ensures.code in
    record {
      first = c.in_ok-search.ensures.is
          ∙ first_made C c.args.budget c.in-Some.weight (subst (λ (C : Matrix). 0 < length C.rows) (sym is) c.requires.dimension) (sym c.in-Some.is ∙ c.in_ok-weight.ensures.is)
          ∙ ap (λ (C : Matrix). first_state C c.args.budget) is;
    }
