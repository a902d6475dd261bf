use Rattle.std.proofs.Common.{◌≡◌, ◌<◌, true, sym, ap, subst, ◌∙◌, arith}
use Rattle.std.proofs.lemmas.Bool.{false≢true}
use Rattle.lc_algebra.specs.Divisor.{divisor_of}
use Rattle.lc_enumeration.specs.Search.{may_end, bound}
use Rattle.lc_search.specs.State.{SearchState, answer_in}
use Rattle.lc_search.proofs.StateLaws.{state_exact, state_bracket, state_none}
use Rattle.lc_search.proofs.search.Search.finished.Goals as goal
use Rattle.lc_search.proofs.search.Search.finished.Goals.{else-may_be_exact-via-then-may_be_exact+else-self-low, else-may_be_exact-via-else-may_be_exact}

pub returns-then-self-low : goal.returns-then-self-low
returns-then-self-low c =
    let s = c.self.inside in
    let low = subst (λ (t : SearchState). c.bound-low.result ≡ bound (divisor_of t.code) t.code t.progress.blocks t.progress.weight) (sym c.self.view_is) c.bound-low.ensures.is in
    record {
      is = state_exact (record { code = s.sets; budget = s.budget; progress = record { blocks = s.blocks; weight = s.best.weight; place = s.best.place } }) c.bound-low.result low (sym c.may_be_exact.ensures.is ∙ c.if-may_be_exact.true) (omega (arith, c.if-self-low.true))
          ∙ ap answer_in c.self.view_is;
    }

pub returns-then-self : goal.returns-then-self
returns-then-self c =
    let s = c.self.inside in
    let low = subst (λ (t : SearchState). c.bound-low.result ≡ bound (divisor_of t.code) t.code t.progress.blocks t.progress.weight) (sym c.self.view_is) c.bound-low.ensures.is in
    let more : may_end s.sets s.blocks ≡ true → c.bound-low.result < s.best.weight = elim c.else-may_be_exact.branch [
      | else-may_be_exact-via-then-may_be_exact+else-self-low w ↦ λ _. omega (arith, w.if-self-low)
      | else-may_be_exact-via-else-may_be_exact w ↦ λ t. absurd (false≢true (sym w.if-may_be_exact.false ∙ c.may_be_exact.ensures.is ∙ t))
    ] in
    record {
      is = state_bracket (record { code = s.sets; budget = s.budget; progress = record { blocks = s.blocks; weight = s.best.weight; place = s.best.place } }) c.bound-low.result low more (omega (arith, c.if-self.true))
          ∙ ap answer_in c.self.view_is;
    }

pub returns : goal.returns
returns c =
    let s = c.self.inside in
    let low = subst (λ (t : SearchState). c.bound-low.result ≡ bound (divisor_of t.code) t.code t.progress.blocks t.progress.weight) (sym c.self.view_is) c.bound-low.ensures.is in
    let more : may_end s.sets s.blocks ≡ true → c.bound-low.result < s.best.weight = elim c.else-may_be_exact.branch [
      | else-may_be_exact-via-then-may_be_exact+else-self-low w ↦ λ _. omega (arith, w.if-self-low)
      | else-may_be_exact-via-else-may_be_exact w ↦ λ t. absurd (false≢true (sym w.if-may_be_exact.false ∙ c.may_be_exact.ensures.is ∙ t))
    ] in
    record {
      is = state_none (record { code = s.sets; budget = s.budget; progress = record { blocks = s.blocks; weight = s.best.weight; place = s.best.place } }) c.bound-low.result low more (λ e. omega (arith, e, c.if-self.false))
          ∙ ap answer_in c.self.view_is;
    }
