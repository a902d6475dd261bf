use Rattle.std.proofs.Common.{◌<◌, ◌⊎◌, ◌≡◌, inl, inr, sym, ap, ◌∙◌, ◌+◌, ◌-◌, ◌*◌, ◌/◌, arith}
use Rattle.lc_parts.specs.Seen.{facts_seen}
use Rattle.lc_parts.proofs.BoundLaws.{bound_whole, bound_open}
use Rattle.lc_parts.proofs.phase.bound_of.Goals as goal
use Rattle.lc_parts.proofs.phase.bound_of.Goals.{else-level-facts-via-then-level-facts+else-set-gt0, else-level-facts-via-else-level-facts}

pub returns-then-set-gt0 : goal.returns-then-set-gt0
returns-then-set-gt0 c = record { is = sym (bound_whole (facts_seen c.args.facts.now) c.args.level c.args.set c.args.weight (omega (arith, c.if-level-facts.true)) (omega (arith, c.if-set-gt0.true)) c.requires.set) }

pub returns : goal.returns
returns c =
    let f = facts_seen c.args.facts.now in
    let open_still : (c.args.level < f.k) ⊎ (c.args.set ≡ 0) = elim c.else-level-facts.branch [
      | else-level-facts-via-then-level-facts+else-set-gt0 w ↦ inr (omega (arith, w.if-set-gt0))
      | else-level-facts-via-else-level-facts w ↦ inl (omega (arith, w.if-level-facts, c.requires.level))
    ] in
    record {
      is = ap (λ n. (n + (f.divisor - 1)) / f.divisor * f.divisor) c.max-least.ensures
          ∙ sym (bound_open f c.args.level c.args.set c.args.weight c.sum_of.result c.requires.level.0 c.requires.level.1 open_still c.sum_of.ensures.is);
    }
