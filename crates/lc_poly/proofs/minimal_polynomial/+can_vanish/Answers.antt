use Rattle.std.proofs.Common.{refl, sym, true≢false, arith}
use Rattle.std.proofs.lemmas.Bool.Decides.{Decides-eqb}
use Rattle.lc_poly.proofs.MinimalLaws.{vanishes_none, none_reached, vanishes_more, not_reached}
use Rattle.lc_poly.proofs.minimal_polynomial.+can_vanish.Goals as goal

pub returns-then-depth-eq0 : goal.returns-then-depth-eq0
returns-then-depth-eq0 t c =
    let d = Decides-eqb c.args.value 0 in
    record {
      is = (
        (λ h. vanishes_none c.args.small.now c.args.large.now c.args.a c.args.depth c.args.value c.if-depth-eq0.true (d.0 h)),
        (λ r. d.1 (none_reached c.args.small.now c.args.large.now c.args.a c.args.depth c.args.value c.if-depth-eq0.true r)),
      );
    }

pub returns-then-can_vanish : goal.returns-then-can_vanish
returns-then-can_vanish t c = record {
  is = (
    (λ h. vanishes_more c.args.small.now c.args.large.now c.args.a c.args.depth c.args.value c.loop-c.c (omega arith) (omega arith) (rw c.next_value.ensures.is at (c.can_vanish.ensures.is.0 c.if-can_vanish.true))),
    (λ r. refl),
  );
}

pub returns : goal.returns
returns t c = record {
  is = (
    (λ h. absurd (true≢false (sym h))),
    (λ r. absurd (not_reached c.args.small.now c.args.large.now c.args.a c.args.depth c.args.value c.loop-c.c (omega arith) c.loop-c.invariant (omega arith) r)),
  );
}
