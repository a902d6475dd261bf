use Rattle.std.proofs.Common.{rules, refl, arith}
use Rattle.lc_distances.proofs.BeyondLaws.{beyond_all, beyond_found}
use Rattle.lc_distances.proofs.halves.are_beyond.Goals as goal

pub returns-then-least-bound : goal.returns-then-least-bound
returns-then-least-bound c = record {
  low = λ e i l. beyond_all c.args.halves.now c.args.head c.args.heads c.args.bound c.rows_apart-least.result (record { some = c.requires.halves.some; within = c.requires.inside }) c.rows_apart-least.ensures.is c.if-least-bound.true i l;
  all = λ _ _. refl;
  some = λ _. omega (arith, c.if-heads-eq0.false);
}

pub returns : goal.returns
returns c = record {
  low = search rules;
  all = λ _ all. absurd (omega (arith, c.if-least-bound.false, beyond_found c.args.halves.now c.args.head c.args.heads c.args.bound c.rows_apart-least.result (record { some = c.requires.halves.some; within = c.requires.inside }) c.rows_apart-least.ensures.is all));
  some = search rules;
}
