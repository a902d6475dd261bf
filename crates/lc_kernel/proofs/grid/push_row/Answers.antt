use Rattle.std.proofs.Common.{◌≡◌, ◌+◌, ◌-◌, ◌*◌, ◌∷◌, [], Some, length, ap, subst, ◌∙◌, arith}
use Rattle.lc_kernel.specs.Grid.{tail_count, AreTails}
use Rattle.lc_kernel.proofs.SupportLaws.{pair_at, pairs_few}
use Rattle.lc_kernel.proofs.grid.push_row.Goals as goal

pub overflow_step-b : goal.overflow_step-b
overflow_step-b c = omega (arith, c.requires.row, c.dimension-k.ensures.is, c.dimension-k.ensures.most, c.length-n.ensures.is, c.length-n.ensures.most)

pub overflow_add-first : goal.overflow_add-first
overflow_add-first c =
    let few = pairs_few (length c.args.rows.now.sets.now.rows) (omega (arith, c.dimension-k.ensures.is, c.dimension-k.ensures.most, c.length-n.ensures.is, c.length-n.ensures.most)) in
    omega (arith, few, c.requires.first.long, c.loop-b-test.true, c.loop-b.auto.b-end, c.dimension-k.ensures.is, c.dimension-k.ensures.most, c.length-n.ensures.is, c.length-n.ensures.most)

pub push_tails-requires-clause-pair : goal.push_tails-requires-clause-pair
push_tails-requires-clause-pair c =
    let a = c.args.a in
    let b = c.loop-b.b in
    let e : a + 1 + (b - a - 1) ≡ b = omega (arith, c.loop-b.auto.b) in
    pair_at (length c.args.rows.now.sets.now.rows) a c.args.first (b - a - 1) c.requires.first (omega (arith, e, c.loop-b-test.true, c.loop-b.auto.b-end, c.dimension-k.ensures.is)) ∙ ap (λ z. Some (a ∷ z ∷ [])) e

pub loop-b-preserved : goal.loop-b-preserved
loop-b-preserved c =
    let C = c.args.rows.now.sets.now in
    let e : c.args.first + (c.loop-b.b - c.args.a - 1) + 1 ≡ c.args.first + (c.loop-b.b + 1 - c.args.a - 1) = omega (arith, c.loop-b.auto.b) in
    subst (λ z. AreTails C c.args.rows.now.set (z * tail_count C) c.push_tails.new.words.items) e c.in_ok-push_tails.ensures.tails

pub returns : goal.returns
returns c =
    let C = c.args.rows.now.sets.now in
    let all : c.loop-b.b ≡ length C.rows = omega (arith, c.loop-b-test.false, c.loop-b.auto.b-end, c.requires.row, c.dimension-k.ensures.is) in
    record { tails = subst (λ z. AreTails C c.args.rows.now.set ((c.args.first + (z - c.args.a - 1)) * tail_count C) c.loop-b.words.items) all c.loop-b.invariant }
