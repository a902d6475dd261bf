use Rattle.std.proofs.Common.{◌≡◌, ◌-◌, [], ◌∷◌, ◌++◌, arith, ap, ◌∙◌, get_or}
use Rattle.lc_place.proofs.Unranking.{EntriesSoFar, entries_start, entries_end, puts_entry}
use Rattle.lc_place.proofs.fill.fill_coefficients.Goals as goal

pub loop-place-init : goal.loop-place-init
loop-place-init c = record {
  so_far = entries_start c.args.q c.args.width c.args.rank c.put.new.list.items c.requires.level.0 (c.put.ensures.items ∙ ap (λ l. l ++ 1 ∷ []) c.clear.ensures.items) c.requires.inside;
  small = c.requires.small;
  room = omega (arith, c.requires.room, c.clear.ensures.capacity, c.put.ensures.capacity);
  capacity = omega (arith, c.clear.ensures.capacity, c.put.ensures.capacity);
}

pub nonzero_div-rest : goal.nonzero_div-rest
nonzero_div-rest c =
    (puts_entry c.args.q c.args.width c.args.rank c.loop-place.place c.loop-place.coefficients.items [] c.loop-place.rest (get_or c.args.powers.now (c.args.width - 1 - c.loop-place.place) 0) c.requires.field.0 c.loop-place.invariant.so_far c.loop-place-test.true c.loop-place.invariant.small (c.requires.table.entry (c.args.width - 1 - c.loop-place.place) (omega arith))).some

pub overflow_cast-rest : goal.overflow_cast-rest
overflow_cast-rest c =
    omega (arith, (puts_entry c.args.q c.args.width c.args.rank c.loop-place.place c.loop-place.coefficients.items [] c.loop-place.rest (get_or c.args.powers.now (c.args.width - 1 - c.loop-place.place) 0) c.requires.field.0 c.loop-place.invariant.so_far c.loop-place-test.true c.loop-place.invariant.small (c.requires.table.entry (c.args.width - 1 - c.loop-place.place) (omega arith))).few)

pub overflow_add-rest : goal.overflow_add-rest
overflow_add-rest c =
    omega (arith, (puts_entry c.args.q c.args.width c.args.rank c.loop-place.place c.loop-place.coefficients.items [] c.loop-place.rest (get_or c.args.powers.now (c.args.width - 1 - c.loop-place.place) 0) c.requires.field.0 c.loop-place.invariant.so_far c.loop-place-test.true c.loop-place.invariant.small (c.requires.table.entry (c.args.width - 1 - c.loop-place.place) (omega arith))).few)

pub loop-place-preserved : goal.loop-place-preserved
loop-place-preserved c =
    let puts = puts_entry c.args.q c.args.width c.args.rank c.loop-place.place c.loop-place.coefficients.items c.put-in-loop-place.new.list.items c.loop-place.rest (get_or c.args.powers.now (c.args.width - 1 - c.loop-place.place) 0) c.requires.field.0 c.loop-place.invariant.so_far c.loop-place-test.true c.loop-place.invariant.small (c.requires.table.entry (c.args.width - 1 - c.loop-place.place) (omega arith)) in
    record {
      so_far = puts.so_far c.put-in-loop-place.ensures.items;
      small = omega (arith, puts.small, c.loop-place.invariant.small);
      room = omega (arith, c.put-in-loop-place.ensures.capacity);
      capacity = omega (arith, c.put-in-loop-place.ensures.capacity);
    }

pub returns-clause-at : goal.returns-clause-at
returns-clause-at c =
    let whole : c.loop-place.place ≡ c.args.width = omega (arith, c.loop-place-test.false, c.loop-place.auto.place-end) in
    let done : EntriesSoFar c.args.q c.args.width c.args.rank c.args.width c.loop-place.coefficients.items c.loop-place.rest = rw whole at c.loop-place.invariant.so_far in
    entries_end c.args.q c.args.width c.args.rank c.loop-place.coefficients.items c.loop-place.rest done
