use Rattle.std.proofs.Common.{◌≡◌, ◌∙◌}
use Rattle.std.proofs.lemmas.List.{with_items_is}
use Rattle.lc_algebra.proofs.FieldLaws.{one_inside}
use Rattle.lc_coset.proofs.FrameLaws.{left_made, first_fits}
use Rattle.lc_coset.proofs.frame.left_of.Goals as goal

pub neg-requires : goal.neg-requires
neg-requires c = record { element = one_inside c.field-field.result.now }

pub put_sum-requires-clause-from : goal.put_sum-requires-clause-from
put_sum-requires-clause-from c =
    let first : c.deref.result.now ≡ c.add_first.new.first = c.deref.ensures.value ∙ with_items_is c.in_ok-first.first c.add_first.new.first (c.add_first.auto.first ∙ c.deref_mut.ensures.len) in
    rw (first, c.field-field.ensures.is) (first_fits c.args.sets.now c.args.word.now c.add_first.new.first c.args.j c.dimension-k.ensures.rows c.dimension-k.ensures.independent c.requires.set (rw c.symbols.ensures.are at c.add_first.ensures.is)).fits

pub returns : goal.returns
returns c =
    let first : c.deref.result.now ≡ c.add_first.new.first = c.deref.ensures.value ∙ with_items_is c.in_ok-first.first c.add_first.new.first (c.add_first.auto.first ∙ c.deref_mut.ensures.len) in
    record {
      is = left_made c.args.sets.now c.args.word.now c.args.j c.add_first.new.first c.put_sum.new.self c.dimension-k.ensures.rows c.dimension-k.ensures.independent c.requires.word c.requires.set (rw c.symbols.ensures.are at c.add_first.ensures.is) (rw (first, c.symbols-2.ensures.are, c.neg.ensures.is, c.field-field.ensures.is) at c.put_sum.ensures.is);
    }
