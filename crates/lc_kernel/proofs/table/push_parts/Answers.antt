use Rattle.std.proofs.Common.{◌∷◌, [], ◌-◌, length, ap, arith, length-append}
use Rattle.lc_kernel.proofs.TableLaws.{cut_inside, parts_pushed}
use Rattle.lc_kernel.proofs.table.push_parts.Goals as goal

pub part_of-requires-clause-inside : goal.part_of-requires-clause-inside
part_of-requires-clause-inside c = cut_inside c.args.sets.now c.args.j c.loop-start.start (c.min-end.result - c.loop-start.start) c.args.columns.now c.requires.columns

pub returns-then-end-columns-clause-are : goal.returns-then-end-columns-clause-are
returns-then-end-columns-clause-are c =
    let i = c.loop-start.invariant in
    parts_pushed c.args.sets.now c.args.j c.args.tails.now.places c.loop-start.start c.min-end.result c.args.columns.now c.loop-start.parts.items c.push.new.self.items c.in_ok-part_of.field-0 c.requires.columns i.start i.inside c.min-end.ensures i.are c.in_ok-part_of.ensures.is c.in_ok-push.ensures.items

pub loop-start-preserved : goal.loop-start-preserved
loop-start-preserved c =
    let i = c.loop-start.invariant in
    record {
      start = omega (arith, i.start, c.min-end.ensures, c.if-end-columns.false, ap length c.in_ok-push.ensures.items, length-append c.loop-start.parts.items (c.in_ok-part_of.field-0 ∷ []));
      inside = omega (arith, c.min-end.ensures);
      are = parts_pushed c.args.sets.now c.args.j c.args.tails.now.places c.loop-start.start c.min-end.result c.args.columns.now c.loop-start.parts.items c.push.new.self.items c.in_ok-part_of.field-0 c.requires.columns i.start i.inside c.min-end.ensures i.are c.in_ok-part_of.ensures.is c.in_ok-push.ensures.items;
    }
