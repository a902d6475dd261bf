use Rattle.std.proofs.Common.{◌∙◌, ◌+◌, sym, ap, arith, map, length, length-drop}
use Rattle.lc_join.specs.Seen.{numbered_of}
use Rattle.lc_join.proofs.LineLaws.{newline_split, lines_first, lines_more, lines_end}
use Rattle.lc_join.proofs.lines.lines_in.Goals as goal

pub loop-i-init : goal.loop-i-init
loop-i-init c = record { short = omega arith; so_far = lines_first c.args.bytes.now c.new-lines.result.items c.new-lines.ensures.items }

pub overflow_add-done : goal.overflow_add-done
overflow_add-done c = omega (arith, c.loop-i.invariant.short, c.requires.few)

pub overflow_add-done-in-Some : goal.overflow_add-done-in-Some
overflow_add-done-in-Some c = omega (arith, c.loop-i.invariant.short, c.requires.few)

pub loop-i-smaller : goal.loop-i-smaller
loop-i-smaller c =
    let inside = (newline_split c.loop-i.rest.now c.in-Some.i (sym c.in-Some.is ∙ c.newline_in.ensures.is)).0 in
    omega (arith, inside, ap length c.split_at-in-Some.ensures.back, length-drop (c.in-Some.i + 1) c.loop-i.rest.now)

pub loop-i-preserved : goal.loop-i-preserved
loop-i-preserved c =
    let found = sym c.in-Some.is ∙ c.newline_in.ensures.is in
    let inside = (newline_split c.loop-i.rest.now c.in-Some.i found).0 in
    record {
      short = omega (arith, inside, c.loop-i.invariant.short, ap length c.split_at-in-Some.ensures.back, length-drop (c.in-Some.i + 1) c.loop-i.rest.now);
      so_far = lines_more c.args.bytes.now c.loop-i.rest.now c.split_at.result.0.now c.split_at-in-Some.result.1.now (map numbered_of c.loop-i.lines.items) (map numbered_of c.keep.new.lines.items) c.loop-i.done c.in-Some.i found
          c.split_at.ensures.front c.split_at-in-Some.ensures.back c.in_ok-keep.ensures.kept c.loop-i.invariant.so_far;
    }

pub overflow_add-done-2 : goal.overflow_add-done-2
overflow_add-done-2 c = omega (arith, c.loop-i.invariant.short, c.requires.few)

pub returns : goal.returns
returns c =
    record {
      is = lines_end c.args.bytes.now c.loop-i.rest.now (map numbered_of c.loop-i.lines.items) (map numbered_of c.keep-2.new.lines.items) c.loop-i.done (sym c.in_default.is ∙ c.newline_in.ensures.is) c.in_ok-keep-2.ensures.kept c.loop-i.invariant.so_far;
    }
