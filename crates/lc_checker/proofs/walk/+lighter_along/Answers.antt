use Rattle.std.proofs.Common.{◌+◌, ◌<◌, [], length, drop, slice_index, slice_index_or, refl, sym, ap, ◌∙◌, arith}
use Rattle.std.proofs.lemmas.List.{get_or_default}
use Rattle.lc_formats.specs.Certificate.{is_lighter}
use Rattle.lc_algebra.specs.Field.{size}
use Rattle.lc_algebra.specs.Word.{word_sum, scale}
use Rattle.lc_checker.specs.Walk.{found}
use Rattle.lc_checker.proofs.WalkLaws.{along_whole, along_first, along_found, along_passed, along_end}
use Rattle.lc_checker.proofs.walk.+lighter_along.Goals as goal

pub returns-then-depth-support-clause-is : goal.returns-then-depth-support-clause-is
returns-then-depth-support-clause-is t c =
    let sums = c.args.sums.now in
    let l : c.args.depth < length sums = omega (arith, c.requires.many, c.if-depth-support.true) in
    ap (λ w. found c.is_lighter.result (slice_index_or sums w [])) (sym c.if-depth-support.true)
    ∙ along_whole c.args.rows.now.field c.args.rows.now.rows c.args.distance c.args.depth (slice_index_or sums c.args.depth []) c.args.support.now c.is_lighter.result c.if-depth-support.true
    (c.is_lighter.ensures.is ∙ ap (is_lighter c.args.distance) (c.symbols.ensures.are ∙ get_or_default sums c.args.depth c.index-sums-depth.result [] l))

pub loop-c-init : goal.loop-c-init
loop-c-init t c = record {
  sums = c.requires.sums;
  kept = λ u l. refl;
  rest = along_first c.args.rows.now.field c.args.rows.now.rows c.args.distance c.args.depth (slice_index_or c.args.sums.now c.args.depth []) c.args.support.now (omega (arith, c.requires.depth, c.if-depth-support.false));
}

pub returns-then-lighter_along-clause-is : goal.returns-then-lighter_along-clause-is
returns-then-lighter_along-clause-is t c =
    let rows = c.args.rows.now in
    let small : c.loop-c.c < size rows.field = rw (← c.field.ensures.is, ← c.size-c-end.ensures.is) c.loop-c-test.true in
    along_found rows.field rows.rows c.args.distance (slice_index c.args.support.now c.args.depth) c.loop-c.c (slice_index_or c.args.sums.now c.args.depth []) (drop (c.args.depth + 1) c.args.support.now) _ _ _ _
    small (c.put_row.ensures.is ∙ ap (λ y. word_sum rows.field y (scale rows.field c.loop-c.c (slice_index_or rows.rows (slice_index c.args.support.now c.args.depth) []))) (c.loop-c.invariant.kept c.args.depth (omega arith))) c.loop-c.invariant.rest c.lighter_along.ensures.is c.if-lighter_along.true

pub loop-c-preserved : goal.loop-c-preserved
loop-c-preserved t c =
    let rows = c.args.rows.now in
    let small : c.loop-c.c < size rows.field = rw (← c.field.ensures.is, ← c.size-c-end.ensures.is) c.loop-c-test.true in
    record {
      sums = c.lighter_along.ensures.sums;
      kept = λ u l. c.lighter_along.ensures.kept u (omega (arith, l)) ∙ c.put_row.ensures.kept u l ∙ c.loop-c.invariant.kept u l;
      rest = along_passed rows.field rows.rows c.args.distance (slice_index c.args.support.now c.args.depth) c.loop-c.c (slice_index_or c.args.sums.now c.args.depth []) (drop (c.args.depth + 1) c.args.support.now) _ _ _ _
          small (c.put_row.ensures.is ∙ ap (λ y. word_sum rows.field y (scale rows.field c.loop-c.c (slice_index_or rows.rows (slice_index c.args.support.now c.args.depth) []))) (c.loop-c.invariant.kept c.args.depth (omega arith))) c.loop-c.invariant.rest c.lighter_along.ensures.is c.if-lighter_along.false;
    }

pub returns-clause-is : goal.returns-clause-is
returns-clause-is t c =
    let rows = c.args.rows.now in
    along_end rows.field rows.rows c.args.distance (slice_index c.args.support.now c.args.depth) c.loop-c.c (slice_index_or c.args.sums.now c.args.depth []) (drop (c.args.depth + 1) c.args.support.now) _ _
    (omega (arith, c.loop-c-test.false, c.size-c-end.ensures.is, ap size c.field.ensures.is)) c.loop-c.invariant.rest
