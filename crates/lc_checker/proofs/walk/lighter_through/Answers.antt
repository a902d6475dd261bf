use Rattle.std.proofs.Common.{◌≡◌, ◌+◌, ◌-◌, length, find, refl, ap, ◌∙◌, arith}
use Rattle.lc_formats.specs.Certificate.{is_lighter}
use Rattle.lc_checker.specs.Walk.{words_from}
use Rattle.lc_checker.proofs.WalkLaws.{level_found, level_passed, level_end}
use Rattle.lc_checker.proofs.walk.lighter_through.Goals as goal

pub loop-width-init : goal.loop-width-init
loop-width-init c =
    let same : c.args.level ≡ c.args.level + 1 - 1 = omega arith in
    record {
      sums = c.requires.sums;
      long = c.requires.support;
      rest = ap (λ m. find (is_lighter c.args.distance) (words_from c.args.rows.now.field c.args.rows.now.columns c.args.rows.now.rows 1 m)) same;
    }

pub returns-then-lighter_on_level : goal.returns-then-lighter_on_level
returns-then-lighter_on_level c =
    let rows = c.args.rows.now in
    record {
      inside = omega (arith, c.loop-width-test.true);
      some = level_found rows.field rows.columns rows.rows c.args.distance c.loop-width.width (c.args.level + 1 - c.loop-width.width) (c.args.level + 1 - (c.loop-width.width + 1)) (length rows.rows - 0) (c.loop-width.width - 0) _ _ _ _
          (omega (arith, c.loop-width-test.true)) refl (omega arith) (omega arith) c.loop-width.invariant.rest c.lighter_on_level.ensures.is c.if-lighter_on_level.true;
      none = tt;
    }

pub loop-width-preserved : goal.loop-width-preserved
loop-width-preserved c =
    let rows = c.args.rows.now in
    record {
      sums = c.lighter_on_level.ensures.sums;
      long = c.lighter_on_level.ensures.long ∙ c.loop-width.invariant.long;
      rest = level_passed rows.field rows.columns rows.rows c.args.distance c.loop-width.width (c.args.level + 1 - c.loop-width.width) (c.args.level + 1 - (c.loop-width.width + 1)) (length rows.rows - 0) (c.loop-width.width - 0) _ _ _ _
          (omega (arith, c.loop-width-test.true)) refl (omega arith) (omega arith) c.loop-width.invariant.rest c.lighter_on_level.ensures.is c.if-lighter_on_level.false;
    }

pub returns : goal.returns
returns c =
    let rows = c.args.rows.now in
    record {
      inside = tt;
      some = tt;
      none = level_end rows.field rows.columns rows.rows c.args.distance c.loop-width.width (c.args.level + 1 - c.loop-width.width) _ (omega (arith, c.loop-width-test.false)) c.loop-width.invariant.rest;
    }
