use Rattle.std.proofs.Common.{◌≡◌, ◌<◌, ◌∙◌, sym, refl, arith, length, rules}
use Rattle.std.proofs.lemmas.Grind.{common_steps}
use Rattle.lc_algebra.specs.Field.{size}
use Rattle.lc_algebra.specs.Word.{IsWord}
use Rattle.lc_least.proofs.ScanLaws.{rows_tail, row_word, scan_none, scan_empty, scan_turn, scan_back, scan_done}
use Rattle.lc_least.proofs.least.+scan.Goals as goal

pub returns-in_default-clause-first : goal.returns-in_default-clause-first
returns-in_default-clause-first t c =
    let word : IsWord c.args.field.now (length c.args.sum.now) c.args.sum.now = record { long = refl; fits = c.requires.sum } in
    scan_empty c.args.field.now (length c.args.sum.now) c.args.rows.now c.args.sum.now c.args.best.now.symbols.items c.offer.new.self.symbols.items c.in_default.ensures.cases word c.offer.ensures.first

pub loop-c-init : goal.loop-c-init
loop-c-init t c = record { first = scan_none c.args.field.now (length c.args.sum.now) c.in-Some.row.now c.in-Some.others.now c.args.sum.now c.args.best.now.symbols.items; long = refl; same = refl }

pub scan-requires : goal.scan-requires
scan-requires t c =
    let long : length c.add_scaled.new.to ≡ length c.args.sum.now = c.add_scaled.auto.to ∙ c.loop-c.auto.sum in
    let fewer : length c.in-Some.others.now < length c.args.rows.now = omega (arith, c.in-Some.ensures.cases.1) in
    (first_of (search (rules, fewer), omega (arith, c.decreases, fewer), grind (arith, common_steps)), (rows_tail c.args.field.now (length c.args.sum.now) (length c.add_scaled.new.to) c.args.rows.now c.in-Some.row.now c.in-Some.others.now c.in-Some.ensures.cases.0 long c.requires.rows, (c.add_scaled.ensures.fits, c.loop-c.invariant.long ∙ c.requires.best ∙ sym long)))

pub loop-c-preserved : goal.loop-c-preserved
loop-c-preserved t c =
    let word : IsWord c.args.field.now (length c.args.sum.now) c.args.sum.now = record { long = refl; fits = c.requires.sum } in
    let row : IsWord c.args.field.now (length c.args.sum.now) c.in-Some.row.now = row_word c.args.field.now (length c.args.sum.now) c.args.rows.now c.in-Some.row.now c.in-Some.others.now c.in-Some.ensures.cases.0 c.requires.rows in
    let long : length c.add_scaled.new.to ≡ length c.args.sum.now = c.add_scaled.auto.to ∙ c.loop-c.auto.sum in
    record {
      first = scan_turn c.args.field.now (length c.args.sum.now) (length c.add_scaled.new.to) c.loop-c.c c.in-Some.row.now c.symbols.result.now c.in-Some.others.now c.args.sum.now c.loop-c.sum c.add_scaled.new.to c.args.best.now.symbols.items c.loop-c.best.symbols.items c.scan.new.best.symbols.items c.symbols.ensures.are c.loop-c.invariant.same c.add_scaled.ensures.is long c.loop-c.invariant.first c.scan.ensures.first;
      long = c.scan.ensures.length ∙ c.loop-c.invariant.long;
      same = scan_back c.args.field.now (length c.args.sum.now) c.loop-c.c c.neg.result c.in-Some.row.now c.symbols.result.now c.symbols-in-loop-c.result.now c.args.sum.now c.loop-c.sum c.add_scaled.new.to c.scan.new.sum c.add_scaled-in-loop-c.new.to word row c.symbols.ensures.are c.symbols-in-loop-c.ensures.are c.loop-c.invariant.same c.add_scaled.ensures.is c.scan.ensures.sum c.neg.ensures.is c.add_scaled-in-loop-c.ensures.is;
    }

pub returns-clause-first : goal.returns-clause-first
returns-clause-first t c =
    let all : c.loop-c.c ≡ size c.args.field.now = omega (arith, c.loop-c-test.false, c.loop-c.auto.c-end, c.size-c-end.ensures.is) in
    scan_done c.args.field.now (length c.args.sum.now) c.loop-c.c c.in-Some.row.now c.args.rows.now c.in-Some.others.now c.args.sum.now c.args.best.now.symbols.items c.loop-c.best.symbols.items all c.in-Some.ensures.cases.0 c.loop-c.invariant.first
