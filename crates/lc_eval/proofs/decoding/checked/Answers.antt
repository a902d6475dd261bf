use Rattle.std.proofs.Common.{◌≡◌, ◌≢◌, ◌∙◌, length, refl}
use Rattle.lc_constructions.specs.Refusal.{refusal_values}
use Rattle.lc_eval.proofs.DecodeLaws.{list_long, list_high, list_right}
use Rattle.lc_eval.proofs.decoding.checked.Goals as goal

pub returns-then-list-length : goal.returns-then-list-length
unfolding refusal_values
returns-then-list-length c =
    let told = c.refused_as.ensures.told (λ e. absurd (cc)) refl in
    let long : length c.args.list.now ≢ c.args.code.now.columns = λ e. c.if-list-length.true (cc) in
    list_long c.args.offset c.args.code.now c.args.list.now c.refused_as.result long told c.refused_as.ensures.is

pub returns-then-not-fits : goal.returns-then-not-fits
returns-then-not-fits c =
    let long : length c.args.list.now ≡ c.args.code.now.columns = c.if-list-length.false ∙ c.length.ensures.is in
    list_high c.args.offset c.args.code.now c.field.result.now c.args.list.now c.symbols.result.now c.fits.result c.refused_as-then-not-fits.result long c.field.ensures.symbol c.field.ensures.is (c.symbols.ensures.are ∙ c.in_ok-word.ensures) c.fits.ensures.is c.if-not-fits.true c.refused_as-then-not-fits.ensures.is

pub returns : goal.returns
returns c =
    let long : length c.args.list.now ≡ c.args.code.now.columns = c.if-list-length.false ∙ c.length.ensures.is in
    list_right c.args.code.now c.field.result.now c.args.list.now c.in_ok-word.word c.fits.result long c.field.ensures.symbol c.field.ensures.is c.in_ok-word.ensures (rw c.symbols.ensures.are at c.fits.ensures.is) c.if-not-fits.false
