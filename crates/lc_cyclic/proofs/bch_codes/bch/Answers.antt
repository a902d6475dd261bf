use Rattle.lc_cyclic.proofs.BchLaws.{whole_code}
use Rattle.lc_cyclic.proofs.bch_codes.bch.Goals as goal

pub returns-clause-code : goal.returns-clause-code
returns-clause-code c =
    whole_code c.args.field.now c.in_ok-formed_bch.field-0.form.locator c.args.n c.args.b c.args.d c.in_ok-formed_bch.field-0.code c.in_ok-size.ensures.least c.in_ok-formed_bch.ensures.locator c.in_ok-formed_bch.ensures.code
