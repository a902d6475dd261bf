use Rattle.lc_constructions.proofs.FormLaws.{bch_form_of, reed_solomon_form_of, goppa_form_of}
use Rattle.lc_constructions.proofs.laws.codes_have_their_forms.Goals as goal

pub returns-clause-bch : goal.returns-clause-bch
returns-clause-bch c = bch_form_of c.args.field c.args.locator

pub returns-clause-reed_solomon : goal.returns-clause-reed_solomon
returns-clause-reed_solomon c = reed_solomon_form_of c.args.field

pub returns-clause-goppa : goal.returns-clause-goppa
returns-clause-goppa c = goppa_form_of c.args.field c.args.locator
