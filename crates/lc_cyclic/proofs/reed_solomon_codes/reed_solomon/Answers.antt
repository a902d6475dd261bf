use Rattle.std.proofs.Common.{ap, ◌∙◌}
use Rattle.lc_constructions.specs.Alternant.{bch_form}
use Rattle.lc_constructions.specs.Cyclic.{IsReedSolomonWord}
use Rattle.lc_cyclic.proofs.ReedSolomonLaws.{reed_solomon_fine, reed_solomon_code, own_size, own_code, own_form}
use Rattle.lc_cyclic.proofs.reed_solomon_codes.reed_solomon.Goals as goal

pub formed-requires : goal.formed-requires
formed-requires c = record {
  form = reed_solomon_fine c.in_ok-field.field c.args.n c.args.d c.in_ok-form.form c.in_ok-check_reed_solomon.ensures.least c.in_ok-check_reed_solomon.ensures.most c.in_ok-field.ensures.size (c.in_ok-form.ensures.is ∙ ap (λ g. bch_form g c.args.n 1 c.args.d) c.in_ok-copy.ensures.same);
}

pub returns-clause-size : goal.returns-clause-size
returns-clause-size c =
    let f = c.in_ok-field.field in
    own_size f c.args.n (IsReedSolomonWord f c.args.d) c.in_ok-formed.field-0.code c.in_ok-field.ensures.size (reed_solomon_code f c.args.n c.args.d c.in_ok-form.form c.in_ok-formed.field-0.code c.in_ok-field.ensures.size (c.in_ok-form.ensures.is ∙ ap (λ g. bch_form g c.args.n 1 c.args.d) c.in_ok-copy.ensures.same) c.in_ok-formed.ensures.code)

pub returns-clause-code : goal.returns-clause-code
returns-clause-code c =
    let f = c.in_ok-field.field in
    own_code f c.args.n c.args.d c.in_ok-formed.field-0.code (reed_solomon_code f c.args.n c.args.d c.in_ok-form.form c.in_ok-formed.field-0.code c.in_ok-field.ensures.size (c.in_ok-form.ensures.is ∙ ap (λ g. bch_form g c.args.n 1 c.args.d) c.in_ok-copy.ensures.same) c.in_ok-formed.ensures.code)

pub returns-clause-form : goal.returns-clause-form
returns-clause-form c =
    let f = c.in_ok-field.field in
    let h = c.in_ok-form.ensures.is ∙ ap (λ g. bch_form g c.args.n 1 c.args.d) c.in_ok-copy.ensures.same in
    own_form f c.args.n c.args.d (IsReedSolomonWord f c.args.d) c.in_ok-form.form c.in_ok-formed.field-0.form c.in_ok-formed.field-0.code h c.in_ok-formed.ensures.form (reed_solomon_code f c.args.n c.args.d c.in_ok-form.form c.in_ok-formed.field-0.code c.in_ok-field.ensures.size h c.in_ok-formed.ensures.code)
