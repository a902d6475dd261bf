use Rattle.std.proofs.Common.{◌∙◌, sym, subst}
use Rattle.std.proofs.lemmas.Bool.{false≢true}
use Rattle.lc_constructions.specs.Nearest.{IsWithin}
use Rattle.lc_alternant.proofs.DecodedLaws.{decoded_some, decoded_far, decoded_none}
use Rattle.lc_alternant.proofs.decoder.decode.Goals as goal

pub returns-then-is_within : goal.returns-then-is_within
returns-then-is_within c =
    let C = c.args.code.now in
    let x = c.args.word.now in
    let t = c.reach-t.result in
    record {
      decoded = decoded_some C c.args.form.now x c.in-Some.near t c.requires.form c.requires.word c.reach-t.ensures.is
          (λ u w. sym c.in-Some.is ∙ c.in_ok-near.ensures.one u w)
          (subst (IsWithin C x t) c.symbols.ensures.are (c.is_within.ensures.is.0 c.if-is_within.true));
    }

pub returns-in-Some : goal.returns-in-Some
returns-in-Some c =
    let C = c.args.code.now in
    let x = c.args.word.now in
    let t = c.reach-t.result in
    record {
      decoded = decoded_far C c.args.form.now x c.in-Some.near t c.requires.form c.requires.word c.reach-t.ensures.is
          (λ u w. sym c.in-Some.is ∙ c.in_ok-near.ensures.one u w)
          (λ w. false≢true (sym c.if-is_within.false ∙ c.is_within.ensures.is.1 (subst (IsWithin C x t) (sym c.symbols.ensures.are) w)));
    }

pub returns : goal.returns
returns c = record {
  decoded = decoded_none c.args.code.now c.args.form.now c.args.word.now c.reach-t.result c.in_ok-near.field-0 c.in-None.is c.requires.form c.requires.word c.reach-t.ensures.is c.in_ok-near.ensures.one;
}
