use Rattle.std.proofs.Common.{◌++◌, codes, decimal, ap, ◌∙◌}
use Rattle.hex.specs.Hex.{encode_lower}
use Rattle.lc_checkpoint.specs.Seen.{point_of}
use Rattle.lc_checkpoint.specs.Pieces.{back_text}
use Rattle.lc_formats.proofs.ListTexts.{six}
use Rattle.lc_checkpoint.proofs.writing.push_back.Goals as goal

pub returns : goal.returns
unfolding point_of back_text
returns c =
    let p = c.args.point.now in
    six c.args.text.now.items _ _ _ _ _ _ (codes ",\"script\":\"") (encode_lower p.script) (codes "\",\"turn\":" ++ decimal p.turn) (codes ",\"version\":" ++ decimal p.version) (codes ",\"weight\":" ++ decimal p.weight) (codes "}") c.in_ok-push_text.ensures.is (c.in_ok-push_text-2.ensures.is ∙ ap (λ t. c.push_text.new.text.items ++ t) c.digits_of.ensures.is) c.in_ok-push_named.ensures c.in_ok-push_named-2.ensures c.in_ok-push_named-3.ensures c.in_ok-push_text-3.ensures.is
