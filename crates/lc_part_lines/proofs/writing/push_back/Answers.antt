use Rattle.std.proofs.Common.{◌++◌, codes, decimal, ap, ◌∙◌}
use Rattle.hex.specs.Hex.{encode_lower}
use Rattle.lc_formats.proofs.ListTexts.{five}
use Rattle.lc_parts.specs.Seen.{part_of, facts_seen}
use Rattle.lc_part_lines.specs.Seen.{line_of}
use Rattle.lc_part_lines.specs.Pieces.{back_text}
use Rattle.lc_part_lines.proofs.writing.push_back.Goals as goal

pub returns : goal.returns
unfolding line_of back_text
returns c =
    let l = c.args.line.now in
    five c.args.text.now.items _ _ _ _ _ (codes ",\"script\":\"") (encode_lower l.script) (codes "\",\"version\":" ++ decimal 1) (codes ",\"weight\":" ++ decimal l.part.weight) (codes "}") c.in_ok-push_text.ensures.is (c.in_ok-push_text-2.ensures.is ∙ ap (λ t. c.push_text.new.text.items ++ t) c.digits_of.ensures.is) c.in_ok-push_named.ensures c.in_ok-push_named-2.ensures c.in_ok-push_text-3.ensures.is
