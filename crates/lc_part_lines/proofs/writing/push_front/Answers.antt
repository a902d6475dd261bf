use Rattle.std.proofs.Common.{◌++◌, codes, decimal}
use Rattle.lc_formats.proofs.ListTexts.{five}
use Rattle.lc_parts.specs.Seen.{part_of, facts_seen}
use Rattle.lc_part_lines.specs.Seen.{line_of}
use Rattle.lc_part_lines.specs.Pieces.{front_text}
use Rattle.lc_part_lines.proofs.writing.push_front.Goals as goal

pub returns : goal.returns
unfolding line_of front_text
returns c =
    let l = c.args.line.now in
    five c.args.text.now.items _ _ _ _ _ (codes "{\"count\":" ++ decimal l.part.count) (codes ",\"divisor\":" ++ decimal l.facts.divisor) (codes ",\"first\":" ++ decimal l.facts.first) (codes ",\"from\":" ++ decimal l.part.start) (codes ",\"k\":" ++ decimal l.facts.k) c.in_ok-push_named.ensures c.in_ok-push_named-2.ensures c.in_ok-push_named-3.ensures c.in_ok-push_named-4.ensures c.in_ok-push_named-5.ensures
