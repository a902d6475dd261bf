use Rattle.std.proofs.Common.{◌++◌, codes, decimal, ap, ◌∙◌}
use Rattle.lc_formats.specs.Text.{numbers_text}
use Rattle.lc_parts.specs.Seen.{part_of, facts_seen}
use Rattle.lc_part_lines.specs.Seen.{line_of}
use Rattle.lc_part_lines.specs.Pieces.{middle_text}
use Rattle.lc_part_lines.proofs.TextLaws.{four}
use Rattle.lc_part_lines.proofs.writing.push_middle.Goals as goal

pub returns : goal.returns
unfolding line_of middle_text
returns c =
    let l = c.args.line.now in
    four c.args.text.now.items _ _ _ _ (codes ",\"place\":" ++ decimal l.part.place) (codes ",\"q\":" ++ decimal l.facts.q) (codes ",\"ranks\":") (numbers_text l.facts.ranks.items) c.in_ok-push_named.ensures c.in_ok-push_named-2.ensures c.in_ok-push_text.ensures.is (c.in_ok-push_list.ensures.is ∙ ap (λ ranks. c.push_text.new.text.items ++ numbers_text ranks) c.deref.ensures.value)
