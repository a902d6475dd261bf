use Rattle.std.proofs.Common.{◌≡◌, [], ◌∷◌, ◌++◌, ap, ◌∙◌, rules}
use Rattle.lc_formats.specs.Text.{line}
use Rattle.lc_parts.specs.Seen.{part_of, facts_seen}
use Rattle.lc_part_lines.specs.Line.{part_line}
use Rattle.lc_part_lines.specs.Seen.{line_of}
use Rattle.lc_share.proofs.session.line_of.Goals as goal

pub returns : goal.returns
unfolding line line_of
returns c =
    let pushed : c.push.new.self.items ≡ c.in_ok-text.text.items ++ 10 ∷ [] = search rules in
    record { is = pushed ∙ ap (λ t. t ++ 10 ∷ []) (c.in_ok-text.ensures.is ∙ ap (λ s. part_line (record { script = s; facts = facts_seen c.args.done.facts; part = part_of c.args.done.part })) c.digest.ensures) }
