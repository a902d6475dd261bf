use Rattle.std.proofs.Common.{◌≡◌, ◌∷◌, ◌++◌, rules, append_assoc}
use Rattle.lc_part_lines.specs.Seen.{line_of}
use Rattle.lc_part_lines.proofs.TextLaws.{text_is}
use Rattle.lc_part_lines.proofs.writing.write.Goals as goal

pub returns : goal.returns
returns c =
    let whole : c.push_text-2.new.text.items ≡ c.seal_of.result ++ 32 ∷ c.deref.result.now = search (rules, append_assoc) in
    record { is = text_is (line_of c.args.line.now) c.seal_of.result c.deref.result.now c.push_text-2.new.text.items (search rules) c.seal_of.ensures.is whole }
