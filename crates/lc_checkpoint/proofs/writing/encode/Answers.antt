use Rattle.std.proofs.Common.{◌≡◌, ◌∷◌, ◌++◌, rules, append_assoc}
use Rattle.lc_checkpoint.specs.Seen.{point_of}
use Rattle.lc_checkpoint.proofs.TextLaws.{text_is}
use Rattle.lc_checkpoint.proofs.writing.encode.Goals as goal

pub returns : goal.returns
returns c =
    let whole : c.push_text-2.new.text.items ≡ c.seal_of.result ++ 10 ∷ c.deref.result.now = search (rules, append_assoc) in
    record { is = text_is (point_of c.args.point.now) c.seal_of.result c.deref.result.now c.push_text-2.new.text.items (search rules) c.seal_of.ensures.is whole }
