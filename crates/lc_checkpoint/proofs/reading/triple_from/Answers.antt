use Rattle.std.proofs.Common.{sym, rules}
use Rattle.lc_formats.specs.Json.{plain_number}
use Rattle.lc_checkpoint.specs.Seen.{settled_of}
use Rattle.lc_checkpoint.proofs.SettledLaws.{from_read}
use Rattle.lc_checkpoint.proofs.reading.triple_from.Goals as goal

pub returns : goal.returns
unfolding settled_of plain_number
returns c =
    record { is = sym (from_read c.args.items.now c.index-items-0.result c.index-items-1.result c.index-items-2.result c.in-Some.blocks c.in-Some-as_u64.weight c.in-Some-as_u64-2.place (search rules) c.index-items-0.is c.index-items-1.is c.index-items-2.is (search rules) (search rules) (search rules)) }
