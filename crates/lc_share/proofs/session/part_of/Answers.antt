use Rattle.lc_calls.specs.Built.{built_calls}
use Rattle.lc_share.specs.Seen.{asked_of}
use Rattle.lc_share.proofs.SessionLaws.{found_so}
use Rattle.lc_share.proofs.session.part_of.Goals as goal

pub returns : goal.returns
returns g c = record { is = found_so built_calls c.args.bytes.now (asked_of c.args.asked.now) c.in-Some.code c.find_part.result (rw c.in-Some.is at c.in_ok-code.ensures.first) c.find_part.ensures.found }
