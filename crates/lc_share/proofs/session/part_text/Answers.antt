use Rattle.lc_calls.specs.Built.{built_calls}
use Rattle.lc_share.specs.Seen.{asked_of}
use Rattle.lc_share.proofs.SessionLaws.{printed_so}
use Rattle.lc_share.proofs.session.part_text.Goals as goal

pub returns : goal.returns
returns g c = record { is = printed_so built_calls c.args.bytes.now (asked_of c.args.asked.now) c.in-Some.done c.in_ok-line.line.items (rw c.in-Some.is at c.in_ok-done.ensures.is) c.in_ok-line.ensures.is }
