use Rattle.std.proofs.Common.{arith}
use Rattle.lc_slots.proofs.ReadLaws.{slot_reads, never_starved}
use Rattle.lc_slots.proofs.reading.held_by.Goals as goal

pub returns-in-Ok-held_in-clause-is : goal.returns-in-Ok-held_in-clause-is
returns-in-Ok-held_in-clause-is g c = slot_reads (g.V.Vault.contents c.args.vault.now) c.args.slot c.args.buf.now c.load.new.buf c.in-Ok.count _ (omega arith) c.in-Ok.ensures.gave c.in-Ok-held_in.ensures.is

pub returns-in-Err-held_in-clause-damaged : goal.returns-in-Err-held_in-clause-damaged
returns-in-Err-held_in-clause-damaged g c = never_starved (g.V.Vault.contents c.args.vault.now) c.args.slot c.args.buf.now c.load.new.buf c.in-Ok.count _ (omega arith) c.in-Ok.ensures.gave c.in-Err-held_in.ensures.damaged
