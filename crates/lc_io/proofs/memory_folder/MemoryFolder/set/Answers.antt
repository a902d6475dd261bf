use Rattle.std.proofs.Common.{string_bytes}
use Rattle.lc_io.proofs.MemoryLaws.{made}
use Rattle.lc_io.proofs.memory_folder.MemoryFolder.set.Goals as goal

pub returns-clause-made : goal.returns-clause-made
returns-clause-made c = made (string_bytes c.args.name) c.args.self.now.files c.insert.new.self c.args.bytes c.in_ok-insert.ensures.updates
