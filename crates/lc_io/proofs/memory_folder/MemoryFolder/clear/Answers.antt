use Rattle.lc_io.proofs.MemoryLaws.{cleared}
use Rattle.lc_io.proofs.memory_folder.MemoryFolder.clear.Goals as goal

pub returns-clause-cleared : goal.returns-clause-cleared
returns-clause-cleared c = cleared c.args.name.now c.args.self.now.files c.remove.new.self c.remove.ensures.updates
