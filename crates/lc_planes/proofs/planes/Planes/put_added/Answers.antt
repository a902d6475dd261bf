use Rattle.std.proofs.Common.{arith}
use Rattle.lc_planes.specs.Planes.{AreSums}
use Rattle.lc_planes.proofs.BlockLaws.{sum_kept, written_whole}
use Rattle.lc_planes.proofs.planes.Planes.put_added.Goals as goal

pub invariant_of-self : goal.invariant_of-self
invariant_of-self c =
    let i = c.self.inside in
    let a = c.first.inside in
    let b = c.second.inside in
    let sums : AreSums a.blocks.items b.blocks.items c.put_blocks.new.to = rw (← c.deref.ensures.value, ← c.deref-2.ensures.value) c.put_blocks.ensures.are in
    let t = sum_kept c.args.self.now c.args.first.now c.args.second.now i.field a.field b.field i.len a.len b.len i.blocks.items a.blocks.items b.blocks.items c.put_blocks.new.to c.self.view_is c.first.view_is c.second.view_is c.requires.to c.requires.field c.requires.long c.requires.lengths c.first.invariant c.second.invariant sums in
    rw (written_whole i.blocks.len c.put_blocks.new.to i.blocks.items (omega (arith, i.blocks.ok.0, sums.many))) t.planes

pub returns-clause-is : goal.returns-clause-is
returns-clause-is c =
    let i = c.self.inside in
    let a = c.first.inside in
    let b = c.second.inside in
    let sums : AreSums a.blocks.items b.blocks.items c.put_blocks.new.to = rw (← c.deref.ensures.value, ← c.deref-2.ensures.value) c.put_blocks.ensures.are in
    let t = sum_kept c.args.self.now c.args.first.now c.args.second.now i.field a.field b.field i.len a.len b.len i.blocks.items a.blocks.items b.blocks.items c.put_blocks.new.to c.self.view_is c.first.view_is c.second.view_is c.requires.to c.requires.field c.requires.long c.requires.lengths c.first.invariant c.second.invariant sums in
    rw (written_whole i.blocks.len c.put_blocks.new.to i.blocks.items (omega (arith, i.blocks.ok.0, sums.many))) t.is
