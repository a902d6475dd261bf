use Rattle.std.proofs.Common.{◌≡◌, refl, arith}
use Rattle.lc_planes.specs.Planes.{AreSums}
use Rattle.lc_planes.proofs.BlockLaws.{sum_kept, written_whole}
use Rattle.lc_planes.proofs.planes.Planes.add.Goals as goal

pub invariant_of-self : goal.invariant_of-self
invariant_of-self c =
    let i = c.self.inside in
    let o = c.other.inside in
    let same : c.deref_mut.result.now ≡ i.blocks.items = cc (c.deref_mut.ensures.value) in
    let sums : AreSums i.blocks.items o.blocks.items c.add_blocks.new.to = rw (← same, ← c.deref.ensures.value) c.add_blocks.ensures.are in
    let t = sum_kept c.args.self.now c.args.self.now c.args.other.now i.field i.field o.field i.len i.len o.len i.blocks.items i.blocks.items o.blocks.items c.add_blocks.new.to c.self.view_is c.self.view_is c.other.view_is refl c.requires.field refl c.requires.lengths c.self.invariant c.other.invariant sums in
    rw (written_whole i.blocks.len c.add_blocks.new.to i.blocks.items (omega (arith, i.blocks.ok.0, sums.many))) t.planes

pub returns-clause-is : goal.returns-clause-is
returns-clause-is c =
    let i = c.self.inside in
    let o = c.other.inside in
    let same : c.deref_mut.result.now ≡ i.blocks.items = cc (c.deref_mut.ensures.value) in
    let sums : AreSums i.blocks.items o.blocks.items c.add_blocks.new.to = rw (← same, ← c.deref.ensures.value) c.add_blocks.ensures.are in
    let t = sum_kept c.args.self.now c.args.self.now c.args.other.now i.field i.field o.field i.len i.len o.len i.blocks.items i.blocks.items o.blocks.items c.add_blocks.new.to c.self.view_is c.self.view_is c.other.view_is refl c.requires.field refl c.requires.lengths c.self.invariant c.other.invariant sums in
    rw (written_whole i.blocks.len c.add_blocks.new.to i.blocks.items (omega (arith, i.blocks.ok.0, sums.many))) t.is
