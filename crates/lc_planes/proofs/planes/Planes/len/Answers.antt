use Rattle.std.proofs.Common.{length, ap, sym, ◌∙◌}
use Rattle.lc_planes.specs.Planes.{PlanesState}
use Rattle.lc_planes.proofs.BlockLaws.{symbols_long}
use Rattle.lc_planes.proofs.planes.Planes.len.Goals as goal

pub returns : goal.returns
returns c = record { is = sym (symbols_long c.self.inside.len c.self.inside.blocks.items) ∙ ap (λ (p : PlanesState). length p.symbols) c.self.view_is }
