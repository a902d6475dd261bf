use Rattle.std.proofs.Common.{◌≡◌, length, refl}
use Rattle.lc_planes.specs.Planes.{symbols_of}
use Rattle.lc_planes.proofs.BlockLaws.{told_by_blocks, symbols_small}
use Rattle.lc_planes.proofs.planes.Planes.from_symbols.Goals as goal

pub invariant_of-result : goal.invariant_of-result
invariant_of-result c =
    let w = c.args.symbols.now in
    let blocks = c.in_ok-blocks_of.field-0.items in
    let same : symbols_of (length w) blocks ≡ w = told_by_blocks w blocks (length w) c.in_ok-blocks_of.ensures.are refl (symbols_small c.args.field.now w c.requires.symbol c.requires.fits) in
    rw (same, c.name_of.ensures.is) (record { symbol = c.requires.symbol; even = c.requires.even; fits = c.requires.fits; planes = c.in_ok-blocks_of.ensures.are })

pub returns-clause-symbols : goal.returns-clause-symbols
returns-clause-symbols c = told_by_blocks c.args.symbols.now c.in_ok-blocks_of.field-0.items (length c.args.symbols.now) c.in_ok-blocks_of.ensures.are refl (symbols_small c.args.field.now c.args.symbols.now c.requires.symbol c.requires.fits)
