use Rattle.std.proofs.Common.{◌≡◌, ◌<◌, ◌/◌, ◌%◌, [], length, ap, sym, ◌∙◌, arith}
use Rattle.std.proofs.lemmas.List.{get_or_default}
use Rattle.lc_algebra.proofs.WordLaws.{fits_symbol}
use Rattle.lc_planes.specs.Planes.{PlanesState, symbols_of, symbol_in}
use Rattle.lc_planes.proofs.BlockLaws.{symbols_long, symbol_read}
use Rattle.lc_planes.proofs.planes.Planes.symbol.Goals as goal

pub returns-clause-is : goal.returns-clause-is
returns-clause-is c =
    let s = c.self.inside in
    let i = c.args.i in
    let same : symbols_of s.len s.blocks.items ≡ c.args.self.now.symbols = ap (λ (p : PlanesState). p.symbols) c.self.view_is in
    let inside : i < s.len = omega (arith, c.requires.inside, ap length same, symbols_long s.len s.blocks.items) in
    let here : i / 64 < length s.blocks.items = omega (arith, inside, c.self.invariant.planes.all, symbols_long s.len s.blocks.items) in
    let block = c.index.ensures ∙ get_or_default s.blocks.items (i / 64) c.index.result.now [] here in
    rw (← same) (c.symbol_of.ensures.is ∙ ap (λ b. symbol_in b (i % 64)) block ∙ sym (symbol_read s.len i s.blocks.items inside))

pub returns-clause-fits : goal.returns-clause-fits
returns-clause-fits c =
    let s = c.self.inside in
    let i = c.args.i in
    let same : symbols_of s.len s.blocks.items ≡ c.args.self.now.symbols = ap (λ (p : PlanesState). p.symbols) c.self.view_is in
    let inside : i < s.len = omega (arith, c.requires.inside, ap length same, symbols_long s.len s.blocks.items) in
    let here : i / 64 < length s.blocks.items = omega (arith, inside, c.self.invariant.planes.all, symbols_long s.len s.blocks.items) in
    let block = c.index.ensures ∙ get_or_default s.blocks.items (i / 64) c.index.result.now [] here in
    let is = c.symbol_of.ensures.is ∙ ap (λ b. symbol_in b (i % 64)) block ∙ sym (symbol_read s.len i s.blocks.items inside) in
    rw (← ap (λ (p : PlanesState). p.field) c.self.view_is, is) (fits_symbol s.field (symbols_of s.len s.blocks.items) c.self.invariant.fits i)
