use Rattle.std.proofs.Common.{◌≡◌, [], slice_index_or, ◌∙◌, arith}
use Rattle.std.proofs.lemmas.List.{get_or_default}
use Rattle.lc_kernel.proofs.grid.push_plane.Goals as goal

pub gather-block-requires-clause-inside : goal.gather-block-requires-clause-inside
gather-block-requires-clause-inside c t l =
    let e = c.loop-e.e in
    let words = c.args.words.now in
    let w : c.symbols.result.now ≡ slice_index_or words e [] = c.symbols.ensures.are ∙ c.index-words-e.is ∙ get_or_default words e c.index-words-e.result [] (omega (arith, c.loop-e-test.true, c.loop-e.auto.e-end)) in
    rw w (c.requires.inside e t (omega (arith, c.loop-e-test.true, c.loop-e.auto.e-end)) l)
