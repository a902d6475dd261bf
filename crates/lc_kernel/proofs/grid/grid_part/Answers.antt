use Rattle.lc_kernel.proofs.GridLaws.{cut_in_words, tail_planes}
use Rattle.lc_kernel.proofs.grid.grid_part.Goals as goal

pub planes_of-requires-clause-inside : goal.planes_of-requires-clause-inside
planes_of-requires-clause-inside c = cut_in_words c.args.rows.now.sets.now c.args.rows.now.set c.args.columns.now c.args.words.now c.requires.inside c.requires.words

pub returns : goal.returns
returns c = record { is = record { multiples = c.in_ok-rows.ensures.are; planes = tail_planes c.args.rows.now.sets.now c.args.rows.now.set c.args.planes c.args.columns.now c.args.words.now c.in_ok-bits.bits.items c.requires.words c.in_ok-bits.ensures.are } }
