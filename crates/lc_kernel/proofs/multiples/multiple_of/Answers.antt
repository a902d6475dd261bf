use Rattle.lc_kernel.proofs.MultipleLaws.{multiple_inside, multiple_read, multiple_word}
use Rattle.lc_kernel.proofs.multiples.multiple_of.Goals as goal

pub bounds-multiples-place_in : goal.bounds-multiples-place_in
bounds-multiples-place_in c = rw c.place_in.ensures.is (multiple_inside c.args.sets.now c.args.multiples.now c.args.j c.args.i c.args.c c.requires.multiples c.requires.set c.requires.row c.requires.element.0 c.requires.element.1)

pub returns-clause-is : goal.returns-clause-is
returns-clause-is c = multiple_read c.args.sets.now c.args.multiples.now c.args.j c.args.i c.args.c c.place_in.result c.index-multiples-place_in.result c.requires.multiples c.requires.set c.requires.row c.requires.element.0 c.requires.element.1 c.place_in.ensures.is c.index-multiples-place_in.is

pub returns-clause-word : goal.returns-clause-word
returns-clause-word c = multiple_word c.args.sets.now c.args.multiples.now c.args.j c.args.i c.args.c c.place_in.result c.index-multiples-place_in.result c.requires.multiples c.requires.set c.requires.row c.requires.element.0 c.requires.element.1 c.place_in.ensures.is c.index-multiples-place_in.is
