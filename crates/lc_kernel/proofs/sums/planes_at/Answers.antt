use Rattle.std.proofs.Common.{◌<◌, length, arith}
use Rattle.lc_kernel.specs.PlaneSums.{symbols_in}
use Rattle.lc_kernel.proofs.MultipleLaws.{multiple_inside, multiple_read, multiple_word}
use Rattle.lc_kernel.proofs.PlaneSumLaws.{symbols_long, read_at, over_at}
use Rattle.lc_kernel.proofs.sums.planes_at.Goals.{After-place_in}
use Rattle.lc_kernel.proofs.sums.planes_at.Goals as goal

inside : (c : After-place_in) → c.place_in.result < length c.args.multiples.now
inside c = rw c.place_in.ensures.is (omega (arith, symbols_long c.args.multiples.now, multiple_inside c.args.sets.now (symbols_in c.args.multiples.now) c.args.j c.args.i c.args.c c.requires.multiples.are c.requires.set c.requires.row c.requires.element.0 c.requires.element.1))

pub bounds-multiples-place_in : goal.bounds-multiples-place_in
bounds-multiples-place_in c = inside (goal.at.bounds-multiples-place_in c).After-place_in

pub returns-clause-is : goal.returns-clause-is
returns-clause-is c =
    let l = inside (goal.at.returns-clause-is c).After-place_in in
    let word = c.index-multiples-place_in.result in
    multiple_read c.args.sets.now (symbols_in c.args.multiples.now) c.args.j c.args.i c.args.c c.place_in.result word.symbols c.requires.multiples.are c.requires.set c.requires.row c.requires.element.0 c.requires.element.1 c.place_in.ensures.is (read_at c.args.multiples.now c.place_in.result word l c.index-multiples-place_in.is)

pub returns-clause-field : goal.returns-clause-field
returns-clause-field c = over_at c.args.sets.now c.args.multiples.now c.place_in.result c.index-multiples-place_in.result c.requires.multiples.over (inside (goal.at.returns-clause-field c).After-place_in) c.index-multiples-place_in.is

pub returns-clause-word : goal.returns-clause-word
returns-clause-word c =
    let l = inside (goal.at.returns-clause-word c).After-place_in in
    let word = c.index-multiples-place_in.result in
    multiple_word c.args.sets.now (symbols_in c.args.multiples.now) c.args.j c.args.i c.args.c c.place_in.result word.symbols c.requires.multiples.are c.requires.set c.requires.row c.requires.element.0 c.requires.element.1 c.place_in.ensures.is (read_at c.args.multiples.now c.place_in.result word l c.index-multiples-place_in.is)
