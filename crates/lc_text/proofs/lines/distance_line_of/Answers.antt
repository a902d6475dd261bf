use Rattle.lc_text.proofs.LineLaws.{exact_word, bracket_word, exact_line, between_line}
use Rattle.lc_text.proofs.lines.distance_line_of.Goals as goal
use Rattle.lc_certify.proofs.AnswerLaws.{there}

pub word-requires : goal.word-requires
word-requires c =
    let a = c.in-Exact in
    record { word = there c.args.search.now.code (record { weight = a.weight; place = a.place }) (exact_word c.args.search.now c.args.answer a.weight a.place a.blocks a.is c.requires.answered c.requires.fitting c.sets.ensures.is c.dimension-rows.ensures.rows c.dimension-rows.ensures.independent) }

pub word-requires-in-Bracket : goal.word-requires-in-Bracket
word-requires-in-Bracket c =
    let a = c.in-Bracket in
    record { word = there c.args.search.now.code (record { weight = a.weight; place = a.place }) (bracket_word c.args.search.now c.args.answer a.low a.weight a.place a.blocks a.is c.requires.answered c.requires.fitting c.sets.ensures.is c.dimension-rows.ensures.rows c.dimension-rows.ensures.independent) }

pub returns-in_ok-word-in-Exact : goal.returns-in_ok-word-in-Exact
returns-in_ok-word-in-Exact c =
    let a = c.in-Exact in
    exact_line c.args.search.now.code c.args.answer a.weight a.place a.blocks c.in_ok-word-in-Exact.field-0 c.distance_line-in-Exact.result a.is c.in_ok-word-in-Exact.ensures.at c.distance_line-in-Exact.ensures

pub returns-in_ok-word-in-Bracket : goal.returns-in_ok-word-in-Bracket
returns-in_ok-word-in-Bracket c =
    let a = c.in-Bracket in
    between_line c.args.search.now.code c.args.answer a.low a.weight a.place a.blocks c.in_ok-word-in-Bracket.field-0 c.bracket_line-in-Bracket.result a.is c.in_ok-word-in-Bracket.ensures.at c.bracket_line-in-Bracket.ensures
