use Rattle.lc_certify.specs.Claims.{kind_of}
use Rattle.lc_text.proofs.LineLaws.{exact_word, exact_said, between_said}
use Rattle.lc_text.proofs.lines.certificate_line_of.Goals as goal

pub exact_line-requires : goal.exact_line-requires
exact_line-requires c =
    let a = c.in-Exact in
    record { word = exact_word c.args.search.now c.args.answer a.weight a.place a.blocks a.is c.requires.answered c.requires.fitting c.sets.ensures.is c.dimension-rows.ensures.rows c.dimension-rows.ensures.independent }

pub returns-in_ok-exact_line-in-Exact : goal.returns-in_ok-exact_line-in-Exact
returns-in_ok-exact_line-in-Exact c =
    let a = c.in-Exact in
    exact_said (kind_of c.args.way) c.args.search.now c.args.answer a.weight a.place a.blocks c.in_ok-exact_line-in-Exact.field-0.items a.is c.requires.answered c.in_ok-exact_line-in-Exact.ensures.is

pub returns-in_ok-certificate_bracket_line-in-Bracket : goal.returns-in_ok-certificate_bracket_line-in-Bracket
returns-in_ok-certificate_bracket_line-in-Bracket c =
    let a = c.in-Bracket in
    between_said (kind_of c.args.way) c.args.search.now.code c.args.answer a.low a.weight a.place a.blocks c.in_ok-certificate_bracket_line-in-Bracket.field-0.items a.is c.in_ok-certificate_bracket_line-in-Bracket.ensures
