use Rattle.std.proofs.Common.{◌≡◌, take}
use Rattle.lc_constructions.specs.Coset.{syndrome}
use Rattle.lc_relations.proofs.syndromes.dots.Given as goal

abbrev pub invariant-loop-i : goal.invariant-loop-i
invariant-loop-i l = l.symbols.items ≡ syndrome l.code.field (take l.i l.code.rows) l.word
