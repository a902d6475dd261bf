use Rattle.std.proofs.Common.{◌≡◌, ◌++◌, take}
use Rattle.lc_relations.proofs.sums.push_words.Given as goal

abbrev pub invariant-loop-word : goal.invariant-loop-word
invariant-loop-word l = l.rows.items ≡ l.initial.rows.items ++ take l.word-index l.words
