-- What a search for a nearest word answers.
--   near_of a             the answer of the program, as the answers of the definitions are written
--   ending_near exact low blocks b      the answer of a search that ends so, with its best word
use Rattle.std.specs.Prelude.{ℕ, Bool}
use Rattle.lc_enumeration.specs.NearWord.{NearAnswer}
use Rattle.lc_coset.specs.declared.answer.Near.{Near}
use Rattle.lc_coset.specs.declared.best.Best.{Best}

abbrev pub near_of : Near → NearAnswer
near_of a = record { exact = a.exact; low = a.low; weight = a.weight; word = a.word; blocks = a.blocks }

abbrev pub ending_near : Bool → ℕ → ℕ → Best → NearAnswer
ending_near exact low blocks b = record { exact = exact; low = low; weight = b.weight; word = b.word; blocks = blocks }
