-- The input of the summary of seed 1, by evaluation of the definitions.
--   summary_words, first_row                   the words of seed 1, and the first row that they give
use Rattle.std.proofs.Common.{◌≡◌, refl}
use Rattle.std.specs.Prelude.{[], ◌∷◌, ◌++◌, replicate}
use Rattle.rand_core.specs.Pcg32Seed.{pcg32_seed}
use Rattle.rand_core.specs.Steps.{word_bytes, u32_at}
use Rattle.lc_algebra.specs.Span.{below}
use Rattle.lc_enumeration.specs.InformationSet.{unit_word}
use Rattle.lc_session_rules.specs.Summary.{generator_words, seeded, summary_row}

pub summary_words : generator_words 3 (seeded 1) ≡ 866585574 ∷ 2109535214 ∷ 3403630417 ∷ []
unfolding word_bytes u32_at pcg32_seed generator_words seeded
summary_words = refl

pub first_row : summary_row 0 866585574 ≡ 1 ∷ replicate 23 0 ++ 0 ∷ 1 ∷ 1 ∷ 0 ∷ 0 ∷ 1 ∷ 1 ∷ 1 ∷ 1 ∷ 1 ∷ 0 ∷ 1 ∷ 0 ∷ 0 ∷ 0 ∷ 0 ∷ 1 ∷ 1 ∷ 1 ∷ 0 ∷ 0 ∷ 1 ∷ 0 ∷ 1 ∷ []
unfolding below unit_word summary_row
first_row = refl
