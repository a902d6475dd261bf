-- The stated large input of the command `summary`, and what it prints.
--   generator_words n g             the first n words of the generator
--   summary_row i word              row i: the unit vector i of length 24, and then the 24 lowest bits of the word, the lowest first
--   summary_code seed               the code over 2 elements of length 48 that the 24 rows of the seed span
--   summary_text seed budget longest        the line: the distance line of the code, and how many rounds of at most so many blocks
--                                   the search took
use Rattle.std.specs.Prelude.{ℕ, zero, suc, ◌-◌, ◌/◌, ◌%◌, ◌^◌, List, [], ◌∷◌, ◌++◌, length, map, take, codes, decimal, None}
use Rattle.rand_core.specs.Pcg32Seed.{pcg32_seed}
use Rattle.rand_pcg.specs.Lcg.{Lcg}
use Rattle.rand_pcg.specs.Pcg.{pcg32, pcg32_of_seed}
use Rattle.lc_algebra.specs.declared.FieldName.TheVariants.{Gf2}
use Rattle.lc_algebra.specs.Span.{below}
use Rattle.lc_algebra.specs.Matrix.{Matrix}
use Rattle.lc_enumeration.specs.InformationSet.{unit_word}
use Rattle.lc_enumeration.specs.Records.{fresh_start, records}
use Rattle.lc_algebra.specs.Divisor.{divisor_of}
use Rattle.lc_formats.specs.Text.{line}
use Rattle.lc_language.specs.Query.{distance, query_line}

unfoldable pub generator_words : ℕ → Lcg → List ℕ
generator_words zero g = []
generator_words (suc n) g = (pcg32 g).0 ∷ generator_words n (pcg32 g).1

unfoldable pub seeded : ℕ → Lcg
seeded seed = pcg32_of_seed (pcg32_seed 16 seed)

unfoldable pub summary_row : ℕ → ℕ → List ℕ
summary_row i word = unit_word 24 i ++ map (λ j. word / 2 ^ j % 2) (below 24)

unfoldable pub summary_rows : ℕ → List ℕ → List (List ℕ)
summary_rows i [] = []
summary_rows i (word ∷ words) = summary_row i word ∷ summary_rows (suc i) words

-- the rows are the identity on the first 24 columns, so that they are the reduced rows of their span
unfoldable pub summary_code : ℕ → Matrix
summary_code seed = record { field = Gf2; columns = 48; rows = summary_rows 0 (generator_words 24 (seeded seed)) }

unfoldable pub without_newline : List ℕ → List ℕ
without_newline text = take (length text - 1) text

unfoldable pub round_count : Matrix → ℕ → ℕ → ℕ
round_count C budget longest = length (records divisor_of (C ∷ []) budget longest None fresh_start)

unfoldable pub summary_text : ℕ → ℕ → ℕ → List ℕ
summary_text seed budget longest =
    line (codes "summary seed " ++ decimal seed ++ codes " " ++ without_newline (query_line distance (summary_code seed) budget)
    ++ codes " rounds " ++ decimal (round_count (summary_code seed) budget longest))
