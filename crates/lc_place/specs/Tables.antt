-- What a plan keeps: numbers that are counted only as far as a bound, which no number that decides anything reaches.
--   most                   the bound, 2^53
--   capped n               n, or the bound where n is greater
--   IsTable f n t          t has n entries, and entry e is f e
--   choose_entry i         at 256 n + j the capped number of sets of j among n
--   power_entry q e        the capped power (q - 1)^e
--   count_entry k q e      the capped number of messages of level e + 1
--   start_entry k q m e    the first block of level e + 1, or 2^40 if it isn't below that
use Rattle.std.specs.Prelude.{◌≡◌, ℕ, ◌+◌, ◌-◌, ◌*◌, ◌/◌, ◌%◌, ◌^◌, ◌<◌, min, List, length, slice_index}
use Rattle.lc_enumeration.specs.Message.{choose, message_count}
use Rattle.lc_enumeration.specs.Plan.{cut, blocks_before}

abbrev pub most : ℕ
most = 2 ^ 53

abbrev pub capped : ℕ → ℕ
capped n = min n most

pub record IsTable (f : ℕ → ℕ) (n : ℕ) (t : List ℕ) : Type 0 where
  pub many : length t ≡ n
  pub entry : (e : ℕ) → e < n → slice_index t e ≡ f e

abbrev pub choose_entry : ℕ → ℕ
choose_entry i = capped (choose (i / 256) (i % 256))

abbrev pub power_entry : ℕ → ℕ → ℕ
power_entry q e = capped ((q - 1) ^ e)

abbrev pub count_entry : ℕ → ℕ → ℕ → ℕ
count_entry k q e = capped (message_count k q (e + 1))

abbrev pub start_entry : ℕ → ℕ → ℕ → ℕ → ℕ
start_entry k q m e = min (blocks_before k q m (e * m)) cut
