-- Costs, which are counted as far as the greatest number of 64 bits.
--   capped n                 n, or that number where n is greater
--   choose_entry n j         the capped number of sets of j among n
--   through_entry k q w      the capped number of messages of the levels 1 to w
--   IsChooseRow n m t        t has the first m of the capped numbers of sets of 0, 1, 2, .. among n
--   IsThrough k q m t        t has the first m of those of messages of the levels 1 to w, for w from 0 on
use Rattle.std.specs.Prelude.{ℕ, ◌-◌, ◌^◌, min, List}
use Rattle.lc_enumeration.specs.Message.{choose}
use Rattle.lc_place.specs.Tables.{IsTable}
use Rattle.lc_formats.specs.Certificate.{messages_through}

abbrev pub capped : ℕ → ℕ
capped n = min n (2 ^ 64 - 1)

abbrev pub choose_entry : ℕ → ℕ → ℕ
choose_entry n j = capped (choose n j)

abbrev pub through_entry : ℕ → ℕ → ℕ → ℕ
through_entry k q w = capped (messages_through k q w)

abbrev pub IsChooseRow : ℕ → ℕ → List ℕ → Type 0
IsChooseRow n m t = IsTable (choose_entry n) m t

abbrev pub IsThrough : ℕ → ℕ → ℕ → List ℕ → Type 0
IsThrough k q m t = IsTable (through_entry k q) m t
