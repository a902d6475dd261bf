-- How often numbers stand in lists, and the least of some values.
--   times x xs           how often the number x stands in the list xs
--   StandOnce n xs       each number below n stands exactly once in xs, and no other number stands there
--   least first values   the least of first and the values
use Rattle.std.specs.Prelude.{◌≡◌, ℕ, min, cond, eqb, ltb, List, fold, count_by}

abbrev pub times : ℕ → List ℕ → ℕ
times x xs = count_by (λ y. eqb y x) xs

abbrev pub StandOnce : ℕ → List ℕ → Type 0
StandOnce n xs = (x : ℕ) → times x xs ≡ cond (ltb x n) 1 0

abbrev pub least : ℕ → List ℕ → ℕ
least first values = fold min first values
