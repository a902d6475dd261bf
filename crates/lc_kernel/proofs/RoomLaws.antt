-- The lists of a room.
--   written_length      a list is as long as it was once a list of its length is written over it
use Rattle.std.proofs.Common.{◌≡◌, ℕ, List, ◌++◌, length, take, drop, ◌∙◌, arith}
use Rattle.std.proofs.lemmas.List.{length-append, length-take-le}

pub written_length : {A : Type 0} (n : ℕ) (new old : List A) → length new ≡ length old → n ≡ length old → length (take n (new ++ drop (length new) old)) ≡ length old
written_length n new old same long = length-take-le n (new ++ drop (length new) old) (omega (arith, same, long, length-append new (drop (length new) old))) ∙ long
