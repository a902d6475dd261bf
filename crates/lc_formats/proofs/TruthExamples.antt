-- Worked checkpoints that are true, and which of their records a resumed session uses. The needs are the Hamming code of length 7,
-- whose weights have the divisor 1, and its extension by a parity, whose weights have the divisor 4.
--   is_true_after_one      a checkpoint of version 2 of the Hamming code after one block is true
--   first_is_true          one of version 1 of the extended code too: with the divisor 1 the search took two blocks
--   second_is_not          as one of version 2 it isn't: with the divisor 4 the answer has no blocks
--   starts                 where sessions start: version 1 before the first need with a divisor above 1, version 2 at the current need
--   misfits                records that fit, and some that don't: another weight, a settled record too early, more records than needs
--   untested               a record that isn't used isn't tested
use Rattle.std.proofs.Common.{◌≡◌, ℕ, ◌≤◌, inl, inr, refl, sym, ap, arith}
use Rattle.std.specs.Prelude.{List, [], ◌∷◌, ◌++◌, ◌^◌, map, Some, None}
use Rattle.lc_algebra.specs.declared.FieldName.TheVariants.{Gf2}
use Rattle.lc_algebra.specs.Matrix.{Matrix}
use Rattle.lc_enumeration.specs.Search.{answer}
use Rattle.lc_enumeration.specs.Records.{Progress}
use Rattle.lc_enumeration.specs.Truth.{answer_blocks, AreSettled, IsUnderwayNext}
use Rattle.lc_enumeration.proofs.SearchExamples.{hamming}
use Rattle.lc_formats.specs.Checkpoint.{Checkpoint, current_of}
use Rattle.lc_formats.specs.Truth.{IsTrueFor, divisor_in, whole_start, start_of, misfit_of}
use Rattle.lc_formats.proofs.Evaluated.{truth_computes}

abbrev pub extended : Matrix
extended = record { field = Gf2; columns = 8; rows = (1 ∷ 0 ∷ 0 ∷ 0 ∷ 0 ∷ 1 ∷ 1 ∷ 1 ∷ []) ∷ (0 ∷ 1 ∷ 0 ∷ 0 ∷ 1 ∷ 0 ∷ 1 ∷ 1 ∷ []) ∷ (0 ∷ 0 ∷ 1 ∷ 0 ∷ 1 ∷ 1 ∷ 0 ∷ 1 ∷ []) ∷ (0 ∷ 0 ∷ 0 ∷ 1 ∷ 1 ∷ 1 ∷ 1 ∷ 0 ∷ []) ∷ [] }

abbrev pub after : ℕ → List ℕ → List Progress → ℕ → ℕ → Checkpoint
after version digest settled blocks weight = record { version = version; script = digest; budget = 2 ^ 20; turn = 0; settled = settled; blocks = blocks; weight = weight; place = 0 }

abbrev pub settled_with : ℕ → ℕ → ℕ → Progress
settled_with blocks weight place = record { blocks = blocks; weight = weight; place = place }

blocks_of_answer : answer_blocks (answer (divisor_in 2 hamming) hamming (2 ^ 20)) ≡ 2
unfolding truth_computes
blocks_of_answer = refl

pub is_true_after_one : (digest : List ℕ) → IsTrueFor (hamming ∷ []) digest (2 ^ 20) (after 2 digest [] 1 3)
unfolding truth_computes
is_true_after_one digest = record {
  known = inr refl;
  script = refl;
  budget_is = refl;
  start = record { before = []; after = hamming ∷ []; split = refl; settled = tt; current = record { best = refl; few = omega (arith, blocks_of_answer) } };
  begun = omega arith;
  turn = omega arith;
}

blocks_of_first : answer_blocks (answer (divisor_in 1 extended) extended (2 ^ 20)) ≡ 2
unfolding truth_computes
blocks_of_first = refl

pub first_is_true : (digest : List ℕ) → IsTrueFor (extended ∷ []) digest (2 ^ 20) (after 1 digest [] 1 4)
unfolding truth_computes
first_is_true digest = record {
  known = inl refl;
  script = refl;
  budget_is = refl;
  start = record { before = []; after = extended ∷ []; split = refl; settled = tt; current = record { best = refl; few = omega (arith, blocks_of_first) } };
  begun = omega arith;
  turn = omega arith;
}

abbrev last_block : Matrix → ℕ
last_block C = answer_blocks (answer (divisor_in 2 C) C (2 ^ 20))

blocks_of_second : last_block extended ≡ 0
unfolding truth_computes
blocks_of_second = refl

no_other_split : (before later : List Matrix) (states : List Progress) → AreSettled (divisor_in 2) (2 ^ 20) before states → states ≡ [] → extended ∷ [] ≡ before ++ later → (s : Progress) → 1 ≤ s.blocks → IsUnderwayNext (divisor_in 2) (2 ^ 20) later (Some s) → ⊥
no_other_split [] [] states a e split s begun underway = underway
no_other_split [] (C ∷ later) states a e split s begun underway =
    let same : extended ≡ C = cc split in
    omega (arith, begun, underway.few, ap last_block (sym same), blocks_of_second)
no_other_split (C ∷ before) later [] a e split s begun underway = a
no_other_split (C ∷ before) later (t ∷ states) a e split s begun underway = absurd cc

pub second_is_not : (digest : List ℕ) → IsTrueFor (extended ∷ []) digest (2 ^ 20) (after 2 digest [] 1 4) → ⊥
unfolding whole_start current_of
second_is_not digest t = no_other_split t.start.before t.start.after [] t.start.settled refl t.start.split (settled_with 1 4 0) (omega arith) t.start.current

pub starts : map (start_of (hamming ∷ extended ∷ hamming ∷ [])) (after 1 [] (settled_with 2 3 0 ∷ []) 1 4 ∷ after 2 [] (settled_with 2 3 0 ∷ []) 1 4 ∷ after 1 [] [] 1 3 ∷ after 1 [] (settled_with 2 3 0 ∷ settled_with 2 4 0 ∷ []) 1 3 ∷ []) ≡ record { settled = settled_with 2 3 0 ∷ []; current = None } ∷ record { settled = settled_with 2 3 0 ∷ []; current = Some (settled_with 1 4 0) } ∷ record { settled = []; current = Some (settled_with 1 3 0) } ∷ record { settled = settled_with 2 3 0 ∷ []; current = None } ∷ []
unfolding truth_computes
starts = refl

pub misfits : map (misfit_of (hamming ∷ []) (2 ^ 20)) (after 1 [] [] 1 3 ∷ after 2 [] [] 2 2 ∷ after 2 [] (settled_with 1 3 0 ∷ []) 1 3 ∷ after 2 [] (settled_with 2 3 0 ∷ []) 1 3 ∷ []) ≡ None ∷ Some (record { need = 0; told = 2; found = 3 }) ∷ Some (record { need = 0; told = 3; found = 3 }) ∷ Some (record { need = 1; told = 2; found = 0 }) ∷ []
unfolding truth_computes
misfits = refl

-- a checkpoint of version 1 whose first need has the divisor 4 uses no record, so that none is tested
pub untested : misfit_of (extended ∷ []) (2 ^ 20) (after 1 [] (settled_with 5 7 9 ∷ []) 1 9) ≡ None
unfolding truth_computes
untested = refl
