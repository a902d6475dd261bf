-- What becomes of a record of a checkpoint, at the need that it belongs to.
--   halt_from told refusal   why a session ends that can't go on from a record of this weight
--   IsPassed C budget s x    the record s of a settled need fits the code C, and x is its search with its answer
--   IsNotPassed C budget s h it doesn't, and h says so; or no memory is left
--   IsBegun C budget o s     s is the search of the code from the record o on, which fits; from the start if there is none
--   IsNotBegun C o h         the record doesn't fit, and h says so; or no memory is left
use Rattle.std.specs.Prelude.{◌≡◌, ℕ, true, false, Option, Some, None, unwrap_or}
use Rattle.lc_algebra.specs.Matrix.{Matrix}
use Rattle.lc_algebra.specs.Divisor.{divisor_of}
use Rattle.lc_enumeration.specs.Search.{fits, fits_settled, weight_at}
use Rattle.lc_enumeration.specs.Records.{Progress, found_of, first_progress}
use Rattle.lc_search.specs.State.{SearchState, answer_in, answer_of}
use Rattle.lc_search.specs.declared.resume.ResumeRefusal.{ResumeRefusal}
use Rattle.lc_search.specs.declared.resume.ResumeRefusal.TheVariants as refusal
use Rattle.lc_rounds.specs.declared.rounds.Stop.TheVariants.{Paused, VaultFault, NoMemory}
use Rattle.lc_rounds.specs.declared.need.Halt.{Halt}
use Rattle.lc_rounds.specs.declared.need.Halt.TheVariants.{Stop, Unfit}
use Rattle.lc_rounds.specs.declared.records.Answered.{Answered}

abbrev pub halt_from : ℕ → ResumeRefusal → Halt
halt_from told (refusal.Unfit found) = Unfit told found
halt_from told refusal.NoMemory = Stop NoMemory

abbrev pub state_of : Matrix → ℕ → Progress → SearchState
state_of C budget s = record { code = C; budget = budget; progress = s }

pub record IsPassed (C : Matrix) (budget : ℕ) (s : Progress) (x : Answered) : Type 0 where
  pub fitting : fits_settled (divisor_of C) C budget s.blocks (found_of s) ≡ true
  pub fits_so : fits C s.blocks (found_of s) ≡ true
  pub state : x.search ≡ state_of C budget s
  pub answered : answer_in x.search ≡ Some (answer_of x.answer)

abbrev pub IsNotPassed : Matrix → ℕ → Progress → Halt → Type 0
IsNotPassed C budget s (Stop Paused) = ⊥
IsNotPassed C budget s (Stop VaultFault) = ⊥
IsNotPassed C budget s (Stop NoMemory) = Unit {0}
IsNotPassed C budget s (Unfit told found) = (fits_settled (divisor_of C) C budget s.blocks (found_of s) ≡ false) × (told ≡ s.weight) × (found ≡ weight_at C s.place)

pub record IsBegun (C : Matrix) (budget : ℕ) (o : Option Progress) (s : SearchState) : Type 0 where
  pub state : s ≡ state_of C budget (unwrap_or o (first_progress C))
  pub fitting : fits C (unwrap_or o (first_progress C)).blocks (found_of (unwrap_or o (first_progress C))) ≡ true

abbrev pub IsNotBegun : Matrix → Option Progress → Halt → Type 0
IsNotBegun C o (Stop Paused) = ⊥
IsNotBegun C o (Stop VaultFault) = ⊥
IsNotBegun C o (Stop NoMemory) = Unit {0}
IsNotBegun C None (Unfit told found) = ⊥
IsNotBegun C (Some s) (Unfit told found) = (fits C s.blocks (found_of s) ≡ false) × (told ≡ s.weight) × (found ≡ weight_at C s.place)
