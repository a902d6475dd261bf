-- What comes of a claim when it is tried, for private clauses.
--   IsOutcomeOf result P       what is returned, if that isn't want of memory, is an outcome that meets P
--   stop_of number e           the refusal e of the claim of this number
--   own_of number bound code   what comes of the claim whose parts gave codes, if this comes of it
--   PairOutcome, NestOutcome, SpanOutcome, PlaceOutcome, ExtendOutcome      what comes of a claim whose parts gave these codes
use Rattle.std.specs.Prelude.{ℕ, ⊤, ◌+◌, ◌-◌, ◌*◌, min, ◌==◌, if◌then◌else◌, List, length, Result, Ok, Err}
use Rattle.lc_algebra.specs.Span.{InSpan}
use Rattle.lc_algebra.specs.Matrix.{Matrix}
use Rattle.lc_constructions.specs.declared.refusal.CodeRefusal.{CodeRefusal}
use Rattle.lc_constructions.specs.Combined.{InExtended}
use Rattle.lc_constructions.specs.Concatenated.{InConcatenated}
use Rattle.lc_constructions.specs.Refusal.{refusal_number}
use Rattle.lc_constructions.specs.Refusals.{concatenated_refusals, deleted_refusals, extended_refusals}
use Rattle.lc_formats.specs.Claim.{PairKind, PlaceKind}
use Rattle.lc_formats.specs.ClaimMeaning.{Outcome, code_with, refused_at, HasOwn, first_number, subcode_refusal, pair_refusals, pair_length, InPair, pair_bound, InPlaced, place_bound, extended_bound}
use Rattle.lc_trees.specs.declared.outcome.Made.{Made}
use Rattle.lc_trees.specs.declared.outcome.Stop.{Stop}
use Rattle.lc_trees.specs.declared.outcome.Stop.TheVariants.{Refused, NoMemory}

abbrev pub IsOutcomeOf : Result Made Stop → (Outcome → Type 0) → Type 0
IsOutcomeOf (Ok m) P = P (code_with m.code m.bound)
IsOutcomeOf (Err (Refused number refusal)) P = P (refused_at number refusal)
IsOutcomeOf (Err NoMemory) P = ⊤

unfoldable pub stop_of : ℕ → CodeRefusal → Stop
stop_of number e = (if refusal_number e == 0 then NoMemory else Refused number (refusal_number e))

unfoldable pub own_of : ℕ → ℕ → Result Matrix CodeRefusal → Result Made Stop
own_of number bound (Ok C) = Ok (record { code = C; bound = min bound 256 })
own_of number bound (Err e) = Err (stop_of number e)

abbrev pub PairOutcome : ℕ → PairKind → Matrix → ℕ → Matrix → ℕ → Outcome → Type 0
PairOutcome number kind C a D b o = HasOwn number (first_number (pair_refusals kind C D)) C.field (pair_length kind C D) (InPair kind C D) (pair_bound kind a b) o

abbrev pub NestOutcome : ℕ → Matrix → ℕ → Matrix → ℕ → Outcome → Type 0
NestOutcome number C a D b o = HasOwn number (first_number (concatenated_refusals C D)) D.field (C.columns * D.columns) (InConcatenated C D) (a * b) o

abbrev pub SpanOutcome : ℕ → List (List ℕ) → Matrix → ℕ → Outcome → Type 0
SpanOutcome number rows C a o = HasOwn number (subcode_refusal C rows) C.field C.columns (InSpan C.field C.columns rows) a o

abbrev pub PlaceOutcome : ℕ → PlaceKind → List ℕ → Matrix → ℕ → Outcome → Type 0
PlaceOutcome number kind places C a o = HasOwn number (first_number (deleted_refusals C places)) C.field (C.columns - length places) (InPlaced kind C places) (place_bound kind a (length places)) o

abbrev pub ExtendOutcome : ℕ → Matrix → ℕ → Outcome → Type 0
ExtendOutcome number C a o = HasOwn number (first_number (extended_refusals C)) C.field (C.columns + 1) (InExtended C) (extended_bound C.field a) o
