-- Words with erasures: symbols at known coordinates that are unknown (MacWilliams and Sloane, chapter 1). C is a code, x a word of its
-- length, whose symbols at the erased coordinates say nothing.
--   AgreesOff erased x w        w has the symbols of x at all coordinates that aren't erased
--   Fills C x erased w          w is a word of C that does so
--   Filling                     what filling in the erased symbols gives
--   filled w                    the word w of C
--   unfilled, ambiguous         no word of C; more than one
--   IsFilling C x erased a      a is filled w exactly if w alone fills x, unfilled if no word does, ambiguous if two words do
--   erased_refusals C erased    13: the coordinates don't rise, or one is the length or more. They may be all coordinates, or none
use Rattle.std.specs.Prelude.{◌≡◌, ◌≢◌, ℕ, ◌<◌, not, nat_le, ◌||◌, List, [], ◌∷◌, length, slice_index, Contains, Option}
use Rattle.std.specs.List.{list_any}
use Rattle.lc_algebra.specs.Matrix.{Matrix}
use Rattle.lc_constructions.specs.declared.refusal.CodeRefusal.{CodeRefusal}
use Rattle.lc_constructions.specs.declared.refusal.CodeRefusal.TheVariants.{BadPositions}
use Rattle.lc_constructions.specs.Code.{InCode}
use Rattle.lc_constructions.specs.Refusal.{refuse_if}
use Rattle.lc_constructions.specs.Refusals.{is_rising}

pub record AgreesOff (erased x w : List ℕ) : Type 0 where
  pub long : length w ≡ length x
  pub agrees : (i : ℕ) → i < length x → ¬ Contains erased i → slice_index w i ≡ slice_index x i

abbrev pub Fills : Matrix → List ℕ → List ℕ → List ℕ → Type 0
Fills C x erased w = InCode C w × AgreesOff erased x w

pub data Filling : Type 0 where
  filled : List ℕ → Filling
  unfilled : Filling
  ambiguous : Filling

abbrev pub IsFilling : Matrix → List ℕ → List ℕ → Filling → Type 0
IsFilling C x erased (filled w) = Fills C x erased w × ((v : List ℕ) → Fills C x erased v → v ≡ w)
IsFilling C x erased unfilled = (w : List ℕ) → ¬ Fills C x erased w
IsFilling C x erased ambiguous = (v : List ℕ) × ((w : List ℕ) × Fills C x erased v × Fills C x erased w × (v ≢ w))

-- ---- refusals

unfoldable pub erased_refusals : Matrix → List ℕ → List (Option CodeRefusal)
erased_refusals C erased = refuse_if (not (is_rising erased) || list_any (nat_le C.columns) erased) BadPositions ∷ []
