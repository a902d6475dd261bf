-- Worked bit planes, by evaluation of the definitions.
--   planes_of_four     the two planes of the word 0, 1, 2, 3 over 4 elements
--   planes_of_sixteen  the four planes of the word 5, 10 over 16 elements
use Rattle.std.proofs.Common.{◌≡◌, [], ◌∷◌, refl}
use Rattle.lc_algebra.specs.declared.FieldName.TheVariants.{Gf4, Gf16}
use Rattle.lc_algebra.specs.Field.{shape, shape_of}
use Rattle.lc_algebra.specs.Span.{below}
use Rattle.lc_algebra.specs.Plane.{bit, plane, planes}

pub planes_of_four : planes Gf4 (0 ∷ 1 ∷ 2 ∷ 3 ∷ []) ≡ (0 ∷ 1 ∷ 0 ∷ 1 ∷ []) ∷ (0 ∷ 0 ∷ 1 ∷ 1 ∷ []) ∷ []
unfolding shape shape_of below bit plane planes
planes_of_four = refl

pub planes_of_sixteen : planes Gf16 (5 ∷ 10 ∷ []) ≡ (1 ∷ 0 ∷ []) ∷ (0 ∷ 1 ∷ []) ∷ (1 ∷ 0 ∷ []) ∷ (0 ∷ 1 ∷ []) ∷ []
unfolding shape shape_of below bit plane planes
planes_of_sixteen = refl
