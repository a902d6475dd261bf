-- Construction X (MacWilliams and Sloane, chapter 18; GUAVA manual, `ConstructionXCode`). C, D and E are codes, and D is a subcode of C.
--   InComplement C D w         w is a word of C that is 0 wherever a row of D begins. Each word of C is in one way the sum of a word
--                              of D and of such a word
--   InConstructionX C D E w    w is d + m B followed by m G: d is a word of D, m a message of E, B the reduced generator matrix of that
--                              complement, G the one of E
--   has_subcode C D            each row of D is a word of C
--   not_subcode C D            51: D is no subcode of C
--   unlike_codes C D E, unfit_tail C D E      the refusals before that one: 11, 12; and those after it: 14 with the dimension of E and
--                              the one that it should have, 2
--   construction_x_refusals C D E      when it is refused: these, in their order
use Rattle.std.specs.Prelude.{◌≡◌, ℕ, ◌+◌, ◌-◌, ◌==◌, Bool, not, List, [], ◌∷◌, ◌++◌, length, slice_index, All, Option, Some}
use Rattle.std.specs.List.{list_all}
use Rattle.lc_algebra.specs.Word.{IsWord, word_sum, first_nonzero}
use Rattle.lc_algebra.specs.Span.{combine}
use Rattle.lc_algebra.specs.Matrix.{Matrix}
use Rattle.lc_constructions.specs.declared.refusal.CodeRefusal.{CodeRefusal}
use Rattle.lc_constructions.specs.declared.refusal.CodeRefusal.TheVariants.{InnerDimension}
use Rattle.lc_constructions.specs.Code.{InCode, IsCode}
use Rattle.lc_constructions.specs.Refusal.{refuse_if}
use Rattle.lc_constructions.specs.Refusals.{fields_differ, lengths_differ, bad_length}
use Rattle.lc_enumeration.specs.InformationSet.{in_span}
use Rattle.lc_language.specs.Refusal.{Refusal, refuse, when, from_codes}

abbrev pub InComplement : Matrix → Matrix → List ℕ → Type 0
InComplement C D w = InCode C w × All (λ row. (p : ℕ) → first_nonzero row ≡ Some p → slice_index w p ≡ 0) D.rows

abbrev pub InConstructionX : Matrix → Matrix → Matrix → List ℕ → Type 0
InConstructionX C D E w =
    (B : Matrix) × IsCode C.field C.columns (InComplement C D) B × ((d : List ℕ) × ((m : List ℕ) × InCode D d × IsWord E.field (length E.rows) m
    × (w ≡ word_sum C.field d (combine C.field C.columns m B.rows) ++ combine E.field E.columns m E.rows)))

-- ---- refusals

unfoldable pub has_subcode : Matrix → Matrix → Bool
has_subcode C D = list_all (in_span C.field C.columns C.rows) D.rows

unfoldable pub not_subcode : Matrix → Matrix → Option Refusal
not_subcode C D = when (not (has_subcode C D)) (refuse 51 [])

unfoldable pub unlike_codes : Matrix → Matrix → Matrix → List (Option CodeRefusal)
unlike_codes C D E = fields_differ C D ∷ fields_differ C E ∷ lengths_differ C D ∷ []

unfoldable pub unfit_tail : Matrix → Matrix → Matrix → List (Option CodeRefusal)
unfit_tail C D E = refuse_if (not (length E.rows == length C.rows - length D.rows)) (InnerDimension (length E.rows) (length C.rows - length D.rows)) ∷ bad_length (C.columns + E.columns) ∷ []

unfoldable pub construction_x_refusals : Matrix → Matrix → Matrix → List (Option Refusal)
construction_x_refusals C D E = from_codes (unlike_codes C D E) ++ not_subcode C D ∷ from_codes (unfit_tail C D E)
