-- Trace codes and subfield subcodes (MacWilliams and Sloane, chapter 7). F is a subfield of K, the field of the code C; F has q
-- elements, and K has q^s.
--   extension_degree F K      the number s
--   trace_sum K q s a         a + a^q + a^(q^2) + .. with s terms, in K
--   IsTrace F K a b           b is the trace of a from K to F: the element of F that stands for this sum
--   IsTraceWord F K u w       w has the traces of the symbols of u
--   InTrace C F w             w has the traces of the symbols of some word of C
--   InSubfieldSubcode C F w   the symbols of w, as elements of K, make a word of C
--   subfield_refusals C F     17: F has more than 16 elements; 10: it isn't a subfield of K
use Rattle.std.specs.Prelude.{◌≡◌, ℕ, zero, suc, ◌/◌, ◌^◌, ◌<◌, List, [], ◌∷◌, length, map, slice_index, Option}
use Rattle.lc_algebra.specs.declared.FieldName.{FieldName}
use Rattle.lc_algebra.specs.Field.{shape_of, size, add, pow}
use Rattle.lc_algebra.specs.Embedding.{embed}
use Rattle.lc_algebra.specs.Matrix.{Matrix}
use Rattle.lc_constructions.specs.declared.refusal.CodeRefusal.{CodeRefusal}
use Rattle.lc_constructions.specs.Code.{InCode}
use Rattle.lc_constructions.specs.Refusals.{too_large, not_subfield}

unfoldable pub extension_degree : FieldName → FieldName → ℕ
extension_degree F K = (shape_of K).degree / (shape_of F).degree

unfoldable pub trace_sum : FieldName → ℕ → ℕ → ℕ → ℕ
trace_sum K q zero a = 0
trace_sum K q (suc s) a = add K (pow K a (q ^ s)) (trace_sum K q s a)

pub record IsTrace (F K : FieldName) (a b : ℕ) : Type 0 where
  pub inside : b < size F
  pub is : embed F K b ≡ trace_sum K (size F) (extension_degree F K) a

pub record IsTraceWord (F K : FieldName) (u w : List ℕ) : Type 0 where
  pub long : length w ≡ length u
  pub traces : (i : ℕ) → i < length u → IsTrace F K (slice_index u i) (slice_index w i)

abbrev pub InTrace : Matrix → FieldName → List ℕ → Type 0
InTrace C F w = (u : List ℕ) × InCode C u × IsTraceWord F C.field u w

abbrev pub InSubfieldSubcode : Matrix → FieldName → List ℕ → Type 0
InSubfieldSubcode C F w = InCode C (map (embed F C.field) w)

unfoldable pub subfield_refusals : Matrix → FieldName → List (Option CodeRefusal)
subfield_refusals C F = too_large F ∷ not_subfield F C.field ∷ []
