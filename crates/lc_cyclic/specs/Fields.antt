-- The fields in the order of their sizes, by their places in the list of all fields.
--   field_number i         the field with index i in the list
--   holds_root p d n r e Q        what a field of characteristic r, degree e and size Q is tested for
use Rattle.std.specs.Prelude.{ℕ, ◌-◌, ◌%◌, Bool, ◌==◌, ◌&&◌, slice_index_or}
use Rattle.lc_algebra.specs.declared.FieldName.{FieldName}
use Rattle.lc_algebra.specs.declared.FieldName.TheVariants.{Gf2}
use Rattle.lc_constructions.specs.Cyclic.{all_fields}

unfoldable pub field_number : ℕ → FieldName
field_number i = slice_index_or all_fields i Gf2

-- whether a field of characteristic r, degree e and size Q contains one of characteristic p and degree d, and n divides Q - 1
unfoldable pub holds_root : ℕ → ℕ → ℕ → ℕ → ℕ → ℕ → Bool
holds_root p d n r e Q = (r == p) && ((e % d == 0) && ((Q - 1) % n == 0))
