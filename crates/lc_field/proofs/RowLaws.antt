-- What is told of each row of the table of fields by computing.
--   size_most     bounds of the columns
--   next_test       the primitive element times each element, by the combination that the code makes
--   next_power      the same, at a row of the code
use Rattle.std.proofs.Common.{◌≡◌, ℕ, ◌*◌, ◌/◌, ◌%◌, ◌<◌, ◌≤◌, ◌==◌, true, refl, lit≤}
use Rattle.std.proofs.lemmas.Bool.Decides.{Decides-eqb}
use Rattle.lc_algebra.specs.declared.FieldName.{FieldName}
use Rattle.lc_algebra.specs.declared.FieldName.TheVariants.{Gf2}
use Rattle.lc_algebra.specs.Residue.{digits, number, plus, minus, times, top, up, times_x, product}
use Rattle.lc_algebra.specs.Field.{shape, shape_of, size, coefficients, mul}
use Rattle.lc_algebra.proofs.FieldTests.{below, below_each}
use Rattle.lc_field.specs.declared.row.Row.{Row}
use Rattle.lc_field.specs.Rows.{IsRow}
use Rattle.lc_field.specs.Tables.{combined}

pub size_most : (f : FieldName) → size f ≤ 256
unfolding shape shape_of size
size_most Gf2 = lit≤ tt
size_most _ = lit≤ tt

abbrev next : FieldName → ℕ → ℕ
next f a =
    combined (shape_of f).characteristic (shape_of f).degree (a / (size f / (shape_of f).characteristic)) ((a % (size f / (shape_of f).characteristic)) * (shape_of f).characteristic) (mul f (shape_of f).primitive (size f / (shape_of f).characteristic))

next_test : (f : FieldName) → below (λ a. next f a == mul f (shape_of f).primitive a) (size f) ≡ true
unfolding below digits number plus minus times top up times_x product shape shape_of size coefficients mul combined
next_test Gf2 = refl
next_test _ = refl

pub next_power : (r : Row) (a : ℕ) → IsRow r → a < size r.name → combined r.characteristic r.degree (a / (r.size / r.characteristic)) ((a % (r.size / r.characteristic)) * r.characteristic) r.carry ≡ mul r.name (shape_of r.name).primitive a
next_power r a i l =
    let t : (next r.name a == mul r.name (shape_of r.name).primitive a) ≡ true = below_each (λ a. next r.name a == mul r.name (shape_of r.name).primitive a) (size r.name) (next_test r.name) a l in
    let e : next r.name a ≡ mul r.name (shape_of r.name).primitive a = (Decides-eqb (next r.name a) (mul r.name (shape_of r.name).primitive a)).0 t in
    rw (i.elements, i.characteristic, i.degree, i.carry) e
