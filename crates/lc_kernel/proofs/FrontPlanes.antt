-- The planes of the sums of the first entries of a message.
--   planes_sum             the planes of a sum, from those of two words
--   zero_planes            those of the zero word
--   front_planes_next      those of the sum of one entry more
--   front_planes_put, front_planes_first, front_planes_same      the list of them
use Rattle.std.proofs.Common.{◌≡◌, ℕ, zero, suc, ◌+◌, ◌-◌, ◌*◌, ◌/◌, ◌%◌, ◌^◌, ◌<◌, ◌≤◌, List, [], set, length, replicate, slice_index, slice_index_or, Contains, sym, ap, ◌∙◌, ⊎_elim, arith}
use Rattle.std.proofs.lemmas.Bool.{cases_lt}
use Rattle.std.proofs.lemmas.Nat.{div-mul-add, mod-mul-add}
use Rattle.std.proofs.lemmas.Nat.Bits.{bit_at-zero}
use Rattle.std.proofs.lemmas.List.{get_or-set_same, get_or-set_other}
use Rattle.std.proofs.lemmas.List.Elements.{All-get_or}
use Rattle.lc_algebra.specs.declared.FieldName.{FieldName}
use Rattle.lc_algebra.specs.Field.{size}
use Rattle.lc_algebra.specs.Word.{IsWord, zero_word, word_sum, scale}
use Rattle.lc_algebra.specs.Span.{AreIndependent}
use Rattle.lc_algebra.specs.Matrix.{Matrix, AreRows}
use Rattle.lc_algebra.specs.SpanLaws.{restrict}
use Rattle.lc_algebra.proofs.WordLaws.{IsWord_scale}
use Rattle.lc_algebra.proofs.ColumnLaws.{length_restrict, restrict_sum, restrict_zero}
use Rattle.lc_algebra.proofs.CommonLaws.{below_product}
use Rattle.lc_algebra.proofs.RemainderLaws.{index-zeros}
use Rattle.lc_enumeration.specs.Message.{messages}
use Rattle.lc_enumeration.specs.Search.{set_count, generator_at}
use Rattle.lc_place.specs.Place.{SpotState, spot_message}
use Rattle.lc_kernel.specs.Packed.{others}
use Rattle.lc_planes.specs.Planes.{part_at, plane_at}
use Rattle.lc_distances.specs.Planes.{IsPlaneSum}
use Rattle.lc_planes.specs.Planes.{plane}
use Rattle.lc_kernel.specs.Sums.{front_word}
use Rattle.lc_kernel.specs.Fronts.{ArePlanes, AreFrontPlanes, IsKept}
use Rattle.lc_planes.proofs.PlaneLaws.{plane_none, plane_cons}
use Rattle.lc_kernel.proofs.FrontLaws.{entries_are, generates, front_next, front_first, front_word_fits}
use Rattle.lc_planes.proofs.ApartLaws.{restrict_fits}

pub planes_sum : (f : FieldName) (n c : ℕ) (cols u v x y z : List ℕ) → size f ≤ 2 ^ n → n ≤ 4 → IsWord f c u → IsWord f c v → IsPlaneSum f x y z → ArePlanes cols n u x → ArePlanes cols n v y → ArePlanes cols n (word_sum f u v) z
planes_sum f n c cols u v x y z fits few a b sum h k p l =
    sum.planes n (restrict cols u) (restrict cols v) fits few (length_restrict cols u ∙ sym (length_restrict cols v)) (restrict_fits f c cols u a) (restrict_fits f c cols v b) h k p l
    ∙ ap (plane p) (sym (restrict_sum f cols u v (a.long ∙ sym b.long)))

zeros_plane : (p n : ℕ) → plane p (zero_word n) ≡ 0
zeros_plane p zero = plane_none p
zeros_plane p (suc n) = omega (arith, plane_cons p 0 (zero_word n), zeros_plane p n, bit_at-zero p)

pub zero_planes : (p n : ℕ) (cols : List ℕ) → plane_at p cols (zero_word n) ≡ 0
zero_planes p n cols = ap (plane p) (restrict_zero cols n) ∙ zeros_plane p (length cols)

pub front_planes_next : (C : Matrix) (s : SpotState) (b n i : ℕ) (rows : List (List ℕ)) (x y z : List ℕ) → AreRows C.field C.columns C.rows → AreIndependent C.field C.columns C.rows → s.set < set_count C → Contains (messages (length C.rows) (size C.field) (length s.support)) (spot_message s) → IsKept C s.set b n rows → i < length s.support
    → ArePlanes (part_at (others C s.set) b) n (front_word C s i) x
    → y ≡ slice_index_or rows (slice_index s.support i * (size C.field - 1) + (slice_index s.coefficients i - 1)) []
    → IsPlaneSum C.field x y z
    → ArePlanes (part_at (others C s.set) b) n (front_word C s (i + 1)) z
front_planes_next C s part n i rows x y z words free set_is message h l front row added =
    let cols = part_at (others C s.set) part in
    let d = size C.field - 1 in
    let e = entries_are C s message in
    let g = generates C s.set words free set_is in
    let a = slice_index s.support i in
    let b = slice_index s.coefficients i in
    let G = generator_at C s.set in
    let some : 1 ≤ b = e.fitting.some i (omega (arith, l, e.many)) in
    let small : b - 1 < d = omega (arith, e.element i l, some) in
    let index = a * d + (b - 1) in
    let inside : index < length C.rows * d = below_product (length C.rows) d a (b - 1) (e.row i l) small in
    let place : index / d ≡ a = div-mul-add a d (b - 1) small in
    let column : index % d ≡ b - 1 = mod-mul-add a d (b - 1) small in
    let same : b - 1 + 1 ≡ b = omega (arith, some) in
    let v = scale C.field b (slice_index_or G a []) in
    let row_word : IsWord C.field C.columns (slice_index_or G a []) = All-get_or (IsWord C.field C.columns) G a [] (omega (arith, e.row i l, g.count)) g.rows in
    let other : ArePlanes cols n v y = λ p m.
    ap (λ t. slice_index t p) row ∙ h.multiples.are index p inside m
    ∙ ap (λ t. plane_at p cols (scale C.field (t + 1) (slice_index_or G (index / d) []))) column
    ∙ ap (λ t. plane_at p cols (scale C.field (b - 1 + 1) (slice_index_or G t []))) place
    ∙ ap (λ t. plane_at p cols (scale C.field t (slice_index_or G a []))) same in
    let sum = planes_sum C.field n C.columns cols (front_word C s i) v x y z h.fits h.few (front_word_fits C s i g) (IsWord_scale C.field C.columns b (slice_index_or G a []) row_word.long) added front other in
    let next : suc i ≡ i + 1 = omega arith in
    λ p m. sum p m ∙ ap (plane_at p cols) (sym (front_next C s i g e l)) ∙ ap (λ t. plane_at p cols (front_word C s t)) next

pub front_planes_put : (C : Matrix) (s : SpotState) (b n i : ℕ) (fronts more : List (List ℕ)) (x : List ℕ) → more ≡ set fronts (i + 1) x → i + 1 < length fronts → AreFrontPlanes C s b n i fronts → ArePlanes (part_at (others C s.set) b) n (front_word C s (i + 1)) x → AreFrontPlanes C s b n (i + 1) more
front_planes_put C s part n i fronts more x made inside h front t p a m =
    let cols = part_at (others C s.set) part in
    ⊎_elim
    (λ b. ap (λ z. slice_index (slice_index_or z t []) p) made ∙ ap (λ z. slice_index z p) (get_or-set_other fronts (i + 1) t x [] (λ q. omega (arith, q, b))) ∙ h t p (omega (arith, b)) m)
    (λ b.
    let same : t ≡ i + 1 = omega (arith, a, b) in
    ap (λ z. slice_index (slice_index_or z t []) p) made ∙ ap (λ z. slice_index (slice_index_or (set fronts (i + 1) x) z []) p) same ∙ ap (λ z. slice_index z p) (get_or-set_same fronts (i + 1) x [] inside) ∙ front p m ∙ ap (λ z. plane_at p cols (front_word C s z)) (sym same))
    (cases_lt t (i + 1))

pub front_planes_first : (C : Matrix) (s : SpotState) (b n : ℕ) (fronts more : List (List ℕ)) → AreRows C.field C.columns C.rows → AreIndependent C.field C.columns C.rows → s.set < set_count C → 0 < length fronts → more ≡ set fronts 0 (replicate 4 0) → AreFrontPlanes C s b n 0 more
front_planes_first C s part n fronts more words free set_is some made t p a m =
    let cols = part_at (others C s.set) part in
    let g = generates C s.set words free set_is in
    let same : t ≡ 0 = omega (arith, a) in
    ap (λ z. slice_index (slice_index_or z t []) p) made ∙ ap (λ z. slice_index (slice_index_or (set fronts 0 (replicate 4 0)) z []) p) same ∙ ap (λ z. slice_index z p) (get_or-set_same fronts 0 (replicate 4 0) [] some) ∙ index-zeros 4 p
    ∙ sym (zero_planes p C.columns cols) ∙ ap (plane_at p cols) (sym (front_first C s g)) ∙ ap (λ z. plane_at p cols (front_word C s z)) (sym same)

pub front_planes_same : (C : Matrix) (s t : SpotState) (b n i m : ℕ) (fronts : List (List ℕ)) → m ≤ i → t.set ≡ s.set → ((e : ℕ) → e ≤ m → front_word C t e ≡ front_word C s e) → AreFrontPlanes C s b n i fronts → AreFrontPlanes C t b n m fronts
front_planes_same C s t part n i m fronts l e same h a p b c =
    h a p (omega (arith, b, l)) c ∙ ap (plane_at p (part_at (others C s.set) part)) (sym (same a b)) ∙ ap (λ z. plane_at p (part_at (others C z) part) (front_word C t a)) (sym e)
