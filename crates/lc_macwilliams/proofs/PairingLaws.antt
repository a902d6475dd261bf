-- Two codes, and how many words of each are orthogonal to the other.
--   met_total              how many pairs of a word of each have dot 0, taken q times
--   pairing                the numbers of words of each that are orthogonal to the other are as the sizes of the codes
use Rattle.std.proofs.Common.{◌≡◌, ℕ, ◌+◌, ◌-◌, ◌*◌, ◌^◌, cond, ◌==◌, List, length, sum_by, refl, sym, ap, ◌∙◌, arith}
use Rattle.std.proofs.Math.Nat.{eq_of_mul-eq-mul_left}
use Rattle.std.proofs.lemmas.List.Sums.{length-filter}
use Rattle.lc_algebra.specs.declared.FieldName.{FieldName}
use Rattle.lc_algebra.specs.Field.{size}
use Rattle.lc_algebra.specs.Span.{words}
use Rattle.lc_algebra.specs.Matrix.{AreRows}
use Rattle.lc_algebra.proofs.FieldLaws.{one_inside}
use Rattle.lc_algebra.proofs.WordLaws.{dot_comm}
use Rattle.lc_algebra.proofs.SpanLaws.{length_words}
use Rattle.lc_macwilliams.specs.Orthogonal.{orthogonal_words}
use Rattle.lc_macwilliams.proofs.CountLaws.{sum_same, sum_constant, sum_plus, sum_times, sum_swap}
use Rattle.lc_macwilliams.proofs.TransformLaws.{are_orthogonal, meets, met_count}

pub met_total : (f : FieldName) (n : ℕ) (rows others : List (List ℕ)) → AreRows f n rows → size f * sum_by (λ e. sum_by (λ w. meets f w e) (words f n rows)) (words f n others) ≡ size f ^ length others * size f ^ length rows + (size f - 1) * (size f ^ length rows * length (orthogonal_words f n others rows))
unfolding orthogonal_words
met_total f n rows others r =
    let q : ℕ = size f in
    let g : ℕ = size f ^ length rows in
    let test : List ℕ → ℕ = λ e. cond (are_orthogonal f rows e) 1 0 in
    let es : List (List ℕ) = words f n others in
    sym (sum_times q (λ e. sum_by (λ w. meets f w e) (words f n rows)) es)
    ∙ sum_same (λ e. q * sum_by (λ w. meets f w e) (words f n rows)) (λ e. g + (q - 1) * (g * test e)) es (λ e _. met_count f n rows e r)
    ∙ sum_plus (λ _. g) (λ e. (q - 1) * (g * test e)) es
    ∙ ap (λ x. x + sum_by (λ e. (q - 1) * (g * test e)) es) (sum_constant (λ _. g) g es (λ _ _. refl) ∙ ap (λ x. x * g) (length_words f n others))
    ∙ ap (λ x. size f ^ length others * g + x) (sum_times (q - 1) (λ e. g * test e) es ∙ ap (λ x. (q - 1) * x) (sum_times g test es ∙ ap (λ x. g * x) (sym (length-filter (are_orthogonal f rows) es))))

pub pairing : (f : FieldName) (n : ℕ) (rows others : List (List ℕ)) → AreRows f n rows → AreRows f n others → size f ^ length others * length (orthogonal_words f n rows others) ≡ size f ^ length rows * length (orthogonal_words f n others rows)
pairing f n rows others r s =
    let turned : sum_by (λ e. sum_by (λ w. meets f w e) (words f n rows)) (words f n others) ≡ sum_by (λ w. sum_by (λ e. meets f e w) (words f n others)) (words f n rows) =
    sum_swap (λ e w. meets f w e) (words f n others) (words f n rows)
    ∙ sum_same (λ w. sum_by (λ e. meets f w e) (words f n others)) (λ w. sum_by (λ e. meets f e w) (words f n others)) (words f n rows) (λ w _.
    sum_same (λ e. meets f w e) (λ e. meets f e w) (words f n others) (λ e _. ap (λ x. cond (x == 0) 1 0) (dot_comm f w e))) in
    let one = met_total f n rows others r in
    let two = met_total f n others rows s in
    let same : size f * sum_by (λ e. sum_by (λ w. meets f w e) (words f n rows)) (words f n others) ≡ size f * sum_by (λ w. sum_by (λ e. meets f e w) (words f n others)) (words f n rows) = ap (λ x. size f * x) turned in
    eq_of_mul-eq-mul_left (size f - 1) (omega (arith, one_inside f)) (size f ^ length others * length (orthogonal_words f n rows others)) (size f ^ length rows * length (orthogonal_words f n others rows)) (omega (arith, one, two, same))
