-- The weight distribution of the dual code, as `dual` of a code gives it.
--   dual_rows                  the rows of the dual are the reduced words that have dot 0 with each row of the code
--   dual_counts                so the distribution of the dual is what `from_dual` asks for
--   refusal_none               when the refusal of a distribution doesn't apply
--   one_is_small               then the code has few words, or its dual has, and no number is too large for `from_dual`
use Rattle.std.proofs.Common.{◌≡◌, ℕ, ◌+◌, ◌-◌, ◌^◌, ◌≤◌, ◌⊎◌, Bool, true, false, ◌&&◌, ◌||◌, if◌then◌else◌, nat_lt, List, length, Some, None, refl, ap, subst, ◌∙◌, inl, inr, ⊎_elim, arith}
use Rattle.std.proofs.lemmas.Bool.{ltb-false}
use Rattle.lc_algebra.specs.Field.{size}
use Rattle.lc_algebra.specs.Word.{word_dot}
use Rattle.lc_algebra.specs.Matrix.{Matrix, AreRows, IsReduced, IsReducedGenerator, IsOrthogonal}
use Rattle.lc_algebra.proofs.SpanLaws.{dot_span, span_of_member}
use Rattle.lc_constructions.specs.Code.{IsCode}
use Rattle.lc_constructions.specs.Combined.{InDual}
use Rattle.lc_enumeration.specs.Distribution.{NoDistribution, weight_distribution, distribution_of, distribution_refusal}
use Rattle.lc_enumeration.proofs.GreedyLaws.{each_contained}
use Rattle.lc_macwilliams.specs.Solving.{IsDualDistribution}
use Rattle.lc_macwilliams.proofs.SolveLaws.{dual_dimension}

pub dual_rows : (C D : Matrix) → AreRows C.field C.columns C.rows → IsCode C.field C.columns (InDual C) D → IsReducedGenerator C.field C.columns (IsOrthogonal C.field C.rows) D.rows
dual_rows C D r d = record {
  members = λ w.
      let m = d.generator.members w in (
        (λ i. let x = m.0 i in (x.0, each_contained (λ row. word_dot C.field row w ≡ 0) C.rows (λ row c. x.1 row (span_of_member C.field C.columns C.rows row r c)))),
        (λ y. m.1 (y.0, λ v i. dot_span C.field C.columns C.rows w v r y.1 i)),
      );
  reduced = d.generator.reduced;
  words = d.generator.words;
}

pub dual_counts : (C D : Matrix) (counts : List ℕ) → AreRows C.field C.columns C.rows → IsCode C.field C.columns (InDual C) D → counts ≡ distribution_of D → IsDualDistribution C counts
unfolding distribution_of
dual_counts C D counts r d e = record {
  checks = D.rows;
  generator = dual_rows C D r d;
  are = e ∙ ap (λ f. weight_distribution f D.columns D.rows) d.over ∙ ap (λ n. weight_distribution C.field n D.rows) d.length_is;
}

none_refused : (a b c : Bool) (x : NoDistribution) → (if a && (b || c) then Some x else None) ≡ None → (a ≡ false) ⊎ ((b ≡ false) × (c ≡ false))
none_refused false b c x e = inl refl
none_refused true true c x e = absurd (cc e)
none_refused true false true x e = absurd (cc e)
none_refused true false false x e = inr (refl, refl)

pub refusal_none : (q n k : ℕ) → distribution_refusal q n k ≡ None → (q ^ k ≤ 2 ^ 24) ⊎ ((q ^ (n - k) ≤ 2 ^ 24) × (q ^ n ≤ 2 ^ 63))
unfolding distribution_refusal
refusal_none q n k e =
    ⊎_elim
    (λ a. inl (ltb-false (2 ^ 24) (q ^ k) a))
    (λ b. inr (ltb-false (2 ^ 24) (q ^ (n - k)) b.0, ltb-false (2 ^ 63) (q ^ n) b.1))
    (none_refused (nat_lt (2 ^ 24) (q ^ k)) (nat_lt (2 ^ 24) (q ^ (n - k))) (nat_lt (2 ^ 63) (q ^ n)) (record { dimension = k; codimension = n - k }) e)

pub one_is_small : (C D : Matrix) → AreRows C.field C.columns C.rows → IsReduced C.columns C.rows → IsCode C.field C.columns (InDual C) D → distribution_refusal (size C.field) C.columns (length C.rows) ≡ None → (size C.field ^ length C.rows ≤ 2 ^ 24) ⊎ ((size D.field ^ length D.rows ≤ 2 ^ 24) × (size C.field ^ C.columns ≤ 2 ^ 63))
one_is_small C D r h d e =
    let dual : length D.rows + length C.rows ≡ C.columns = dual_dimension C D.rows r h (dual_rows C D r d) in
    let rest : C.columns - length C.rows ≡ length D.rows = omega (arith, dual) in
    ⊎_elim
    (λ a. inl a)
    (λ b. inr (rw d.over (subst (λ m. size C.field ^ m ≤ 2 ^ 24) rest b.0), b.1))
    (refusal_none (size C.field) C.columns (length C.rows) e)
