use Rattle.std.proofs.Common.{◌≡◌, ◌==◌, ◌↔◌, true, false, IsTrue, length, All, subst, arith}
use Rattle.std.specs.List.{list_all}
use Rattle.lc_algebra.specs.Word.{Fits}
use Rattle.lc_relations.proofs.RefusalLaws.{augmented_uneven, augmented_no_elements, augmented_fine}
use Rattle.lc_relations.proofs.refusal.check_augmented.Goals as goal

pub returns-then-not-are_long-clause-is : goal.returns-then-not-are_long-clause-is
returns-then-not-are_long-clause-is c =
    augmented_uneven c.args.code.now c.args.rows.now
    (subst (λ n. list_all (λ row. length row == n) c.args.rows.now ≡ false) c.length.ensures.is (grind (arith, c.if-not-are_long.true, c.are_long.ensures.is)))

pub returns-then-not-have_elements-clause-is : goal.returns-then-not-have_elements-clause-is
returns-then-not-have_elements-clause-is c =
    augmented_no_elements c.args.code.now c.args.rows.now c.have_elements.result
    (subst (λ n. list_all (λ row. length row == n) c.args.rows.now ≡ true) c.length.ensures.is (grind (arith, c.if-not-are_long.false, c.are_long.ensures.is)))
    (subst (λ f. IsTrue c.have_elements.result ↔ All (Fits f) c.args.rows.now) c.field.ensures.is c.have_elements.ensures.is)
    (grind (arith, c.if-not-have_elements.true))

pub returns-clause-is : goal.returns-clause-is
returns-clause-is c =
    augmented_fine c.args.code.now c.args.rows.now c.have_elements.result
    (subst (λ n. list_all (λ row. length row == n) c.args.rows.now ≡ true) c.length.ensures.is (grind (arith, c.if-not-are_long.false, c.are_long.ensures.is)))
    (subst (λ f. IsTrue c.have_elements.result ↔ All (Fits f) c.args.rows.now) c.field.ensures.is c.have_elements.ensures.is)
    (grind (arith, c.if-not-have_elements.false))
