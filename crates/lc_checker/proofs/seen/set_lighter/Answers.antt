use Rattle.std.proofs.Common.{◌≡◌, ◌<◌, ◌∙◌, length, All, sym, ap, subst, arith}
use Rattle.lc_algebra.specs.Matrix.{Matrix, IsSystematic, AreIndependentColumns}
use Rattle.lc_certificate.specs.Seen.{claim_of}
use Rattle.lc_checker.proofs.CheckLaws.{set_seen, some_told, not_none}
use Rattle.lc_checker.proofs.seen.set_lighter.Goals as goal

pub systematic_on-requires-clause-count : goal.systematic_on-requires-clause-count
unfolding claim_of
systematic_on-requires-clause-count c = ap length (c.deref-2.ensures.value ∙ c.in_ok-set.ensures.are ∙ c.deref.ensures.value) ∙ c.requires.set.many

pub systematic_on-requires-clause-inside : goal.systematic_on-requires-clause-inside
unfolding claim_of
systematic_on-requires-clause-inside c = subst (All (λ p. p < c.args.code.now.columns)) (sym (c.deref-2.ensures.value ∙ c.in_ok-set.ensures.are ∙ c.deref.ensures.value)) c.requires.inside

pub first_lighter-requires-clause-level : goal.first_lighter-requires-clause-level
unfolding claim_of
first_lighter-requires-clause-level c =
    let C = c.args.code.now in
    let sys = some_told (λ (m : Matrix). IsSystematic C.field C.columns C.rows c.deref-2.result.now m.rows) c.in_ok-generator.field-0 c.in-Some.generator c.in-Some.is c.in_ok-generator.ensures.systematic in
    let many = ap length (c.deref-2.ensures.value ∙ c.in_ok-set.ensures.are ∙ c.deref.ensures.value) ∙ c.requires.set.many in
    omega (arith, sys.count, many, c.min-level.ensures, c.rows-k.ensures.is)

pub first_lighter-requires-clause-rows : goal.first_lighter-requires-clause-rows
unfolding claim_of
first_lighter-requires-clause-rows c =
    let C = c.args.code.now in
    let sys = some_told (λ (m : Matrix). IsSystematic C.field C.columns C.rows c.deref-2.result.now m.rows) c.in_ok-generator.field-0 c.in-Some.generator c.in-Some.is c.in_ok-generator.ensures.systematic in
    let many = ap length (c.deref-2.ensures.value ∙ c.in_ok-set.ensures.are ∙ c.deref.ensures.value) ∙ c.requires.set.many in
    omega (arith, sys.count, many, c.requires.dimension)

pub returns-in-Some : goal.returns-in-Some
unfolding claim_of
returns-in-Some c =
    let C = c.args.code.now in
    let e = c.in_ok-generator.ensures in
    let sys = some_told (λ (m : Matrix). IsSystematic C.field C.columns C.rows c.deref-2.result.now m.rows) c.in_ok-generator.field-0 c.in-Some.generator c.in-Some.is e.systematic in
    let f = some_told (λ (m : Matrix). m.field ≡ C.field) c.in_ok-generator.field-0 c.in-Some.generator c.in-Some.is e.field in
    let n = some_told (λ (m : Matrix). m.columns ≡ C.columns) c.in_ok-generator.field-0 c.in-Some.generator c.in-Some.is e.columns in
    record { is = λ d h. c.in_ok-word-in-Some.ensures.is ∙ set_seen d C c.in-Some.generator c.deref-2.result.now (claim_of c.args.claim.now) c.args.distance c.rows-k.result c.min-level.result h c.requires.set.many c.rows-k.ensures.is c.min-level.ensures (c.deref-2.ensures.value ∙ c.in_ok-set.ensures.are ∙ c.deref.ensures.value) f n sys }

pub returns : goal.returns
unfolding claim_of
returns c =
    let C = c.args.code.now in
    let free = subst (AreIndependentColumns C.field C.rows) (sym (c.deref-2.ensures.value ∙ c.in_ok-set.ensures.are ∙ c.deref.ensures.value)) c.requires.set.free in
    record { is = λ d h. absurd (not_none c.in_ok-generator.field-0 c.in-None.is (c.in_ok-generator.ensures.exact.1 free)) }
