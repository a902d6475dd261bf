-- The certificate by construction of an alternant form, for a word of its code whose weight is one more than the number of its checks.
--   form_unrefused         the parts of a form aren't refused, if its checks are no more than its points
--   form_valid             the certificate is valid for such a word
--   tree_line_reads        the line of a certificate by construction reads as the certificate
--   form_line_accepted     the line is accepted, with the minimum distance of the code
use Rattle.std.proofs.Common.{◌≡◌, ◌≢◌, ℕ, ◌+◌, ◌^◌, ◌<◌, ◌≤◌, true, false, not, nat_lt, ◌==◌, List, ◌++◌, length, codes, decimal, slice_index, EachIndex, AllPairs, None, option_map, refl, sym, ap, subst, ◌∙◌, ⊎_elim, arith}
use Rattle.std.specs.List.{list_any}
use Rattle.std.proofs.lemmas.List.{get_or_default}
use Rattle.std.proofs.lemmas.Bool.{cases_Bool, cases_lt, eqb-true, eq-eqb, le-ltb, or_from, not_from_true}
use Rattle.serde_json.specs.Data.{object}
use Rattle.lc_algebra.specs.declared.FieldName.{FieldName}
use Rattle.lc_algebra.specs.Field.{size}
use Rattle.lc_algebra.specs.Embedding.{first_that}
use Rattle.lc_algebra.specs.Word.{IsWord, weight}
use Rattle.lc_algebra.specs.Span.{IsDistance}
use Rattle.lc_algebra.specs.Matrix.{Matrix, IsReducedGenerator}
use Rattle.lc_algebra.proofs.EmbeddingLaws.{decides_subfield}
use Rattle.lc_algebra.proofs.SpanLaws.{span_word}
use Rattle.lc_algebra.proofs.SpanSearch.{any_contains}
use Rattle.lc_algebra.proofs.WordLaws.{weight_at_most_length}
use Rattle.lc_constructions.specs.Code.{InCode, IsCode}
use Rattle.lc_constructions.specs.Alternant.{AlternantForm, IsForm, IsFormOf, IsAlternantWord}
use Rattle.lc_constructions.specs.Refusal.{refusal_number, first_refusal}
use Rattle.lc_constructions.specs.Refusals.{are_elements, first_index, repeated_point, form_refusals}
use Rattle.lc_constructions.proofs.AlternantLaws.{form_weight_bound}
use Rattle.lc_constructions.proofs.InverseLaws.{found_before}
use Rattle.lc_constructions.proofs.RefusalLaws.{fits_elements}
use Rattle.lc_goppa.proofs.PointLaws.{repeated_none}
use Rattle.lc_goppa.proofs.RefusalLaws.{form_repeated}
use Rattle.lc_formats.specs.Certificate.{accepted}
use Rattle.lc_formats.specs.Check.{line_of_verdict}
use Rattle.lc_formats.specs.Claim.{Built, tree, built_members, built_text, form_certificate}
use Rattle.lc_formats.specs.ClaimMeaning.{capped, code_with, HasOwn, first_number, form_refusal_in, form_refusal, form_of, IsValidTree}
use Rattle.lc_formats.specs.Document.{document, document_in, document_of, IsShapedTree, IsCheckLine, IsCheckText}
use Rattle.lc_formats.specs.Json.{number_json}
use Rattle.lc_formats.specs.Text.{line}
use Rattle.lc_formats.proofs.CertificateBack.{symbol_size, symbols_small}
use Rattle.lc_formats.proofs.ClaimLaws.{valid_tree_accepted}
use Rattle.lc_formats.proofs.DocumentBack.{claim_plain, document_back}
use Rattle.lc_formats.proofs.JsonLaws.{IsPlain, plain_numbers}
use Rattle.lc_language.specs.Query.{form_line}
use Rattle.lc_trees.proofs.PartLaws.{field_found, outer_field}
use Rattle.lc_certify.proofs.NewlineLaws.{json_before_newline}
use Rattle.lc_eval.proofs.FormCertificateLaws.{form_shaped}
use Rattle.lc_script_laws.specs.Certified.{IsAcceptedForm}
use Rattle.lc_script_laws.specs.Shapes.{IsCodeOfRows}

-- ---- a form isn't refused

not_repeated : (xs : List ℕ) → AllPairs (λ a b. a ≢ b) xs → repeated_point xs ≡ None
unfolding first_index first_that
not_repeated xs distinct =
    sym (repeated_none xs (λ k l.
    ⊎_elim
    (λ (m : first_index xs k < k).
    let found = found_before (λ i. slice_index xs i == slice_index xs k) 0 (length xs) k (omega arith) (omega (arith, l)) (eq-eqb (slice_index xs k) (slice_index xs k) refl) in
    absurd (distinct (first_index xs k) k 0 m l (eqb-true (slice_index xs (first_index xs k)) (slice_index xs k) found.0)))
    (λ (m : k ≤ first_index xs k). m)
    (cases_lt (first_index xs k) k)))

no_zero : (ys : List ℕ) → EachIndex ys (λ i. 0 < slice_index ys i) → list_any (λ y. y == 0) ys ≡ false
no_zero ys h =
    ⊎_elim
    (λ (t : list_any (λ y. y == 0) ys ≡ true).
    let (y, (i, l, at), zero) = any_contains (λ y. y == 0) ys t in
    absurd (omega (arith, h i l, get_or_default ys i 0 y l, at, eqb-true y 0 zero)))
    (λ (t : list_any (λ y. y == 0) ys ≡ false). t)
    (cases_Bool (list_any (λ y. y == 0) ys))

pub form_unrefused : (f : FieldName) (form : AlternantForm) → IsForm f form → form.r ≤ length form.points → first_refusal (form_refusals f form.locator (nat_lt (length form.points) form.r) form.points form.multipliers) ≡ None
form_unrefused f form h few =
    let K = form.locator in
    let xs = form.points in
    let ys = form.multipliers in
    let multiplied = or_from (not (are_elements K ys)) (list_any (λ y. y == 0) ys) (not_from_true (are_elements K ys) (fits_elements K ys h.multipliers)) (no_zero ys h.nonzero) in
    form_repeated f K (nat_lt (length xs) form.r) xs ys h.symbol ((decides_subfield f K).1 h.subfield) h.length_is (sym h.count) (le-ltb (length xs) form.r few) (fits_elements K xs h.points) multiplied
    ∙ not_repeated xs h.distinct

unrefused_claim : (f : FieldName) (form : AlternantForm) → IsForm f form → form.r ≤ length form.points → form_refusal f (size form.locator) form.points form.multipliers form.r ≡ None
unfolding form_refusal form_refusal_in first_number
unrefused_claim f form h few =
    ap (λ o. form_refusal_in f o form.points form.multipliers form.r) (field_found form.locator)
    ∙ ap (option_map refusal_number) (form_unrefused f form h few)

same_form : (f : FieldName) (form : AlternantForm) → form ≡ form_of f (size form.locator) form.points form.multipliers form.r
unfolding form_of
same_form f form = ap (λ K. record { locator = K; points = form.points; multipliers = form.multipliers; r = form.r }) (sym (outer_field f form.locator (size form.locator) refl))

-- ---- its certificate

module _ (C : Matrix) (form : AlternantForm) (x : List ℕ) (rows : IsCodeOfRows C) (h : IsFormOf C form) (inside : InCode C x) (attains : weight x ≡ form.r + 1) where
  word : IsWord C.field C.columns x
  word = span_word C.field C.columns C.rows x rows.rows inside

  few : form.r + 1 ≤ C.columns
  few = omega (arith, attains, weight_at_most_length x, word.long)

  form_code : IsCode C.field (length form.points) (IsAlternantWord C.field form) C
  form_code = record {
    over = refl;
    length_is = sym h.length_is;
    generator = subst (λ n. IsReducedGenerator C.field n (IsAlternantWord C.field form) C.rows) (sym h.length_is) (record { members = h.words; reduced = rows.reduced; words = rows.rows });
  }

  pub form_valid : IsValidTree (form_certificate C.field form x)
  unfolding form_certificate capped
  form_valid =
      let n = length form.points in
      let claimed : AlternantForm = form_of C.field (size form.locator) form.points form.multipliers form.r in
      let code : IsCode C.field n (IsAlternantWord C.field claimed) C = subst (λ g. IsCode C.field n (IsAlternantWord C.field g) C) (same_form C.field form) form_code in
      let refusal = unrefused_claim C.field form h.form_is (omega (arith, few, h.length_is)) in
      record {
        code = C;
        bound = capped (form.r + 1);
        denotes = subst (λ o. HasOwn 0 o C.field n (IsAlternantWord C.field claimed) (form.r + 1) (code_with C (capped (form.r + 1)))) (sym refusal) (C, code, refl);
        inside = inside;
        attains = attains;
        reaches = omega (arith, few, rows.long);
      }

-- ---- the line

tree_plain : (b : Built) → IsShapedTree b → IsPlain (object (built_members b))
unfolding built_members number_json
tree_plain b h =
    let small : size b.field < 2 ^ 64 = omega (arith, symbol_size b.field h.field_fits) in
    let symbols = plain_numbers b.word (symbols_small b.field (length b.word) b.word h.field_fits (record { long = refl; fits = h.word_fits })) in
    ((refl, claim_plain b.field b.claim h.field_fits h.claims_fit, (refl, h.distance_fits, (refl, small, (refl, omega arith, (refl, symbols, tt))))), (tt, ((refl, tt), ((refl, (refl, tt)), ((refl, (refl, (refl, tt))), ((refl, (refl, (refl, (refl, tt)))), tt))))))

pub tree_line_reads : (b : Built) → IsShapedTree b → document_in (line (built_text b)) ≡ document (tree b)
unfolding document_in line built_text
tree_line_reads b h = ap document_of (json_before_newline (object (built_members b)) (tree_plain b h)) ∙ document_back b h

told : (b : Built) → IsShapedTree b → IsValidTree b → IsCheckText (line (built_text b)) (line (codes "accepted distance " ++ decimal b.distance))
unfolding line_of_verdict
told b h v = subst (λ read. IsCheckLine read (line (codes "accepted distance " ++ decimal b.distance))) (sym (tree_line_reads b h)) (accepted, valid_tree_accepted b v, refl)

pub form_line_accepted : (C : Matrix) (form : AlternantForm) (x : List ℕ) → IsCodeOfRows C → IsFormOf C form → InCode C x → weight x ≡ form.r + 1 → IsAcceptedForm C form x (form_line C form x)
unfolding form_line form_certificate
form_line_accepted C form x rows h inside attains =
    let shaped = form_shaped C C.field form x (form_certificate C.field form x) h (omega (arith, few C form x rows h inside attains, rows.long)) (word C form x rows h inside attains) refl refl in
    let valid = form_valid C form x rows h inside attains in
    let least : IsDistance C.field C.columns C.rows (form.r + 1) = record { attained = (x, inside, omega (arith, attains), attains); least = form_weight_bound C form h } in
    record { line_is = refl; valid = valid; least = least; accepted = told (form_certificate C.field form x) shaped valid }
