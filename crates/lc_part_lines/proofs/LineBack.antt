-- A line in range is read back from its text.
--   size_small               the size of a symbol field is at most 16
--   facts_back, part_back    what the members state is what was written
--   body_plain, body_shallow      the body's value is a plain one, and not deep
--   rest_is                  what follows the seal and the blank is the body
--   line_back                the line reads as what it was written for
use Rattle.std.proofs.Common.{◌≡◌, ℕ, ◌+◌, ◌-◌, ◌^◌, ◌<◌, ◌≤◌, true, nat_le, ◌==◌, ◌&&◌, if◌then◌else◌, List, ◌∷◌, ◌++◌, length, drop, slice_index, codes, All, Option, Some, None, is_some, find, refl, ap, ◌∙◌, arith}
use Rattle.std.specs.List.{list_all}
use Rattle.std.proofs.Math.Seq.{drop-append-add}
use Rattle.std.proofs.lemmas.Bool.{and_from, and_parts, le-leb, leb-true, eqb-true, false≢true}
use Rattle.std.proofs.lemmas.List.{length-append}
use Rattle.sha2.specs.Sha256.{sha256}
use Rattle.hex.specs.Hex.{encode_lower}
use Rattle.serde_json.specs.Data.{object, depth}
use Rattle.lc_algebra.specs.declared.FieldName.{FieldName}
use Rattle.lc_algebra.specs.Field.{size, is_symbol}
use Rattle.lc_constructions.specs.Cyclic.{all_fields}
use Rattle.lc_formats.specs.Text.{same_bytes}
use Rattle.lc_formats.specs.Json.{number_json, number_at, list_at, member_count, json_in}
use Rattle.lc_formats.specs.Document.{symbol_field}
use Rattle.lc_formats.specs.Checkpoint.{damaged, script_in}
use Rattle.lc_formats.proofs.JsonLaws.{IsPlain, plain_numbers, numbers_shallow, numbers_back, json_back}
use Rattle.lc_formats.proofs.CertificateBack.{provided_some}
use Rattle.lc_formats.proofs.CertificateShaped.{find_passes}
use Rattle.lc_formats.proofs.CheckpointBack.{same_itself, hex_is_ascii, digest_back, numbers_up_to, seal_length}
use Rattle.lc_formats.proofs.TestLaws.{all_holds}
use Rattle.lc_parts.specs.Part.{Part, Facts}
use Rattle.lc_part_lines.specs.Line.{PartLine, line_members, line_body, headed, part_line, are_ranks, AreFacts, IsPart, IsInRange, line_is, refused, is_headed, size_in, facts_from, facts_at, part_from, part_at, line_from, line_in, line_or_shape, versioned, body_in, part_in}

pub size_small : (q : ℕ) → is_some (symbol_field q) ≡ true → q ≤ 16
unfolding symbol_field is_symbol
size_small q h = found (find (λ f. (size f == q) && is_symbol f) all_fields) refl h
  where
    found : (o : Option FieldName) → find (λ f. (size f == q) && is_symbol f) all_fields ≡ o → is_some o ≡ true → q ≤ 16
    found None e h = absurd (false≢true h)
    found (Some f) e h =
        let s = and_parts (size f == q) (is_symbol f) (find_passes (λ f. (size f == q) && is_symbol f) all_fields f e) in
        omega (arith, eqb-true (size f) q s.0, leb-true (size f) 16 s.1)

ranks_small : (k : ℕ) (ranks : List ℕ) → k ≤ 255 → are_ranks k ranks ≡ true → All (λ n. n < 2 ^ 64) ranks
unfolding are_ranks
ranks_small k ranks few e =
    let one = and_parts (nat_le 1 (length ranks)) _ e in
    let two = and_parts (slice_index ranks 0 == k) _ one.1 in
    let three = and_parts (nat_le (length ranks) 255) (list_all (λ r. nat_le r k) ranks) two.1 in
    all_holds (λ r. nat_le r k) (λ n. n < 2 ^ 64) (λ r h. omega (arith, few, leb-true r k h)) ranks three.1

pub facts_back : (l : PartLine) → AreFacts l.facts → facts_at (line_members l) ≡ Some l.facts
unfolding line_members number_at number_json list_at facts_at facts_from size_in
facts_back l h =
    let f = l.facts in
    rw (numbers_up_to 1 255 f.k h.some h.few)
    (rw (provided_some (λ q. is_some (symbol_field q)) f.q h.field)
    (rw (numbers_up_to 1 255 f.divisor h.divides h.small)
    (rw (numbers_up_to 1 255 f.first h.nonzero h.light)
    (rw (numbers_back f.ranks)
    (provided_some (λ f. are_ranks f.k f.ranks) f h.ranks)))))

pub part_back : (l : PartLine) → IsPart l.part → part_at (line_members l) ≡ Some l.part
unfolding line_members number_at number_json part_at part_from
part_back l h =
    let p = l.part in
    rw (numbers_up_to 0 (2 ^ 40) p.start (omega arith) (omega (arith, h.inside)))
    (rw (numbers_up_to 1 (2 ^ 40) p.count h.some (omega (arith, h.inside)))
    (rw (numbers_up_to 1 255 p.weight h.nonzero h.light)
    (rw (numbers_up_to 0 (2 ^ 52 - 1) p.place (omega arith) (omega (arith, h.near)))
    (provided_some (λ p. nat_le (p.start + p.count) (2 ^ 40)) p (le-leb (p.start + p.count) (2 ^ 40) h.inside)))))

script_back : (l : PartLine) → IsInRange l → script_in (line_members l) ≡ Some l.script
unfolding line_members script_in
script_back l h = digest_back l.script h.digest h.bytes

made : (l : PartLine) (script : Option (List ℕ)) (part : Option Part) (facts : Option Facts) → script ≡ Some l.script → part ≡ Some l.part → facts ≡ Some l.facts → line_from script part facts ≡ Some l
unfolding line_from
made l script part facts a b c = rw (a, b, c) refl

counted : (l : PartLine) → (member_count (line_members l) == 11) ≡ true
unfolding line_members member_count
counted l = refl

pub members_back : (l : PartLine) → IsInRange l → line_in (line_members l) ≡ Some l
unfolding line_in
members_back l h = rw (counted l) (made l _ _ _ (script_back l h) (part_back l h.part) (facts_back l h.facts))

version_is : (l : PartLine) → number_at (codes "version") (line_members l) ≡ Some 1
unfolding line_members number_at number_json
version_is l = refl

body_back : (l : PartLine) → IsInRange l → body_in (Some (object (line_members l))) ≡ line_is l
unfolding body_in versioned line_or_shape
body_back l h = rw (version_is l) (ap line_or_shape (members_back l h))

pub body_plain : (l : PartLine) → IsInRange l → IsPlain (object (line_members l))
unfolding line_members number_json
body_plain l h =
    let p = h.part in
    let f = h.facts in
    let ranks = plain_numbers l.facts.ranks (ranks_small l.facts.k l.facts.ranks f.few f.ranks) in (
      (refl, omega (arith, p.inside), (refl, omega (arith, f.small), (refl, omega (arith, f.light), (refl, omega (arith, p.inside), (refl, omega (arith, f.few), (refl, omega (arith, p.near), (refl, omega (arith, size_small l.facts.q f.field), (refl, ranks, (refl, hex_is_ascii l.script, (refl, omega arith, (refl, omega (arith, p.light), tt))))))))))),
      (tt, ((refl, tt), ((refl, (refl, tt)), ((refl, (refl, (refl, tt))), ((refl, (refl, (refl, (refl, tt)))), ((refl, (refl, (refl, (refl, (refl, tt))))), ((refl, (refl, (refl, (refl, (refl, (refl, tt)))))), ((refl, (refl, (refl, (refl, (refl, (refl, (refl, tt))))))), ((refl, (refl, (refl, (refl, (refl, (refl, (refl, (refl, tt)))))))), ((refl, (refl, (refl, (refl, (refl, (refl, (refl, (refl, (refl, tt))))))))), ((refl, (refl, (refl, (refl, (refl, (refl, (refl, (refl, (refl, (refl, tt)))))))))), tt))))))))))),
    )

body_shallow : (l : PartLine) → depth (object (line_members l)) ≤ 2
unfolding line_members number_json
body_shallow l = omega (arith, numbers_shallow l.facts.ranks)

long : (body : List ℕ) → 65 ≤ length (headed body)
unfolding headed
long body = omega (arith, length-append (encode_lower (sha256 body)) (32 ∷ body), seal_length body)

pub rest_is : (body : List ℕ) → drop 65 (headed body) ≡ body
unfolding headed
rest_is body =
    let seam : 65 ≡ length (encode_lower (sha256 body)) + 1 = omega (arith, seal_length body) in
    ap (λ n. drop n (encode_lower (sha256 body) ++ 32 ∷ body)) seam ∙ drop-append-add (encode_lower (sha256 body)) (32 ∷ body) 1

headed_is : (body : List ℕ) → is_headed (headed body) ≡ true
unfolding is_headed
headed_is body =
    and_from _ _ (le-leb 65 (length (headed body)) (long body))
    (ap (λ rest. same_bytes (headed body) (headed rest)) (rest_is body) ∙ same_itself (headed body))

pub line_back : (l : PartLine) → IsInRange l → part_in (part_line l) ≡ line_is l
unfolding part_in part_line line_body
line_back l h =
    ap (λ b. if b then body_in (json_in (drop 65 (headed (line_body l)))) else refused damaged) (headed_is (line_body l))
    ∙ ap (λ body. body_in (json_in body)) (rest_is (line_body l))
    ∙ ap body_in (json_back (object (line_members l)) (body_plain l h) (omega (arith, body_shallow l)))
    ∙ body_back l h
