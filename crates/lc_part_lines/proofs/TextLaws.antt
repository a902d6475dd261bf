-- The text of a part's line, piece by piece.
--   four                     a text that grows by four pieces
--   body_thirds, body_made   the text of a body
--   text_is                  the text of a line
use Rattle.std.proofs.Common.{◌≡◌, ℕ, List, [], ◌∷◌, ◌++◌, codes, decimal, rules, ◌∙◌, ap, sym, append_assoc}
use Rattle.sha2.specs.Sha256.{sha256}
use Rattle.hex.specs.Hex.{encode_lower, IsBytes}
use Rattle.json.specs.Print.{escape_byte, escape}
use Rattle.serde_json.specs.Written.{compact_text}
use Rattle.lc_formats.specs.Json.{number_json, numbers_json}
use Rattle.lc_formats.specs.Text.{numbers_text}
use Rattle.lc_json.proofs.ListTexts.{compact_numbers}
use Rattle.lc_checkpoint.proofs.TextLaws.{hex_stands}
use Rattle.lc_part_lines.specs.Line.{PartLine, line_members, line_body, headed, part_line}
use Rattle.lc_part_lines.specs.Pieces.{front_text, middle_text, back_text}

pub four : (t0 t1 t2 t3 t4 a b c d : List ℕ) → t1 ≡ t0 ++ a → t2 ≡ t1 ++ b → t3 ≡ t2 ++ c → t4 ≡ t3 ++ d → t4 ≡ t0 ++ (a ++ (b ++ (c ++ d)))
four t0 t1 t2 t3 t4 a b c d p q r s = search (rules, append_assoc)

-- the body with given texts of the ranks and of the script
unfoldable flat : PartLine → List ℕ → List ℕ → List ℕ
flat l ranks script =
    codes "{\"count\":" ++ (decimal l.part.count ++ (codes ",\"divisor\":" ++ (decimal l.facts.divisor ++ (codes ",\"first\":" ++ (decimal l.facts.first ++ (codes ",\"from\":" ++ (decimal l.part.start ++ (codes ",\"k\":" ++ (decimal l.facts.k
    ++ (codes ",\"place\":" ++ (decimal l.part.place ++ (codes ",\"q\":" ++ (decimal l.facts.q ++ (codes ",\"ranks\":" ++ (ranks
    ++ (codes ",\"script\":\"" ++ (script ++ (codes "\",\"version\":" ++ (decimal 1 ++ (codes ",\"weight\":" ++ (decimal l.part.weight ++ codes "}")))))))))))))))))))))

in_quotes : (h rest : List ℕ) → (h ++ 34 ∷ []) ++ rest ≡ h ++ 34 ∷ rest
in_quotes h rest = append_assoc h (34 ∷ []) rest

body_flat : (l : PartLine) → line_body l ≡ flat l (compact_text (numbers_json l.facts.ranks)) (escape (encode_lower l.script))
unfolding line_body line_members number_json escape_byte flat
body_flat l =
    let ranks = compact_text (numbers_json l.facts.ranks) in
    ap (λ t. codes "{\"count\":" ++ (decimal l.part.count ++ (codes ",\"divisor\":" ++ (decimal l.facts.divisor ++ (codes ",\"first\":" ++ (decimal l.facts.first ++ (codes ",\"from\":" ++ (decimal l.part.start ++ (codes ",\"k\":" ++ (decimal l.facts.k
    ++ (codes ",\"place\":" ++ (decimal l.part.place ++ (codes ",\"q\":" ++ (decimal l.facts.q ++ (codes ",\"ranks\":" ++ (ranks ++ (codes ",\"script\":\"" ++ t)))))))))))))))))
    (in_quotes (escape (encode_lower l.script)) (codes ",\"version\":" ++ (decimal 1 ++ (codes ",\"weight\":" ++ (decimal l.part.weight ++ codes "}")))))

in_front : (a1 b1 a2 b2 a3 b3 a4 b4 a5 b5 s : List ℕ) → a1 ++ (b1 ++ (a2 ++ (b2 ++ (a3 ++ (b3 ++ (a4 ++ (b4 ++ (a5 ++ (b5 ++ s))))))))) ≡ ((a1 ++ b1) ++ ((a2 ++ b2) ++ ((a3 ++ b3) ++ ((a4 ++ b4) ++ (a5 ++ b5))))) ++ s
in_front a1 b1 a2 b2 a3 b3 a4 b4 a5 b5 s = search (rules, append_assoc)

in_middle : (a1 b1 a2 b2 a3 d s : List ℕ) → a1 ++ (b1 ++ (a2 ++ (b2 ++ (a3 ++ (d ++ s))))) ≡ ((a1 ++ b1) ++ ((a2 ++ b2) ++ (a3 ++ d))) ++ s
in_middle a1 b1 a2 b2 a3 d s = search (rules, append_assoc)

in_back : (a h a1 b1 a2 b2 e : List ℕ) → a ++ (h ++ (a1 ++ (b1 ++ (a2 ++ (b2 ++ e))))) ≡ a ++ (h ++ ((a1 ++ b1) ++ ((a2 ++ b2) ++ e)))
in_back a h a1 b1 a2 b2 e = search (rules, append_assoc)

flat_thirds : (l : PartLine) → flat l (numbers_text l.facts.ranks) (encode_lower l.script) ≡ front_text l ++ (middle_text l ++ back_text l)
unfolding flat front_text middle_text back_text
flat_thirds l =
    let back = codes ",\"script\":\"" ++ (encode_lower l.script ++ (codes "\",\"version\":" ++ (decimal 1 ++ (codes ",\"weight\":" ++ (decimal l.part.weight ++ codes "}"))))) in
    let middle = codes ",\"place\":" ++ (decimal l.part.place ++ (codes ",\"q\":" ++ (decimal l.facts.q ++ (codes ",\"ranks\":" ++ (numbers_text l.facts.ranks ++ back))))) in
    in_front (codes "{\"count\":") (decimal l.part.count) (codes ",\"divisor\":") (decimal l.facts.divisor) (codes ",\"first\":") (decimal l.facts.first) (codes ",\"from\":") (decimal l.part.start) (codes ",\"k\":") (decimal l.facts.k) middle
    ∙ ap (λ t. front_text l ++ t) (in_middle (codes ",\"place\":") (decimal l.part.place) (codes ",\"q\":") (decimal l.facts.q) (codes ",\"ranks\":") (numbers_text l.facts.ranks) back)
    ∙ ap (λ t. front_text l ++ (middle_text l ++ t)) (in_back (codes ",\"script\":\"") (encode_lower l.script) (codes "\",\"version\":") (decimal 1) (codes ",\"weight\":") (decimal l.part.weight) (codes "}"))

pub body_thirds : (l : PartLine) → IsBytes l.script → line_body l ≡ front_text l ++ (middle_text l ++ back_text l)
body_thirds l h =
    body_flat l
    ∙ ap (λ t. flat l t (escape (encode_lower l.script))) (compact_numbers l.facts.ranks)
    ∙ ap (flat l (numbers_text l.facts.ranks)) (hex_stands l.script h)
    ∙ flat_thirds l

pub body_made : (l : PartLine) (t0 t1 t2 t3 : List ℕ) → IsBytes l.script → t0 ≡ [] → t1 ≡ t0 ++ front_text l → t2 ≡ t1 ++ middle_text l → t3 ≡ t2 ++ back_text l → t3 ≡ line_body l
body_made l t0 t1 t2 t3 h e0 e1 e2 e3 =
    e3
    ∙ ap (λ t. t ++ back_text l) (e2 ∙ ap (λ t. t ++ middle_text l) (e1 ∙ ap (λ t. t ++ front_text l) e0))
    ∙ append_assoc (front_text l) (middle_text l) (back_text l)
    ∙ sym (body_thirds l h)

pub text_is : (l : PartLine) (seal body t : List ℕ) → body ≡ line_body l → seal ≡ encode_lower (sha256 body) → t ≡ seal ++ 32 ∷ body → t ≡ part_line l
unfolding part_line headed
text_is l seal body t b s e = e ∙ ap (λ x. x ++ 32 ∷ body) s ∙ ap (λ x. encode_lower (sha256 x) ++ 32 ∷ x) b
