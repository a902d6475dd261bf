-- The text of a checkpoint, piece by piece.
--   settled_none, settled_more      no settled needs, and some with a first one
--   settled_compact          their JSON text
--   hex_stands               hexadecimal digits stand for themselves in a string
--   body_halves              the text of a body
--   text_is                  the text of a checkpoint
use Rattle.std.proofs.Common.{◌≡◌, refl, ℕ, zero, suc, ◌/◌, ◌%◌, ◌<◌, ◌≤◌, ◌-◌, List, [], ◌∷◌, ◌++◌, length, get_or, slice_index, drop, take, map, flat_map, codes, decimal, arith, rules, ◌∙◌, ap, append_assoc}
use Rattle.std.proofs.lemmas.List.{length-map}
use Rattle.std.proofs.lemmas.Simd.{map-map}
use Rattle.sha2.specs.Sha256.{sha256}
use Rattle.hex.specs.Hex.{encode_lower, encode_with, lower_digits, IsBytes}
use Rattle.json.specs.Print.{escape_byte, escape}
use Rattle.serde_json.specs.Data.{array}
use Rattle.serde_json.specs.Written.{compact_text}
use Rattle.lc_enumeration.specs.Records.{Progress}
use Rattle.lc_formats.specs.Json.{number_json, items}
use Rattle.lc_formats.specs.Text.{bracketed}
use Rattle.lc_formats.specs.Checkpoint.{Checkpoint, settled_json, body_members, body_of, sealed, checkpoint_text}
use Rattle.lc_formats.proofs.ListTexts.{bracketed_none, bracketed_more}
use Rattle.lc_json.proofs.ListTexts.{compact_items, compact_numbers}
use Rattle.lc_checkpoint.specs.Pieces.{settled_text, settled_list_text, front_text, back_text}

pub settled_none : {A : Type 0} (f : A → Progress) (xs : List A) → length xs < 1 → settled_list_text (map f xs) ≡ codes "[]"
unfolding settled_list_text
settled_none f xs l = bracketed_none settled_text (map f xs) (rw (length-map xs f) l)

pub settled_more : {A : Type 0} (f : A → Progress) (xs : List A) (d : A) → 1 ≤ length xs → settled_list_text (map f xs) ≡ codes "[" ++ (settled_text (f (get_or xs 0 d)) ++ (flat_map (λ y. 44 ∷ settled_text (f y)) (take (length xs - 1) (drop 1 xs)) ++ codes "]"))
unfolding settled_list_text
settled_more f xs d l = ap bracketed (map-map settled_text f xs) ∙ bracketed_more (λ y. settled_text (f y)) xs d l

one_compact : (s : Progress) → compact_text (settled_json s) ≡ settled_text s
unfolding settled_json settled_text
one_compact s = compact_numbers (s.blocks ∷ s.weight ∷ s.place ∷ [])

map_compact : (ss : List Progress) → map (λ s. compact_text (settled_json s)) ss ≡ map settled_text ss
map_compact [] = refl
map_compact (s ∷ ss) = cc (one_compact s, map_compact ss)

pub settled_compact : (ss : List Progress) → compact_text (array (items (map settled_json ss))) ≡ settled_list_text ss
unfolding settled_list_text
settled_compact ss = compact_items settled_json ss ∙ ap bracketed (map_compact ss)

digit_stands : (n : ℕ) → n < 16 → escape_byte (slice_index lower_digits n) ≡ slice_index lower_digits n ∷ []
unfolding escape_byte
digit_stands zero l = refl
digit_stands (suc zero) l = refl
digit_stands (suc (suc zero)) l = refl
digit_stands (suc (suc (suc zero))) l = refl
digit_stands (suc (suc (suc (suc zero)))) l = refl
digit_stands (suc (suc (suc (suc (suc zero))))) l = refl
digit_stands (suc (suc (suc (suc (suc (suc zero)))))) l = refl
digit_stands (suc (suc (suc (suc (suc (suc (suc zero))))))) l = refl
digit_stands (suc (suc (suc (suc (suc (suc (suc (suc zero)))))))) l = refl
digit_stands (suc (suc (suc (suc (suc (suc (suc (suc (suc zero))))))))) l = refl
digit_stands (suc (suc (suc (suc (suc (suc (suc (suc (suc (suc zero)))))))))) l = refl
digit_stands (suc (suc (suc (suc (suc (suc (suc (suc (suc (suc (suc zero))))))))))) l = refl
digit_stands (suc (suc (suc (suc (suc (suc (suc (suc (suc (suc (suc (suc zero)))))))))))) l = refl
digit_stands (suc (suc (suc (suc (suc (suc (suc (suc (suc (suc (suc (suc (suc zero))))))))))))) l = refl
digit_stands (suc (suc (suc (suc (suc (suc (suc (suc (suc (suc (suc (suc (suc (suc zero)))))))))))))) l = refl
digit_stands (suc (suc (suc (suc (suc (suc (suc (suc (suc (suc (suc (suc (suc (suc (suc zero))))))))))))))) l = refl
digit_stands (suc (suc (suc (suc (suc (suc (suc (suc (suc (suc (suc (suc (suc (suc (suc (suc n)))))))))))))))) l = absurd (omega (arith, l))

both_stand : (d e : ℕ) (s t : List ℕ) → escape_byte d ≡ d ∷ [] → escape_byte e ≡ e ∷ [] → escape s ≡ t → escape_byte d ++ (escape_byte e ++ escape s) ≡ d ∷ e ∷ t
both_stand d e s t h k m = rw (h, k, m) refl

pub hex_stands : (bytes : List ℕ) → IsBytes bytes → escape (encode_lower bytes) ≡ encode_lower bytes
unfolding encode_with
hex_stands [] h = refl
hex_stands (b ∷ bytes) h =
    both_stand (slice_index lower_digits (b / 16)) (slice_index lower_digits (b % 16)) (encode_lower bytes) (encode_lower bytes) (digit_stands (b / 16) (omega (arith, h 0))) (digit_stands (b % 16) (omega arith)) (hex_stands bytes (λ i. h (suc i)))

-- the body with given texts of the settled needs and of the script
unfoldable flat : Checkpoint → List ℕ → List ℕ → List ℕ
flat p done script =
    codes "{\"blocks\":" ++ (decimal p.blocks ++ (codes ",\"budget\":" ++ (decimal p.budget ++ (codes ",\"done\":" ++ (done ++ (codes ",\"place\":" ++ (decimal p.place
    ++ (codes ",\"script\":\"" ++ (script ++ (codes "\",\"turn\":" ++ (decimal p.turn ++ (codes ",\"version\":" ++ (decimal p.version ++ (codes ",\"weight\":" ++ (decimal p.weight ++ codes "}")))))))))))))))

in_quotes : (h rest : List ℕ) → (h ++ 34 ∷ []) ++ rest ≡ h ++ 34 ∷ rest
in_quotes h rest = append_assoc h (34 ∷ []) rest

body_flat : (p : Checkpoint) → body_of p ≡ flat p (compact_text (array (items (map settled_json p.settled)))) (escape (encode_lower p.script))
unfolding body_of body_members number_json escape_byte flat
body_flat p =
    let done = compact_text (array (items (map settled_json p.settled))) in
    ap (λ t. codes "{\"blocks\":" ++ (decimal p.blocks ++ (codes ",\"budget\":" ++ (decimal p.budget ++ (codes ",\"done\":" ++ (done ++ (codes ",\"place\":" ++ (decimal p.place ++ (codes ",\"script\":\"" ++ t)))))))))
    (in_quotes (escape (encode_lower p.script)) (codes ",\"turn\":" ++ (decimal p.turn ++ (codes ",\"version\":" ++ (decimal p.version ++ (codes ",\"weight\":" ++ (decimal p.weight ++ codes "}")))))))

in_front : (a1 b1 a2 b2 a3 d a4 b4 s : List ℕ) → a1 ++ (b1 ++ (a2 ++ (b2 ++ (a3 ++ (d ++ (a4 ++ (b4 ++ s))))))) ≡ ((a1 ++ b1) ++ ((a2 ++ b2) ++ (a3 ++ (d ++ (a4 ++ b4))))) ++ s
in_front a1 b1 a2 b2 a3 d a4 b4 s = search (rules, append_assoc)

in_back : (a h a1 b1 a2 b2 a3 b3 e : List ℕ) → a ++ (h ++ (a1 ++ (b1 ++ (a2 ++ (b2 ++ (a3 ++ (b3 ++ e))))))) ≡ a ++ (h ++ ((a1 ++ b1) ++ ((a2 ++ b2) ++ ((a3 ++ b3) ++ e))))
in_back a h a1 b1 a2 b2 a3 b3 e = search (rules, append_assoc)

flat_halves : (p : Checkpoint) → flat p (settled_list_text p.settled) (encode_lower p.script) ≡ front_text p ++ back_text p
unfolding flat front_text back_text
flat_halves p =
    in_front (codes "{\"blocks\":") (decimal p.blocks) (codes ",\"budget\":") (decimal p.budget) (codes ",\"done\":") (settled_list_text p.settled) (codes ",\"place\":") (decimal p.place) (codes ",\"script\":\"" ++ (encode_lower p.script ++ (codes "\",\"turn\":" ++ (decimal p.turn ++ (codes ",\"version\":" ++ (decimal p.version ++ (codes ",\"weight\":" ++ (decimal p.weight ++ codes "}"))))))))
    ∙ ap (λ t. front_text p ++ t) (in_back (codes ",\"script\":\"") (encode_lower p.script) (codes "\",\"turn\":") (decimal p.turn) (codes ",\"version\":") (decimal p.version) (codes ",\"weight\":") (decimal p.weight) (codes "}"))

pub body_halves : (p : Checkpoint) → IsBytes p.script → body_of p ≡ front_text p ++ back_text p
body_halves p h =
    body_flat p
    ∙ ap (λ t. flat p t (escape (encode_lower p.script))) (settled_compact p.settled)
    ∙ ap (flat p (settled_list_text p.settled)) (hex_stands p.script h)
    ∙ flat_halves p

pub text_is : (p : Checkpoint) (seal body t : List ℕ) → body ≡ body_of p → seal ≡ encode_lower (sha256 body) → t ≡ seal ++ 10 ∷ body → t ≡ checkpoint_text p
unfolding checkpoint_text sealed
text_is p seal body t b s e = e ∙ ap (λ x. x ++ 10 ∷ body) s ∙ ap (λ x. encode_lower (sha256 x) ++ 10 ∷ x) b
