-- The line of a part has no newline.
--   AreShown text            no byte of the text is below 32
--   both_shown               two texts in a row
--   decimal_shown, decimals_shown, hex_shown      decimals, a list of them, and hexadecimal digits
--   line_shown               the line of a part that is in range
--   line_cut                 so the first line of such a line, a newline and more bytes is this line
use Rattle.std.proofs.Common.{◌≡◌, ℕ, zero, suc, ◌+◌, ◌/◌, ◌%◌, ◌<◌, ◌≤◌, Bool, true, false, nat_le, nat_lt, ◌==◌, ◌&&◌, if◌then◌else◌, List, [], ◌∷◌, ◌++◌, map, slice_index, get_or, codes, decimal, All, refl, sym, ap, subst, ◌∙◌, ⊎_elim, arith, append_assoc}
use Rattle.std.specs.Fmt.{digit_glyph, digits_onto, digits}
use Rattle.std.specs.List.{list_all, join_with_byte, slice_split}
use Rattle.std.proofs.lemmas.Bool.{cases_Bool, le-leb, leb-true, ne_eqb}
use Rattle.std.proofs.lemmas.List.Sums.{AllPass-from_list_all}
use Rattle.std.proofs.lemmas.List.Folds.{list_all-append}
use Rattle.std.proofs.lemmas.List.Splits.{slice_split_at}
use Rattle.sha2.specs.Sha256.{sha256}
use Rattle.hex.specs.Hex.{IsBytes, lower_digits, encode_with, encode_lower}
use Rattle.lc_formats.specs.Text.{bracketed, numbers_text, line}
use Rattle.lc_part_lines.specs.Line.{PartLine, line_body, headed, part_line}
use Rattle.lc_part_lines.specs.Pieces.{front_text, middle_text, back_text}
use Rattle.lc_part_lines.proofs.TextLaws.{body_thirds}
use Rattle.lc_join.proofs.LineLaws.{ends_line}

abbrev AreShown : List ℕ → Type 0
AreShown text = list_all (λ b. nat_le 32 b) text ≡ true

both_true : (a b : Bool) → a ≡ true → b ≡ true → a && b ≡ true
both_true true b e h = h
both_true false b e h = absurd cc

both_shown : (u v : List ℕ) → AreShown u → AreShown v → AreShown (u ++ v)
both_shown u v h k = list_all-append (λ b. nat_le 32 b) u v ∙ both_true _ _ h k

one_shown : (b : ℕ) (text : List ℕ) → 32 ≤ b → AreShown text → AreShown (b ∷ text)
one_shown b text l h = both_true (nat_le 32 b) _ (le-leb 32 b l) h

-- ---- numbers

glyph_least : (d : ℕ) → 32 ≤ digit_glyph false d
glyph_least d = ⊎_elim (λ t. subst least (sym t) (omega arith)) (λ t. subst least (sym t) (omega arith)) (cases_Bool (nat_lt d 10))
  where
    least : Bool → Type 0
    least b = 32 ≤ (if b then 48 + d else (if false then 55 + d else 87 + d))

digits_shown : (k n : ℕ) (text : List ℕ) → AreShown text → AreShown (digits_onto k 10 false n text)
digits_shown zero n text h = h
digits_shown (suc k) n text h =
    let more = one_shown (digit_glyph false (n % 10)) text (glyph_least (n % 10)) h in
    let goal = λ (b : Bool). AreShown (if b then digit_glyph false (n % 10) ∷ text else digits_onto k 10 false (n / 10) (digit_glyph false (n % 10) ∷ text)) in
    ⊎_elim (λ t. subst goal (sym t) more) (λ t. subst goal (sym t) (digits_shown k (n / 10) (digit_glyph false (n % 10) ∷ text) more)) (cases_Bool (n / 10 == 0))

decimal_shown : (n : ℕ) → AreShown (decimal n)
unfolding digits
decimal_shown n = digits_shown 64 n [] refl

joined_shown : (ns : List ℕ) → AreShown (join_with_byte 44 (map decimal ns))
joined_shown [] = refl
joined_shown (n ∷ []) = decimal_shown n
joined_shown (n ∷ m ∷ ns) = both_shown (decimal n) (44 ∷ join_with_byte 44 (map decimal (m ∷ ns))) (decimal_shown n) (joined_shown (m ∷ ns))

decimals_shown : (ns : List ℕ) → AreShown (numbers_text ns)
unfolding numbers_text bracketed
decimals_shown ns = both_shown (codes "[") (join_with_byte 44 (map decimal ns) ++ codes "]") refl (both_shown (join_with_byte 44 (map decimal ns)) (codes "]") (joined_shown ns) refl)

-- ---- digests

glyphs_shown : AreShown lower_digits
glyphs_shown = refl

hex_least : (i : ℕ) → i < 16 → 32 ≤ slice_index lower_digits i
hex_least i l = leb-true 32 (slice_index lower_digits i) (AllPass-from_list_all (λ b. nat_le 32 b) lower_digits glyphs_shown i 0 l)

hex_shown : (bytes : List ℕ) → IsBytes bytes → AreShown (encode_lower bytes)
unfolding encode_with
hex_shown [] h = refl
hex_shown (b ∷ bytes) h =
    one_shown (slice_index lower_digits (b / 16)) (slice_index lower_digits (b % 16) ∷ encode_lower bytes) (hex_least (b / 16) (omega (arith, h 0)))
    (one_shown (slice_index lower_digits (b % 16)) (encode_lower bytes) (hex_least (b % 16) (omega arith)) (hex_shown bytes (λ i. h (suc i))))

-- ---- the line

named_shown : (key : List ℕ) (n : ℕ) → AreShown key → AreShown (key ++ decimal n)
named_shown key n h = both_shown key (decimal n) h (decimal_shown n)

front_shown : (l : PartLine) → AreShown (front_text l)
unfolding front_text
front_shown l =
    let count = codes "{\"count\":" ++ decimal l.part.count in
    let divisor = codes ",\"divisor\":" ++ decimal l.facts.divisor in
    let first = codes ",\"first\":" ++ decimal l.facts.first in
    let from = codes ",\"from\":" ++ decimal l.part.start in
    let k = codes ",\"k\":" ++ decimal l.facts.k in
    both_shown count (divisor ++ (first ++ (from ++ k))) (named_shown (codes "{\"count\":") l.part.count refl)
    (both_shown divisor (first ++ (from ++ k)) (named_shown (codes ",\"divisor\":") l.facts.divisor refl)
    (both_shown first (from ++ k) (named_shown (codes ",\"first\":") l.facts.first refl)
    (both_shown from k (named_shown (codes ",\"from\":") l.part.start refl) (named_shown (codes ",\"k\":") l.facts.k refl))))

middle_shown : (l : PartLine) → AreShown (middle_text l)
unfolding middle_text
middle_shown l =
    let place = codes ",\"place\":" ++ decimal l.part.place in
    let q = codes ",\"q\":" ++ decimal l.facts.q in
    let ranks = codes ",\"ranks\":" ++ numbers_text l.facts.ranks in
    both_shown place (q ++ ranks) (named_shown (codes ",\"place\":") l.part.place refl)
    (both_shown q ranks (named_shown (codes ",\"q\":") l.facts.q refl)
    (both_shown (codes ",\"ranks\":") (numbers_text l.facts.ranks) refl (decimals_shown l.facts.ranks)))

back_shown : (l : PartLine) → IsBytes l.script → AreShown (back_text l)
unfolding back_text
back_shown l h =
    let version = codes "\",\"version\":" ++ decimal 1 in
    let weight = codes ",\"weight\":" ++ decimal l.part.weight in
    both_shown (codes ",\"script\":\"") (encode_lower l.script ++ (version ++ (weight ++ codes "}"))) refl
    (both_shown (encode_lower l.script) (version ++ (weight ++ codes "}")) (hex_shown l.script h)
    (both_shown version (weight ++ codes "}") (named_shown (codes "\",\"version\":") 1 refl)
    (both_shown weight (codes "}") (named_shown (codes ",\"weight\":") l.part.weight refl) refl)))

body_shown : (l : PartLine) → IsBytes l.script → AreShown (line_body l)
body_shown l h = subst AreShown (sym (body_thirds l h)) (both_shown (front_text l) (middle_text l ++ back_text l) (front_shown l) (both_shown (middle_text l) (back_text l) (middle_shown l) (back_shown l h)))

line_shown : (l : PartLine) → IsBytes l.script → IsBytes (sha256 (line_body l)) → AreShown (part_line l)
unfolding part_line headed
line_shown l h k = both_shown (encode_lower (sha256 (line_body l))) (32 ∷ line_body l) (hex_shown (sha256 (line_body l)) k) (body_shown l h)

none_ends : (text : List ℕ) → AreShown text → All (λ b. ends_line b ≡ false) text
none_ends text h = λ k d l.
    let least = leb-true 32 (get_or text k d) (AllPass-from_list_all (λ b. nat_le 32 b) text h k d l) in
    ne_eqb (get_or text k d) 10 (λ e. omega (arith, e, least))

pub line_cut : (l : PartLine) (rest : List ℕ) → IsBytes l.script → IsBytes (sha256 (line_body l)) → slice_split ends_line (line (part_line l) ++ rest) ≡ part_line l ∷ slice_split ends_line rest
unfolding line
line_cut l rest h k =
    ap (slice_split ends_line) (append_assoc (part_line l) (10 ∷ []) rest)
    ∙ slice_split_at ends_line (part_line l) 10 rest (none_ends (part_line l) (line_shown l h k)) refl
