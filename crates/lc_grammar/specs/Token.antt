-- How the bytes of a script are cut into tokens. Space, tab, carriage return and newline separate tokens, and so does a comment,
-- from # up to the next newline.
--   is_blank b, is_letter b, is_digit b, is_name_byte b      the classes of bytes
--   number_of text               the value of decimal digits
--   widest                       2^64 - 1, the greatest number of a script
--   token_at b bytes             the kind and the length of the token that begins with byte b, the bytes after it following;
--                                None if b begins no token
--   Ending                       how the tokens end: at the script's end, at a byte that begins no token, or at the first digit
--                                of a number above 2^64 - 1
--   Scanned                      the tokens up to there, and the ending
--   scan bytes                   the tokens of a script
--   text_of bytes token          the bytes of a token
use Rattle.std.specs.Prelude.{ℕ, zero, suc, ◌+◌, ◌-◌, ◌*◌, ◌^◌, Bool, true, false, not, nat_le, nat_lt, ◌==◌, ◌&&◌, ◌||◌, if◌then◌else◌, List, [], ◌∷◌, length, drop, slice_range, Option, Some, None}
use Rattle.std.specs.List.{prefix_len}
use Rattle.lc_grammar.specs.declared.TokenKind.{TokenKind}
use Rattle.lc_grammar.specs.declared.TokenKind.TheVariants.{Name, Number, Assign, Open, Close, OpenList, CloseList, Comma, End}
use Rattle.lc_grammar.specs.declared.Token.{Token}

unfoldable pub is_blank : ℕ → Bool
is_blank b = (b == 32) || ((b == 9) || ((b == 13) || (b == 10)))

unfoldable pub is_letter : ℕ → Bool
is_letter b = (nat_le 65 b && nat_le b 90) || (nat_le 97 b && nat_le b 122)

unfoldable pub is_digit : ℕ → Bool
is_digit b = nat_le 48 b && nat_le b 57

unfoldable pub is_name_byte : ℕ → Bool
is_name_byte b = is_letter b || (is_digit b || (b == 95))

unfoldable pub number_from : ℕ → List ℕ → ℕ
number_from n [] = n
number_from n (b ∷ text) = number_from (10 * n + (b - 48)) text

unfoldable pub number_of : List ℕ → ℕ
number_of text = number_from 0 text

unfoldable pub widest : ℕ
widest = 2 ^ 64 - 1

pub record Cut : Type 0 where
  pub kind : TokenKind
  pub bytes : ℕ

unfoldable pub cut_of : TokenKind → ℕ → Option Cut
cut_of kind bytes = Some (record { kind = kind; bytes = bytes })

-- a `:` begins a token only if `=` follows
unfoldable pub assign_at : List ℕ → Option Cut
assign_at [] = None
assign_at (b ∷ bytes) = (if b == 61 then cut_of Assign 2 else None)

unfoldable pub sign_at : ℕ → List ℕ → Option Cut
sign_at b bytes =
    if b == 58 then assign_at bytes else
    if b == 40 then cut_of Open 1 else
    if b == 41 then cut_of Close 1 else
    if b == 91 then cut_of OpenList 1 else
    if b == 93 then cut_of CloseList 1 else
    if b == 44 then cut_of Comma 1 else
    if b == 59 then cut_of End 1 else None

unfoldable pub token_at : ℕ → List ℕ → Option Cut
token_at b bytes =
    if is_letter b then cut_of Name (suc (prefix_len is_name_byte bytes)) else
    if is_digit b then cut_of Number (suc (prefix_len is_digit bytes)) else sign_at b bytes

pub data Ending : Type 0 where
  script_end : ℕ → Ending
  bad_token : ℕ → Ending
  too_wide : ℕ → Ending

pub record Scanned : Type 0 where
  pub tokens : List Token
  pub ending : Ending

unfoldable pub ended : Ending → Scanned
ended ending = record { tokens = []; ending = ending }

unfoldable pub token_first : Token → Scanned → Scanned
token_first token rest = record { tokens = token ∷ rest.tokens; ending = rest.ending }

unfoldable pub is_number : TokenKind → Bool
is_number Number = true
is_number _ = false

-- how many bytes from a # on belong to the comment
unfoldable pub comment_length : List ℕ → ℕ
comment_length bytes = prefix_len (λ b. not (b == 10)) bytes

-- the tokens of the bytes, the first of which stands at this offset; each step takes a byte at least, so that their number is enough
unfoldable pub scan_within : ℕ → ℕ → List ℕ → Scanned
scan_within zero offset bytes = ended (script_end offset)
scan_within (suc most) offset [] = ended (script_end offset)
scan_within (suc most) offset (b ∷ bytes) =
    elim (is_blank b) as (λ _. Scanned) [
      | true ↦ scan_within most (offset + 1) bytes
      | false ↦ elim (b == 35) as (λ _. Scanned) [
        | true ↦ scan_within most (offset + comment_length (b ∷ bytes)) (drop (comment_length (b ∷ bytes)) (b ∷ bytes))
        | false ↦ elim (token_at b bytes) as (λ _. Scanned) [
          | None ↦ ended (bad_token offset)
          | Some cut ↦ elim (is_number cut.kind && nat_lt widest (number_of (slice_range (b ∷ bytes) 0 cut.bytes))) as (λ _. Scanned) [
            | true ↦ ended (too_wide offset)
            | false ↦ token_first (record { kind = cut.kind; start = offset; end = offset + cut.bytes }) (scan_within most (offset + cut.bytes) (drop cut.bytes (b ∷ bytes)))
          ]
        ]
      ]
    ]

unfoldable pub scan : List ℕ → Scanned
scan bytes = scan_within (suc (length bytes)) 0 bytes

unfoldable pub text_of : List ℕ → Token → List ℕ
text_of bytes token = slice_range bytes token.start token.end
