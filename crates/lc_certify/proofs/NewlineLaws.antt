-- A newline after the text of a value changes nothing.
--   token_lexemes, lexemes    the lexemes of a token, and of a list of tokens
--   lex_quoted, lex_token, lex_comma      the lexer on what is printed of a token
--   lex_printed               the lexer on printed tokens and a rest that has no lexemes
--   tokens_before_newline     so the tokens before a newline are those of the text alone
--   json_before_newline       and so is the value
use Rattle.std.proofs.Common.{◌≡◌, ℕ, Bool, true, false, cond, ◌&&◌, List, [], ◌∷◌, ◌++◌, refl, sym, ap, ap₂, ◌∙◌, append_assoc, append-nil, option_and_then}
use Rattle.std.proofs.lemmas.Str.{IsUtf8-append, is_utf8-from_IsUtf8}
use Rattle.json.specs.Token.{Token, begin_object, end_object, begin_array, end_array, key, string, number, boolean, null, bad}
use Rattle.json.specs.Word.{ends_word, word}
use Rattle.json.specs.Lex.{Lexeme, token, comma, colon, string_token, lex, between, fresh, punctuate, tokens}
use Rattle.json.specs.Print.{escape, quoted, token_text, begins, ends, print_from, print, IsPrintable, ArePrintable}
use Rattle.json.specs.Json as json
use Rattle.json.specs.Tree as tree
use Rattle.json.proofs.Printed.Strings.{content-escape, lex-escape}
use Rattle.json.proofs.Printed.Numbers.{lex-number, in_word-ended}
use Rattle.json.proofs.Printed.Trees.{ArePrintable-json_tokens}
use Rattle.json.proofs.Printed.Utf8.{IsUtf8-are_ascii}
use Rattle.serde_json.specs.Data.{Data}
use Rattle.serde_json.specs.Read.{of_json, max_depth}
use Rattle.serde_json.specs.Written.{outline, compact_text}
use Rattle.serde_json.proofs.Texts.{print-outline}
use Rattle.lc_formats.specs.Json.{json_in}
use Rattle.lc_formats.proofs.JsonLaws.{IsPlain, has_numbers, text_is_utf8}

abbrev token_lexemes : Token → List Lexeme
token_lexemes begin_object = token begin_object ∷ []
token_lexemes end_object = token end_object ∷ []
token_lexemes begin_array = token begin_array ∷ []
token_lexemes end_array = token end_array ∷ []
token_lexemes (key s) = token (string s) ∷ colon ∷ []
token_lexemes (string s) = token (string s) ∷ []
token_lexemes (number s) = token (number s) ∷ []
token_lexemes (boolean b) = token (boolean b) ∷ []
token_lexemes null = token null ∷ []
token_lexemes bad = []

abbrev lexemes : Bool → List Token → List Lexeme
lexemes c [] = []
lexemes c (t ∷ ts) = cond (c && begins t) (comma ∷ []) [] ++ (token_lexemes t ++ lexemes (ends t) ts)

after_value_ends : (ts : List Token) (r : List ℕ) → ends_word r ≡ true → ends_word (print_from true ts ++ r) ≡ true
unfolding print_from
after_value_ends [] r e = e
after_value_ends (begin_object ∷ ts) r e = refl
after_value_ends (end_object ∷ ts) r e = refl
after_value_ends (begin_array ∷ ts) r e = refl
after_value_ends (end_array ∷ ts) r e = refl
after_value_ends (key s ∷ ts) r e = refl
after_value_ends (string s ∷ ts) r e = refl
after_value_ends (number s ∷ ts) r e = refl
after_value_ends (boolean b ∷ ts) r e = refl
after_value_ends (null ∷ ts) r e = refl
after_value_ends (bad ∷ ts) r e = refl

lex_quoted : (s r : List ℕ) → lex between (quoted s ++ r) ≡ token (string s) ∷ lex between r
unfolding lex
lex_quoted s r =
    ap (λ l. lex between (34 ∷ l)) (append_assoc (escape s) (34 ∷ []) r) ∙ ap₂ (λ o l. token (string_token o) ∷ l) (content-escape s r) (lex-escape s r)

lex_token : (t : Token) (r : List ℕ) → IsPrintable t → (ends t ≡ true → ends_word r ≡ true) → lex between (token_text t ++ r) ≡ token_lexemes t ++ lex between r
unfolding lex word
lex_token begin_object r h ended = refl
lex_token end_object r h ended = refl
lex_token begin_array r h ended = refl
lex_token end_array r h ended = refl
lex_token (key s) r h ended = ap (lex between) (append_assoc (quoted s) (58 ∷ []) r) ∙ lex_quoted s (58 ∷ r)
lex_token (string s) r h ended = lex_quoted s r
lex_token (number s) r h ended = lex-number s r h (ended refl)
lex_token (boolean true) r h ended = ap₂ (λ b l. token (cond b (boolean true) bad) ∷ l) (ended refl) (in_word-ended r (ended refl))
lex_token (boolean false) r h ended = ap₂ (λ b l. token (cond b (boolean false) bad) ∷ l) (ended refl) (in_word-ended r (ended refl))
lex_token null r h ended = ap₂ (λ b l. token (cond b null bad) ∷ l) (ended refl) (in_word-ended r (ended refl))
lex_token bad r h ended = absurd h

lex_comma : (b : Bool) (r : List ℕ) → lex between (cond b (44 ∷ []) [] ++ r) ≡ cond b (comma ∷ []) [] ++ lex between r
unfolding lex
lex_comma true r = refl
lex_comma false r = refl

lex_printed : (c : Bool) (ts : List Token) (r : List ℕ) → ArePrintable ts → ends_word r ≡ true → lex between r ≡ [] → lex between (print_from c ts ++ r) ≡ lexemes c ts
unfolding print_from ArePrintable
lex_printed c [] r h e none = none
lex_printed c (t ∷ ts) r h e none =
    ap (lex between) (append_assoc (cond (c && begins t) (44 ∷ []) []) (token_text t ++ print_from (ends t) ts) r ∙ ap (λ l. cond (c && begins t) (44 ∷ []) [] ++ l) (append_assoc (token_text t) (print_from (ends t) ts) r))
    ∙ lex_comma (c && begins t) (token_text t ++ (print_from (ends t) ts ++ r))
    ∙ ap (λ l. cond (c && begins t) (comma ∷ []) [] ++ l)
    (lex_token t (print_from (ends t) ts ++ r) h.0 (λ q. ap (λ b. ends_word (print_from b ts ++ r)) q ∙ after_value_ends ts r e)
    ∙ ap (λ l. token_lexemes t ++ l) (lex_printed (ends t) ts r h.1 e none))

pub tokens_before_newline : (d : Data) → IsPlain d → tokens (compact_text d ++ 10 ∷ []) ≡ tokens (compact_text d)
unfolding lex
tokens_before_newline d h =
    let ts = tree.json_tokens (outline d) in
    let printable = ArePrintable-json_tokens (outline d) (has_numbers d h) in
    ap (λ t. tokens (t ++ 10 ∷ [])) (sym (print-outline d))
    ∙ ap (punctuate fresh) (lex_printed false ts (10 ∷ []) printable refl refl)
    ∙ sym (ap (punctuate fresh) (ap (lex between) (sym (print-outline d) ∙ sym (append-nil (print ts))) ∙ lex_printed false ts [] printable refl refl))

pub json_before_newline : (d : Data) → IsPlain d → json_in (compact_text d ++ 10 ∷ []) ≡ json_in (compact_text d)
unfolding json_in
json_before_newline d h =
    let utf8 = text_is_utf8 d h in
    let more = IsUtf8-append (compact_text d) (10 ∷ []) utf8 (IsUtf8-are_ascii (10 ∷ []) refl) in
    rw (is_utf8-from_IsUtf8 (compact_text d) utf8, is_utf8-from_IsUtf8 (compact_text d ++ 10 ∷ []) more)
    (ap (λ ts. option_and_then of_json (option_and_then (λ p. json.if_last p.0 p.1) (json.value max_depth ts))) (tokens_before_newline d h))
