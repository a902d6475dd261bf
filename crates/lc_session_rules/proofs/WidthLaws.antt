-- How many bytes the tokens of a script take.
--   width t, widths ts       the bytes of a token, and of several
--   AreWide ts               each has a byte at least
--   widths-append, wide_left, wide_right      of some tokens and others
--   expr_wide, list_wide     an expression takes a byte at least, and several take one more for each comma
--   statement_wide           a statement of a call takes its name, the parentheses, the arguments and the semicolon
--   tokens_wide              the tokens of a script are wide, and take no more bytes than it has
use Rattle.std.proofs.Common.{◌≡◌, ℕ, zero, suc, ◌+◌, ◌-◌, ◌*◌, ◌≤◌, Bool, true, false, ◌==◌, ◌&&◌, nat_lt, List, [], ◌∷◌, ◌++◌, length, drop, Option, Some, None, refl, ap, subst, ◌∙◌, arith}
use Rattle.std.specs.Prelude.{slice_range, if◌then◌else◌, ⊤}
use Rattle.std.specs.List.{prefix_len}
use Rattle.std.proofs.lemmas.List.{length-drop, length-take}
use Rattle.std.proofs.lemmas.List.Sums.{prefix_len-le-length}
use Rattle.lc_grammar.specs.declared.TokenKind.{TokenKind}
use Rattle.lc_grammar.specs.declared.TokenKind.TheVariants.{Name, Number, Assign, Open, Close, OpenList, CloseList, Comma, End}
use Rattle.lc_grammar.specs.declared.Token.{Token}
use Rattle.lc_grammar.specs.Token.{is_blank, is_letter, is_digit, is_name_byte, number_of, widest, Cut, cut_of, assign_at, sign_at, token_at, Scanned, script_end, bad_token, too_wide, ended, token_first, is_number, comment_length, scan_within, scan, text_of}
use Rattle.lc_grammar.specs.Tree.{Expr, Exprs, number, name, call, list, none, more, Statement, count_of}
use Rattle.lc_grammar.specs.Grammar.{IsExpr, IsList, IsStatement}

abbrev pub width : Token → ℕ
width t = t.end - t.start

abbrev pub widths : List Token → ℕ
widths [] = 0
widths (t ∷ ts) = width t + widths ts

abbrev pub AreWide : List Token → Type 0
AreWide [] = ⊤
AreWide (t ∷ ts) = (1 ≤ width t) × AreWide ts

pub widths-append : (ts us : List Token) → widths (ts ++ us) ≡ widths ts + widths us
widths-append [] us = omega arith
widths-append (t ∷ ts) us = (let e = widths-append ts us in omega (arith, e))

pub wide_left : (ts us : List Token) → AreWide (ts ++ us) → AreWide ts
wide_left [] us w = tt
wide_left (t ∷ ts) us w = (w.0, wide_left ts us w.1)

pub wide_right : (ts us : List Token) → AreWide (ts ++ us) → AreWide us
wide_right [] us w = w
wide_right (t ∷ ts) us w = wide_right ts us w.1

first_wide : (ts : List Token) (t : Token) (us : List Token) → AreWide ts → ts ≡ t ∷ us → 1 ≤ widths ts
first_wide [] t us w e = absurd (let f = e in cc)
first_wide (u ∷ ts) t us w e = (let l = w.0 in omega (arith, l))

pub expr_wide : (bytes : List ℕ) (ts : List Token) (e : Expr) → AreWide ts → IsExpr bytes ts e → 1 ≤ widths ts
expr_wide bytes ts (number offset n) w (t, split, is) = first_wide ts t [] w split
expr_wide bytes ts (name offset x) w (t, split, is) = first_wide ts t [] w split
expr_wide bytes ts (call offset x es) w (t, (rest, split, is, more_of)) = first_wide ts t rest w split
expr_wide bytes ts (list offset es) w (first, (inner, (last, between, stands, is))) = first_wide ts first (inner ++ last ∷ []) w between.all

pub list_wide : (bytes : List ℕ) (ts : List Token) (es : Exprs) → AreWide ts → IsList bytes ts es → 2 * count_of es ≤ widths ts + 1
unfolding count_of
list_wide bytes ts none w h = omega arith
list_wide bytes ts (more e none) w h = (let l = expr_wide bytes ts e w h in omega (arith, l))
list_wide bytes ts (more e (more next es)) w (us, (comma, (vs, split, kind, is, are))) =
    let all : AreWide (us ++ comma ∷ vs) = subst AreWide split w in
    let right = wide_right us (comma ∷ vs) all in
    let sum : widths ts ≡ widths us + widths (comma ∷ vs) = ap widths split ∙ widths-append us (comma ∷ vs) in
    let l = expr_wide bytes us e (wide_left us (comma ∷ vs) all) is in
    let r = list_wide bytes vs (more next es) right.1 are in
    let c = right.0 in
    omega (arith, sum, l, r, c)

name_width : (bytes : List ℕ) (t : Token) → length (text_of bytes t) ≤ width t
unfolding text_of
name_width bytes t = (let l = length-take (t.end - t.start) (drop t.start bytes) in omega (arith, l))

-- what a call takes
call_wide : (bytes : List ℕ) (ts : List Token) (offset : ℕ) (x : List ℕ) (es : Exprs) → AreWide ts → IsExpr bytes ts (call offset x es) → length x + 2 * count_of es + 1 ≤ widths ts
call_wide bytes ts offset x es w (t, (rest, split, named, (first, (inner, (last, between, are))))) =
    let all : AreWide (t ∷ rest) = subst AreWide split w in
    let outer : AreWide (first ∷ (inner ++ last ∷ [])) = subst AreWide between.all all.1 in
    let ends = wide_right inner (last ∷ []) outer.1 in
    let l = list_wide bytes inner es (wide_left inner (last ∷ []) outer.1) are in
    let name_long : length x ≤ width t = subst (λ (y : List ℕ). length y ≤ width t) named.text (name_width bytes t) in
    let sum : widths ts ≡ width t + widths rest = ap widths split in
    let within : widths rest ≡ width first + widths (inner ++ last ∷ []) = ap widths between.all in
    let end_sum = widths-append inner (last ∷ []) in
    let a = outer.0 in
    let b = ends.0 in
    omega (arith, l, name_long, sum, within, end_sum, a, b)

pub statement_wide : (bytes : List ℕ) (ts : List Token) (s : Statement) (offset : ℕ) (x : List ℕ) (es : Exprs) → s.expr ≡ call offset x es → AreWide ts → IsStatement bytes ts s → length x + 2 * count_of es + 2 ≤ widths ts
statement_wide bytes ts s offset x es e w (front, (middle, (last, split, target, is, end))) =
    let all : AreWide (front ++ (middle ++ last ∷ [])) = subst AreWide split w in
    let behind = wide_right front (middle ++ last ∷ []) all in
    let ends = wide_right middle (last ∷ []) behind in
    let c = call_wide bytes middle offset x es (wide_left middle (last ∷ []) behind) (subst (λ (f : Expr). IsExpr bytes middle f) e is) in
    let sum : widths ts ≡ widths front + widths (middle ++ last ∷ []) = ap widths split ∙ widths-append front (middle ++ last ∷ []) in
    let inside = widths-append middle (last ∷ []) in
    let b = ends.0 in
    omega (arith, c, sum, inside, b)

-- a token has a byte at least, and no more than there are
record IsCutOf (n : ℕ) (o : Option Cut) : Type 0 where
  some : (cut : Cut) → o ≡ Some cut → (1 ≤ cut.bytes) × (cut.bytes ≤ suc n)

none_cut : (n : ℕ) → IsCutOf n None
none_cut n = record { some = λ cut e. absurd (let f : ◌≡◌ {A = Option Cut} None (Some cut) = e in cc) }

some_cut : (n : ℕ) (kind : TokenKind) (bytes : ℕ) → 1 ≤ bytes → bytes ≤ suc n → IsCutOf n (cut_of kind bytes)
unfolding cut_of
some_cut n kind bytes l m = record { some = λ cut e. let f : bytes ≡ cut.bytes = ap (λ (o : Option Cut). elim o as (λ _. ℕ) [ Some c ↦ c.bytes | None ↦ 0 ]) e in (omega (arith, l, f), omega (arith, m, f)) }

either_cut : (n : ℕ) (b : Bool) (x y : Option Cut) → IsCutOf n x → IsCutOf n y → IsCutOf n (if b then x else y)
either_cut n true x y h k = h
either_cut n false x y h k = k

assign_wide : (bytes : List ℕ) → IsCutOf (length bytes) (assign_at bytes)
unfolding assign_at
assign_wide [] = none_cut 0
assign_wide (b ∷ bytes) = either_cut (suc (length bytes)) (b == 61) (cut_of Assign 2) None (some_cut (suc (length bytes)) Assign 2 (omega arith) (omega arith)) (none_cut (suc (length bytes)))

sign_wide : (b : ℕ) (bytes : List ℕ) → IsCutOf (length bytes) (sign_at b bytes)
unfolding sign_at
sign_wide b bytes =
    let n = length bytes in
    either_cut n (b == 58) _ _ (assign_wide bytes)
    (either_cut n (b == 40) _ _ (some_cut n Open 1 (omega arith) (omega arith))
    (either_cut n (b == 41) _ _ (some_cut n Close 1 (omega arith) (omega arith))
    (either_cut n (b == 91) _ _ (some_cut n OpenList 1 (omega arith) (omega arith))
    (either_cut n (b == 93) _ _ (some_cut n CloseList 1 (omega arith) (omega arith))
    (either_cut n (b == 44) _ _ (some_cut n Comma 1 (omega arith) (omega arith))
    (either_cut n (b == 59) _ _ (some_cut n End 1 (omega arith) (omega arith)) (none_cut n)))))))

token_wide : (b : ℕ) (bytes : List ℕ) → IsCutOf (length bytes) (token_at b bytes)
unfolding token_at
token_wide b bytes =
    let n = length bytes in
    let x = prefix_len-le-length is_name_byte bytes in
    let y = prefix_len-le-length is_digit bytes in
    either_cut n (is_letter b) _ _ (some_cut n Name (suc (prefix_len is_name_byte bytes)) (omega arith) (omega (arith, x)))
    (either_cut n (is_digit b) _ _ (some_cut n Number (suc (prefix_len is_digit bytes)) (omega arith) (omega (arith, y))) (sign_wide b bytes))

record FitIn (n : ℕ) (r : Scanned) : Type 0 where
  wide : AreWide r.tokens
  few : widths r.tokens ≤ n

fit_more : (m n : ℕ) (r : Scanned) → m ≤ n → FitIn m r → FitIn n r
fit_more m n r l h = record { wide = h.wide; few = (let f = h.few in omega (arith, f, l)) }

fit_none : (n : ℕ) (e : _) → FitIn n (ended e)
unfolding ended
fit_none n e = record { wide = tt; few = omega arith }

fit_token : (m n bytes offset : ℕ) (kind : TokenKind) (r : Scanned) → 1 ≤ bytes → bytes + m ≤ n → FitIn m r → FitIn n (token_first (record { kind = kind; start = offset; end = offset + bytes }) r)
unfolding token_first
fit_token m n bytes offset kind r l most h = record { wide = (omega (arith, l), h.wide); few = (let f = h.few in omega (arith, f, most)) }

-- a token and what follows it
after_cut : (offset : ℕ) (b : ℕ) (bytes : List ℕ) (cut : Cut) (w : Bool) (rest : Scanned) → token_at b bytes ≡ Some cut → FitIn (length (drop cut.bytes (b ∷ bytes))) rest
    → FitIn (suc (length bytes)) (elim w as (λ _. Scanned) [ true ↦ ended (too_wide offset) | false ↦ token_first (record { kind = cut.kind; start = offset; end = offset + cut.bytes }) rest ])
after_cut offset b bytes cut true rest e h = fit_none (suc (length bytes)) (too_wide offset)
after_cut offset b bytes cut false rest e h =
    let c = (token_wide b bytes).some cut e in
    let d = length-drop cut.bytes (b ∷ bytes) in
    fit_token (length (drop cut.bytes (b ∷ bytes))) (suc (length bytes)) cut.bytes offset cut.kind rest c.0 (omega (arith, c.1, d)) h

after_token : (offset : ℕ) (b : ℕ) (bytes : List ℕ) (o : Option Cut) (wide : Cut → Bool) (rest : Cut → Scanned) → token_at b bytes ≡ o → ((cut : Cut) → FitIn (length (drop cut.bytes (b ∷ bytes))) (rest cut))
    → FitIn (suc (length bytes)) (elim o as (λ _. Scanned) [
      | None ↦ ended (bad_token offset)
      | Some cut ↦ elim (wide cut) as (λ _. Scanned) [ true ↦ ended (too_wide offset) | false ↦ token_first (record { kind = cut.kind; start = offset; end = offset + cut.bytes }) (rest cut) ]
    ])
after_token offset b bytes None wide rest e h = fit_none (suc (length bytes)) (bad_token offset)
after_token offset b bytes (Some cut) wide rest e h = after_cut offset b bytes cut (wide cut) (rest cut) e (h cut)

either_scan : (n : ℕ) (w : Bool) (x y : Scanned) → FitIn n x → FitIn n y → FitIn n (elim w as (λ _. Scanned) [ true ↦ x | false ↦ y ])
either_scan n true x y h k = h
either_scan n false x y h k = k

scan_wide : (most offset : ℕ) (bytes : List ℕ) → FitIn (length bytes) (scan_within most offset bytes)
unfolding scan_within
scan_wide zero offset bytes = fit_none (length bytes) (script_end offset)
scan_wide (suc most) offset [] = fit_none 0 (script_end offset)
scan_wide (suc most) offset (b ∷ bytes) =
    let n = suc (length bytes) in
    let skipped = drop (comment_length (b ∷ bytes)) (b ∷ bytes) in
    let d = length-drop (comment_length (b ∷ bytes)) (b ∷ bytes) in
    either_scan n (is_blank b) _ _ (fit_more (length bytes) n (scan_within most (offset + 1) bytes) (omega arith) (scan_wide most (offset + 1) bytes))
    (either_scan n (b == 35) _ _ (fit_more (length skipped) n (scan_within most (offset + comment_length (b ∷ bytes)) skipped) (omega (arith, d)) (scan_wide most (offset + comment_length (b ∷ bytes)) skipped))
    (after_token offset b bytes (token_at b bytes) (λ cut. is_number cut.kind && nat_lt widest (number_of (slice_range (b ∷ bytes) 0 cut.bytes))) (λ cut. scan_within most (offset + cut.bytes) (drop cut.bytes (b ∷ bytes))) refl
    (λ cut. scan_wide most (offset + cut.bytes) (drop cut.bytes (b ∷ bytes)))))

pub tokens_wide : (bytes : List ℕ) → AreWide (scan bytes).tokens × (widths (scan bytes).tokens ≤ length bytes)
unfolding scan
tokens_wide bytes = let f = scan_wide (suc (length bytes)) 0 bytes in (f.wide, f.few)
