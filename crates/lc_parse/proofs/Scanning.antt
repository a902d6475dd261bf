-- Steps of the scan, for the goals of `src/scan.rt`.
--   number_from-grows     the value of digits is at least that of the digits before
--   value_none, value_more, value_all, value_grows      the loop over digits
--   step_blank .. step_end    what `scan_within` does with what is at an offset
--   Scans bytes ts at     the tokens before the offset are ts
--   Scans-none, -skip, -token, -some, -end      the loop over the bytes
use Rattle.std.proofs.Common.{◌≡◌, ◌≢◌, ℕ, zero, suc, ◌+◌, ◌-◌, ◌*◌, ◌^◌, ◌<◌, ◌≤◌, Bool, true, false, cond, ◌⊎◌, inl, inr, ◌==◌, ◌&&◌, not, nat_lt, List, [], ◌∷◌, ◌++◌, length, get_or, drop, Some, None, refl, sym, ap, ◌∙◌, append_assoc, length-append, length-drop, arith}
use Rattle.std.proofs.lemmas.List.{at_drop_more, at_drop_all, drop-drop, append-nil}
use Rattle.std.proofs.lemmas.Bool.Decides.{nat_tests}
use Rattle.std.proofs.Math.Numerals.{one-add}
use Rattle.std.proofs.lemmas.Bool.{and_right}
use Rattle.std.specs.List.{prefix_len, slice_range}
use Rattle.lc_grammar.specs.declared.TokenKind.{TokenKind}
use Rattle.lc_grammar.specs.declared.TokenKind.TheVariants.{Name, Number, Assign, Open, Close, OpenList, CloseList, Comma, End}
use Rattle.lc_grammar.specs.declared.Token.{Token}
use Rattle.lc_grammar.specs.Token as language
use Rattle.lc_grammar.specs.Token.{is_blank, is_letter, is_digit, is_name_byte, number_from, number_of, token_at, cut_of, sign_at, assign_at, Cut, Scanned, ended, token_first, comment_length, scan_within, scan, is_number, widest}
use Rattle.lc_parse.specs.Reading.{IsStep, ending_of}
use Rattle.lc_parse.specs.declared.scan.Ending.{Ending}
use Rattle.lc_parse.specs.declared.scan.Ending.TheVariants.{ScriptEnd, BadToken, TooWide}
use Rattle.lc_parse.specs.declared.scan.Lexeme.TheVariants as step

pub number_from-grows : (n : ℕ) (text : List ℕ) → n ≤ number_from n text
unfolding number_from
number_from-grows n [] = omega arith
number_from-grows n (b ∷ text) = omega (arith, number_from-grows (10 * n + (b - 48)) text)

pub value_none : (text : List ℕ) → number_from 0 (drop 0 text) ≡ number_of text
unfolding number_of
value_none text = refl

pub value_more : (text : List ℕ) (i n m : ℕ) → i < length text → m ≡ 10 * n + (get_or text i 0 - 48) → number_from n (drop i text) ≡ number_of text → number_from m (drop (i + 1) text) ≡ number_of text
unfolding number_from number_of
value_more text i n m l e h = rw e (sym (at_drop_more (number_from n) text i 0 l) ∙ h)

pub value_all : (text : List ℕ) (i n : ℕ) → length text ≤ i → number_from n (drop i text) ≡ number_of text → number_of text ≡ n
unfolding number_from
value_all text i n l h = sym h ∙ at_drop_all (number_from n) text i l

pub value_grows : (text : List ℕ) (i n : ℕ) → i < length text → number_from n (drop i text) ≡ number_of text → 10 * n + (get_or text i 0 - 48) ≤ number_of text
value_grows text i n l h = omega (arith, number_from-grows (10 * n + (get_or text i 0 - 48)) (drop (i + 1) text), value_more text i n _ l refl h)

-- the lengths of what begins with a letter or a digit
prefix_first : (p : ℕ → Bool) (b : ℕ) (rest : List ℕ) → p b ≡ true → prefix_len p (b ∷ rest) ≡ suc (prefix_len p rest)
prefix_first p b rest e = rw e (one-add (prefix_len p rest))

pub name_cut : (b : ℕ) (rest : List ℕ) → is_letter b ≡ true → Some (record { kind = Name; bytes = prefix_len is_name_byte (b ∷ rest) }) ≡ token_at b rest
unfolding token_at cut_of is_name_byte
name_cut b rest e = ap (λ n. Some (record { kind = Name; bytes = n })) (prefix_first is_name_byte b rest (rw e refl)) ∙ sym (rw (e, token_at) refl)

pub number_cut : (b : ℕ) (rest : List ℕ) → is_letter b ≡ false → is_digit b ≡ true → Some (record { kind = Number; bytes = prefix_len is_digit (b ∷ rest) }) ≡ token_at b rest
unfolding token_at cut_of
number_cut b rest e d = ap (λ n. Some (record { kind = Number; bytes = n })) (prefix_first is_digit b rest d) ∙ sym (rw (e, d, token_at) refl)

pub sign_cut : (b : ℕ) (rest : List ℕ) → is_letter b ≡ false → is_digit b ≡ false → token_at b rest ≡ sign_at b rest
unfolding token_at
sign_cut b rest e d = rw (e, d, token_at) refl

abbrev is_wide : Cut → List ℕ → Bool
is_wide cut here = is_number cut.kind && nat_lt widest (number_of (slice_range here 0 cut.bytes))

module _ (most at b : ℕ) (rest : List ℕ) where
  scan_blank : is_blank b ≡ true → scan_within (suc most) at (b ∷ rest) ≡ scan_within most (at + 1) rest
  unfolding scan_within
  scan_blank e = rw (e, scan_within) refl

  scan_comment : is_blank b ≡ false → (b == 35) ≡ true → scan_within (suc most) at (b ∷ rest) ≡ scan_within most (at + comment_length (b ∷ rest)) (drop (comment_length (b ∷ rest)) (b ∷ rest))
  unfolding scan_within
  scan_comment e h = rw (e, h, scan_within) refl

  scan_bad : is_blank b ≡ false → (b == 35) ≡ false → token_at b rest ≡ None → scan_within (suc most) at (b ∷ rest) ≡ ended (language.bad_token at)
  unfolding scan_within
  scan_bad e h t = rw (e, h, t, scan_within) refl

  scan_wide : is_blank b ≡ false → (b == 35) ≡ false → (cut : Cut) → token_at b rest ≡ Some cut → is_wide cut (b ∷ rest) ≡ true → scan_within (suc most) at (b ∷ rest) ≡ ended (language.too_wide at)
  unfolding scan_within
  scan_wide e h cut t w = rw (e, h, t, w, scan_within) refl

  scan_token : is_blank b ≡ false → (b == 35) ≡ false → (cut : Cut) → token_at b rest ≡ Some cut → is_wide cut (b ∷ rest) ≡ false
      → scan_within (suc most) at (b ∷ rest) ≡ token_first (record { kind = cut.kind; start = at; end = at + cut.bytes }) (scan_within most (at + cut.bytes) (drop cut.bytes (b ∷ rest)))
  unfolding scan_within
  scan_token e h cut t w = rw (e, h, t, w, scan_within) refl

test_above : (x : ℕ) → 2 ^ 64 ≤ x → nat_lt (2 ^ 64 - 1) x ≡ true
test_above x l = grind (arith, nat_tests)

test_within : (x : ℕ) → x < 2 ^ 64 → nat_lt (2 ^ 64 - 1) x ≡ false
test_within x l = grind (arith, nat_tests)

pub wide_none : (kind : TokenKind) (x : ℕ) → kind ≡ Number → 2 ^ 64 ≤ x → true ≡ (is_number kind && nat_lt widest x)
unfolding is_number widest
wide_none kind x e l = rw (e, test_above x l) refl

pub wide_some : (kind : TokenKind) (x : ℕ) → x < 2 ^ 64 → false ≡ (is_number kind && nat_lt widest x)
unfolding is_number widest
wide_some kind x l = sym (ap (λ b. is_number kind && b) (test_within x l) ∙ and_right (is_number kind) false refl)

pub wide_other : (kind : TokenKind) (x : ℕ) → (kind ≡ Number → ⊥) → false ≡ (is_number kind && nat_lt widest x)
unfolding is_number
wide_other Number x h = absurd (h refl)
wide_other Name x h = refl
wide_other Assign x h = refl
wide_other Open x h = refl
wide_other Close x h = refl
wide_other OpenList x h = refl
wide_other CloseList x h = refl
wide_other Comma x h = refl
wide_other End x h = refl

-- a test by cases
chosen : {A : Type 0} (b : Bool) (x y z : A) → cond b x y ≡ z → ((b ≡ true) × (x ≡ z)) ⊎ ((b ≡ false) × (y ≡ z))
chosen true x y z h = inl (refl, h)
chosen false x y z h = inr (refl, h)

-- the cut of a sign
pub record IsSign (cut : Cut) (rest : List ℕ) : Type 0 where
  pub no_name : cut.kind ≡ Name → ⊥
  pub no_number : cut.kind ≡ Number → ⊥
  pub some : 0 < cut.bytes
  pub within : cut.bytes ≤ suc (length rest)

one_sign : (kind : TokenKind) (cut : Cut) (rest : List ℕ) → (kind ≡ Name → ⊥) → (kind ≡ Number → ⊥) → cut_of kind 1 ≡ Some cut → IsSign cut rest
unfolding cut_of
one_sign kind cut rest no_name no_number h =
    let k : cut.kind ≡ kind = cc in
    let n : cut.bytes ≡ 1 = cc in
    record { no_name = λ e. no_name (sym k ∙ e); no_number = λ e. no_number (sym k ∙ e); some = omega arith; within = omega arith }

assign_sign : (rest : List ℕ) (cut : Cut) → assign_at rest ≡ Some cut → IsSign cut rest
unfolding assign_at cut_of
assign_sign [] cut h = absurd (cc)
assign_sign (b ∷ rest) cut h =
    elim (chosen (b == 61) (Some (record { kind = Assign; bytes = 2 })) None (Some cut) h) [
      | inl p ↦
          let q = p.1 in
          let k : cut.kind ≡ Assign = cc in
          let n : cut.bytes ≡ 2 = cc in
          record { no_name = λ e. cc; no_number = λ e. cc; some = omega arith; within = omega arith }
      | inr p ↦ absurd (let q = p.1 in cc)
    ]

sign_within : (b : ℕ) (rest : List ℕ) (cut : Cut) → sign_at b rest ≡ Some cut → IsSign cut rest
unfolding sign_at
sign_within b rest cut h =
    elim (chosen (b == 58) _ _ (Some cut) h) [
      | inl p ↦ assign_sign rest cut p.1
      | inr p ↦ elim (chosen (b == 40) _ _ (Some cut) p.1) [
        | inl q ↦ one_sign Open cut rest (λ e. cc) (λ e. cc) q.1
        | inr q ↦ elim (chosen (b == 41) _ _ (Some cut) q.1) [
          | inl r ↦ one_sign Close cut rest (λ e. cc) (λ e. cc) r.1
          | inr r ↦ elim (chosen (b == 91) _ _ (Some cut) r.1) [
            | inl s ↦ one_sign OpenList cut rest (λ e. cc) (λ e. cc) s.1
            | inr s ↦ elim (chosen (b == 93) _ _ (Some cut) s.1) [
              | inl t ↦ one_sign CloseList cut rest (λ e. cc) (λ e. cc) t.1
              | inr t ↦ elim (chosen (b == 44) _ _ (Some cut) t.1) [
                | inl u ↦ one_sign Comma cut rest (λ e. cc) (λ e. cc) u.1
                | inr u ↦ elim (chosen (b == 59) _ _ (Some cut) u.1) [
                  | inl v ↦ one_sign End cut rest (λ e. cc) (λ e. cc) v.1
                  | inr v ↦ absurd (let w = v.1 in cc)
                ]
              ]
            ]
          ]
        ]
      ]
    ]

-- what token_at gives
pub cut_cases : (b : ℕ) (rest : List ℕ) (cut : Cut) → token_at b rest ≡ Some cut
    → ((is_letter b ≡ true) × (cut ≡ record { kind = Name; bytes = prefix_len is_name_byte (b ∷ rest) }))
    ⊎ (((is_digit b ≡ true) × (cut ≡ record { kind = Number; bytes = prefix_len is_digit (b ∷ rest) })) ⊎ IsSign cut rest)
cut_cases b rest cut h =
    elim (cases_bool (is_letter b)) [
      | inl letter ↦ inl (letter, let e = name_cut b rest letter in cc)
      | inr no_letter ↦ elim (cases_bool (is_digit b)) [
        | inl digit ↦ inr (inl (digit, let e = number_cut b rest no_letter digit in cc))
        | inr no_digit ↦ inr (inr (sign_within b rest cut (sym (sign_cut b rest no_letter no_digit) ∙ h)))
      ]
    ]
  where
    cases_bool : (b : Bool) → (b ≡ true) ⊎ (b ≡ false)
    cases_bool true = inl refl
    cases_bool false = inr refl

prefix_within : (p : ℕ → Bool) (xs : List ℕ) → prefix_len p xs ≤ length xs
prefix_within p [] = omega arith
prefix_within p (x ∷ xs) = within_cond (p x) (prefix_within p xs)
  where
    within_cond : (b : Bool) → prefix_len p xs ≤ length xs → cond b (1 + prefix_len p xs) 0 ≤ suc (length xs)
    within_cond true l = omega arith
    within_cond false l = omega arith

letter_name : (b : ℕ) → is_letter b ≡ true → is_name_byte b ≡ true
unfolding is_name_byte
letter_name b e = rw e refl

pub cut_within : (b : ℕ) (rest : List ℕ) (cut : Cut) → token_at b rest ≡ Some cut → (0 < cut.bytes) × (cut.bytes ≤ suc (length rest))
cut_within b rest cut h =
    elim (cut_cases b rest cut h) [
      | inl p ↦
          let n = ap (λ (c : Cut). c.bytes) p.1 in
          (omega (arith, n, prefix_first is_name_byte b rest (letter_name b p.0)), omega (arith, n, prefix_within is_name_byte (b ∷ rest)))
      | inr q ↦ elim q [
        | inl p ↦
            let n = ap (λ (c : Cut). c.bytes) p.1 in
            (omega (arith, n, prefix_first is_digit b rest p.0), omega (arith, n, prefix_within is_digit (b ∷ rest)))
        | inr s ↦ (s.some, s.within)
      ]
    ]

-- what stands at an offset with these bytes from there on
module _ (bytes : List ℕ) (at b : ℕ) (rest : List ℕ) (here : drop at bytes ≡ b ∷ rest) where
  room : at + suc (length rest) ≡ length bytes
  room = omega (arith, length-drop at bytes, ap length here)

  behind : (n : ℕ) → drop n (b ∷ rest) ≡ drop (at + n) bytes
  behind n = ap (drop n) (sym here) ∙ drop-drop n at bytes

  pub step_blank : is_blank b ≡ true → IsStep bytes at (step.Skip 1)
  step_blank e = (omega arith, omega (arith, room), λ most. ap (scan_within (suc most) at) here ∙ scan_blank most at b rest e ∙ ap (scan_within most (at + 1)) (behind 1))

  pub step_comment : is_blank b ≡ false → b ≡ 35 → (n : ℕ) → n ≡ prefix_len (λ x. not (x == 10)) (drop at bytes) → IsStep bytes at (step.Skip n)
  unfolding comment_length
  step_comment e h n is =
      let same : n ≡ comment_length (b ∷ rest) = is ∙ ap comment_length here in
      let some : comment_length (b ∷ rest) ≡ suc (comment_length rest) = prefix_first (λ x. not (x == 10)) b rest (rw h refl) in (
        omega (arith, same, some),
        omega (arith, same, room, prefix_within (λ x. not (x == 10)) (b ∷ rest)),
        λ most. ap (scan_within (suc most) at) here ∙ scan_comment most at b rest e (rw h refl)
            ∙ ap (λ k. scan_within most (at + k) (drop k (b ∷ rest))) (sym same) ∙ ap (scan_within most (at + n)) (behind n),
      )

  pub step_bad : is_blank b ≡ false → (b == 35) ≡ false → token_at b rest ≡ None → IsStep bytes at (step.End (BadToken at))
  step_bad e h t = λ most. ap (scan_within (suc most) at) here ∙ scan_bad most at b rest e h t

  pub step_wide : is_blank b ≡ false → (b == 35) ≡ false → (cut : Cut) → token_at b rest ≡ Some cut → is_wide cut (drop at bytes) ≡ true → IsStep bytes at (step.End (TooWide at))
  step_wide e h cut t w = λ most. ap (scan_within (suc most) at) here ∙ scan_wide most at b rest e h cut t (ap (is_wide cut) (sym here) ∙ w)

  pub step_token : is_blank b ≡ false → (b == 35) ≡ false → (cut : Cut) → token_at b rest ≡ Some cut → is_wide cut (drop at bytes) ≡ false → IsStep bytes at (step.Token (record { kind = cut.kind; start = at; end = at + cut.bytes }))
  step_token e h cut t w =
      let l = cut_within b rest cut t in (
        omega (arith, l.0),
        omega (arith, l.1, room),
        λ most. ap (scan_within (suc most) at) here ∙ scan_token most at b rest e h cut t (ap (is_wide cut) (sym here) ∙ w)
            ∙ ap (λ r. token_first (record { kind = cut.kind; start = at; end = at + cut.bytes }) (scan_within most (at + cut.bytes) r)) (behind cut.bytes),
      )

pub step_end : (bytes : List ℕ) (at : ℕ) → drop at bytes ≡ [] → IsStep bytes at (step.End (ScriptEnd at))
unfolding scan_within
step_end bytes at e = λ most. ap (scan_within (suc most) at) e

-- the tokens before the offset are ts
abbrev with_front : List Token → Scanned → Scanned
with_front ts s = record { tokens = ts ++ s.tokens; ending = s.ending }

pub record Scans (bytes : List ℕ) (ts : List Token) (at : ℕ) : Type 0 where
  pub most : ℕ
  pub enough : length bytes - at < most
  pub all : scan bytes ≡ with_front ts (scan_within most at (drop at bytes))

pub Scans-none : (bytes : List ℕ) → Scans bytes [] 0
unfolding scan
Scans-none bytes = record { most = suc (length bytes); enough = omega arith; all = refl }

pub Scans-skip : (bytes : List ℕ) (ts : List Token) (at n : ℕ) → at ≤ length bytes → Scans bytes ts at → IsStep bytes at (step.Skip n) → Scans bytes ts (at + n)
Scans-skip bytes ts at n l s h = go s.most s.enough s.all
  where
    go : (most : ℕ) → length bytes - at < most → scan bytes ≡ with_front ts (scan_within most at (drop at bytes)) → Scans bytes ts (at + n)
    go zero e a = absurd (omega arith)
    go (suc most) e a = record { most = most; enough = omega (arith, h.0, h.1); all = a ∙ ap (with_front ts) (h.2 most) }

pub Scans-token : (bytes : List ℕ) (ts : List Token) (at : ℕ) (t : Token) → at ≤ length bytes → Scans bytes ts at → IsStep bytes at (step.Token t) → Scans bytes (ts ++ t ∷ []) t.end
unfolding token_first
Scans-token bytes ts at t l s h = go s.most s.enough s.all
  where
    go : (most : ℕ) → length bytes - at < most → scan bytes ≡ with_front ts (scan_within most at (drop at bytes)) → Scans bytes (ts ++ t ∷ []) t.end
    go zero e a = absurd (omega arith)
    go (suc most) e a = record {
      most = most;
      enough = omega (arith, h.0, h.1);
      all = a ∙ ap (with_front ts) (h.2 most) ∙ ap (λ l. record { tokens = l; ending = (scan_within most t.end (drop t.end bytes)).ending }) (sym (append_assoc ts (t ∷ []) (scan_within most t.end (drop t.end bytes)).tokens));
    }

-- a token that is found is one of the script's
pub Scans-some : (bytes : List ℕ) (ts : List Token) (at : ℕ) (t : Token) → at ≤ length bytes → Scans bytes ts at → IsStep bytes at (step.Token t) → (scan bytes).tokens ≢ []
Scans-some bytes ts at t l s h none =
    let more = Scans-token bytes ts at t l s h in
    let e = ap length (sym none ∙ ap (λ (x : Scanned). x.tokens) more.all) in
    absurd (omega (arith, simp length-append at e))

pub Scans-end : (bytes : List ℕ) (ts : List Token) (at : ℕ) (ending : Ending) → Scans bytes ts at → IsStep bytes at (step.End ending) → scan bytes ≡ record { tokens = ts; ending = ending_of ending }
unfolding ended
Scans-end bytes ts at ending s h = go s.most s.enough s.all
  where
    go : (most : ℕ) → length bytes - at < most → scan bytes ≡ with_front ts (scan_within most at (drop at bytes)) → scan bytes ≡ record { tokens = ts; ending = ending_of ending }
    go zero e a = absurd (omega arith)
    go (suc most) e a = a ∙ ap (with_front ts) (h most) ∙ ap (λ l. record { tokens = l; ending = ending_of ending }) (append-nil ts)

pub not_35 : (b : ℕ) → (b ≡ 35 → ⊥) → (b == 35) ≡ false
not_35 b h = grind (arith, nat_tests)

pub ruleset value_of_laws = (value_none, value_grows, value_more, value_all)

pub ruleset is_wide_laws = (wide_none, wide_some, wide_other)
