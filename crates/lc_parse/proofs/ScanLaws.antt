-- What holds of the tokens of any bytes.
--   step_exists          what stands at each offset, with a token that stands within the bytes
--   tokens_within        each token stands within the bytes, names are ASCII, numbers have 64 bits
--   end_offset           if the tokens end at the script's end, that is the bytes' length
--   tokens_apart         spans rise and don't overlap
use Rattle.std.proofs.Common.{◌≡◌, ℕ, zero, suc, ◌+◌, ◌-◌, ◌<◌, ◌≤◌, Bool, true, false, cond, ◌⊎◌, inl, inr, ◌==◌, ◌&&◌, nat_lt, List, [], ◌∷◌, length, get_or, take, drop, Option, Some, None, refl, sym, ap, ◌∙◌, length-drop, arith}
use Rattle.std.proofs.lemmas.Bool.Decides.{nat_tests}
use Rattle.std.proofs.Math.Numerals.{one-add}
use Rattle.std.specs.List.{prefix_len, slice_range}
use Rattle.std.proofs.lemmas.Bool.{cases_Bool}
use Rattle.lc_grammar.specs.declared.TokenKind.TheVariants.{Name, Number}
use Rattle.lc_grammar.specs.declared.Token.{Token}
use Rattle.lc_grammar.specs.Token as language
use Rattle.lc_grammar.specs.Token.{is_blank, is_letter, is_digit, is_name_byte, number_of, token_at, Cut, Scanned, ended, token_first, comment_length, scan_within, scan, is_number, widest, text_of}
use Rattle.lc_parse.specs.Reading.{IsStep, IsWithin, AreWithin, ending_of}
use Rattle.lc_parse.specs.Spans.{AreApart}
use Rattle.lc_parse.specs.declared.scan.Ending.{Ending}
use Rattle.lc_parse.specs.declared.scan.Ending.TheVariants.{ScriptEnd, BadToken, TooWide}
use Rattle.lc_parse.specs.declared.scan.Lexeme.{Lexeme}
use Rattle.lc_parse.specs.declared.scan.Lexeme.TheVariants as step
use Rattle.lc_parse.proofs.Scanning.{cut_cases, cut_within, step_end, step_blank, step_comment, step_bad, step_wide, step_token}

-- bytes of names are ASCII
name_byte_ascii : (b : ℕ) → is_name_byte b ≡ true → b < 128
unfolding is_name_byte is_letter is_digit
name_byte_ascii b h = grind (arith, nat_tests)

ascii_prefix : (xs : List ℕ) (i : ℕ) → get_or (take (prefix_len is_name_byte xs) xs) i 0 < 128
ascii_prefix [] i = omega arith
ascii_prefix (x ∷ xs) i = by_test (is_name_byte x) refl (ascii_prefix xs) i
  where
    by_test : (b : Bool) → is_name_byte x ≡ b → ((i : ℕ) → get_or (take (prefix_len is_name_byte xs) xs) i 0 < 128) → (i : ℕ) → get_or (take (cond b (1 + prefix_len is_name_byte xs) 0) (x ∷ xs)) i 0 < 128
    by_test true e again i = rw (one-add (prefix_len is_name_byte xs)) (by_offset i)
      where
        by_offset : (i : ℕ) → get_or (x ∷ take (prefix_len is_name_byte xs) xs) i 0 < 128
        by_offset zero = name_byte_ascii x e
        by_offset (suc i) = again i
    by_test false e again i = omega arith

below_widest : (kind_is x : ℕ) → (true && nat_lt widest x) ≡ false → x ≤ widest
below_widest k x h = grind (arith, nat_tests)

-- what the step at an offset says besides
abbrev IsGood : List ℕ → ℕ → Lexeme → Type 0
IsGood bytes at (step.Skip n) = Unit {0}
IsGood bytes at (step.Token t) = IsWithin bytes t × (t.start ≡ at)
IsGood bytes at (step.End (ScriptEnd p)) = p ≡ length bytes
IsGood bytes at (step.End (BadToken p)) = Unit {0}
IsGood bytes at (step.End (TooWide p)) = Unit {0}

record StepAt (bytes : List ℕ) (at : ℕ) : Type 0 where
  step_is : Lexeme
  is : IsStep bytes at step_is
  good : IsGood bytes at step_is

module _ (bytes : List ℕ) (at : ℕ) where
  text_at : (cut : Cut) (t : Token) → t.start ≡ at → t.end ≡ at + cut.bytes → text_of bytes t ≡ take cut.bytes (drop at bytes)
  unfolding text_of
  text_at cut t s e = rw (s, e) (ap (λ n. take n (drop at bytes)) (omega arith))

  module _ (b : ℕ) (rest : List ℕ) (here : drop at bytes ≡ b ∷ rest) (cut : Cut) (is_cut : token_at b rest ≡ Some cut) (narrow : (is_number cut.kind && nat_lt widest (number_of (slice_range (drop at bytes) 0 cut.bytes))) ≡ false) where
    within_ascii : cut.kind ≡ Name → (i : ℕ) → get_or (take cut.bytes (b ∷ rest)) i 0 < 128
    within_ascii k i =
        elim (cut_cases b rest cut is_cut) [
          | inl p ↦ rw (ap (λ (c : Cut). c.bytes) p.1) (ascii_prefix (b ∷ rest) i)
          | inr q ↦ elim q [
            | inl p ↦ absurd (let e = ap (λ (c : Cut). c.kind) p.1 in cc)
            | inr s ↦ absurd (s.no_name k)
          ]
        ]

    within_fits : cut.kind ≡ Number → number_of (take cut.bytes (drop at bytes)) ≤ widest
    unfolding is_number
    within_fits k = below_widest 0 (number_of (take cut.bytes (drop at bytes))) (rw (← sub_none) (rw k at narrow))
      where
        sub_none : cut.bytes - 0 ≡ cut.bytes
        sub_none = omega arith

    within_here : IsWithin bytes (record { kind = cut.kind; start = at; end = at + cut.bytes })
    within_here =
        let l = cut_within b rest cut is_cut in
        let text = text_at cut (record { kind = cut.kind; start = at; end = at + cut.bytes }) refl refl in
        record {
          ordered = omega (arith, l.0);
          within = omega (arith, l.1, length-drop at bytes, ap length here);
          ascii = λ k i. rw (text, here) (within_ascii k i);
          fits = λ k. rw text (within_fits k);
        }

  behind_sharp : (b : ℕ) → (b == 35) ≡ true → b ≡ 35
  behind_sharp b h = grind (arith, nat_tests)

  step_here : at ≤ length bytes → (l : List ℕ) → drop at bytes ≡ l → StepAt bytes at
  step_here le [] here = record { step_is = step.End (ScriptEnd at); is = step_end bytes at here; good = omega (arith, length-drop at bytes, ap length here) }
  step_here le (b ∷ rest) here =
      elim (cases_Bool (is_blank b)) [
        | inl blank ↦ record { step_is = step.Skip 1; is = step_blank bytes at b rest here blank; good = tt }
        | inr no_blank ↦ elim (cases_Bool (b == 35)) [
          | inl sharp ↦ record { step_is = step.Skip _; is = step_comment bytes at b rest here no_blank (behind_sharp b sharp) _ refl; good = tt }
          | inr no_sharp ↦ by_token no_blank no_sharp (token_at b rest) refl
        ]
      ]
    where
      by_token : is_blank b ≡ false → (b == 35) ≡ false → (o : Option Cut) → token_at b rest ≡ o → StepAt bytes at
      by_token no_blank no_sharp None e = record { step_is = step.End (BadToken at); is = step_bad bytes at b rest here no_blank no_sharp e; good = tt }
      by_token no_blank no_sharp (Some cut) e =
          elim (cases_Bool (is_number cut.kind && nat_lt widest (number_of (slice_range (drop at bytes) 0 cut.bytes)))) [
            | inl wide ↦ record { step_is = step.End (TooWide at); is = step_wide bytes at b rest here no_blank no_sharp cut e wide; good = tt }
            | inr narrow ↦
                record {
                  step_is = step.Token (record { kind = cut.kind; start = at; end = at + cut.bytes });
                  is = step_token bytes at b rest here no_blank no_sharp cut e narrow;
                  good = (within_here b rest here cut e narrow, refl);
                }
          ]

step_exists : (bytes : List ℕ) (at : ℕ) → at ≤ length bytes → StepAt bytes at
step_exists bytes at le = step_here bytes at le (drop at bytes) refl

-- the tokens from an offset on
record Tokens (bytes : List ℕ) (at : ℕ) (s : Scanned) : Type 0 where
  within : AreWithin bytes s.tokens
  offset : (p : ℕ) → s.ending ≡ language.script_end p → p ≡ length bytes
  apart : AreApart at s.tokens

lower : (at offset : ℕ) (ts : List Token) → at ≤ offset → AreApart offset ts → AreApart at ts
lower at offset [] le h = tt
lower at offset (t ∷ ts) le h = (omega (arith, h.0), h.1, h.2)

tokens_from : (most : ℕ) (bytes : List ℕ) (at : ℕ) → at ≤ length bytes → length bytes - at < most → Tokens bytes at (scan_within most at (drop at bytes))
unfolding ended token_first
tokens_from zero bytes at le l = absurd (omega arith)
tokens_from (suc most) bytes at le l =
    let st = step_exists bytes at le in
    by_step st.step_is st.is st.good (λ offset more_le less. tokens_from most bytes offset more_le less)
  where
    by_end : (ending : Ending) → IsGood bytes at (step.End ending) → Tokens bytes at (ended (ending_of ending))
    by_end (ScriptEnd p) good = record { within = tt; offset = λ q e. let same : p ≡ q = cc in sym same ∙ good; apart = tt }
    by_end (BadToken p) good = record { within = tt; offset = λ q e. absurd (cc); apart = tt }
    by_end (TooWide p) good = record { within = tt; offset = λ q e. absurd (cc); apart = tt }

    by_step : (st : Lexeme) → IsStep bytes at st → IsGood bytes at st → ((offset : ℕ) → offset ≤ length bytes → length bytes - offset < most → Tokens bytes offset (scan_within most offset (drop offset bytes))) → Tokens bytes at (scan_within (suc most) at (drop at bytes))
    by_step (step.Skip n) is good again =
        let rest = again (at + n) is.1 (omega (arith, is.0, is.1)) in
        rw is.2 (record { within = rest.within; offset = rest.offset; apart = lower at (at + n) _ (omega arith) rest.apart })
    by_step (step.Token t) is good again =
        let rest = again t.end is.1 (omega (arith, is.0, is.1)) in
        rw is.2 (record { within = (good.0, rest.within); offset = rest.offset; apart = (omega (arith, good.1), good.0.ordered, rest.apart) })
    by_step (step.End ending) is good again = rw is (by_end ending good)

tokens_of : (bytes : List ℕ) → Tokens bytes 0 (scan bytes)
unfolding scan
tokens_of bytes = tokens_from (suc (length bytes)) bytes 0 (omega arith) (omega arith)

pub tokens_within : (bytes : List ℕ) → AreWithin bytes (scan bytes).tokens
tokens_within bytes = (tokens_of bytes).within

pub end_offset : (bytes : List ℕ) (p : ℕ) → (scan bytes).ending ≡ language.script_end p → p ≡ length bytes
end_offset bytes = (tokens_of bytes).offset

pub tokens_apart : (bytes : List ℕ) → AreApart 0 (scan bytes).tokens
tokens_apart bytes = (tokens_of bytes).apart
