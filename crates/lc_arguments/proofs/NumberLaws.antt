-- The values of keys.
--   number_empty, number_long, number_other, number_zero, number_wide, number_is      the number that a text writes
--   within_none, within_below, within_above, within_is      the same in a range
--   in_range                     a number in a range lies within it
--   says_yes, says_no, says_neither      yes or no
use Rattle.std.proofs.Common.{◌≡◌, ℕ, ◌+◌, ◌^◌, ◌<◌, ◌≤◌, Bool, true, false, not, ◌&&◌, ◌||◌, ◌==◌, List, [], ◌∷◌, length, Option, Some, None, refl, sym, ap, ◌∙◌, arith}
use Rattle.std.specs.Prelude.{codes, nat_le, if◌then◌else◌, option_and_then, slice_index}
use Rattle.std.specs.List.{list_all}
use Rattle.std.proofs.lemmas.Bool.Decides.{nat_tests}
use Rattle.std.proofs.lemmas.Bool.{and_right, and_left}
use Rattle.std.proofs.lemmas.Option.{cond_some}
use Rattle.lc_grammar.specs.Token.{is_digit, number_of, widest}
use Rattle.lc_formats.specs.Text.{same_bytes}
use Rattle.lc_session_rules.specs.Options.{number_in, number_within, yes_or_no}

abbrev is_plain : List ℕ → Bool
is_plain text = (length text == 1) || not (slice_index text 0 == 48)

number_none : (text : List ℕ) → (nat_le 1 (length text) && (nat_le (length text) 20 && (list_all is_digit text && (is_plain text && nat_le (number_of text) widest)))) ≡ false → number_in text ≡ None
unfolding number_in
number_none text e = rw e refl

number_some : (text : List ℕ) → nat_le 1 (length text) ≡ true → nat_le (length text) 20 ≡ true → list_all is_digit text ≡ true → is_plain text ≡ true → nat_le (number_of text) widest ≡ true → number_in text ≡ Some (number_of text)
unfolding number_in
number_some text a b c d e = rw (a, b, c, d, e) refl

pub number_empty : (text : List ℕ) → length text ≡ 0 → None ≡ number_in text
number_empty text e =
    let t : nat_le 1 (length text) ≡ false = grind (arith, nat_tests, e) in
    sym (number_none text (and_left _ _ t))

pub number_long : (text : List ℕ) → 20 < length text → None ≡ number_in text
number_long text l =
    let t : nat_le (length text) 20 ≡ false = grind (arith, nat_tests, l) in
    sym (number_none text (and_right _ _ (and_left _ _ t)))

pub number_other : (text : List ℕ) → list_all is_digit text ≡ false → None ≡ number_in text
number_other text e = sym (number_none text (and_right _ _ (and_right _ _ (and_left _ _ e))))

pub number_zero : (text : List ℕ) → is_plain text ≡ false → None ≡ number_in text
number_zero text e = sym (number_none text (and_right (nat_le 1 (length text)) _ (and_right (nat_le (length text) 20) _ (and_right (list_all is_digit text) _ (and_left (is_plain text) (nat_le (number_of text) widest) e)))))

pub number_wide : (text : List ℕ) → 2 ^ 64 ≤ number_of text → None ≡ number_in text
unfolding widest
number_wide text l =
    let t : nat_le (number_of text) widest ≡ false = grind (arith, nat_tests, l) in
    sym (number_none text (and_right (nat_le 1 (length text)) _ (and_right (nat_le (length text) 20) _ (and_right (list_all is_digit text) _ (and_right (is_plain text) _ t)))))

pub number_is : (text : List ℕ) (n : ℕ) → 0 < length text → length text ≤ 20 → list_all is_digit text ≡ true → is_plain text ≡ true → number_of text ≡ n → n < 2 ^ 64 → Some n ≡ number_in text
unfolding widest
number_is text n l m a p e f =
    let lower : nat_le 1 (length text) ≡ true = grind (arith, nat_tests, l) in
    let upper : nat_le (length text) 20 ≡ true = grind (arith, nat_tests, m) in
    let fits : nat_le (number_of text) widest ≡ true = grind (arith, nat_tests, e, f) in
    sym (number_some text lower upper a p fits ∙ ap (λ t. Some t) e)

pub within_none : (low high : ℕ) (text t : List ℕ) → t ≡ text → None ≡ number_in t → None ≡ number_within low high text
unfolding number_within
within_none low high text t e h = rw (sym e, sym h) refl

within_by : (low high n : ℕ) (text : List ℕ) (b : Bool) → number_in text ≡ Some n → (nat_le low n && nat_le n high) ≡ b → number_within low high text ≡ (if b then Some n else None)
unfolding number_within
within_by low high n text b h e = rw (h, e) refl

pub within_below : (low high n : ℕ) (text t : List ℕ) → t ≡ text → Some n ≡ number_in t → n < low → None ≡ number_within low high text
within_below low high n text t e h l =
    let b : nat_le low n ≡ false = grind (arith, nat_tests, l) in
    sym (within_by low high n text false (ap number_in (sym e) ∙ sym h) (and_left _ _ b))

pub within_above : (low high n : ℕ) (text t : List ℕ) → t ≡ text → Some n ≡ number_in t → high < n → None ≡ number_within low high text
within_above low high n text t e h l =
    let b : nat_le n high ≡ false = grind (arith, nat_tests, l) in
    sym (within_by low high n text false (ap number_in (sym e) ∙ sym h) (and_right _ _ b))

pub within_is : (low high n : ℕ) (text t : List ℕ) → t ≡ text → Some n ≡ number_in t → low ≤ n → n ≤ high → Some n ≡ number_within low high text
within_is low high n text t e h l m =
    let a : nat_le low n ≡ true = grind (arith, nat_tests, l) in
    let b : nat_le n high ≡ true = grind (arith, nat_tests, m) in
    sym (within_by low high n text true (ap number_in (sym e) ∙ sym h) (rw (a, b) refl))

range_of : (low high m : ℕ) (o : Option ℕ) → option_and_then (λ n. if nat_le low n && nat_le n high then Some n else None) o ≡ Some m → (low ≤ m) × (m ≤ high)
range_of low high m None e = absurd cc
range_of low high m (Some n) e =
    let both = cond_some (nat_le low n && nat_le n high) n m e in
    let test : (nat_le low m && nat_le m high) ≡ true = ap (λ k. nat_le low k && nat_le k high) (sym both.1) ∙ both.0 in
    (grind (arith, nat_tests, test), grind (arith, nat_tests, test))

pub in_range : (low high m : ℕ) (text : List ℕ) → number_within low high text ≡ Some m → (low ≤ m) × (m ≤ high)
unfolding number_within
in_range low high m text e = range_of low high m (number_in text) e

pub says_yes : (text : List ℕ) → same_bytes text (codes "yes") ≡ true → Some true ≡ yes_or_no text
unfolding yes_or_no
says_yes text e = rw e refl

pub says_no : (text : List ℕ) → same_bytes text (codes "yes") ≡ false → same_bytes text (codes "no") ≡ true → Some false ≡ yes_or_no text
unfolding yes_or_no
says_no text e f = rw (e, f) refl

pub says_neither : (text : List ℕ) → same_bytes text (codes "yes") ≡ false → same_bytes text (codes "no") ≡ false → None ≡ yes_or_no text
unfolding yes_or_no
says_neither text e f = rw (e, f) refl

pub ruleset number_in_laws = (number_empty, number_long, number_other, number_zero, number_wide, number_is)

pub ruleset number_within_laws = (within_none, within_below, within_above, within_is)

pub ruleset yes_or_no_laws = (says_yes, says_no, says_neither)
