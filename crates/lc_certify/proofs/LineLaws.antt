-- The line of a certificate, by its cost and its length.
--   counted c                     the cost, counted as far as the greatest number of 64 bits
--   by_cost c b, after_cost c     the line, if b says whether the cost is too high, and if it isn't
--   by_length text b              the line, if b says whether the text is too long
--   cost_more, cost_within        what the counted cost says of the cost
--   line_is, affordable, line_made, by_its_length      the line, case by case
--   too_costly, too_long, whole_line      and as the program has it
use Rattle.std.proofs.Common.{◌≡◌, ℕ, ◌-◌, ◌^◌, ◌<◌, ◌≤◌, min, nat_lt, Bool, if◌then◌else◌, List, [], ◌∷◌, ◌++◌, length, codes, sym, ap, refl, ◌∙◌, arith}
use Rattle.std.proofs.lemmas.Bool.{lt-ltb, le-ltb}
use Rattle.lc_formats.specs.Certificate.{Certificate, cost}
use Rattle.lc_formats.specs.CertificateText.{certificate_text}
use Rattle.lc_formats.specs.Text.{line}
use Rattle.lc_language.specs.Query.{longest, no_certificate_line, certificate_line}

abbrev pub counted : Certificate → ℕ
counted c = min (cost c) (2 ^ 64 - 1)

abbrev pub after_cost : Certificate → List ℕ
after_cost c = if nat_lt longest (length (line (certificate_text c))) then no_certificate_line (codes "length") (length (line (certificate_text c))) else line (certificate_text c)

abbrev pub by_cost : Certificate → Bool → List ℕ
by_cost c b = if b then no_certificate_line (codes "cost") (counted c) else after_cost c

line_is : (c : Certificate) → certificate_line c ≡ by_cost c (nat_lt (2 ^ 32) (cost c))
unfolding certificate_line
line_is c = refl

cost_more : (n : ℕ) (c : Certificate) → n ≡ counted c → 2 ^ 32 < n → 2 ^ 32 < cost c
cost_more n c e l = omega (arith, e, l)

cost_within : (n : ℕ) (c : Certificate) → n ≡ counted c → n ≤ 2 ^ 32 → cost c ≤ 2 ^ 32
cost_within n c e l = omega (arith, e, l)

pub too_costly : (c : Certificate) (n : ℕ) (text : List ℕ) → n ≡ counted c → 2 ^ 32 < n → text ≡ no_certificate_line (codes "cost") n → text ≡ certificate_line c
too_costly c n text is more shown =
    shown ∙ ap (no_certificate_line (codes "cost")) is ∙ sym (line_is c ∙ ap (by_cost c) (lt-ltb (2 ^ 32) (cost c) (cost_more n c is more)))

affordable : (c : Certificate) (n : ℕ) → n ≡ counted c → n ≤ 2 ^ 32 → certificate_line c ≡ after_cost c
affordable c n is few = line_is c ∙ ap (by_cost c) (le-ltb (2 ^ 32) (cost c) (cost_within n c is few))

abbrev pub by_length : List ℕ → Bool → List ℕ
by_length text b = if b then no_certificate_line (codes "length") (length text) else text

line_made : (c : Certificate) (before whole : List ℕ) → before ≡ certificate_text c → whole ≡ before ++ 10 ∷ [] → whole ≡ line (certificate_text c)
unfolding line
line_made c before whole e pushed = pushed ∙ ap (λ t. t ++ 10 ∷ []) e

by_its_length : (c : Certificate) (n : ℕ) (before whole : List ℕ) → n ≡ counted c → n ≤ 2 ^ 32 → before ≡ certificate_text c → whole ≡ before ++ 10 ∷ [] → certificate_line c ≡ by_length whole (nat_lt longest (length whole))
by_its_length c n before whole is few e pushed = affordable c n is few ∙ ap (λ t. by_length t (nat_lt longest (length t))) (sym (line_made c before whole e pushed))

pub too_long : (c : Certificate) (n m : ℕ) (before whole text : List ℕ) → n ≡ counted c → n ≤ 2 ^ 32 → before ≡ certificate_text c → whole ≡ before ++ 10 ∷ [] → 1048576 < length whole → m ≡ length whole → text ≡ no_certificate_line (codes "length") m → text ≡ certificate_line c
unfolding longest
too_long c n m before whole text is few e pushed more many shown =
    shown ∙ ap (no_certificate_line (codes "length")) many ∙ sym (by_its_length c n before whole is few e pushed ∙ ap (by_length whole) (lt-ltb longest (length whole) more))

pub whole_line : (c : Certificate) (n : ℕ) (before whole : List ℕ) → n ≡ counted c → n ≤ 2 ^ 32 → before ≡ certificate_text c → whole ≡ before ++ 10 ∷ [] → length whole ≤ 1048576 → whole ≡ certificate_line c
unfolding longest
whole_line c n before whole is few e pushed short = sym (by_its_length c n before whole is few e pushed ∙ ap (by_length whole) (le-ltb longest (length whole) short))

pub ruleset certificate_line_laws = (too_costly, too_long, whole_line)
