-- Claims without parts, as a reader takes them.
--   no_keys, keys_are                other keys, and the right ones
--   search_refused, search_kept      parts of a search that are refused, and that are read
--   other_keys, search_read, some_keys      the keys of a search
--   no_form_keys, no_locator, no_points, no_multipliers, no_checks, form_read      an alternant form
use Rattle.std.proofs.Common.{◌≡◌, ℕ, ◌-◌, ◌≤◌, ◌==◌, true, false, if◌then◌else◌, List, codes, Option, Some, None, option_map, option_and_then, refl, sym, ap, ◌∙◌, arith}
use Rattle.serde_json.specs.Data.{Members}
use Rattle.lc_formats.specs.Certificate.{Reason, Proof, scan, levels}
use Rattle.lc_formats.specs.Claim.{Claim, search, alternant}
use Rattle.lc_formats.specs.Json.{number_at, provided, member_count}
use Rattle.lc_formats.specs.Check.{CertificateRead, reads_as, refused_as, key_count}
use Rattle.lc_formats.specs.Document.{with_keys, bytes_at, search_of}
use Rattle.lc_certificate.specs.declared.certificate.Certificate as made
use Rattle.lc_certificate.specs.Seen.{proof_of, certificate_of}
use Rattle.lc_documents.specs.Parts.{form_in}

pub no_keys : {X : Type 0} (count : ℕ) (ms : Members) (x : Option X) → (member_count ms == count) ≡ false → with_keys count ms x ≡ None
unfolding with_keys provided
no_keys count ms None e = refl
no_keys count ms (Some y) e = ap (λ b. if b then Some y else None) e

pub keys_are : {X : Type 0} (count : ℕ) (ms : Members) (x : Option X) → (member_count ms == count) ≡ true → with_keys count ms x ≡ x
unfolding with_keys provided
keys_are count ms None e = refl
keys_are count ms (Some y) e = ap (λ b. if b then Some y else None) e

pub search_refused : (ms : Members) (read : CertificateRead) (r : Reason) → read ≡ refused_as r → search_of ms read ≡ None
unfolding search_of
search_refused ms read r e = ap (search_of ms) e

pub search_kept : (ms : Members) (read : CertificateRead) (c : made.Certificate) → read ≡ reads_as (certificate_of c) → search_of ms read ≡ search_of ms (reads_as (certificate_of c))
search_kept ms read c e = ap (search_of ms) e

pub other_keys : (ms : Members) (c : made.Certificate) (n : ℕ) → n ≡ key_count (proof_of c.basis_of) → (member_count ms == n - 1) ≡ false → search_of ms (reads_as (certificate_of c)) ≡ None
unfolding search_of certificate_of
other_keys ms c n same e = no_keys (key_count (proof_of c.basis_of) - 1) ms (Some (search (certificate_of c))) (ap (λ k. member_count ms == k - 1) (sym same) ∙ e)

pub search_read : (ms : Members) (c : made.Certificate) (n : ℕ) → n ≡ key_count (proof_of c.basis_of) → (member_count ms == n - 1) ≡ true → search_of ms (reads_as (certificate_of c)) ≡ Some (search (certificate_of c))
unfolding search_of certificate_of
search_read ms c n same e = keys_are (key_count (proof_of c.basis_of) - 1) ms (Some (search (certificate_of c))) (ap (λ k. member_count ms == k - 1) (sym same) ∙ e)

pub some_keys : (p : Proof) → 1 ≤ key_count p
unfolding key_count
some_keys scan = omega arith
some_keys (levels claims) = omega arith

unfoldable with_checks : Members → ℕ → List ℕ → List ℕ → Option Claim
with_checks ms locator points multipliers = option_map (alternant locator points multipliers) (number_at (codes "r") ms)

unfoldable with_multipliers : Members → ℕ → List ℕ → Option Claim
with_multipliers ms locator points = option_and_then (with_checks ms locator points) (bytes_at (codes "multipliers") ms)

unfoldable with_points : Members → ℕ → Option Claim
with_points ms locator = option_and_then (with_multipliers ms locator) (bytes_at (codes "points") ms)

pub no_form_keys : (ms : Members) → (member_count ms == 5) ≡ false → form_in ms ≡ None
unfolding form_in
no_form_keys ms e = no_keys 5 ms _ e

with_form_keys : (ms : Members) → (member_count ms == 5) ≡ true → form_in ms ≡ option_and_then (with_points ms) (number_at (codes "locator") ms)
unfolding form_in with_points with_multipliers with_checks
with_form_keys ms e = keys_are 5 ms _ e

pub no_locator : (ms : Members) → (member_count ms == 5) ≡ true → None ≡ number_at (codes "locator") ms → form_in ms ≡ None
no_locator ms e h = with_form_keys ms e ∙ ap (option_and_then (with_points ms)) (sym h)

with_locator : (ms : Members) (locator : ℕ) → (member_count ms == 5) ≡ true → Some locator ≡ number_at (codes "locator") ms → form_in ms ≡ with_points ms locator
with_locator ms locator e h = with_form_keys ms e ∙ ap (option_and_then (with_points ms)) (sym h)

pub no_points : (ms : Members) (locator : ℕ) → (member_count ms == 5) ≡ true → Some locator ≡ number_at (codes "locator") ms → None ≡ bytes_at (codes "points") ms → form_in ms ≡ None
unfolding with_points
no_points ms locator e h k = with_locator ms locator e h ∙ ap (option_and_then (with_multipliers ms locator)) (sym k)

points_there : (ms : Members) (locator : ℕ) (points : List ℕ) → (member_count ms == 5) ≡ true → Some locator ≡ number_at (codes "locator") ms → Some points ≡ bytes_at (codes "points") ms → form_in ms ≡ with_multipliers ms locator points
unfolding with_points
points_there ms locator points e h k = with_locator ms locator e h ∙ ap (option_and_then (with_multipliers ms locator)) (sym k)

pub no_multipliers : (ms : Members) (locator : ℕ) (points : List ℕ) → (member_count ms == 5) ≡ true → Some locator ≡ number_at (codes "locator") ms → Some points ≡ bytes_at (codes "points") ms → None ≡ bytes_at (codes "multipliers") ms → form_in ms ≡ None
unfolding with_multipliers
no_multipliers ms locator points e h k m = points_there ms locator points e h k ∙ ap (option_and_then (with_checks ms locator points)) (sym m)

multipliers_there : (ms : Members) (locator : ℕ) (points multipliers : List ℕ) → (member_count ms == 5) ≡ true → Some locator ≡ number_at (codes "locator") ms → Some points ≡ bytes_at (codes "points") ms → Some multipliers ≡ bytes_at (codes "multipliers") ms → form_in ms ≡ with_checks ms locator points multipliers
unfolding with_multipliers
multipliers_there ms locator points multipliers e h k m = points_there ms locator points e h k ∙ ap (option_and_then (with_checks ms locator points)) (sym m)

pub no_checks : (ms : Members) (locator : ℕ) (points multipliers : List ℕ) → (member_count ms == 5) ≡ true → Some locator ≡ number_at (codes "locator") ms → Some points ≡ bytes_at (codes "points") ms → Some multipliers ≡ bytes_at (codes "multipliers") ms → None ≡ number_at (codes "r") ms → form_in ms ≡ None
unfolding with_checks
no_checks ms locator points multipliers e h k m n = multipliers_there ms locator points multipliers e h k m ∙ ap (option_map (alternant locator points multipliers)) (sym n)

pub form_read : (ms : Members) (locator : ℕ) (points multipliers : List ℕ) (r : ℕ) → (member_count ms == 5) ≡ true → Some locator ≡ number_at (codes "locator") ms → Some points ≡ bytes_at (codes "points") ms → Some multipliers ≡ bytes_at (codes "multipliers") ms → Some r ≡ number_at (codes "r") ms → form_in ms ≡ Some (alternant locator points multipliers r)
unfolding with_checks
form_read ms locator points multipliers r e h k m n = multipliers_there ms locator points multipliers e h k m ∙ ap (option_map (alternant locator points multipliers)) (sym n)

pub ruleset search_at_laws = (search_refused, search_kept)

pub ruleset search_with_laws = (other_keys, search_read)

pub ruleset form_at_laws = (no_form_keys, no_locator, no_points, no_multipliers, no_checks, form_read)
