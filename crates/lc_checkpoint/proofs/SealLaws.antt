-- Seals and digests.
--   digest_refused, digest_other, digest_read      digits that are none, that have another length or capital letters, and a digest
use Rattle.std.proofs.Common.{◌≡◌, ◌≢◌, ℕ, ◌==◌, ◌&&◌, true, false, List, length, Some, None, Result, Ok, Err, is_err, refl, sym, ap, ◌∙◌, ⊎_elim, arith}
use Rattle.std.specs.Prelude.{if◌then◌else◌, MatchResult}
use Rattle.std.specs.Result.{result_ok}
use Rattle.std.proofs.lemmas.Bool.{cases_eq, eq-eqb, false≢true, ne_eqb}
use Rattle.hex.specs.declared.error.FromHexError.{FromHexError}
use Rattle.hex.specs.Hex.{encode_lower, decode_of, decode_sized}
use Rattle.hex.proofs.HexLemmas.{decode_of-ok, decode_sized-ok, decode_sized-twice}
use Rattle.lc_formats.specs.Text.{same_bytes}
use Rattle.lc_formats.specs.Json.{provided}
use Rattle.lc_formats.specs.Checkpoint.{digest_in}
use Rattle.lc_json.proofs.EachLaws.{provided_same, provided_none}

ok_is : (r : Result (List ℕ) FromHexError) (bytes : List ℕ) → result_ok r ≡ Some bytes → r ≡ Ok bytes
ok_is (Ok x) bytes e = ap Ok (cc e)
ok_is (Err x) bytes e = absurd cc

same_test : (s : List ℕ) (bytes : List ℕ) → length bytes ≡ 32 → ((length bytes == 32) && same_bytes s (encode_lower bytes)) ≡ same_bytes s (encode_lower bytes)
same_test s bytes l = ap (λ b. b && same_bytes s (encode_lower bytes)) (eq-eqb (length bytes) 32 l)

other_test : (s : List ℕ) (bytes : List ℕ) → length bytes ≢ 32 → ((length bytes == 32) && same_bytes s (encode_lower bytes)) ≡ false
other_test s bytes l = ap (λ b. b && same_bytes s (encode_lower bytes)) (ne_eqb (length bytes) 32 l)

none_sized : (s : List ℕ) → length s ≢ 64 → (r : Result (List ℕ) FromHexError) → decode_sized s 32 ≡ r → result_ok r ≡ None
none_sized s h (Ok bytes) e = absurd (h (decode_sized-ok s 32 bytes e))
none_sized s h (Err x) e = refl

sized_long : (s : List ℕ) → length s ≡ 64 → digest_in s ≡ provided (λ bytes. same_bytes s (encode_lower bytes)) (result_ok (decode_sized s 32))
unfolding digest_in
sized_long s l =
    provided_same (λ bytes. (length bytes == 32) && same_bytes s (encode_lower bytes)) (λ bytes. same_bytes s (encode_lower bytes)) (result_ok (decode_of s)) (λ bytes e. same_test s bytes (omega (arith, l, (decode_of-ok s bytes (ok_is (decode_of s) bytes e)).2)))
    ∙ ap (λ r. provided (λ bytes. same_bytes s (encode_lower bytes)) (result_ok r)) (sym (decode_sized-twice s 32 l))

sized_other : (s : List ℕ) → length s ≢ 64 → digest_in s ≡ provided (λ bytes. same_bytes s (encode_lower bytes)) (result_ok (decode_sized s 32))
unfolding digest_in provided
sized_other s l =
    provided_none (λ bytes. (length bytes == 32) && same_bytes s (encode_lower bytes)) (result_ok (decode_of s)) (λ bytes e. other_test s bytes (λ k. l (omega (arith, k, (decode_of-ok s bytes (ok_is (decode_of s) bytes e)).2))))
    ∙ ap (provided (λ bytes. same_bytes s (encode_lower bytes))) (sym (none_sized s l (decode_sized s 32) refl))

sized : (s : List ℕ) → digest_in s ≡ provided (λ bytes. same_bytes s (encode_lower bytes)) (result_ok (decode_sized s 32))
sized s = ⊎_elim (sized_long s) (sized_other s) (cases_eq (length s) 64)

abbrev IsDecoded : Result (List ℕ) FromHexError → Result Unit FromHexError → List ℕ → Type 0
IsDecoded d r out = MatchResult d (λ bytes. (r ≡ Ok tt) × (out ≡ bytes)) (λ e. r ≡ Err e)

refused_by : (s out : List ℕ) (d : Result (List ℕ) FromHexError) (r : Result Unit FromHexError) → IsDecoded d r out → is_err r ≡ true → provided (λ bytes. same_bytes s (encode_lower bytes)) (result_ok d) ≡ None
unfolding provided
refused_by s out (Ok bytes) r h e = absurd (false≢true (ap is_err (sym h.0) ∙ e))
refused_by s out (Err x) r h e = refl

read_by : (s out : List ℕ) (d : Result (List ℕ) FromHexError) (r : Result Unit FromHexError) → IsDecoded d r out → is_err r ≡ false → provided (λ bytes. same_bytes s (encode_lower bytes)) (result_ok d) ≡ (if same_bytes s (encode_lower out) then Some out else None)
unfolding provided
read_by s out (Ok bytes) r h e = ap (λ b. if same_bytes s (encode_lower b) then Some b else None) (sym h.1)
read_by s out (Err x) r h e = absurd (false≢true (sym (ap is_err (sym h) ∙ e)))

pub digest_refused : (s out : List ℕ) (r : Result Unit FromHexError) → MatchResult (decode_sized s 32) (λ bytes. (r ≡ Ok tt) × (out ≡ bytes)) (λ e. r ≡ Err e) → is_err r ≡ true → digest_in s ≡ None
digest_refused s out r h e = sized s ∙ refused_by s out (decode_sized s 32) r h e

pub digest_other : (s out : List ℕ) (r : Result Unit FromHexError) → MatchResult (decode_sized s 32) (λ bytes. (r ≡ Ok tt) × (out ≡ bytes)) (λ e. r ≡ Err e) → is_err r ≡ false → same_bytes s (encode_lower out) ≡ false → digest_in s ≡ None
digest_other s out r h e k = sized s ∙ read_by s out (decode_sized s 32) r h e ∙ ap (λ b. if b then Some out else None) k

pub digest_read : (s out : List ℕ) (r : Result Unit FromHexError) → MatchResult (decode_sized s 32) (λ bytes. (r ≡ Ok tt) × (out ≡ bytes)) (λ e. r ≡ Err e) → is_err r ≡ false → same_bytes s (encode_lower out) ≡ true → digest_in s ≡ Some out
digest_read s out r h e k = sized s ∙ read_by s out (decode_sized s 32) r h e ∙ ap (λ b. if b then Some out else None) k
