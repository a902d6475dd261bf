-- Texts of arguments.
--   split_told      an argument around its first `=`
use Rattle.std.proofs.Common.{◌≡◌, ℕ, suc, ◌+◌, ◌<◌, Bool, true, false, not, ◌||◌, ◌==◌, nat_eq, List, [], ◌∷◌, length, take, Option, Some, None, refl, sym, ap, ◌∙◌, arith}
use Rattle.std.specs.Prelude.{cond, MatchOption}
use Rattle.std.specs.Borrow.{Bor}
use Rattle.std.specs.List.{list_any, before_first, after_first, position_or_len}
use Rattle.std.proofs.lemmas.Str.Pattern.{IsSplitOnceResult, split_once_first}
use Rattle.std.specs.Cmp.Lexicographic.{pointwise}
use Rattle.std.proofs.lemmas.List.{take_all}
use Rattle.std.proofs.lemmas.Bool.Decides.{nat_tests}
use Rattle.lc_formats.specs.Text.{same_bytes}
use Rattle.lc_arguments.specs.Asked.{is_equals, name_of}

none_case : {X : Type 0} (p : X → Bool) (x : X) (xs : List X) (t : Bool) → p x ≡ t → (position_or_len p xs ≡ length xs → list_any p xs ≡ false) → cond (not t) (1 + position_or_len p xs) 0 ≡ suc (length xs) → (t || list_any p xs) ≡ false
none_case p x xs true h f e = absurd (omega (arith, e))
none_case p x xs false h f e = f (omega (arith, e))

none_passes : {X : Type 0} (p : X → Bool) (xs : List X) → position_or_len p xs ≡ length xs → list_any p xs ≡ false
none_passes p [] e = refl
none_passes p (x ∷ xs) e = none_case p x xs (p x) refl (none_passes p xs) e

some_case : {X : Type 0} (p : X → Bool) (xs : List X) (t : Bool) → (position_or_len p xs < length xs → list_any p xs ≡ true) → cond (not t) (1 + position_or_len p xs) 0 < suc (length xs) → (t || list_any p xs) ≡ true
some_case p xs true f l = refl
some_case p xs false f l = f (omega (arith, l))

one_passes : {X : Type 0} (p : X → Bool) (xs : List X) → position_or_len p xs < length xs → list_any p xs ≡ true
one_passes p [] l = absurd (omega (arith, l))
one_passes p (x ∷ xs) l = some_case p xs (p x) (one_passes p xs) l

-- before the first sign, where there is none, stands all of the text
all_before : {X : Type 0} (p : X → Bool) (xs : List X) → position_or_len p xs ≡ length xs → before_first p xs ≡ xs
all_before p xs e = ap (λ n. take n xs) e ∙ take_all (length xs) xs (omega arith)

split_case : (word : List ℕ) (r : Option (Bor (List ℕ) × Bor (List ℕ))) → MatchOption r (position_or_len is_equals word ≡ length word) (λ x. (position_or_len is_equals word < length word) × (x.0.now ≡ before_first is_equals word) × (x.1.now ≡ after_first is_equals word)) → MatchOption r ((list_any is_equals word ≡ false) × (name_of word ≡ word)) (λ x. (list_any is_equals word ≡ true) × (x.0.now ≡ name_of word) × (x.1.now ≡ after_first is_equals word))
split_case word None e = (none_passes is_equals word e, all_before is_equals word e)
split_case word (Some x) m = (one_passes is_equals word m.0, m.1, m.2)

pub split_told : (word : List ℕ) (r : Option (Bor (List ℕ) × Bor (List ℕ))) → IsSplitOnceResult 61 word r → MatchOption r ((list_any is_equals word ≡ false) × (name_of word ≡ word)) (λ x. (list_any is_equals word ≡ true) × (x.0.now ≡ name_of word) × (x.1.now ≡ after_first is_equals word))
split_told word r h = split_case word r (split_once_first 61 word r h (omega arith))
