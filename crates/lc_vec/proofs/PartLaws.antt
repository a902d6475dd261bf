-- A list of words that a split has in two parts.
--   part_before                a word of the first part
--   part_after                 the first word of the second part
--   part_put                   the list after a word is written over that one
use Rattle.std.proofs.Common.{◌≡◌, ℕ, ◌+◌, ◌<◌, List, [], ◌∷◌, ◌++◌, set, length, slice_index_or, refl, sym, ap, ◌∙◌, arith}
use Rattle.std.proofs.Math.ListN.{get_or-append}
use Rattle.std.proofs.lemmas.List.{get_or-append-add, get_or_default}

pub part_before : (ws a b : List (List ℕ)) (i : ℕ) (d : List ℕ) → ws ≡ a ++ b → i < length a → slice_index_or a i d ≡ slice_index_or ws i []
part_before ws a b i d e l = get_or_default a i d [] l ∙ sym (get_or-append a b [] i l) ∙ ap (λ z. slice_index_or z i []) (sym e)

pub part_after : (ws a b : List (List ℕ)) (i : ℕ) (d : List ℕ) → ws ≡ a ++ b → length a ≡ i → i < length ws → length b + i ≡ length ws → slice_index_or b 0 d ≡ slice_index_or ws i []
part_after ws a b i d e m l n =
    let at : length a + 0 ≡ i = omega (arith, m) in
    get_or_default b 0 d [] (omega (arith, l, n)) ∙ sym (get_or-append-add a b 0 []) ∙ ap (λ j. slice_index_or (a ++ b) j []) at ∙ ap (λ z. slice_index_or z i []) (sym e)

put_at : (a b : List (List ℕ)) (v : List ℕ) → a ++ set b 0 v ≡ set (a ++ b) (length a) v
put_at [] b v = refl
put_at (x ∷ a) b v = ap (λ z. x ∷ z) (put_at a b v)

pub part_put : (ws a b : List (List ℕ)) (i : ℕ) (v : List ℕ) → ws ≡ a ++ b → length a ≡ i → a ++ set b 0 v ≡ set ws i v
part_put ws a b i v e m = put_at a b v ∙ rw (m, e) refl
