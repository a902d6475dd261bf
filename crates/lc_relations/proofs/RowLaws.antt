-- What holds of rows that are tried one after another.
--   all_more      of one row more
--   all_told      after the last row: the answer is that it holds of all
use Rattle.std.proofs.Common.{◌≡◌, ℕ, ◌+◌, ◌<◌, ◌≤◌, ◌↔◌, IsTrue, true, List, length, take, slice_index_or, All, refl, subst}
use Rattle.std.proofs.lemmas.List.{take_more, take_all}
use Rattle.std.proofs.lemmas.List.Elements.{All-push}

pub all_more : {X : Type 0} (P : X → Type 0) (xs : List X) (i : ℕ) (x d : X) → i < length xs → x ≡ slice_index_or xs i d → All P (take i xs) → P x → All P (take (i + 1) xs)
all_more P xs i x d l e h p = rw (take_more xs i d l) (All-push P (take i xs) (slice_index_or xs i d) h (subst P e p))

pub all_told : {X : Type 0} (P : X → Type 0) (xs : List X) (i : ℕ) → length xs ≤ i → All P (take i xs) → IsTrue true ↔ All P xs
all_told P xs i l h = ((λ t. subst (λ ys. All P ys) (take_all i xs l) h), (λ k. refl))
