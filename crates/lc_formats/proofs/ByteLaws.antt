-- The test for equal bytes.
--   same_pointwise       it compares byte by byte
--   same_from_bytes      lists that pass it are equal
use Rattle.std.proofs.Common.{◌≡◌, ℕ, List, [], ◌∷◌, nat_eq, refl, ◌≢◌, ◌==◌, true, sym, ap₂, true≢false}
use Rattle.std.specs.Cmp.Lexicographic.{pointwise}
use Rattle.std.proofs.lemmas.Bool.{and_parts}
use Rattle.std.proofs.lemmas.Bool.Decides.{Decides-eqb}
use Rattle.lc_formats.specs.Text.{same_bytes}

pub same_pointwise : (u v : List ℕ) → pointwise nat_eq u v ≡ same_bytes u v
unfolding same_bytes
same_pointwise [] [] = refl
same_pointwise [] (b ∷ v) = refl
same_pointwise (a ∷ u) [] = refl
same_pointwise (a ∷ u) (b ∷ v) = rw (same_pointwise u v) refl

pub same_from_bytes : (u v : List ℕ) → same_bytes u v ≡ true → u ≡ v
unfolding same_bytes
same_from_bytes [] [] h = refl
same_from_bytes [] (b ∷ v) h = absurd (true≢false (sym h))
same_from_bytes (a ∷ u) [] h = absurd (true≢false (sym h))
same_from_bytes (a ∷ u) (b ∷ v) h =
    let p = and_parts (a == b) (same_bytes u v) h in
    ap₂ (λ (c : ℕ) (w : List ℕ). c ∷ w) ((Decides-eqb a b).0 p.0) (same_from_bytes u v p.1)
