-- Lemmas on the front of a list of bytes.
--   drop-given       bytes from one place on: the next n of them, as a buffer holds them, and then those behind
--   Appends-longer   what was taken of a list grows by what was taken of the rest of it
use Rattle.std.proofs.Common.{◌≡◌, ℕ, ◌+◌, ◌-◌, List, ◌++◌, length, take, drop, sym, ap, subst, ◌∙◌, take-append-drop}
use Rattle.std.proofs.Math.Seq.{take-add}
use Rattle.std.proofs.lemmas.List.{take_at, take_rest, drop-drop}
use Rattle.std.specs.Io.KnownBytes.{Appends}
use Rattle.std.proofs.KnownBytes.{Appends-trans}
use Rattle.std.specs.Prelude.{Option}

pub drop-given : (bytes whole copied behind : List ℕ) (given n : ℕ) → whole ≡ bytes → copied ≡ take n (take (length whole - given) (drop given whole)) → length copied ≡ n
    → drop given bytes ≡ take n (copied ++ behind) ++ drop (given + n) bytes
drop-given bytes whole copied behind given n same is size =
    let all : take (length whole - given) (drop given whole) ≡ drop given bytes = take_rest whole given ∙ ap (λ (l : List ℕ). drop given l) same in
    let front : take n (copied ++ behind) ≡ take n (drop given bytes) = take_at copied behind n size ∙ is ∙ ap (λ (l : List ℕ). take n l) all in
    sym (take-append-drop n (drop given bytes))
    ∙ ap (λ (l : List ℕ). take n (drop given bytes) ++ l) (drop-drop n given bytes)
    ∙ ap (λ (l : List ℕ). l ++ drop (given + n) bytes) (sym front)

pub Appends-longer : (old mid new : Option (List ℕ)) (bytes : List ℕ) (done n : ℕ) → Appends old mid (take done bytes)
    → Appends mid new (take n (take (length bytes - done) (drop done bytes))) → Appends old new (take (done + n) bytes)
Appends-longer old mid new bytes done n before now =
    let next = subst (λ (l : List ℕ). Appends mid new (take n l)) (take_rest bytes done) now in
    subst (Appends old new) (sym (take-add done n bytes)) (Appends-trans old mid new _ _ before next)
