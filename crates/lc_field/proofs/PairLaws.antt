-- A table of an operation at all pairs, filled pair by pair.
--   pairs_whole    all of them
use Rattle.std.proofs.Common.{◌≡◌, ℕ, ◌+◌, suc, ◌*◌, ◌/◌, ◌%◌, ◌<◌, ◌≤◌, List, [], ◌∷◌, ◌++◌, length, slice_index, arith, ◌∙◌}
use Rattle.std.proofs.lemmas.Nat.{div-mul-add, mod-mul-add, mul-le}
use Rattle.lc_field.specs.Tables.{IsTable}

abbrev pub PairsBelow : (ℕ → ℕ → ℕ) → ℕ → List ℕ → ℕ → Type 0
PairsBelow op q table n = (length table ≡ n) × ((k : ℕ) → k < n → slice_index table k ≡ op (k / q) (k % q))

pub pairs_whole : (op : ℕ → ℕ → ℕ) (q m : ℕ) (table : List ℕ) (n : ℕ) → q ≡ m → n ≡ q * q → PairsBelow op q table n → IsTable op m table
pairs_whole op q m table n z w (c, h) =
    let t : IsTable op q table = record {
      count = c ∙ w;
      entries = λ a b l k.
          let up : suc a * q ≤ q * q = mul-le (suc a) q q q l (omega arith) in
          let s : suc a * q ≡ a * q + q = omega arith in
          let d : (a * q + b) / q ≡ a = div-mul-add a q b k in
          let r : (a * q + b) % q ≡ b = mod-mul-add a q b k in
          cc (h (a * q + b) (omega (arith, w, up, s, k)));
    } in
    rw z at t
