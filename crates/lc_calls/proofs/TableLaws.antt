-- The table of calls, row by row, and the definition's.
--   row_found                    the row that is found by its name
--   find_now                     a form that is found among those that are borrowed
use Rattle.std.proofs.Common.{◌≡◌, ℕ, Bool, true, false, ◌==◌, nat_eq, cond, List, [], ◌∷◌, map, find, Option, Some, None, MatchOption, option_map, refl, sym, ap, subst, ◌∙◌, arith}
use Rattle.std.specs.Borrow.{Bor}
use Rattle.std.specs.Cmp.Lexicographic.{pointwise}
use Rattle.std.proofs.lemmas.Bool.Decides.{nat_tests}
use Rattle.lc_language.specs.declared.Call.{Call}
use Rattle.lc_language.specs.declared.Kind.{Kind}
use Rattle.lc_formats.specs.Text.{same_bytes}
use Rattle.lc_language.specs.Calls.{name_of, signatures, call_named}
use Rattle.lc_calls.specs.Built.{built_calls, call_of, forms_of, IsRowOf}
use Rattle.lc_calls.specs.declared.table.Row.{Row}

pub same_swapped : (u v : List ℕ) → pointwise nat_eq u v ≡ same_bytes v u
unfolding same_bytes
same_swapped [] [] = refl
same_swapped [] (b ∷ v) = refl
same_swapped (a ∷ u) [] = refl
same_swapped (a ∷ u) (b ∷ v) = let e : (a == b) ≡ (b == a) = grind (arith, nat_tests) in rw (e, same_swapped u v) refl

-- the call that a name finds, and its row
record IsFound (x : List ℕ) (cs : List Call) (row : Row) : Type 0 where
  found : call_named cs x ≡ Some (call_of row.call)
  forms : signatures (call_of row.call) ≡ forms_of row

abbrev Finds : List ℕ → List Call → Option Row → Type 0
Finds x cs o = MatchOption o (call_named cs x ≡ None) (λ row. IsFound x cs row)

later : (x : List ℕ) (c : Call) (cs : List Call) (o : Option Row) → same_bytes x (name_of c) ≡ false → Finds x cs o → Finds x (c ∷ cs) o
unfolding call_named
later x c cs None t h = rw t h
later x c cs (Some row) t h = record { found = rw t h.found; forms = h.forms }

found_from : (x : List ℕ) (b : Bool) (row : Row) (c : Call) (cs : List Call) (o : Option Row) → b ≡ same_bytes x (name_of c) → call_of row.call ≡ c → forms_of row ≡ signatures c → Finds x cs o → Finds x (c ∷ cs) (cond b (Some row) o)
unfolding call_named
found_from x true row c cs o e h f k = record { found = rw (← e, h) refl; forms = ap signatures h ∙ sym f }
found_from x false row c cs o e h f k = later x c cs o (sym e) k

finds : (x : List ℕ) (rows : List Row) (cs : List Call) → map (λ row. call_of row.call) rows ≡ cs → map (λ row. row.name.now) rows ≡ map name_of cs → map forms_of rows ≡ map signatures cs → Finds x cs (find (λ row. pointwise nat_eq row.name.now x) rows)
unfolding call_named
finds x [] [] e n f = refl
finds x [] (c ∷ cs) e n f = cc
finds x (row ∷ rows) [] e n f = cc
finds x (row ∷ rows) (c ∷ cs) e n f =
    let k : call_of row.call ≡ c = cc in
    let ks : map (λ (r : Row). call_of r.call) rows ≡ cs = cc in
    let m : row.name.now ≡ name_of c = cc in
    let ms : map (λ (r : Row). r.name.now) rows ≡ map name_of cs = cc in
    let g : forms_of row ≡ signatures c = cc in
    let gs : map forms_of rows ≡ map signatures cs = cc in
    let t : pointwise nat_eq row.name.now x ≡ same_bytes x (name_of c) = same_swapped row.name.now x ∙ ap (same_bytes x) m in
    found_from x (pointwise nat_eq row.name.now x) row c cs (find (λ r. pointwise nat_eq r.name.now x) rows) t k g (finds x rows cs ks ms gs)

as_row : (x : List ℕ) (r : Option (Bor Row)) → Finds x built_calls (option_map (λ row. row.now) r) → MatchOption r (call_named built_calls x ≡ None) (λ row. IsRowOf x row.now)
as_row x None h = h
as_row x (Some row) h = record { found = h.found; forms = h.forms }

pub row_found : (x : List ℕ) (rows : List Row) (r : Option (Bor Row)) → map (λ row. call_of row.call) rows ≡ built_calls → map (λ row. row.name.now) rows ≡ map name_of built_calls → map forms_of rows ≡ map signatures built_calls
    → option_map (λ row. row.now) r ≡ find (λ row. pointwise nat_eq row.name.now x) rows → MatchOption r (call_named built_calls x ≡ None) (λ row. IsRowOf x row.now)
row_found x rows r e n f h = as_row x r (subst (Finds x built_calls) (sym h) (finds x rows built_calls e n f))

find_next : (p : List Kind → Bool) (b : Bool) (k : Bor (List Kind)) (o : Option (Bor (List Kind))) (r : Option (List Kind)) → option_map (λ k. k.now) o ≡ r → option_map (λ k. k.now) (cond b (Some k) o) ≡ cond b (Some k.now) r
find_next p true k o r e = refl
find_next p false k o r e = e

pub find_now : (p : List Kind → Bool) (forms : List (Bor (List Kind))) → option_map (λ kinds. kinds.now) (find (λ kinds. p kinds.now) forms) ≡ find p (map (λ kinds. kinds.now) forms)
find_now p [] = refl
find_now p (k ∷ forms) = find_next p (p k.now) k (find (λ kinds. p kinds.now) forms) (find p (map (λ kinds. kinds.now) forms)) (find_now p forms)
