-- Lemmas on the files of a folder in memory.
--   found       a look-up finds what the file holds
--   made        a name that was given bytes has them, and each other file is as it was
--   cleared     a name that was taken away has none, and each other file is as it was
--   rose_or     a call that failed by its number counted a fault
--   same_or     one that failed for what the folder holds counted none
--   still_rose  a fault stays counted
--   came_to     a call came to what memory was refused to, or not; or_came_to if it may fail for what the folder holds, too
--   moved_on    a file was renamed between two steps that change none
use Rattle.std.proofs.Common.{◌≡◌, ◌≢◌, ℕ, List, Bool, true, false, cond, Option, Some, None, option_map, option_copied, String, string_bytes, refl, sym, ap, subst, ◌∙◌, inl, inr, ⊎_elim}
use Rattle.std.proofs.lemmas.Bool.{cases_Bool}
use Rattle.std.specs.Prelude.{Vec, Result, Ok, Err, OnOk, OnErr, MatchResult}
use Rattle.std.specs.Borrow.{Bor}
use Rattle.std.specs.BTreeMap.{BTreeMap, UpdatesBy, get_by_text}
use Rattle.std.specs.Ordering.{nat_cmp}
use Rattle.std.specs.String.{string_cmp}
use Rattle.std.specs.Cmp.Lexicographic.{slice_cmp}
use Rattle.std.specs.Str.{bytes_eq}
use Rattle.std.proofs.lemmas.Map.Text.{btree_map_updates_text}
use Rattle.std.proofs.lemmas.Slice.Eq.{bytes_eq-Decides}
use Rattle.lc_io.specs.Outside.{HasRisen}
use Rattle.lc_io.specs.Vaults.{WhereTold}
use Rattle.lc_io.specs.Memory.{Calls, answered, faulted}
use Rattle.lc_io.specs.Folders.{Contents, FailsOr, IsMade, IsMoved}
use Rattle.lc_io.specs.MemoryFolders.{HoldsSame, IsCleared, contents_of}

not_from : (b : Bool) → (b ≡ true → ⊥) → b ≡ false
not_from b not = ⊎_elim (λ (t : b ≡ true). absurd (not t)) (λ (f : b ≡ false). f) (cases_Bool b)

module _ {Y Z : Type 0} (name : List ℕ) (old new : BTreeMap (String Y) (Vec ℕ Z)) (bytes : Option (Vec ℕ Z)) (u : UpdatesBy string_cmp (λ k. slice_cmp nat_cmp name (string_bytes k)) old new bytes) where
  pub set_here : contents_of new name ≡ option_map (λ (v : Vec ℕ Z). v.items) bytes
  set_here =
      ap (option_map (λ (v : Vec ℕ Z). v.items))
      (btree_map_updates_text name old new bytes u name ∙ ap (λ (b : Bool). cond b bytes (get_by_text old name)) ((bytes_eq-Decides name name).1 refl))

  pub set_elsewhere : (other : List ℕ) → other ≢ name → contents_of new other ≡ contents_of old other
  set_elsewhere other not =
      ap (option_map (λ (v : Vec ℕ Z). v.items))
      (btree_map_updates_text name old new bytes u other
      ∙ ap (λ (b : Bool). cond b bytes (get_by_text old other)) (not_from (bytes_eq name other) (λ same. not (sym ((bytes_eq-Decides name other).0 same)))))

pub made : {Y Z : Type 0} (name : List ℕ) (old new : BTreeMap (String Y) (Vec ℕ Z)) (v : Vec ℕ Z) → UpdatesBy string_cmp (λ k. slice_cmp nat_cmp name (string_bytes k)) old new (Some v) → IsMade name v.items (contents_of old) (contents_of new)
made name old new v u = record { made = set_here name old new (Some v) u; others = set_elsewhere name old new (Some v) u }

pub cleared : {Y Z : Type 0} (name : List ℕ) (old new : BTreeMap (String Y) (Vec ℕ Z)) → UpdatesBy string_cmp (λ k. slice_cmp nat_cmp name (string_bytes k)) old new None → IsCleared name (contents_of old) (contents_of new)
cleared name old new u = record { gone = set_here name old new None u; others = set_elsewhere name old new None u }

pub found : {Y Z : Type 0} (name : List ℕ) (files : BTreeMap (String Y) (Vec ℕ Z)) (r : Option (Bor (Vec ℕ Z))) → option_copied r ≡ get_by_text files name → contents_of files name ≡ option_map (λ (v : Bor (Vec ℕ Z)). v.now.items) r
found name files None e = ap (option_map (λ v. v.items)) (sym e)
found {Y} {Z} name files (Some b) e = ap (option_map (λ (v : Vec ℕ Z). v.items)) (sym e)

pub rose_or : (P : Type 0) (a b : ℕ) → HasRisen a b → FailsOr P (Some a) (Some b)
rose_or P a b risen = (b, refl, inl risen)

pub same_or : (P : Type 0) (a b : ℕ) → b ≡ a → P → FailsOr P (Some a) (Some b)
same_or P a b same is = (b, refl, inr (same, is))

pub still_rose : (old passed new : Calls) → HasRisen old.faults passed.faults → new ≡ passed → WhereTold (Some old.faults) (Some new.faults) HasRisen
still_rose old passed new risen same = (new.faults, refl, subst (λ (c : Calls). HasRisen old.faults c.faults) (sym same) risen)

pub came_to : {T E : Type 0} (r : Result T E) (old passed came new : Calls) → passed ≡ answered old → came ≡ passed → MatchResult r (λ _. new ≡ came) (λ _. new ≡ faulted came) → OnErr r (HasRisen came.faults new.faults)
    → MatchResult r (λ _. Some new.faults ≡ Some old.faults) (λ _. WhereTold (Some old.faults) (Some new.faults) HasRisen)
came_to (Ok v) old passed came new pass make same risen = ap (λ (c : Calls). Some c.faults) (same ∙ make ∙ pass)
came_to (Err e) old passed came new pass make same risen = (new.faults, refl, subst (λ (c : Calls). HasRisen c.faults new.faults) (make ∙ pass) risen)

pub or_came_to : {T E : Type 0} (r : Result T E) (P : Type 0) (old passed came new : Calls) → passed ≡ answered old → came ≡ passed → MatchResult r (λ _. new ≡ came) (λ _. new ≡ faulted came) → OnErr r (HasRisen came.faults new.faults)
    → MatchResult r (λ _. Some new.faults ≡ Some old.faults) (λ _. FailsOr P (Some old.faults) (Some new.faults))
or_came_to (Ok v) P old passed came new pass make same risen = ap (λ (c : Calls). Some c.faults) (same ∙ make ∙ pass)
or_came_to (Err e) P old passed came new pass make same risen = rose_or P old.faults new.faults (subst (λ (c : Calls). HasRisen c.faults new.faults) (make ∙ pass) risen)

moves : (from to : List ℕ) (a b c d : Contents) → HoldsSame a b → IsMoved from to b c → HoldsSame c d → IsMoved from to a d
moves from to a b c d before is after = record {
  moved = after to ∙ is.moved ∙ before from;
  gone = λ apart. after from ∙ is.gone apart;
  others = λ other not_from not_to. after other ∙ is.others other not_from not_to ∙ before other;
}

pub moved_on : {T E : Type 0} (r came : Result T E) (from to : List ℕ) (a b c d : Contents) → r ≡ came → HoldsSame a b → OnOk came (IsMoved from to b c) → HoldsSame c d
    → OnOk r (WhereTold (Some a) (Some d) (IsMoved from to))
moved_on (Ok v) came from to a b c d same before is after = (d, refl, moves from to a b c d before (subst (λ r. OnOk r (IsMoved from to b c)) (sym same) is) after)
moved_on (Err e) came from to a b c d same before is after = tt

pub ruleset made_laws = (rose_or, same_or, or_came_to)

pub ruleset moved_laws = (moved_on, rose_or, same_or, or_came_to)
