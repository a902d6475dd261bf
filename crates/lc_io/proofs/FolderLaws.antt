-- Lemmas on the files of a folder, of which two are the slots of a vault.
--   made_file        a file that is removed, made anew, written and kept has the bytes that were written
--   torn_file        one that isn't kept in the end leaves each other file as it was
--   unwritten_file   so does one that couldn't be written
--   left_whole       a file that wasn't made leaves that of the slot as it was
--   replaced_whole   one that was made and moved has the new bytes, and nothing has the name that it was made with
--   moved_whole      a file that was made leaves that of the slot with the new bytes, or as it was
--   whole_slots      so does a store leave the slots
--   torn_slots       and no other slot than its own is touched
use Rattle.std.proofs.Common.{◌≡◌, ◌≢◌, refl, sym, ap, subst, ◌∙◌, ◌+◌, inl, inr, ⊎_elim, arith}
use Rattle.std.proofs.lemmas.List.{length-append}
use Rattle.std.specs.Prelude.{ℕ, List, [], length, codes, Option, Some, None}
use Rattle.lc_io.specs.declared.vault.Slot.{Slot}
use Rattle.lc_io.specs.declared.vault.Slot.TheVariants.{Zero, One}
use Rattle.lc_io.specs.Vaults.{Slots, in_slot, put, WhereTold, IsTorn}
use Rattle.lc_io.proofs.SlotLaws.{WhereTold-map, WhereTold-then}
use Rattle.lc_io.specs.Folders.{Contents, Written, held, bytes_of, IsNew, IsWrittenOn, IsKept, TouchesOnly, IsMade, IsTouched, IsMoved, IsMovedOrNot, Replaces, IsReplacedOrNot, IsPutOrNot, AreApart, next_of, name_among, slots_in}

-- the last of the steps, of which the file has what was written
abbrev Ends : List ℕ → List ℕ → (Option Written → Contents → Contents → Type 0) → Contents → Contents → Type 0
Ends name bytes Last first new = (made : Contents) × IsTouched name first made × Last (Some (record { name = name; bytes = bytes })) made new

steps : (name bytes : List ℕ) (first cleared made wrote new : Option Contents) (empty full : Option Written) (Last : Option Written → Contents → Contents → Type 0)
    → WhereTold first cleared (IsTouched name) → WhereTold cleared made (IsTouched name) → IsNew cleared name empty → WhereTold empty full (IsWrittenOn bytes) → WhereTold made wrote (TouchesOnly empty) → WhereTold wrote new (Last full)
    → WhereTold first new (Ends name bytes Last)
steps name bytes None cleared made wrote new empty full Last removed created is written put last =
    let none = subst (λ (m : Option Contents). WhereTold m made (IsTouched name)) removed created in
    let still = subst (λ (m : Option Contents). WhereTold m wrote (TouchesOnly empty)) none put in
    subst (λ (m : Option Contents). WhereTold m new (Last full)) still last
steps name bytes (Some files) cleared made wrote new empty full Last (left, removed, untouched) created is written put last =
    let there : WhereTold (Some left) made (IsTouched name) = subst (λ (m : Option Contents). WhereTold m made (IsTouched name)) removed created in
    let begun : empty ≡ Some (record { name = name; bytes = [] }) = subst (λ (m : Option Contents). IsNew m name empty) removed is in
    let ended : WhereTold (Some (record { name = name; bytes = [] })) full (IsWrittenOn bytes) = subst (λ (w : Option Written). WhereTold w full (IsWrittenOn bytes)) begun written in
    let went : WhereTold (Some there.0) wrote (TouchesOnly empty) = subst (λ (m : Option Contents). WhereTold m wrote (TouchesOnly empty)) there.1 put in
    let only : IsTouched name there.0 went.0 = subst (λ (w : Option Written). TouchesOnly w there.0 went.0) begun went.2 in
    let kept : WhereTold (Some went.0) new (Last full) = subst (λ (m : Option Contents). WhereTold m new (Last full)) went.1 last in
    let same : full ≡ Some (record { name = name; bytes = bytes }) = ended.1 ∙ ap Some ended.2 in
    (kept.0, kept.1, (went.0, (λ other not. only other not ∙ there.2 other not ∙ untouched other not), subst (λ (w : Option Written). Last w went.0 kept.0) same kept.2))

pub made_file : (name bytes : List ℕ) (first cleared made wrote new : Option Contents) (empty full : Option Written)
    → WhereTold first cleared (IsTouched name) → WhereTold cleared made (IsTouched name) → IsNew cleared name empty → WhereTold empty full (IsWrittenOn bytes) → WhereTold made wrote (TouchesOnly empty) → WhereTold wrote new (IsKept full)
    → WhereTold first new (IsMade name bytes)
made_file name bytes first cleared made wrote new empty full removed created is written put kept =
    WhereTold-map first new (Ends name bytes IsKept) (IsMade name bytes)
    (λ a b (m, before, is). record { made = is.made; others = λ other not. is.others other not ∙ before other not })
    (steps name bytes first cleared made wrote new empty full IsKept removed created is written put kept)

pub torn_file : (name bytes : List ℕ) (first cleared made wrote new : Option Contents) (empty full : Option Written)
    → WhereTold first cleared (IsTouched name) → WhereTold cleared made (IsTouched name) → IsNew cleared name empty → WhereTold empty full (IsWrittenOn bytes) → WhereTold made wrote (TouchesOnly empty) → WhereTold wrote new (TouchesOnly full)
    → WhereTold first new (IsTouched name)
torn_file name bytes first cleared made wrote new empty full removed created is written put torn =
    WhereTold-map first new (Ends name bytes TouchesOnly) (IsTouched name)
    (λ a b (m, before, after) other not. after other not ∙ before other not)
    (steps name bytes first cleared made wrote new empty full TouchesOnly removed created is written put torn)

pub unwritten_file : (name : List ℕ) (first cleared made wrote : Option Contents) (empty : Option Written)
    → WhereTold first cleared (IsTouched name) → WhereTold cleared made (IsTouched name) → IsNew cleared name empty → WhereTold made wrote (TouchesOnly empty)
    → WhereTold first wrote (IsTouched name)
unwritten_file name None cleared made wrote empty removed created is put =
    let none = subst (λ (m : Option Contents). WhereTold m made (IsTouched name)) removed created in
    subst (λ (m : Option Contents). WhereTold m wrote (TouchesOnly empty)) none put
unwritten_file name (Some files) cleared made wrote empty (left, removed, untouched) created is put =
    let there : WhereTold (Some left) made (IsTouched name) = subst (λ (m : Option Contents). WhereTold m made (IsTouched name)) removed created in
    let begun : empty ≡ Some (record { name = name; bytes = [] }) = subst (λ (m : Option Contents). IsNew m name empty) removed is in
    let went : WhereTold (Some there.0) wrote (TouchesOnly empty) = subst (λ (m : Option Contents). WhereTold m wrote (TouchesOnly empty)) there.1 put in
    let only : IsTouched name there.0 went.0 = subst (λ (w : Option Written). TouchesOnly w there.0 went.0) begun went.2 in
    (went.0, went.1, λ other not. only other not ∙ there.2 other not ∙ untouched other not)

next_differs : (name : List ℕ) → name ≢ next_of name
next_differs name same =
    let longer : length name ≡ length name + 4 = ap length same ∙ length-append name (codes ".new") in
    omega (arith, longer)

pub left_whole : (name bytes : List ℕ) (old new : Option Contents) → WhereTold old new (IsTouched (next_of name)) → WhereTold old new (IsReplacedOrNot name bytes)
left_whole name bytes old new torn =
    WhereTold-map old new (IsTouched (next_of name)) (IsReplacedOrNot name bytes)
    (λ a b is. record { whole = inr (is name (next_differs name)); others = λ other not_next not. is other not_next })
    torn

moved_or_not : (name bytes : List ℕ) (a b c : Contents) → IsMade (next_of name) bytes a b → IsMovedOrNot (next_of name) name b c → IsReplacedOrNot name bytes a c
moved_or_not name bytes a b c made (inl moved) = record {
  whole = inl (moved.moved ∙ made.made);
  others = λ other not_next not. moved.others other not_next not ∙ made.others other not_next;
}
moved_or_not name bytes a b c made (inr same) = record {
  whole = inr (same name ∙ made.others name (next_differs name));
  others = λ other not_next not. same other ∙ made.others other not_next;
}

pub moved_whole : (name bytes : List ℕ) (old made new : Option Contents) → WhereTold old made (IsMade (next_of name) bytes) → WhereTold made new (IsMovedOrNot (next_of name) name)
    → WhereTold old new (IsReplacedOrNot name bytes)
moved_whole name bytes old made new is moved =
    WhereTold-then old made new (IsMade (next_of name) bytes) (IsMovedOrNot (next_of name) name) (IsReplacedOrNot name bytes) (moved_or_not name bytes) is moved

moved_made : (name bytes : List ℕ) (a b c : Contents) → IsMade (next_of name) bytes a b → IsMoved (next_of name) name b c → Replaces name bytes a c
moved_made name bytes a b c made moved = record {
  replaced = moved.moved ∙ made.made;
  gone = moved.gone (λ e. next_differs name (sym e));
  others = λ other not_next not. moved.others other not_next not ∙ made.others other not_next;
}

pub replaced_whole : (name bytes : List ℕ) (old made new : Option Contents) → WhereTold old made (IsMade (next_of name) bytes) → WhereTold made new (IsMoved (next_of name) name)
    → WhereTold old new (Replaces name bytes)
replaced_whole name bytes old made new is moved =
    WhereTold-then old made new (IsMade (next_of name) bytes) (IsMoved (next_of name) name) (Replaces name bytes) (moved_made name bytes) is moved

abbrev both : List ℕ → List ℕ → Slots
both zero one = record { zero_slot = zero; one_slot = one }

put_or_not : (slot : Slot) (zero one bytes : List ℕ) (a b : Contents) → AreApart zero one → IsReplacedOrNot (name_among slot zero one) bytes a b
    → IsPutOrNot slot bytes (both (held a zero) (held a one)) (both (held b zero) (held b one))
put_or_not Zero zero one bytes a b apart is =
    let other : held b one ≡ held a one = ap bytes_of (is.others one apart.zero_next (λ e. apart.names (sym e))) in
    ⊎_elim
    (λ put. inl (ap (λ (l : List ℕ). both l (held b one)) (ap bytes_of put) ∙ ap (both bytes) other))
    (λ same. inr (ap (λ (l : List ℕ). both l (held b one)) (ap bytes_of same) ∙ ap (both (held a zero)) other))
    is.whole
put_or_not One zero one bytes a b apart is =
    let other : held b zero ≡ held a zero = ap bytes_of (is.others zero apart.one_next apart.names) in
    ⊎_elim
    (λ put. inl (ap (both (held b zero)) (ap bytes_of put) ∙ ap (λ (l : List ℕ). both l bytes) other))
    (λ same. inr (ap (both (held b zero)) (ap bytes_of same) ∙ ap (λ (l : List ℕ). both l (held a one)) other))
    is.whole

pub whole_slots : (slot : Slot) (zero one bytes : List ℕ) (old new : Option Contents) → AreApart zero one → WhereTold old new (IsReplacedOrNot (name_among slot zero one) bytes)
    → WhereTold (slots_in zero one old) (slots_in zero one new) (IsPutOrNot slot bytes)
whole_slots slot zero one bytes None new apart is = ap (slots_in zero one) is
whole_slots slot zero one bytes (Some old) new apart (files, is, now) =
    (both (held files zero) (held files one), ap (slots_in zero one) is, put_or_not slot zero one bytes old files apart now)

put_again : (slot : Slot) (slots : Slots) → slots ≡ put slot (in_slot slot slots) slots
put_again Zero slots = refl
put_again One slots = refl

pub torn_slots : (slot : Slot) (zero one bytes : List ℕ) (old new : Option Contents) → AreApart zero one → WhereTold old new (IsReplacedOrNot (name_among slot zero one) bytes)
    → WhereTold (slots_in zero one old) (slots_in zero one new) (IsTorn slot)
torn_slots slot zero one bytes old new apart is =
    WhereTold-map (slots_in zero one old) (slots_in zero one new) (IsPutOrNot slot bytes) (IsTorn slot)
    (λ a b h. ⊎_elim (λ put. (bytes, put)) (λ same. (in_slot slot a, same ∙ put_again slot a)) h)
    (whole_slots slot zero one bytes old new apart is)

pub ruleset replace_laws = (left_whole, moved_whole, replaced_whole)
