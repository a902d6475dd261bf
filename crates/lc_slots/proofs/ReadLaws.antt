-- What the bytes of a slot are.
--   reads_nothing, reads_damaged, reads_version, reads_shape, reads_point      as they are read
--   front_reads               the front of a slot that is longer than any checkpoint is read as the whole slot is
--   slot_reads, loaded_damaged      what is read of a loaded slot is what the slot has; it is damaged if the slot is
--   never_starved             so a damaged slot is not refused for want of memory, if what was loaded isn't
use Rattle.std.proofs.Common.{◌≡◌, ℕ, ◌+◌, ◌<◌, ◌≤◌, true, false, ◌&&◌, List, [], ◌∷◌, ◌++◌, length, take, drop, min, inl, inr, refl, sym, ap, subst, ◌∙◌, arith}
use Rattle.std.specs.Prelude.{if◌then◌else◌, Option, Some, None, IfSome}
use Rattle.std.proofs.lemmas.List.{take_all, length-take, length-take-le}
use Rattle.std.proofs.Math.Seq.{take-append_seam}
use Rattle.std.proofs.lemmas.Bool.{cases_lt}
use Rattle.lc_io.specs.declared.vault.Slot.{Slot}
use Rattle.lc_io.specs.Vaults.{Slots, Loads, in_slot}
use Rattle.lc_formats.specs.Checkpoint.{ReadCheckpoint, refused, point, damaged, other_version, shape, checkpoint_in}
use Rattle.lc_formats.proofs.CheckpointBack.{too_long}
use Rattle.lc_session_rules.specs.Slots.{is_empty}
use Rattle.lc_checkpoint.specs.declared.checkpoint.Checkpoint.{Checkpoint}
use Rattle.lc_checkpoint.specs.Seen.{point_of}
use Rattle.lc_slots.specs.declared.reading.LoadRefusal.{LoadRefusal}
use Rattle.lc_slots.specs.declared.reading.LoadRefusal.TheVariants.{VaultFault}
use Rattle.lc_slots.specs.declared.reading.Held.{Held}
use Rattle.lc_slots.specs.declared.reading.Held.TheVariants.{Empty, Refused, Holds}
use Rattle.lc_slots.specs.Found.{IsRead}

pub reads_nothing : (bytes : List ℕ) → length bytes ≡ 0 → IsRead Empty bytes
reads_nothing [] e = refl
reads_nothing (b ∷ bytes) e = absurd (omega (arith, e))

has_bytes : (bytes : List ℕ) → 0 < length bytes → is_empty bytes ≡ false
unfolding is_empty
has_bytes [] l = absurd (omega (arith, l))
has_bytes (b ∷ bytes) l = refl

pub reads_damaged : (bytes : List ℕ) → 0 < length bytes → checkpoint_in bytes ≡ refused damaged → IsRead Refused bytes
reads_damaged bytes l e = (has_bytes bytes l, (damaged, e))

pub reads_version : (bytes : List ℕ) (v : ℕ) → 0 < length bytes → checkpoint_in bytes ≡ refused (other_version v) → IsRead Refused bytes
reads_version bytes v l e = (has_bytes bytes l, (other_version v, e))

pub reads_shape : (bytes : List ℕ) → 0 < length bytes → checkpoint_in bytes ≡ refused shape → IsRead Refused bytes
reads_shape bytes l e = (has_bytes bytes l, (shape, e))

pub reads_point : (bytes : List ℕ) (p : Checkpoint) → 0 < length bytes → checkpoint_in bytes ≡ point (point_of p) → IsRead (Holds p) bytes
reads_point bytes p l e = (has_bytes bytes l, e)

-- ---- a slot that is longer than any checkpoint

-- the front of a slot that is as long as the longest checkpoint and one byte more is read as the whole slot
pub same_read : (room : ℕ) (bytes : List ℕ) → 4194304 < room → checkpoint_in (take room bytes) ≡ checkpoint_in bytes
same_read room bytes l =
    elim (cases_lt room (length bytes)) [
      | inl long ↦ too_long (take room bytes) (omega (arith, length-take-le room bytes (omega (arith, long)))) ∙ sym (too_long bytes (omega (arith, long)))
      | inr short ↦ ap checkpoint_in (take_all room bytes short)
    ]

front_empty : (room : ℕ) (bytes : List ℕ) → 0 < room → length (take room bytes) ≡ 0 → bytes ≡ []
front_empty room [] l e = refl
front_empty room (b ∷ bytes) l e = absurd (omega (arith, length-take room (b ∷ bytes)))

none_there : (bytes : List ℕ) → is_empty bytes ≡ false → 0 < length bytes
unfolding is_empty
none_there [] e = absurd cc
none_there (b ∷ bytes) e = omega arith

some_front : (room : ℕ) (bytes : List ℕ) → is_empty (take room bytes) ≡ false → is_empty bytes ≡ false
some_front room bytes e = has_bytes bytes (omega (arith, none_there (take room bytes) e, length-take room bytes))

pub front_reads : (room : ℕ) (h : Held) (bytes : List ℕ) → 4194304 < room → IsRead h (take room bytes) → IsRead h bytes
front_reads room Empty bytes l e = front_empty room bytes (omega (arith, l)) (ap (length {A = ℕ}) e)
front_reads room Refused bytes l (some, (r, e)) = (some_front room bytes some, (r, sym (same_read room bytes l) ∙ e))
front_reads room (Holds p) bytes l (some, e) = (some_front room bytes some, sym (same_read room bytes l) ∙ e)

-- ---- a load

front_of : (s : List ℕ) (n room : ℕ) → n ≡ min (length s) room → take n s ≡ take room s
front_of s n room e =
    elim (cases_lt room (length s)) [
      | inl long ↦ let is : n ≡ room = omega (arith, e, long) in ap (λ k. take k s) is
      | inr short ↦ take_all n s (omega (arith, e, short)) ∙ sym (take_all room s short)
    ]

loaded_front : (s old new : List ℕ) (n : ℕ) → n ≡ min (length s) (length old) → new ≡ take n s ++ drop n old → take n new ≡ take (length old) s
loaded_front s old new n e f =
    let small : n ≤ length s = omega (arith, e) in
    let len : length (take n s) ≡ n = length-take-le n s small in
    ap (take n) f ∙ ap (λ k. take k (take n s ++ drop n old)) (sym len) ∙ take-append_seam (take n s) (drop n old) ∙ front_of s n (length old) e

pub slot_reads : (told : Option Slots) (slot : Slot) (old new : List ℕ) (n : ℕ) (h : Held) → 4194304 < length old → Loads told slot old new n → IsRead h (take n new) → IfSome told (λ slots. IsRead h (in_slot slot slots))
slot_reads None slot old new n h l loads read = tt
slot_reads (Some slots) slot old new n h l (e, f) read =
    front_reads (length old) h (in_slot slot slots) l (subst (IsRead h) (loaded_front (in_slot slot slots) old new n e f) read)

pub loaded_damaged : (told : Option Slots) (slot : Slot) (old new : List ℕ) (n : ℕ) → 4194304 < length old → Loads told slot old new n → IfSome told (λ slots. checkpoint_in (in_slot slot slots) ≡ refused damaged → checkpoint_in (take n new) ≡ refused damaged)
loaded_damaged None slot old new n l loads = tt
loaded_damaged (Some slots) slot old new n l (e, f) = λ h. ap checkpoint_in (loaded_front (in_slot slot slots) old new n e f) ∙ same_read (length old) (in_slot slot slots) l ∙ h

pub never_starved : (told : Option Slots) (slot : Slot) (old new : List ℕ) (n : ℕ) (e : LoadRefusal) → 4194304 < length old → Loads told slot old new n → (checkpoint_in (take n new) ≡ refused damaged → false ≡ true) → IfSome told (λ slots. checkpoint_in (in_slot slot slots) ≡ refused damaged → e ≡ VaultFault)
never_starved None slot old new n e l loads never = tt
never_starved (Some slots) slot old new n e l loads never = λ h. absurd (let f = never (loaded_damaged (Some slots) slot old new n l loads h) in cc)

pub ruleset held_in_laws = (reads_nothing, reads_damaged, reads_version, reads_shape, reads_point)
