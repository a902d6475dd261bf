-- What the files of a folder hold, by their names, and what is done to them. Names and files are lists of bytes.
--   Contents                       the bytes of the file that has a name, None if no file has it
--   held files name                the bytes at this name; a name that no file has holds none
--   Known told P                   P holds of what a folder tells, if it tells it
--   Has told name, Lacks told name     a file has this name, no file has it, if the folder tells what it holds
--   FailsOr P old new              a call failed: if the folder counts its faults, it counted one more, or counted none, and P holds
--   HasFailed old new              if the folder counts its faults, it counted one or more, or can't count higher
--   NotFewer old new               if it counts them, it counted none or more
--   FailsBy kind result            a call failed with an error of this kind
--   FailsOnlyBy kind result        a call gave its answer, or failed with an error of this kind
--   Opens told name given          a reader that gives these bytes was opened: they are those of the file with this name
--   LoadsFile told name old new n  a load into a buffer answered n: the front of what the name holds, as much as fits, is at the front
--                                  of the buffer, and the rest of the buffer is as it was
--   Written                        the name of a new file, and the bytes that were written to it
--   IsNew told name written        nothing was written to a new file of this name yet
--   IsWrittenOn bytes old new      these bytes came after those that were there, in the same file
--   KeepsName old new              the file is the same, whatever was written to it
--   IsKept written old new         the file with that name has the bytes that were written to it; what has another name is as it was
--   TouchesOnly written old new    what has another name is as it was
--   IsMade name bytes old new      the file with this name has these bytes; what has another name is as it was
--   IsTouched name old new         what has another name than this one is as it was
--   IsMoved from to old new        what had the name `from` has the name `to`, and nothing has the name `from`; what has another name
--                                  is as it was
--   IsMovedOrNot from to old new   the same, or all is as it was
--   next_of name                   the name of the file that a store of a slot writes first
--   LeavesOthers name old new      what has neither this name nor that of the file that a store writes first is as it was
--   Replaces name bytes old new    the file with this name has these bytes, and nothing has the name of the one that a store writes
--                                  first; the others as before
--   IsReplacedOrNot name bytes old new     the file with this name has these bytes, or what it had; the others as before
--   AreApart zero one              the names of two slots: neither is the other, nor what a store of the other writes first
--   FolderSlots R                  a vault of two files: its folder, the names of its slots, and how often it has failed
--   name_among slot zero one       the name of the file of a slot, of these two
--   slots_in zero one told         the slots of a vault of files with these names
--   IsPutOrNot slot bytes old new  these bytes replaced this slot, or both are as they were
use Rattle.std.specs.Prelude.{◌≡◌, ◌≢◌, ◌⊎◌, ◌<◌, ◌≤◌, ◌-◌, ◌^◌, ◌++◌, ℕ, List, [], codes, length, take, drop, min, Option, Some, None, IsSome, option_map, Result, IfErr, IsErrAnd}
use Rattle.std_io.specs.IoError.{error_kind}
use Rattle.std_io.specs.declared.io.error.Error.{Error}
use Rattle.std_io.specs.declared.io.kind.ErrorKind.{ErrorKind}
use Rattle.lc_io.specs.Outside.{HasRisen}
use Rattle.lc_io.specs.Vaults.{Slots, WhereTold, put}
use Rattle.lc_io.specs.declared.vault.Slot.{Slot}
use Rattle.lc_io.specs.declared.vault.Slot.TheVariants.{Zero, One}

abbrev pub Contents : Type 0
Contents = List ℕ → Option (List ℕ)

-- the bytes of a file, none if there is no file
abbrev pub bytes_of : Option (List ℕ) → List ℕ
bytes_of None = []
bytes_of (Some bytes) = bytes

abbrev pub held : Contents → List ℕ → List ℕ
held files name = bytes_of (files name)

abbrev pub Known : Option Contents → (Contents → Type 0) → Type 0
Known None P = Unit {0}
Known (Some files) P = P files

abbrev pub Has : Option Contents → List ℕ → Type 0
Has told name = Known told (λ files. IsSome (files name))

abbrev pub Lacks : Option Contents → List ℕ → Type 0
Lacks told name = Known told (λ files. files name ≡ None)

abbrev pub FailsOr : Type 0 → Option ℕ → Option ℕ → Type 0
FailsOr P old new = WhereTold old new (λ before now. HasRisen before now ⊎ ((now ≡ before) × P))

abbrev pub HasFailed : Option ℕ → Option ℕ → Type 0
HasFailed old new = WhereTold old new (λ before now. (before < now) ⊎ (now ≡ 2 ^ 64 - 1))

abbrev pub NotFewer : Option ℕ → Option ℕ → Type 0
NotFewer old new = WhereTold old new (λ before now. before ≤ now)

abbrev pub FailsBy : {T : Type 0} → ErrorKind → Result T Error → Type 0
FailsBy kind result = IsErrAnd result (λ e. error_kind e ≡ kind)

abbrev pub FailsOnlyBy : {T : Type 0} → ErrorKind → Result T Error → Type 0
FailsOnlyBy kind result = IfErr result (λ e. error_kind e ≡ kind)

-- what the reader gives is told, and is all that the file with this name has
abbrev pub Opens : Option Contents → List ℕ → Option (List ℕ) → Type 0
Opens None name given = Unit {0}
Opens (Some files) name given = (bytes : List ℕ) × (files name ≡ Some bytes) × (given ≡ Some bytes)

-- the front of what the name holds, as much as fits, is at the front of the buffer, and the rest of the buffer is as it was
abbrev pub LoadsFile : Option Contents → List ℕ → List ℕ → List ℕ → ℕ → Type 0
LoadsFile None name before after n = n ≤ length before
LoadsFile (Some files) name before after n = (n ≡ min (length (held files name)) (length before)) × (after ≡ take n (held files name) ++ drop n before)

pub record Written : Type 0 where
  pub name : List ℕ
  pub bytes : List ℕ

abbrev pub IsNew : Option Contents → List ℕ → Option Written → Type 0
IsNew None name written = Unit {0}
IsNew (Some files) name written = written ≡ Some (record { name = name; bytes = [] })

abbrev pub IsWrittenOn : List ℕ → Written → Written → Type 0
IsWrittenOn bytes old new = new ≡ record { name = old.name; bytes = old.bytes ++ bytes }

abbrev pub KeepsName : Written → Written → Type 0
KeepsName old new = new.name ≡ old.name

pub record IsMade (name bytes : List ℕ) (old new : Contents) : Type 0 where
  pub made : new name ≡ Some bytes
  pub others : (other : List ℕ) → other ≢ name → new other ≡ old other

abbrev pub IsTouched : List ℕ → Contents → Contents → Type 0
IsTouched name old new = (other : List ℕ) → other ≢ name → new other ≡ old other

-- of a file that tells nothing, nothing is known to be kept
abbrev pub IsKept : Option Written → Contents → Contents → Type 0
IsKept None old new = Unit {0}
IsKept (Some file) old new = IsMade file.name file.bytes old new

abbrev pub TouchesOnly : Option Written → Contents → Contents → Type 0
TouchesOnly None old new = Unit {0}
TouchesOnly (Some file) old new = IsTouched file.name old new

pub record IsMoved (from to : List ℕ) (old new : Contents) : Type 0 where
  pub moved : new to ≡ old from
  pub gone : from ≢ to → new from ≡ None
  pub others : (other : List ℕ) → other ≢ from → other ≢ to → new other ≡ old other

abbrev pub IsMovedOrNot : List ℕ → List ℕ → Contents → Contents → Type 0
IsMovedOrNot from to old new = IsMoved from to old new ⊎ ((name : List ℕ) → new name ≡ old name)

abbrev pub next_of : List ℕ → List ℕ
next_of name = name ++ codes ".new"

abbrev pub LeavesOthers : List ℕ → Contents → Contents → Type 0
LeavesOthers name old new = (other : List ℕ) → other ≢ next_of name → other ≢ name → new other ≡ old other

pub record Replaces (name bytes : List ℕ) (old new : Contents) : Type 0 where
  pub replaced : new name ≡ Some bytes
  pub gone : new (next_of name) ≡ None
  pub others : LeavesOthers name old new

pub record IsReplacedOrNot (name bytes : List ℕ) (old new : Contents) : Type 0 where
  pub whole : (new name ≡ Some bytes) ⊎ (new name ≡ old name)
  pub others : LeavesOthers name old new

pub record AreApart (zero one : List ℕ) : Type 0 where
  pub names : zero ≢ one
  pub zero_next : one ≢ next_of zero
  pub one_next : zero ≢ next_of one

pub record FolderSlots (R : Type 0) : Type 0 where
  pub folder : R
  pub zero : List ℕ
  pub one : List ℕ
  pub faults : ℕ

abbrev pub name_among : Slot → List ℕ → List ℕ → List ℕ
name_among Zero zero one = zero
name_among One zero one = one

abbrev pub slots_in : List ℕ → List ℕ → Option Contents → Option Slots
slots_in zero one told = option_map (λ (files : Contents). record { zero_slot = held files zero; one_slot = held files one }) told

abbrev pub IsPutOrNot : Slot → List ℕ → Slots → Slots → Type 0
IsPutOrNot slot bytes old new = (new ≡ put slot bytes old) ⊎ (new ≡ old)
