-- A folder in memory, as contracts see it.
--   contents_of files        what the files of a map from names to bytes hold
--   files_in folder          what the files of a folder in memory hold
--   HoldsSame old new        each file is as it was
--   IsCleared name old new   no file has this name; what has another name is as it was
--   IsCounted P old new      the calls after one more, which counts as failed exactly if its number is one of those that fail, or P
--   IsHalfKept file error old new    a call that was to keep this file failed: the file with its name has the first half of its bytes,
--                            rounded down; what has another name is as it was
--   LacksMemory file error old new   memory was refused to such a call: no file had that name, and each file is as it was
use Rattle.std.specs.Prelude.{◌≡◌, ◌/◌, ℕ, List, length, take, None, option_map, String, Vec}
use Rattle.std.specs.BTreeMap.{BTreeMap, get_by_text}
use Rattle.std_io.specs.IoError.{error_kind}
use Rattle.std_io.specs.declared.io.error.Error.{Error}
use Rattle.std_io.specs.declared.io.kind.ErrorKind.TheVariants.{Other, OutOfMemory}
use Rattle.lc_io.specs.Memory.{Calls, IsFailing, answered, failed}
use Rattle.lc_io.specs.Folders.{Contents, IsMade, IsTouched, Written}
use Rattle.lc_io.specs.declared.memory_folder.MemoryFolder.{MemoryFolder}

abbrev pub contents_of : {Y Z : Type 0} → BTreeMap (String Y) (Vec ℕ Z) → Contents
contents_of {Y} {Z} files name = option_map (λ (v : Vec ℕ Z). v.items) (get_by_text files name)

abbrev pub files_in : MemoryFolder → Contents
files_in folder = contents_of folder.files

abbrev pub HoldsSame : Contents → Contents → Type 0
HoldsSame old new = (name : List ℕ) → new name ≡ old name

pub record IsCleared (name : List ℕ) (old new : Contents) : Type 0 where
  pub gone : new name ≡ None
  pub others : IsTouched name old new

pub record IsCounted (P : Type 0) (old new : Calls) : Type 0 where
  pub fails : IsFailing old → new ≡ failed old
  pub refused : P → new ≡ failed old
  pub answers : ¬ (IsFailing old) → ¬ P → new ≡ answered old

pub record IsHalfKept (file : Written) (error : Error) (old new : Contents) : Type 0 where
  pub kind : error_kind error ≡ Other
  pub half : IsMade file.name (take (length file.bytes / 2) file.bytes) old new

pub record LacksMemory (file : Written) (error : Error) (old new : Contents) : Type 0 where
  pub kind : error_kind error ≡ OutOfMemory
  pub absent : old file.name ≡ None
  pub same : HoldsSame old new
