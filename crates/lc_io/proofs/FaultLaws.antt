-- Lemmas on how often a folder has failed while a file of it was replaced.
--   unopened      what has a name was removed, and no file of this name could be made: a fault was counted
--   unwritten     so it was if a file was made that could not be written
--   unkept        or one that was written and could not be kept
--   undiminished  a file that was made, written and kept leaves no fewer faults
--   unmoved       a file was made, and could not be renamed: a fault was counted
use Rattle.std.proofs.Common.{◌≡◌, refl, true, true≢false, ◌⊎◌, ◌∙◌, ◌<◌, ◌≤◌, ◌-◌, ◌^◌, sym, subst, inl, inr, arith}
use Rattle.std.specs.Prelude.{ℕ, List, Option, Some, None, IsSome, is_some, Result, Ok, Err, OnOk, MatchResult}
use Rattle.lc_io.specs.Outside.{HasRisen}
use Rattle.lc_io.specs.Vaults.{WhereTold}
use Rattle.lc_io.specs.Folders.{Contents, Known, Has, Lacks, FailsOr, HasFailed, NotFewer, IsTouched, IsMade}
use Rattle.lc_io.proofs.FolderLaws.{made_file, torn_file, unwritten_file}
use Rattle.lc_io.proofs.SlotLaws.{WhereTold-map, WhereTold-then, WhereTold-refl}

abbrev More : ℕ → ℕ → Type 0
More before now = (before < now) ⊎ (now ≡ 2 ^ 64 - 1)

then_risen : (a b c : ℕ) → a ≤ b → HasRisen b c → More a c
then_risen a b c le (inl more) = inl (omega (arith, le, more))
then_risen a b c le (inr (same, full)) = inr full

some_is_there : {X : Type 0} (o : Option X) → o ≡ None → IsSome o → ⊥
some_is_there {X} o none some = true≢false (sym (subst (λ (p : Option X). is_some p ≡ true) none some))

step_removed : (P : Type 0) (a b : ℕ) → HasRisen a b ⊎ ((b ≡ a) × P) → a ≤ b
step_removed P a b (inl (inl more)) = omega (arith, more)
step_removed P a b (inl (inr (same, full))) = omega (arith, same)
step_removed P a b (inr (same, is)) = omega (arith, same)

removed : {T E : Type 0} (r : Result T E) (P : Type 0) (before between : Option ℕ) → MatchResult r (λ _. between ≡ before) (λ _. FailsOr P before between) → NotFewer before between
removed (Ok v) P before between same = subst (λ (m : Option ℕ). NotFewer before m) (sym same) (WhereTold-refl before (λ a b. a ≤ b) (λ a. omega arith))
removed (Err e) P before between fails = WhereTold-map before between (λ a b. HasRisen a b ⊎ ((b ≡ a) × P)) (λ a b. a ≤ b) (step_removed P) fails

known : (told : Option Contents) (P : Type 0) → P → Known told (λ _. P)
known None P p = tt
known (Some files) P p = p

after_rise : (before between after : Option ℕ) → NotFewer before between → WhereTold between after HasRisen → HasFailed before after
after_rise before between after fewer rose = WhereTold-then before between after (λ a b. a ≤ b) HasRisen More then_risen fewer rose

risen_or_absurd : (P : Type 0) (a b : ℕ) → (P → ⊥) → HasRisen a b ⊎ ((b ≡ a) × P) → HasRisen a b
risen_or_absurd P a b not (inl risen) = risen
risen_or_absurd P a b not (inr (same, is)) = absurd (not is)

surely : (P : Type 0) (old new : Option ℕ) → (P → ⊥) → FailsOr P old new → WhereTold old new HasRisen
surely P old new not fails = WhereTold-map old new (λ a b. HasRisen a b ⊎ ((b ≡ a) × P)) HasRisen (λ a b h. risen_or_absurd P a b not h) fails

-- the removal failed: either its fault was counted, or nothing has the name, and then that of making the file was
either : (L H : Type 0) (a b c : ℕ) → (L → H → ⊥) → HasRisen a b ⊎ ((b ≡ a) × L) → HasRisen b c ⊎ ((c ≡ b) × H) → More a c
either L H a b c not (inl first) (inl second) = then_risen a b c (step_removed L a b (inl first)) second
either L H a b c not (inl (inl more)) (inr (same, has)) = inl (omega (arith, more, same))
either L H a b c not (inl (inr (still, full))) (inr (same, has)) = inr (same ∙ full)
either L H a b c not (inr (same, lacks)) (inl second) = then_risen a b c (step_removed L a b (inr (same, lacks))) second
either L H a b c not (inr (same, lacks)) (inr (still, has)) = absurd (not lacks has)

pub unopened : {T E : Type 0} (r : Result T E) (name : List ℕ) (first cleared : Option Contents) (before between after : Option ℕ)
    → WhereTold first cleared (IsTouched name) → OnOk r (Lacks cleared name) → MatchResult r (λ _. between ≡ before) (λ _. FailsOr (Lacks cleared name) before between)
    → FailsOr (Has cleared name) between after → Known first (λ _. HasFailed before after)
unopened r name None cleared before between after touched lacks count fails = tt
unopened (Ok v) name (Some files) cleared before between after (left, is, touched) lacks same fails =
    let gone : left name ≡ None = subst (λ (m : Option Contents). Lacks m name) is lacks in
    let failed : FailsOr (IsSome (left name)) between after = subst (λ (m : Option Contents). FailsOr (Has m name) between after) is fails in
    after_rise before between after (subst (λ (m : Option ℕ). NotFewer before m) (sym same) (WhereTold-refl before (λ a b. a ≤ b) (λ a. omega arith)))
    (surely (IsSome (left name)) between after (some_is_there (left name) gone) failed)
unopened (Err e) name (Some files) cleared before between after (left, is, touched) lacks count fails =
    let first_fails : FailsOr (left name ≡ None) before between = subst (λ (m : Option Contents). FailsOr (Lacks m name) before between) is count in
    let failed : FailsOr (IsSome (left name)) between after = subst (λ (m : Option Contents). FailsOr (Has m name) between after) is fails in
    WhereTold-then before between after
    (λ a b. HasRisen a b ⊎ ((b ≡ a) × (left name ≡ None)))
    (λ a b. HasRisen a b ⊎ ((b ≡ a) × IsSome (left name)))
    More
    (λ a b c. either (left name ≡ None) (IsSome (left name)) a b c (some_is_there (left name)))
    first_fails
    failed

pub unwritten : {T E : Type 0} (r : Result T E) (name : List ℕ) (first cleared : Option Contents) (before between opened after : Option ℕ)
    → MatchResult r (λ _. between ≡ before) (λ _. FailsOr (Lacks cleared name) before between) → opened ≡ between → WhereTold opened after HasRisen
    → Known first (λ _. HasFailed before after)
unwritten r name first cleared before between opened after count same rose =
    known first (HasFailed before after)
    (after_rise before between after (removed r (Lacks cleared name) before between count) (subst (λ (m : Option ℕ). WhereTold m after HasRisen) same rose))

pub unkept : {T E : Type 0} (r : Result T E) (name : List ℕ) (first cleared : Option Contents) (before between opened wrote after : Option ℕ)
    → MatchResult r (λ _. between ≡ before) (λ _. FailsOr (Lacks cleared name) before between) → opened ≡ between → wrote ≡ opened → WhereTold wrote after HasRisen
    → Known first (λ _. HasFailed before after)
unkept r name first cleared before between opened wrote after count same still rose = unwritten r name first cleared before between wrote after count (still ∙ same) rose

pub undiminished : {T E : Type 0} (r : Result T E) (name : List ℕ) (cleared : Option Contents) (before between opened wrote after : Option ℕ)
    → MatchResult r (λ _. between ≡ before) (λ _. FailsOr (Lacks cleared name) before between) → opened ≡ between → wrote ≡ opened → after ≡ wrote → NotFewer before after
undiminished r name cleared before between opened wrote after count same still kept =
    subst (λ (m : Option ℕ). NotFewer before m) (sym (kept ∙ still ∙ same)) (removed r (Lacks cleared name) before between count)

made_is_there : (name bytes : List ℕ) (a b : Contents) → IsMade name bytes a b → b name ≡ None → ⊥
made_is_there name bytes a b made none = some_is_there (b name) none (subst (λ (o : Option (List ℕ)). is_some o ≡ true) (sym made.made) refl)

pub unmoved : (name bytes : List ℕ) (old made : Option Contents) (before between after : Option ℕ)
    → WhereTold old made (IsMade name bytes) → NotFewer before between → FailsOr (Lacks made name) between after → Known old (λ _. HasFailed before after)
unmoved name bytes None made before between after is fewer fails = tt
unmoved name bytes (Some files) made before between after (there, told, is) fewer fails =
    let failed : FailsOr (there name ≡ None) between after = subst (λ (m : Option Contents). FailsOr (Lacks m name) between after) told fails in
    after_rise before between after fewer (surely (there name ≡ None) between after (made_is_there name bytes files there is) failed)

pub ruleset make_file_laws = (made_file, torn_file, unwritten_file, unopened, unwritten, unkept, undiminished)
