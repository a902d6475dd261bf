-- The texts that arguments ask for in place of a session.
--   asks_none, asks_text  other arguments ask for no text, and one alone for the text that it names
--   none_told             nothing is done without a text
--   was_written, was_not  the text was written, or the sink failed
use Rattle.std.proofs.Common.{◌≡◌, ◌≢◌, inl, inr, ℕ, List, [], ◌∷◌, length, get_or, map, Option, Some, None, refl, sym, ap, subst, arith}
use Rattle.std.specs.Io.KnownBytes.{Appends}
use Rattle.lc_io.specs.Outside.{AppendsPart, HasRisen}
use Rattle.lc_session.specs.declared.status.Status.TheVariants as status
use Rattle.lc_session.specs.Texts.{named_text, text_asked, IsTold}

pub asks_none : {A : Type 0} (help version : List ℕ) (f : A → List ℕ) (words : List A) → length words ≢ 1 → text_asked help version (map f words) ≡ None
unfolding text_asked
asks_none help version f [] l = refl
asks_none help version f (w ∷ []) l = absurd (l refl)
asks_none help version f (w ∷ v ∷ words) l = refl

pub asks_text : {A : Type 0} (help version : List ℕ) (f : A → List ℕ) (words : List A) (d : A) (word : List ℕ) → length words ≡ 1 → word ≡ f (get_or words 0 d) → text_asked help version (map f words) ≡ named_text help version word
unfolding text_asked
asks_text help version f [] d word l e = absurd (omega (arith, l))
asks_text help version f (w ∷ []) d word l e = ap (named_text help version) (sym e)
asks_text help version f (w ∷ v ∷ words) d word l e = absurd (omega (arith, l))

pub none_told : (text : Option (List ℕ)) (written : Option (List ℕ)) (faults : ℕ) → text ≡ None → IsTold text written written faults faults None
none_told text written faults e = subst (λ t. IsTold t written written faults faults None) (sym e) (refl, refl)

pub was_written : (asked : Option (List ℕ)) (text : List ℕ) (old new : Option (List ℕ)) (before now : ℕ) → asked ≡ Some text → Appends old new text → now ≡ before → IsTold asked old new before now (Some (status.Done 0))
was_written asked text old new before now e h n = subst (λ t. IsTold t old new before now (Some (status.Done 0))) (sym e) (inl (refl, h, n))

pub was_not : (asked : Option (List ℕ)) (text : List ℕ) (old new : Option (List ℕ)) (before now : ℕ) → asked ≡ Some text → AppendsPart old new text → HasRisen before now → IsTold asked old new before now (Some status.SinkFault)
was_not asked text old new before now e h n = subst (λ t. IsTold t old new before now (Some status.SinkFault)) (sym e) (inr (refl, h, n))
