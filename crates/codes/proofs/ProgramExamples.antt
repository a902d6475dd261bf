-- Worked command lines and endings, by evaluation of the definitions.
--   texts            one word asks for a text, and further words after it don't
--   commands         the first word asks for a part, for joined parts, or for a session, as no word does
--   numbers, lines   the numbers of endings, and lines that they print
use Rattle.std.proofs.Common.{◌≡◌, refl}
use Rattle.std.specs.Prelude.{[], ◌∷◌, ◌++◌, map, codes}
use Rattle.lc_formats.specs.Text.{same_bytes}
use Rattle.lc_formats.proofs.Evaluated.{checkpoint_computes}
use Rattle.lc_session.specs.Texts.{named_text, text_asked}
use Rattle.lc_session.specs.declared.status.Status.TheVariants as status
use Rattle.lc_session_rules.specs.Endings as session
use Rattle.lc_session_rules.specs.Endings.{said}
use Rattle.lc_share.specs.PartSession as share
use Rattle.lc_share.specs.declared.status.PartStatus.TheVariants as part_status
use Rattle.lc_join.specs.JoinSession as joining
use Rattle.lc_join.specs.declared.status.JoinStatus.TheVariants as join_status
use Rattle.codes.specs.declared.ending.Ending.TheVariants.{Session, Part, Join}
use Rattle.codes.specs.Endings.{number_of, line_of}
use Rattle.codes.specs.Program as asks
use Rattle.codes.specs.Program.{asked, first_asks}

pub texts : map (asked (codes "h") (codes "v")) ((codes "--help" ∷ []) ∷ (codes "--version" ∷ []) ∷ (codes "--help" ∷ codes "run" ∷ []) ∷ []) ≡ asks.text (codes "h") ∷ asks.text (codes "v") ∷ asks.session ∷ []
unfolding same_bytes named_text text_asked first_asks
texts = refl

pub commands : map (asked (codes "h") (codes "v")) ([] ∷ (codes "run" ∷ []) ∷ (codes "part" ∷ codes "from=0" ∷ []) ∷ (codes "join" ∷ []) ∷ (codes "run" ∷ codes "join" ∷ []) ∷ (codes "parts" ∷ []) ∷ []) ≡ asks.session ∷ asks.session ∷ asks.part ∷ asks.join ∷ asks.session ∷ asks.session ∷ []
unfolding same_bytes named_text text_asked first_asks
commands = refl

pub numbers : map number_of (Session (status.Done 1) ∷ Session (status.Usage 0) ∷ Part part_status.NoPart ∷ Join (join_status.Missing 3 4) ∷ []) ≡ 1 ∷ 2 ∷ 15 ∷ 14 ∷ []
unfolding session.ending_number share.ending_number joining.ending_number
numbers = refl

pub lines : map line_of (Session (status.Done 1) ∷ Part (part_status.Usage 2) ∷ Join (join_status.Missing 3 4) ∷ []) ≡ [] ∷ (codes "codes: word 2 refused" ++ 10 ∷ []) ∷ (codes "codes: blocks 3 to 4 are missing" ++ 10 ∷ []) ∷ []
unfolding checkpoint_computes said session.ending_line joining.ending_line
lines = refl
