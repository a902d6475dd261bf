-- True lines make true checkpoints.
--   true_parts, underway         the parts of true lines, and a state to which they bring the search
--   true_text                    the text of true lines
use Rattle.std.proofs.Common.{ℕ, ◌^◌, ◌<◌, ◌≤◌, List, [], ◌∷◌, length, get_or, All, Contains, sym, ap, subst, ◌∙◌, arith}
use Rattle.std.proofs.lemmas.List.{get_or-map, length-map}
use Rattle.sha2.specs.Sha256.{sha256}
use Rattle.lc_algebra.specs.Matrix.{Matrix}
use Rattle.lc_algebra.specs.Divisor.{divisor_of}
use Rattle.lc_enumeration.specs.Records.{Progress}
use Rattle.lc_enumeration.specs.Truth.{IsUnderway}
use Rattle.lc_formats.specs.Checkpoint.{checkpoint_text}
use Rattle.lc_language.specs.declared.Call.{Call}
use Rattle.lc_session_rules.specs.Needs.{MeetsFirst}
use Rattle.lc_parts.specs.Part.{Part, Facts, IsTruePart, facts_of}
use Rattle.lc_parts.specs.Along.{is_answered}
use Rattle.lc_parts.proofs.AlongLaws.{from_first, answered_settled}
use Rattle.lc_part_laws.specs.Point.{joined_point}
use Rattle.lc_part_laws.proofs.PointLaws.{state_true}
use Rattle.lc_join.specs.Lines.{Numbered, parts_in}
use Rattle.lc_join.specs.Joining.{times, IsJoined, HasText}
use Rattle.lc_join.specs.Truth.{IsTrueLine, IsTrueText}
use Rattle.lc_join.proofs.WalkLaws.{drawn}

pub true_parts : (digest : List ℕ) (C : Matrix) (lines : List Numbered) → All (IsTrueLine digest C) lines → All (IsTruePart C) (parts_in lines)
true_parts digest C [] all = λ k d l. absurd (omega (arith, l))
true_parts digest C (x ∷ xs) all = λ k d l.
    let inside : k < length (x ∷ xs) = omega (arith, l, length-map (x ∷ xs) (λ y. y.line.part)) in
    subst (IsTruePart C) (sym (get_or-map (λ y. y.line.part) (x ∷ xs) k x d inside)) (all k x inside).part

drawn_true : (C : Matrix) (ps taken : List Part) → All (IsTruePart C) ps → All (Contains ps) taken → All (IsTruePart C) taken
drawn_true C ps taken all drawn = λ k d l. let c = drawn k d l in subst (IsTruePart C) c.2 (all c.0 (get_or taken k d) c.1)

pub underway : (C : Matrix) (budget : ℕ) (ps : List Part) (s : Progress) → 0 < length C.rows → budget ≤ 2 ^ 40 → All (IsTruePart C) ps → IsJoined (facts_of C) budget ps s → IsUnderway (divisor_of C) C budget s
underway C budget ps s rows small all j = subst (IsUnderway (divisor_of C) C budget) j.reached (from_first C budget (times j.passes ps) rows small (drawn_true C ps (times j.passes ps) all (drawn j.passes ps)))

pub true_text : (table : List Call) (bytes : List ℕ) (C : Matrix) (needs : List Matrix) (budget : ℕ) (lines : List Numbered) (text : List ℕ) → MeetsFirst table bytes (C ∷ needs) → 0 < length C.rows → budget ≤ 2 ^ 40
    → All (IsTrueLine (sha256 bytes) C) lines → HasText budget lines text → IsTrueText table bytes C budget text
true_text table bytes C needs budget lines text met rows small all h =
    let j = h.0 in
    let s = j.state in
    let first : IsTrueLine (sha256 bytes) C j.first = subst (All (IsTrueLine (sha256 bytes) C)) j.lines_are all 0 j.first (omega arith) in
    let joined : IsJoined (facts_of C) budget (parts_in lines) s = subst (λ (f : Facts). IsJoined f budget (parts_in lines) s) first.facts j.joined in
    let going = underway C budget (parts_in lines) s rows small (true_parts (sha256 bytes) C lines all) joined in
    record {
      state = s;
      text_is = h.2 ∙ ap (λ z. checkpoint_text (joined_point z budget s)) first.script;
      answered = answered_settled C budget s rows going (sym (ap (λ (f : Facts). is_answered f budget s) first.facts) ∙ h.1);
      checkpoint = λ some. state_true table bytes budget C needs s met going some;
    }
