-- A session of `part`.
--   found_so                 the part of the first need, or none
--   printed_so               its text
--   does_so                  what a session does, by what its words ask for
--   nothing_asked, no_part_in      no bytes are the script without statements, which has no need; so they have no part
use Rattle.std.proofs.Common.{◌≡◌, ℕ, ◌+◌, ◌<◌, ◌≤◌, List, [], ◌∷◌, length, Option, Some, None, Result, Ok, Err, refl, inl, inr, ap, subst, ◌∙◌, arith}
use Rattle.std.specs.Prelude.{IfOk, MatchOption}
use Rattle.sha2.specs.Sha256.{sha256}
use Rattle.lc_algebra.specs.Field.{size}
use Rattle.lc_algebra.specs.Matrix.{Matrix}
use Rattle.lc_enumeration.specs.Plan.{total}
use Rattle.lc_enumeration.specs.Search.{set_count}
use Rattle.lc_field.specs.declared.NoMemory.{NoMemory}
use Rattle.lc_formats.specs.Text.{line}
use Rattle.lc_language.specs.declared.Call.{Call}
use Rattle.lc_grammar.specs.Token.{scan, scan_within, ended}
use Rattle.lc_session_rules.specs.Needs.{IsNeeds, MeetsFirst}
use Rattle.lc_parts.specs.Part.{Facts, part_end}
use Rattle.lc_parts.specs.Seen.{part_of, facts_seen}
use Rattle.lc_part_lines.specs.Line.{part_line}
use Rattle.lc_part_search.specs.Done.{IsInside, IsDoneFor}
use Rattle.lc_part_search.specs.declared.done.Done.{Done}
use Rattle.lc_share.specs.Asked.{PartAsked, PartOptions, asked}
use Rattle.lc_share.specs.PartSession.{Ends, PartEnding, IsPartText, HasNoPart, EndsSo, Does}
use Rattle.lc_share.specs.Found.{IsPartDone}

one_found : (table : List Call) (bytes : List ℕ) (a : PartAsked) (C : Matrix) (o : Option Done) → (0 < length C.rows) × MeetsFirst table bytes (C ∷ []) → MatchOption o (¬ IsInside C a.start a.count) (λ d. IsInside C a.start a.count × IsDoneFor C a.start a.count d) → MatchOption o (HasNoPart table bytes a) (IsPartDone table bytes a)
one_found table bytes a C None first h = inr (C, first.1, h)
one_found table bytes a C (Some d) first h = record { code = C; met = first.1; some = first.0; inside = h.0; done = h.1 }

pub found_so : (table : List Call) (bytes : List ℕ) (a : PartAsked) (C : Matrix) (r : Result (Option Done) NoMemory) → (0 < length C.rows) × MeetsFirst table bytes (C ∷ []) → IfOk r (λ o. MatchOption o (¬ IsInside C a.start a.count) (λ d. IsInside C a.start a.count × IsDoneFor C a.start a.count d)) → IfOk r (λ o. MatchOption o (HasNoPart table bytes a) (IsPartDone table bytes a))
found_so table bytes a C (Ok o) first h = one_found table bytes a C o first h
found_so table bytes a C (Err e) first h = h

end_at : (start count all a b : ℕ) → a ≡ start → b ≡ count → start + count ≤ all → a + b ≤ all
end_at start count all a b e f l = omega (arith, e, f, l)

pub printed_so : (table : List Call) (bytes : List ℕ) (a : PartAsked) (d : Done) (text : List ℕ) → IsPartDone table bytes a d → text ≡ line (part_line (record { script = sha256 bytes; facts = facts_seen d.facts; part = part_of d.part })) → IsPartText table bytes a text
unfolding part_end
printed_so table bytes a d text h e = record {
  code = h.code;
  met = h.met;
  some = h.some;
  part = part_of d.part;
  start_is = h.done.start_is;
  count_is = h.done.count_is;
  inside = end_at a.start a.count (total (length h.code.rows) (size h.code.field) (set_count h.code)) d.part.start d.part.count h.done.start_is h.done.count_is h.inside.1;
  is_true = h.done.is_true;
  printed = e ∙ ap (λ (f : Facts). line (part_line (record { script = sha256 bytes; facts = f; part = part_of d.part }))) h.done.facts;
}

pub does_so : (o : PartOptions) (a : PartAsked) (table : List Call) (old new : Ends) (ending : PartEnding) → asked a ≡ o → EndsSo table a old new ending → Does o table old new ending
does_so o a table old new ending e h = subst (λ (o : PartOptions). Does o table old new ending) e h

nothing_asked : (table : List Call) → IsNeeds table [] []
unfolding scan scan_within ended
nothing_asked table = inl ([], record { whole = refl; script = refl; shallow = λ k d h. absurd (omega (arith, h)) }, refl)

pub no_part_in : (table : List Call) (bytes : List ℕ) (a : PartAsked) → length bytes ≡ 0 → HasNoPart table bytes a
no_part_in table [] a none = inl (nothing_asked table)
no_part_in table (b ∷ bytes) a none = absurd (omega (arith, none))
