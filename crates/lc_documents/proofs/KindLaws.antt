-- The kind of a claim, and the objects of its parts.
--   kind_found, kind_nowhere         the kind that a name says, and that there is no name
--   object_found, object_other, object_nowhere      the object at a key; something else is there, or nothing
use Rattle.std.proofs.Common.{◌≡◌, true, false, List, ℕ, codes, Option, Some, None, option_and_then, is_some, find, refl, sym, ap, ◌∙◌}
use Rattle.std.proofs.lemmas.Bool.{false≢true}
use Rattle.serde_json.specs.Data.{Data, null, boolean, number, string, array, object, Members}
use Rattle.serde_json.specs.Find.{get, get_member, as_str, as_object}
use Rattle.lc_formats.specs.Text.{same_bytes}
use Rattle.lc_formats.specs.Document.{kind_text, all_kinds, kind_at, object_at}
use Rattle.lc_json.specs.Inside.{members_in}
use Rattle.lc_json.proofs.InsideLaws.{get_inside}
use Rattle.lc_certificate.proofs.PartLaws.{members_there}

pub kind_found : (ms : Members) (name : List ℕ) → Some name ≡ option_and_then as_str (get_member (codes "kind") ms) → kind_at ms ≡ find (λ kind. same_bytes (kind_text kind) name) all_kinds
unfolding kind_at
kind_found ms name h = ap (option_and_then (λ text. find (λ kind. same_bytes (kind_text kind) text) all_kinds)) (sym h)

pub kind_nowhere : (ms : Members) → None ≡ option_and_then as_str (get_member (codes "kind") ms) → kind_at ms ≡ None
unfolding kind_at
kind_nowhere ms h = ap (option_and_then (λ text. find (λ kind. same_bytes (kind_text kind) text) all_kinds)) (sym h)

inside : (key : List ℕ) (d : Data) (o : Option Data) → o ≡ get key d → object_at key (members_in d) ≡ option_and_then as_object o
unfolding object_at
inside key d o h = ap (option_and_then as_object) (sym (get_inside key d) ∙ sym h)

no_object : (d : Data) → is_some (as_object d) ≡ false → as_object d ≡ None
no_object null e = refl
no_object (boolean b) e = refl
no_object (number n) e = refl
no_object (string s) e = refl
no_object (array ds) e = refl
no_object (object ms) e = absurd (false≢true (sym e))

pub object_found : (key : List ℕ) (d e : Data) → Some e ≡ get key d → is_some (as_object e) ≡ true → object_at key (members_in d) ≡ Some (members_in e)
object_found key d e h there = inside key d (Some e) h ∙ members_there e there

pub object_other : (key : List ℕ) (d e : Data) → Some e ≡ get key d → is_some (as_object e) ≡ false → object_at key (members_in d) ≡ None
object_other key d e h there = inside key d (Some e) h ∙ no_object e there

pub object_nowhere : (key : List ℕ) (d : Data) → None ≡ get key d → object_at key (members_in d) ≡ None
object_nowhere key d h = inside key d None h

pub ruleset kind_at_laws = (kind_found, kind_nowhere)

pub ruleset object_at_laws = (object_found, object_other, object_nowhere)
