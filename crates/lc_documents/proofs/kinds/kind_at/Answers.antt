use Rattle.std.proofs.Common.{find, sym, ap, ◌∙◌}
use Rattle.serde_json.specs.View.{view}
use Rattle.lc_formats.specs.Text.{same_bytes}
use Rattle.lc_formats.specs.Document.{kind_text, all_kinds}
use Rattle.lc_json.specs.Inside.{members_in}
use Rattle.lc_documents.proofs.KindLaws.{kind_found}
use Rattle.lc_documents.proofs.kinds.kind_at.Goals as goal

pub returns-in-Some : goal.returns-in-Some
returns-in-Some c =
    record { is = c.kind_named.ensures.is ∙ ap (λ text. find (λ kind. same_bytes (kind_text kind) text) all_kinds) c.as_bytes.ensures.value ∙ sym (kind_found (members_in (view c.args.object.now)) c.in-Some.name.now c.in-Some.ensures.is) }
