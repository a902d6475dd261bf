use Rattle.std.proofs.Common.{◌∙◌, refl, sym, ap, length, subst}
use Rattle.hex.specs.Hex.{IsBytes}
use Rattle.lc_formats.specs.Checkpoint.{checkpoint_text, IsWritable}
use Rattle.lc_join.proofs.JoinLaws.{point_is, point_writable}
use Rattle.lc_join.proofs.joining.text_of.Goals as goal

pub encode-requires : goal.encode-requires
encode-requires c =
    let s = c.args.joined.now in
    let script = c.script.ensures.is in
    record {
      writable = subst IsWritable (sym (point_is _ s.script c.args.budget s.progress refl script refl refl c.new.ensures.items c.blocks-2.ensures.is c.weight.ensures.is c.place.ensures.is))
          (point_writable s.script c.args.budget s.progress (ap length (sym script) ∙ c.has_bytes.ensures.long) (subst IsBytes script c.has_bytes.ensures.bytes) c.requires.budget c.requires.ranged);
    }

pub returns-in-Ok : goal.returns-in-Ok
returns-in-Ok c =
    let s = c.args.joined.now in
    record { is = c.in-Ok.ensures.is ∙ ap checkpoint_text (point_is _ s.script c.args.budget s.progress refl c.script.ensures.is refl refl c.new.ensures.items c.blocks-2.ensures.is c.weight.ensures.is c.place.ensures.is) }
