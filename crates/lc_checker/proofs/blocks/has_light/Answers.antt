use Rattle.std.proofs.Common.{sym, subst}
use Rattle.lc_algebra.specs.Word.{zero_word}
use Rattle.lc_algebra.proofs.WordLaws.{IsWord_zero}
use Rattle.lc_checker.specs.Blocks.{AreInBlocks}
use Rattle.lc_checker.proofs.BlockLaws.{zero_start}
use Rattle.lc_checker.proofs.HeavyLaws.{none_found}
use Rattle.lc_checker.proofs.blocks.has_light.Goals as goal

pub returns : goal.returns
returns g c =
    let C = c.args.rows.now in
    let are = subst (AreInBlocks C g.row.N) (sym c.deref.ensures.value) c.in_ok-bits.ensures.are in
    record { none = λ e. none_found c.args.distance C c.args.level (c.some_light-light.ensures.heavy e C (zero_word C.columns) are (IsWord_zero C.field C.columns) (zero_start C.columns g.row.N)) }
