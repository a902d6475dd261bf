use Rattle.std.proofs.Common.{◌+◌, refl, sym, subst, ◌∙◌}
use Rattle.lc_enumeration.specs.NearWord.{near_best}
use Rattle.lc_coset.specs.Phase.{IsPlaceOf}
use Rattle.lc_coset.proofs.RoundLaws.{place_of_value}
use Rattle.lc_coset.proofs.BestLaws.{moved_there, best_taken}
use Rattle.lc_coset.proofs.best.take_best.Goals as goal

pub put_word-requires-clause-there : goal.put_word-requires-clause-there
put_word-requires-clause-there c =
    let fr = c.args.blocks.now.frame.now in
    let place = place_of_value (near_best fr.sets fr.word (c.args.blocks.now.phase.first + c.args.start + c.args.count)) c.args.value c.requires.value c.requires.near in
    λ apart. subst (IsPlaceOf fr c.args.blocks.now.phase) (sym place) (moved_there fr c.args.blocks.now.phase c.args.start c.args.count c.requires.phase c.requires.blocks (λ e. apart (place ∙ e ∙ sym c.requires.best.place_is)))

pub returns-clause-best : goal.returns-clause-best
returns-clause-best c = best_taken c.args.blocks.now.frame.now (c.args.blocks.now.phase.first + c.args.start + c.args.count) c.args.value _ c.requires.frame c.requires.value c.requires.near refl refl c.put_word.ensures.there c.put_word.ensures.long
