use Rattle.std.proofs.Common.{◌≡◌, true, sym, ap, subst, ◌∙◌}
use Rattle.lc_algebra.specs.Matrix.{Matrix}
use Rattle.lc_enumeration.specs.Search.{fits}
use Rattle.lc_search.specs.Resuming.{IsUnfit}
use Rattle.lc_search.specs.declared.resume.ResumeRefusal.TheVariants.{Unfit}
use Rattle.lc_search.proofs.FitLaws.{no_word_unfit, made_unfit, word_fits}
use Rattle.lc_search.proofs.search.Search.resume_at.Goals as goal

pub returns-in-None : goal.returns-in-None
returns-in-None c = record {
  resumed = subst (λ (C : Matrix). IsUnfit C c.args.blocks c.args.weight c.args.place (Unfit 0)) c.in_ok-sets.ensures.code
      (no_word_unfit c.in_ok-sets.sets c.args.blocks c.args.weight c.args.place (sym c.in-None.is ∙ c.in_ok-found.ensures.is));
}

pub returns-then-not-is_fit : goal.returns-then-not-is_fit
returns-then-not-is_fit c = record {
  resumed = subst (λ (C : Matrix). IsUnfit C c.args.blocks c.args.weight c.args.place (Unfit c.in-Some.found)) c.in_ok-sets.ensures.code
      (made_unfit c.in_ok-sets.sets c.args.blocks c.args.weight c.args.place c.in-Some.found (sym c.in-Some.is ∙ c.in_ok-found.ensures.is) c.if-not-is_fit.ensures.unfit);
}

pub returns : goal.returns
returns c =
    let is = c.in_ok-sets.ensures.code in
    let near = c.if-not-is_fit.ensures.fit in
    record {
      resumed = record {
        fitting = subst (λ (C : Matrix). fits C c.args.blocks (record { weight = c.args.weight; place = c.args.place }) ≡ true) is
            (word_fits c.in_ok-sets.sets c.args.blocks c.args.weight c.args.place c.in-Some.found (sym c.in-Some.is ∙ c.in_ok-found.ensures.is) near.0 near.1);
        state = c.in_ok-search.ensures.is ∙ ap (λ (C : Matrix). record { code = C; budget = c.args.budget; progress = record { blocks = c.args.blocks; weight = c.args.weight; place = c.args.place } }) is;
      };
    }
