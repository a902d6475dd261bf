use Rattle.std.proofs.Common.{refl, sym, ap, arith, ◌∙◌, ◌++◌, ◌∷◌, [], ◌+◌, None}
use Rattle.lc_rounds.specs.Way.{Around}
use Rattle.lc_rounds.specs.Surroundings.{seen_of}
use Rattle.lc_rounds.specs.declared.pace.Pace.{Pace}
use Rattle.lc_rounds.specs.declared.course.Course.{Course}
use Rattle.lc_rounds.proofs.NeedLaws.{begins_not, stops_so, starves_so, goes_so, settled_long, on_ok, pushed, few_blocks, one_ranged, told_more, slice_kept, searched_ranged}
use Rattle.lc_rounds.proofs.need.search_on.Goals as goal

pub returns-in-Err-clause-goes : goal.returns-in-Err-clause-goes
returns-in-Err-clause-goes g c w needs answers h = begins_not w needs c.args.code.now answers c.args.course.now _ c.in-Err.halt (settled_long c.args.course.now c.requires.settled) c.in-Err.ensures h

pub returns-in-Err-search_need-clause-goes : goal.returns-in-Err-search_need-clause-goes
returns-in-Err-search_need-clause-goes g c w needs answers h =
    let later : Around = seen_of g.V.Vault g.W.Watcher c.search_need.new.surroundings.0 c.search_need.new.surroundings.1.0.items in
    let d : Course = record { pace = c.search_need.new.pace; met = c.args.course.now.met; version = c.args.course.now.version; current = c.args.course.now.current } in
    stops_so w needs c.args.code.now answers c.args.course.now d _ later c.in-Ok.search c.in-Err-search_need.stop c.in-Ok.ensures (settled_long c.args.course.now c.requires.settled)
    (record { keep = c.search_need.ensures.pace.0; script = c.search_need.ensures.point.1; budget = c.search_need.ensures.point.2; longest = c.search_need.ensures.longest }) h (c.in-Err-search_need.ensures.goes w.origin h.told h.way)

pub returns-then-is_err-clause-goes : goal.returns-then-is_err-clause-goes
returns-then-is_err-clause-goes g c w needs answers h =
    let later : Around = seen_of g.V.Vault g.W.Watcher c.search_need.new.surroundings.0 c.search_need.new.surroundings.1.0.items in
    let p : Pace = c.search_need.new.pace in
    let d : Course = record {
      pace = record p { point = record (p.point) { settled = c.push.new.self } };
      met = c.args.course.now.met;
      version = c.args.course.now.version;
      current = c.args.course.now.current;
    } in
    starves_so w needs c.args.code.now answers c.args.course.now d _ later c.in-Ok.search p c.in-Ok.ensures (settled_long c.args.course.now c.requires.settled)
    (record { keep = c.search_need.ensures.pace.0; script = c.search_need.ensures.point.1; budget = c.search_need.ensures.point.2; longest = c.search_need.ensures.longest })
    (record { keep = refl; told = refl; last = refl; slice = refl; longest = refl; turn = refl; script = refl; budget = refl }) h (c.in-Ok-search_need.ensures.goes w.origin h.told h.way)

pub returns-clause-goes : goal.returns-clause-goes
returns-clause-goes g c w needs answers h =
    let later : Around = seen_of g.V.Vault g.W.Watcher c.search_need.new.surroundings.0 c.search_need.new.surroundings.1.0.items in
    let p : Pace = c.search_need.new.pace in
    let d : Course = record {
      pace = record p { point = record (p.point) { settled = c.push.new.self } };
      met = c.args.course.now.met + 1;
      version = c.args.course.now.version;
      current = None;
    } in
    let told = c.record_of.ensures c.search_need.new.search c.in-Ok-search_need.ensures.answer in
    let kept = on_ok c.push.result c.push.new.self.items _ _ (sym c.is_err.ensures.value ∙ c.if-is_err.false) c.push.ensures.items in
    goes_so w needs c.args.code.now answers c.args.course.now d _ later c.in-Ok.search c.search_need.new.search p c.in-Ok-search_need.answer c.in-Ok.ensures (settled_long c.args.course.now c.requires.settled)
    (record { keep = c.search_need.ensures.pace.0; script = c.search_need.ensures.point.1; budget = c.search_need.ensures.point.2; longest = c.search_need.ensures.longest })
    (record { keep = refl; told = refl; last = refl; slice = refl; longest = refl; turn = refl; script = refl; budget = refl })
    c.in-Ok-search_need.ensures.answer c.in-Ok-search_need.ensures.state c.search_need.ensures.search.0 c.search_need.ensures.search.1 c.search_need.ensures.fitting c.in-Ok-search_need.ensures.slice
    c.sets-whole.ensures.is c.dimension-rows.ensures.rows c.dimension-rows.ensures.independent
    (pushed c.args.course.now p c.push.new.self.items c.record_of.result c.search_need.new.search.progress kept (ap (λ v. v.items) c.search_need.ensures.point.3) told)
    refl refl h (c.in-Ok-search_need.ensures.goes w.origin h.told h.way)

pub returns-clause-ranged : goal.returns-clause-ranged
returns-clause-ranged g c =
    let p : Pace = c.search_need.new.pace in
    let d : Course = record {
      pace = record p { point = record (p.point) { settled = c.push.new.self } };
      met = c.args.course.now.met + 1;
      version = c.args.course.now.version;
      current = None;
    } in
    let t = c.search_need.new.search in
    let kept = on_ok c.push.result c.push.new.self.items _ _ (sym c.is_err.ensures.value ∙ c.if-is_err.false) c.push.ensures.items in
    let few = few_blocks c.args.course.now c.args.code.now c.in-Ok.search t c.requires.ranged c.in-Ok.ensures c.in-Ok-search_need.ensures.state in
    let one = one_ranged t c.args.course.now.pace.point.budget c.record_of.result (c.record_of.ensures t c.in-Ok-search_need.ensures.answer) c.sets-whole.ensures.is c.dimension-rows.ensures.rows c.dimension-rows.ensures.independent (omega (arith, c.length-long.ensures.is, c.length-long.ensures.most)) c.search_need.ensures.fitting few c.requires.ranged.small in
    searched_ranged c.args.course.now d c.record_of.result c.requires.ranged one c.requires.settled c.search_need.ensures.point.0 c.search_need.ensures.point.4 c.search_need.ensures.point.2
    (kept ∙ ap (λ v. v.items ++ c.record_of.result ∷ []) c.search_need.ensures.point.3) refl (told_more c.args.course.now p.told c.in-Ok.search t c.requires.ranged c.search_need.ensures.pace.1 few) c.search_need.ensures.pace.0 c.search_need.ensures.longest
    (slice_kept c.args.course.now c.args.code.now c.in-Ok.search p.slice c.in-Ok-search_need.ensures.slice) refl
