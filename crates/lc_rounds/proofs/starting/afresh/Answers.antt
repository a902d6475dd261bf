use Rattle.std.proofs.Common.{refl, []}
use Rattle.lc_session_rules.proofs.PlaceLaws.{starts}
use Rattle.lc_rounds.proofs.StartLaws.{first_way, none_answered}
use Rattle.lc_rounds.proofs.starting.afresh.Goals as goal

pub returns-clause-starts : goal.returns-clause-starts
returns-clause-starts c now = record {
  told = [];
  done = [];
  stands = rw c.new.ensures.items (starts c.args.budget c.args.longest c.args.slice);
  way = first_way 0 _ now refl refl c.requires.slice;
  met = refl;
  of = record { keep = refl; digest = refl; budget = refl; longest = refl };
  answered = none_answered c.args.budget;
}
