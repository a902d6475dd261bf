use Rattle.lc_rounds.proofs.StartLaws.{starts_ranged, starts_resumed}
use Rattle.lc_rounds.proofs.starting.resumed.Goals as goal

pub returns-clause-ranged : goal.returns-clause-ranged
returns-clause-ranged c = starts_ranged c.args.point c.args.keep c.args.longest c.args.slice c.no_record.result c.following_turn-turn.result c.requires.ranged c.requires.longest c.requires.kept c.following_turn-turn.ensures.is

pub returns-clause-starts : goal.returns-clause-starts
returns-clause-starts c now = starts_resumed c.args.point c.args.keep c.args.longest c.args.slice c.no_record.result c.following_turn-turn.result now c.requires.slice c.following_turn-turn.ensures.is
