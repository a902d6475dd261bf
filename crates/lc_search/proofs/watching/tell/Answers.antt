use Rattle.std.proofs.Common.{rules}
use Rattle.lc_io.specs.Watchers.{hearing}
use Rattle.lc_search.proofs.TellingLaws.{told_by}
use Rattle.lc_search.proofs.watching.tell.Goals as goal

pub returns : goal.returns
returns g c = record { told = told_by c.args.note.now (hearing g.W.Watcher.heard g.W.Watcher.coming g.W.Watcher.pauses) _ (λ s x advice t y h. search rules) _ _ _ _ c.ask_each.ensures.asked }
