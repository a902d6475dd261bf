use Rattle.std.proofs.Common.{arith, ◌≡◌, length, length-append, Some, List, [], ◌∷◌, ◌++◌, sym, ap, subst}
use Rattle.std.specs.Prelude.{All}
use Rattle.std.proofs.lemmas.List.Elements.{All-pop, All-push}
use Rattle.lc_board.specs.Seats.{Seated}
use Rattle.search_tests.specs.declared.board.Worker.{Worker}
use Rattle.search_tests.proofs.board.close_all.Goals as goal

pub loop-worker-preserved : goal.loop-worker-preserved
loop-worker-preserved c =
    let i = c.loop-worker.invariant in
    let popped : c.loop-worker.workers.items ≡ c.pop.new.self.items ++ c.in-Some.worker ∷ [] = c.in-Some.ensures.items in
    let pushed : c.push.new.self.items ≡ c.loop-worker.seats.items ++ c.in-Some.worker.seat ∷ [] = c.in_ok-push.ensures.items in
    let p = All-pop (λ (w : Worker). w.seat.table ≡ c.args.board.table) c.loop-worker.workers.items c.pop.new.self.items (Some c.in-Some.worker) popped i.2 in
    let a : length c.loop-worker.workers.items ≡ length (c.pop.new.self.items ++ c.in-Some.worker ∷ []) = ap (λ (l : List Worker). length l) popped in
    let b : length c.push.new.self.items ≡ length (c.loop-worker.seats.items ++ c.in-Some.worker.seat ∷ []) = ap (λ (l : List Seated). length l) pushed in
    let a' = length-append c.pop.new.self.items (c.in-Some.worker ∷ []) in let b' = length-append c.loop-worker.seats.items (c.in-Some.worker.seat ∷ []) in
    let n = i.0 in (
      omega arith,
      subst (All (λ (s : Seated). s.table ≡ c.args.board.table)) (sym pushed) (All-push (λ (s : Seated). s.table ≡ c.args.board.table) c.loop-worker.seats.items c.in-Some.worker.seat i.1 p.1),
      p.0,
    )
