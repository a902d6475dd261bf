use Rattle.std.proofs.Common.{◌≢◌, ℕ, List, map, ap, arith}
use Rattle.lc_place.specs.Place.{PlanSize}
use Rattle.lc_enumeration.specs.Message.{messages, vector_of}
use Rattle.lc_place.specs.Order.{MessageLess}
use Rattle.lc_place.proofs.Listing.{blocks_list, block_message, messages_in_order, pairs_in_order}
use Rattle.lc_place.proofs.Messages.{length-messages}
use Rattle.lc_place.proofs.Vectors.{leading_vectors, vectors_apart}
use Rattle.lc_place.proofs.plan.Plan.lists_each_message_once.Goals as goal

pub returns : goal.returns
returns c = record {
  blocks = λ p. blocks_list c.args.self.now.k c.args.self.now.q c.args.self.now.m p;
  places = λ p b t l. block_message c.args.self.now.k c.args.self.now.q c.args.self.now.m p b t l;
  order = λ w. pairs_in_order MessageLess (messages c.args.self.now.k c.args.self.now.q w) (messages_in_order c.args.self.now.k c.args.self.now.q w);
  vectors = λ w v b. leading_vectors c.args.self.now.k c.args.self.now.q w v (omega (arith, ap (λ (p : PlanSize). p.q) c.self.view_is, c.self.inside.size.field.0)) b;
  once = λ w. pairs_in_order (λ (u v : List ℕ). u ≢ v) (map (vector_of c.args.self.now.k) (messages c.args.self.now.k c.args.self.now.q w)) (vectors_apart c.args.self.now.k c.args.self.now.q w (omega (arith, ap (λ (p : PlanSize). p.q) c.self.view_is, c.self.inside.size.field.0)));
  count = λ w. length-messages c.args.self.now.k c.args.self.now.q w;
}
