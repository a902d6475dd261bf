use Rattle.std.proofs.Common.{codes, sym, ◌∙◌, ap, ◌++◌}
use Rattle.lc_formats.specs.Text.{numbers_text, lists_text}
use Rattle.lc_certificate.specs.Trees.{pair_of, place_of, claim_of}
use Rattle.lc_certificate.specs.TreePieces.{tree_text, pair_head, place_head, outer_head}
use Rattle.lc_formats.proofs.ListTexts.{five}
use Rattle.lc_certificate.proofs.TreeTexts.{pair_pieces, concat_pieces, subcode_pieces, places_pieces, extend_pieces, three}
use Rattle.lc_certificate.proofs.tree_writing.+push_tree.Goals as goal

pub push_pair-returns : goal.push_pair-returns
push_pair-returns t c =
    record {
      is = five c.args.text.now.items _ _ _ _ _ (pair_head (pair_of c.args.kind)) (tree_text (claim_of c.args.left.now)) (codes ",\"right\":") (tree_text (claim_of c.args.right.now)) (codes "}") c.in_ok-push_pair_head.ensures c.in_ok-push_tree.ensures.is c.in_ok-push_text.ensures.is c.in_ok-push_tree-2.ensures.is c.in_ok-push_text-2.ensures.is
          ∙ ap (λ p. c.args.text.now.items ++ p) (sym (pair_pieces (pair_of c.args.kind) (claim_of c.args.left.now) (claim_of c.args.right.now)));
    }

pub push_concat-returns : goal.push_concat-returns
push_concat-returns t c =
    record {
      is = five c.args.text.now.items _ _ _ _ _ (codes "{\"inner\":") (tree_text (claim_of c.args.inner.now)) (outer_head c.args.large) (tree_text (claim_of c.args.outer.now)) (codes "}") c.in_ok-push_text.ensures.is c.in_ok-push_tree.ensures.is c.in_ok-push_outer_head.ensures c.in_ok-push_tree-2.ensures.is c.in_ok-push_text-2.ensures.is
          ∙ ap (λ p. c.args.text.now.items ++ p) (sym (concat_pieces c.args.large (claim_of c.args.outer.now) (claim_of c.args.inner.now)));
    }

pub push_subcode-returns : goal.push_subcode-returns
push_subcode-returns t c =
    record {
      is = five c.args.text.now.items _ _ _ _ _ (codes "{\"kind\":\"subcode\",\"of\":") (tree_text (claim_of c.args.of.now)) (codes ",\"rows\":") (lists_text c.args.rows.now) (codes "}") c.in_ok-push_text.ensures.is c.in_ok-push_tree.ensures.is c.in_ok-push_text-2.ensures.is c.in_ok-push_rows.ensures c.in_ok-push_text-3.ensures.is
          ∙ ap (λ p. c.args.text.now.items ++ p) (sym (subcode_pieces (claim_of c.args.of.now) c.args.rows.now));
    }

pub push_places-returns : goal.push_places-returns
push_places-returns t c =
    record {
      is = five c.args.text.now.items _ _ _ _ _ (place_head (place_of c.args.kind)) (tree_text (claim_of c.args.of.now)) (codes ",\"places\":") (numbers_text c.args.places.now) (codes "}") c.in_ok-push_place_head.ensures c.in_ok-push_tree.ensures.is c.in_ok-push_text.ensures.is c.in_ok-push_list.ensures.is c.in_ok-push_text-2.ensures.is
          ∙ ap (λ p. c.args.text.now.items ++ p) (sym (places_pieces (place_of c.args.kind) (claim_of c.args.of.now) c.args.places.now));
    }

pub push_extend-returns : goal.push_extend-returns
push_extend-returns t c =
    record {
      is = three c.args.text.now.items _ _ _ (codes "{\"kind\":\"extend\",\"of\":") (tree_text (claim_of c.args.of.now)) (codes "}") c.in_ok-push_text.ensures.is c.in_ok-push_tree.ensures.is c.in_ok-push_text-2.ensures.is
          ∙ ap (λ p. c.args.text.now.items ++ p) (sym (extend_pieces (claim_of c.args.of.now)));
    }
