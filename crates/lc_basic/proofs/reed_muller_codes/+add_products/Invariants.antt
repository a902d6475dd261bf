use Rattle.lc_basic.proofs.reed_muller_codes.+add_products.Given as goal

abbrev pub decreases-add_products : goal.decreases-add_products
decreases-add_products l = l.left
