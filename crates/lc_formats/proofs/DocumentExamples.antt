-- Worked readings of certificates by construction, by evaluation of the definitions.
--   every_kind               one with a claim of every kind: its text, and the same read
--   deep_enough              32 claims deep
--   wrong_shapes             the rules in order, each broken by one change
--   too_much                 33 claims deep; lists of 256 entries
--   first_version            a certificate of version 1 is read as before
use Rattle.std.proofs.Common.{◌≡◌, ℕ, refl, ◌∙◌}
use Rattle.std.specs.Prelude.{List, [], ◌∷◌, map, codes, zero, suc}
use Rattle.lc_algebra.specs.declared.FieldName.TheVariants.{Gf2, Gf4, Gf5}
use Rattle.lc_formats.specs.Certificate.{scan, levels, shape, limit}
use Rattle.lc_formats.specs.Claim.{Claim, search, alternant, pair, concat, subcode, at_places, extend, uuv, direct_sum, product, puncture, shorten, Built, plain, tree, built_text}
use Rattle.lc_formats.specs.Document.{document_in, document, no_document}
use Rattle.lc_formats.proofs.Plainly.{document_plainly, documents_plainly}
use Rattle.lc_formats.proofs.Evaluated.{claim_computes}

abbrev all_kinds_of : Built
all_kinds_of = record { field = Gf2; claim = concat 4 (pair uuv (search (record { field = Gf4; rows = (1 ∷ 1 ∷ []) ∷ []; word = 1 ∷ 3 ∷ []; distance = 2; proof = (levels (record { basis = 0 ∷ []; fresh = 0 ∷ []; level = 0 } ∷ record { basis = 1 ∷ []; fresh = 1 ∷ []; level = 0 } ∷ [])) })) (pair direct_sum (at_places puncture (extend (alternant 6 ([]) (255 ∷ []) 0)) (7 ∷ 3 ∷ [])) (at_places shorten (search (record { field = Gf4; rows = (1 ∷ 1 ∷ []) ∷ []; word = 1 ∷ 1 ∷ []; distance = 2; proof = scan })) ([])))) (pair product (subcode (search (record { field = Gf2; rows = (1 ∷ 1 ∷ []) ∷ []; word = 1 ∷ 1 ∷ []; distance = 2; proof = (levels (record { basis = 0 ∷ []; fresh = 0 ∷ []; level = 0 } ∷ record { basis = 1 ∷ []; fresh = 1 ∷ []; level = 0 } ∷ [])) })) ((1 ∷ 0 ∷ 1 ∷ []) ∷ ([]) ∷ [])) (search (record { field = Gf2; rows = (1 ∷ 1 ∷ []) ∷ []; word = 1 ∷ 1 ∷ []; distance = 2; proof = (levels (record { basis = 0 ∷ []; fresh = 0 ∷ []; level = 0 } ∷ record { basis = 1 ∷ []; fresh = 1 ∷ []; level = 0 } ∷ [])) }))); word = 1 ∷ []; distance = 18446744073709551615 }

abbrev all_kinds_text : List ℕ
all_kinds_text = codes "{\"claim\":{\"inner\":{\"kind\":\"product\",\"left\":{\"kind\":\"subcode\",\"of\":{\"by\":\"levels\",\"distance\":2,\"kind\":\"search\",\"rows\":[[1,1]],\"sets\":[{\"basis\":[0],\"fresh\":[0],\"level\":0},{\"basis\":[1],\"fresh\":[1],\"level\":0}],\"word\":[1,1]},\"rows\":[[1,0,1],[]]},\"right\":{\"by\":\"levels\",\"distance\":2,\"kind\":\"search\",\"rows\":[[1,1]],\"sets\":[{\"basis\":[0],\"fresh\":[0],\"level\":0},{\"basis\":[1],\"fresh\":[1],\"level\":0}],\"word\":[1,1]}},\"kind\":\"concat\",\"large\":4,\"outer\":{\"kind\":\"uuv\",\"left\":{\"by\":\"levels\",\"distance\":2,\"kind\":\"search\",\"rows\":[[1,1]],\"sets\":[{\"basis\":[0],\"fresh\":[0],\"level\":0},{\"basis\":[1],\"fresh\":[1],\"level\":0}],\"word\":[1,3]},\"right\":{\"kind\":\"sum\",\"left\":{\"kind\":\"puncture\",\"of\":{\"kind\":\"extend\",\"of\":{\"kind\":\"alternant\",\"locator\":6,\"multipliers\":[255],\"points\":[],\"r\":0}},\"places\":[7,3]},\"right\":{\"kind\":\"shorten\",\"of\":{\"by\":\"scan\",\"distance\":2,\"kind\":\"search\",\"rows\":[[1,1]],\"word\":[1,1]},\"places\":[]}}}},\"distance\":18446744073709551615,\"field\":2,\"version\":2,\"word\":[1]}"

pub every_kind : built_text all_kinds_of ≡ all_kinds_text
unfolding claim_computes
every_kind = refl

pub every_kind_read : document_in all_kinds_text ≡ document (tree all_kinds_of)
unfolding claim_computes
every_kind_read = document_plainly all_kinds_text refl ∙ refl

abbrev deeper : ℕ → Claim → Claim
deeper zero claim = claim
deeper (suc n) claim = extend (deeper n claim)

pub deep_enough : document_in (codes "{\"claim\":{\"kind\":\"extend\",\"of\":{\"kind\":\"extend\",\"of\":{\"kind\":\"extend\",\"of\":{\"kind\":\"extend\",\"of\":{\"kind\":\"extend\",\"of\":{\"kind\":\"extend\",\"of\":{\"kind\":\"extend\",\"of\":{\"kind\":\"extend\",\"of\":{\"kind\":\"extend\",\"of\":{\"kind\":\"extend\",\"of\":{\"kind\":\"extend\",\"of\":{\"kind\":\"extend\",\"of\":{\"kind\":\"extend\",\"of\":{\"kind\":\"extend\",\"of\":{\"kind\":\"extend\",\"of\":{\"kind\":\"extend\",\"of\":{\"kind\":\"extend\",\"of\":{\"kind\":\"extend\",\"of\":{\"kind\":\"extend\",\"of\":{\"kind\":\"extend\",\"of\":{\"kind\":\"extend\",\"of\":{\"kind\":\"extend\",\"of\":{\"kind\":\"extend\",\"of\":{\"kind\":\"extend\",\"of\":{\"kind\":\"extend\",\"of\":{\"kind\":\"extend\",\"of\":{\"kind\":\"extend\",\"of\":{\"kind\":\"extend\",\"of\":{\"kind\":\"extend\",\"of\":{\"kind\":\"extend\",\"of\":{\"kind\":\"extend\",\"of\":{\"kind\":\"alternant\",\"locator\":5,\"multipliers\":[1,2,4,3],\"points\":[1,2,4,3],\"r\":2}}}}}}}}}}}}}}}}}}}}}}}}}}}}}}}},\"distance\":3,\"field\":5,\"version\":2,\"word\":[1,0,3,4]}") ≡ document (tree (record { field = Gf5; claim = deeper 31 (alternant 5 (1 ∷ 2 ∷ 4 ∷ 3 ∷ []) (1 ∷ 2 ∷ 4 ∷ 3 ∷ []) 2); word = 1 ∷ 0 ∷ 3 ∷ 4 ∷ []; distance = 3 }))
unfolding claim_computes
deep_enough = document_plainly _ refl ∙ refl

abbrev of_wrong_shape : List (List ℕ)
of_wrong_shape = (codes "{\"claim\":{\"kind\":\"alternant\",\"locator\":5,\"multipliers\":[1,2,4,3],\"points\":[1,2,4,3],\"r\":2},\"distance\":3,\"field\":6,\"version\":2,\"word\":[1,0,3,4]}") ∷ (codes "{\"claim\":{\"kind\":\"alternant\",\"locator\":5,\"multipliers\":[1,2,4,3],\"points\":[1,2,4,3],\"r\":2},\"distance\":3,\"field\":25,\"version\":2,\"word\":[1,0,3,4]}") ∷ (codes "{\"claim\":[],\"distance\":3,\"field\":5,\"version\":2,\"word\":[1,0,3,4]}") ∷ (codes "{\"distance\":3,\"field\":5,\"version\":2,\"word\":[1,0,3,4]}") ∷ (codes "{\"claim\":{\"kind\":\"other\",\"locator\":5,\"multipliers\":[1,2,4,3],\"points\":[1,2,4,3],\"r\":2},\"distance\":3,\"field\":5,\"version\":2,\"word\":[1,0,3,4]}") ∷ (codes "{\"claim\":{\"kind\":\"alternant\",\"locator\":5,\"multipliers\":[1,2,4,3],\"points\":[1,2,4,3]},\"distance\":3,\"field\":5,\"version\":2,\"word\":[1,0,3,4]}") ∷ (codes "{\"claim\":{\"kind\":\"alternant\",\"locator\":5,\"multipliers\":[1,2,4,3],\"of\":0,\"points\":[1,2,4,3],\"r\":2},\"distance\":3,\"field\":5,\"version\":2,\"word\":[1,0,3,4]}") ∷ (codes "{\"claim\":{\"kind\":\"alternant\",\"locator\":5,\"multipliers\":[1,2,4,3],\"points\":[1,2,4,3],\"r\":-1},\"distance\":3,\"field\":5,\"version\":2,\"word\":[1,0,3,4]}") ∷ (codes "{\"claim\":{\"kind\":\"alternant\",\"locator\":5,\"multipliers\":[1,2,4,3],\"points\":[1,2,4,256],\"r\":2},\"distance\":3,\"field\":5,\"version\":2,\"word\":[1,0,3,4]}") ∷ (codes "{\"claim\":{\"inner\":{\"kind\":\"alternant\",\"locator\":5,\"multipliers\":[1,2,4,3],\"points\":[1,2,4,3],\"r\":2},\"kind\":\"concat\",\"large\":6,\"outer\":{\"kind\":\"alternant\",\"locator\":5,\"multipliers\":[1,2,4,3],\"points\":[1,2,4,3],\"r\":2}},\"distance\":3,\"field\":5,\"version\":2,\"word\":[1,0,3,4]}") ∷ (codes "{\"claim\":{\"inner\":{\"kind\":\"alternant\",\"locator\":5,\"multipliers\":[1,2,4,3],\"points\":[1,2,4,3],\"r\":2},\"kind\":\"concat\",\"large\":25,\"outer\":{\"kind\":\"alternant\",\"locator\":5,\"multipliers\":[1,2,4,3],\"points\":[1,2,4,3],\"r\":2}},\"distance\":3,\"field\":5,\"version\":2,\"word\":[1,0,3,4]}") ∷ (codes "{\"claim\":{\"kind\":\"subcode\",\"of\":{\"kind\":\"alternant\",\"locator\":5,\"multipliers\":[1,2,4,3],\"points\":[1,2,4,3],\"r\":2},\"rows\":[[5]]},\"distance\":3,\"field\":5,\"version\":2,\"word\":[1,0,3,4]}") ∷ (codes "{\"claim\":{\"by\":\"levels\",\"distance\":2,\"kind\":\"search\",\"rows\":[],\"sets\":[{\"basis\":[0],\"fresh\":[0],\"level\":0},{\"basis\":[1],\"fresh\":[1],\"level\":0}],\"word\":[1,1]},\"distance\":3,\"field\":5,\"version\":2,\"word\":[1,0,3,4]}") ∷ (codes "{\"claim\":{\"by\":\"levels\",\"distance\":2,\"kind\":\"search\",\"rows\":[[1,1]],\"sets\":[{\"basis\":[0],\"fresh\":[0],\"level\":0},{\"basis\":[1],\"fresh\":[1],\"level\":0}],\"word\":[1,5]},\"distance\":3,\"field\":5,\"version\":2,\"word\":[1,0,3,4]}") ∷ (codes "{\"claim\":{\"by\":\"levels\",\"distance\":0,\"kind\":\"search\",\"rows\":[[1,1]],\"sets\":[{\"basis\":[0],\"fresh\":[0],\"level\":0},{\"basis\":[1],\"fresh\":[1],\"level\":0}],\"word\":[1,1]},\"distance\":3,\"field\":5,\"version\":2,\"word\":[1,0,3,4]}") ∷ (codes "{\"claim\":{\"by\":\"scan\",\"distance\":2,\"kind\":\"search\",\"rows\":[[1,1]],\"sets\":[{\"basis\":[0],\"fresh\":[0],\"level\":0},{\"basis\":[1],\"fresh\":[1],\"level\":0}],\"word\":[1,1]},\"distance\":3,\"field\":5,\"version\":2,\"word\":[1,0,3,4]}") ∷ (codes "{\"claim\":{\"by\":\"levels\",\"distance\":2,\"field\":5,\"kind\":\"search\",\"rows\":[[1,1]],\"sets\":[{\"basis\":[0],\"fresh\":[0],\"level\":0},{\"basis\":[1],\"fresh\":[1],\"level\":0}],\"word\":[1,1]},\"distance\":3,\"field\":5,\"version\":2,\"word\":[1,0,3,4]}") ∷ (codes "{\"claim\":{\"kind\":\"alternant\",\"locator\":5,\"multipliers\":[1,2,4,3],\"points\":[1,2,4,3],\"r\":2},\"distance\":3,\"field\":5,\"version\":2,\"word\":[]}") ∷ (codes "{\"claim\":{\"kind\":\"alternant\",\"locator\":5,\"multipliers\":[1,2,4,3],\"points\":[1,2,4,3],\"r\":2},\"distance\":3,\"field\":5,\"version\":2,\"word\":[1,0,3,5]}") ∷ (codes "{\"claim\":{\"kind\":\"alternant\",\"locator\":5,\"multipliers\":[1,2,4,3],\"points\":[1,2,4,3],\"r\":2},\"distance\":0,\"field\":5,\"version\":2,\"word\":[1,0,3,4]}") ∷ (codes "{\"claim\":{\"kind\":\"alternant\",\"locator\":5,\"multipliers\":[1,2,4,3],\"points\":[1,2,4,3],\"r\":2},\"distance\":3,\"field\":5,\"note\":0,\"version\":2,\"word\":[1,0,3,4]}") ∷ (codes "{\"claim\":{\"kind\":\"extend\",\"of\":{\"by\":\"levels\",\"distance\":2,\"kind\":\"search\",\"rows\":[[1,1]],\"sets\":[{\"basis\":[0],\"fresh\":[0],\"level\":0,\"note\":0}],\"word\":[1,1]}},\"distance\":3,\"field\":5,\"version\":2,\"word\":[1,0,3,4]}") ∷ (codes "{\"claim\":{\"kind\":\"alternant\",\"locator\":5,\"multipliers\":[1,2,4,3],\"points\":[1,2,4,3],\"r\":2},\"distance\":3,\"field\":5,\"version\":3,\"word\":[1,0,3,4]}") ∷ (codes "{\"claim\":{\"kind\":\"alternant\",\"locator\":5,\"multipliers\":[1,2,4,3],\"points\":[1,2,4,3],\"r\":2},\"distance\":3,\"field\":5,\"word\":[1,0,3,4]}") ∷ []

pub wrong_shapes : map document_in of_wrong_shape ≡ map (λ rule. no_document (shape rule)) (3 ∷ 3 ∷ 12 ∷ 12 ∷ 12 ∷ 12 ∷ 12 ∷ 12 ∷ 12 ∷ 12 ∷ 12 ∷ 12 ∷ 12 ∷ 12 ∷ 12 ∷ 12 ∷ 12 ∷ 5 ∷ 5 ∷ 6 ∷ 11 ∷ 11 ∷ 2 ∷ 2 ∷ [])
unfolding claim_computes
wrong_shapes = documents_plainly of_wrong_shape refl ∙ refl

abbrev beyond : List (List ℕ)
beyond = (codes "{\"claim\":{\"kind\":\"extend\",\"of\":{\"kind\":\"extend\",\"of\":{\"kind\":\"extend\",\"of\":{\"kind\":\"extend\",\"of\":{\"kind\":\"extend\",\"of\":{\"kind\":\"extend\",\"of\":{\"kind\":\"extend\",\"of\":{\"kind\":\"extend\",\"of\":{\"kind\":\"extend\",\"of\":{\"kind\":\"extend\",\"of\":{\"kind\":\"extend\",\"of\":{\"kind\":\"extend\",\"of\":{\"kind\":\"extend\",\"of\":{\"kind\":\"extend\",\"of\":{\"kind\":\"extend\",\"of\":{\"kind\":\"extend\",\"of\":{\"kind\":\"extend\",\"of\":{\"kind\":\"extend\",\"of\":{\"kind\":\"extend\",\"of\":{\"kind\":\"extend\",\"of\":{\"kind\":\"extend\",\"of\":{\"kind\":\"extend\",\"of\":{\"kind\":\"extend\",\"of\":{\"kind\":\"extend\",\"of\":{\"kind\":\"extend\",\"of\":{\"kind\":\"extend\",\"of\":{\"kind\":\"extend\",\"of\":{\"kind\":\"extend\",\"of\":{\"kind\":\"extend\",\"of\":{\"kind\":\"extend\",\"of\":{\"kind\":\"extend\",\"of\":{\"kind\":\"extend\",\"of\":{\"kind\":\"alternant\",\"locator\":5,\"multipliers\":[1,2,4,3],\"points\":[1,2,4,3],\"r\":2}}}}}}}}}}}}}}}}}}}}}}}}}}}}}}}}},\"distance\":3,\"field\":5,\"version\":2,\"word\":[1,0,3,4]}") ∷ (codes "{\"claim\":{\"kind\":\"alternant\",\"locator\":5,\"multipliers\":[1,2,4,3],\"points\":[1,1,1,1,1,1,1,1,1,1,1,1,1,1,1,1,1,1,1,1,1,1,1,1,1,1,1,1,1,1,1,1,1,1,1,1,1,1,1,1,1,1,1,1,1,1,1,1,1,1,1,1,1,1,1,1,1,1,1,1,1,1,1,1,1,1,1,1,1,1,1,1,1,1,1,1,1,1,1,1,1,1,1,1,1,1,1,1,1,1,1,1,1,1,1,1,1,1,1,1,1,1,1,1,1,1,1,1,1,1,1,1,1,1,1,1,1,1,1,1,1,1,1,1,1,1,1,1,1,1,1,1,1,1,1,1,1,1,1,1,1,1,1,1,1,1,1,1,1,1,1,1,1,1,1,1,1,1,1,1,1,1,1,1,1,1,1,1,1,1,1,1,1,1,1,1,1,1,1,1,1,1,1,1,1,1,1,1,1,1,1,1,1,1,1,1,1,1,1,1,1,1,1,1,1,1,1,1,1,1,1,1,1,1,1,1,1,1,1,1,1,1,1,1,1,1,1,1,1,1,1,1,1,1,1,1,1,1,1,1,1,1,1,1,1,1,1,1,1,1,1,1,1,1,1,1],\"r\":2},\"distance\":3,\"field\":5,\"version\":2,\"word\":[1,0,3,4]}") ∷ (codes "{\"claim\":{\"kind\":\"alternant\",\"locator\":5,\"multipliers\":[1,2,4,3],\"points\":[1,2,4,3],\"r\":2},\"distance\":3,\"field\":5,\"version\":2,\"word\":[1,1,1,1,1,1,1,1,1,1,1,1,1,1,1,1,1,1,1,1,1,1,1,1,1,1,1,1,1,1,1,1,1,1,1,1,1,1,1,1,1,1,1,1,1,1,1,1,1,1,1,1,1,1,1,1,1,1,1,1,1,1,1,1,1,1,1,1,1,1,1,1,1,1,1,1,1,1,1,1,1,1,1,1,1,1,1,1,1,1,1,1,1,1,1,1,1,1,1,1,1,1,1,1,1,1,1,1,1,1,1,1,1,1,1,1,1,1,1,1,1,1,1,1,1,1,1,1,1,1,1,1,1,1,1,1,1,1,1,1,1,1,1,1,1,1,1,1,1,1,1,1,1,1,1,1,1,1,1,1,1,1,1,1,1,1,1,1,1,1,1,1,1,1,1,1,1,1,1,1,1,1,1,1,1,1,1,1,1,1,1,1,1,1,1,1,1,1,1,1,1,1,1,1,1,1,1,1,1,1,1,1,1,1,1,1,1,1,1,1,1,1,1,1,1,1,1,1,1,1,1,1,1,1,1,1,1,1,1,1,1,1,1,1,1,1,1,1,1,1,1,1,1,1,1,1]}") ∷ (codes "{\"claim\":{\"kind\":\"puncture\",\"of\":{\"kind\":\"alternant\",\"locator\":5,\"multipliers\":[1,2,4,3],\"points\":[1,2,4,3],\"r\":2},\"places\":[0,1,2,3,4,5,6,7,8,9,10,11,12,13,14,15,16,17,18,19,20,21,22,23,24,25,26,27,28,29,30,31,32,33,34,35,36,37,38,39,40,41,42,43,44,45,46,47,48,49,50,51,52,53,54,55,56,57,58,59,60,61,62,63,64,65,66,67,68,69,70,71,72,73,74,75,76,77,78,79,80,81,82,83,84,85,86,87,88,89,90,91,92,93,94,95,96,97,98,99,100,101,102,103,104,105,106,107,108,109,110,111,112,113,114,115,116,117,118,119,120,121,122,123,124,125,126,127,128,129,130,131,132,133,134,135,136,137,138,139,140,141,142,143,144,145,146,147,148,149,150,151,152,153,154,155,156,157,158,159,160,161,162,163,164,165,166,167,168,169,170,171,172,173,174,175,176,177,178,179,180,181,182,183,184,185,186,187,188,189,190,191,192,193,194,195,196,197,198,199,200,201,202,203,204,205,206,207,208,209,210,211,212,213,214,215,216,217,218,219,220,221,222,223,224,225,226,227,228,229,230,231,232,233,234,235,236,237,238,239,240,241,242,243,244,245,246,247,248,249,250,251,252,253,254,255]},\"distance\":3,\"field\":5,\"version\":2,\"word\":[1,0,3,4]}") ∷ []

pub too_much : map document_in beyond ≡ no_document limit ∷ no_document limit ∷ no_document limit ∷ no_document limit ∷ []
unfolding claim_computes
too_much = documents_plainly beyond refl ∙ refl

pub first_version : document_in (codes "{\"by\":\"scan\",\"distance\":2,\"field\":2,\"rows\":[[1,1]],\"version\":1,\"word\":[1,1]}") ≡ document (plain (record { field = Gf2; rows = (1 ∷ 1 ∷ []) ∷ []; word = 1 ∷ 1 ∷ []; distance = 2; proof = scan }))
unfolding claim_computes
first_version = document_plainly _ refl ∙ refl
