-- Worked certificates on their bytes, by evaluation of the definitions: the line that `check` prints.
--   accepted_texts           the line of a certificate of the Hamming code; the same with its keys in another order; a scan of the repetition code of length 2; the extended Hamming code of length 8 with levels 0, whose weights have the divisor 4
--   no_json                  no bytes; 200 opening brackets; the first 40 bytes of a certificate
--   wrong_shapes             the rules in order, each broken by one change
--   rejected_texts           the reasons of a checker
--   too_long                 256 rows
--   written                  what is written for the certificate of the Hamming code
use Rattle.std.proofs.Common.{◌≡◌, refl, ◌∙◌}
use Rattle.std.specs.Prelude.{ℕ, List, [], ◌∷◌, ◌++◌, map, codes, replicate}
use Rattle.std.specs.List.{join_with_byte}
use Rattle.lc_formats.specs.Certificate.{limit}
use Rattle.lc_formats.specs.CertificateText.{certificate_text}
use Rattle.lc_formats.specs.Check.{check_text, certificate_in, refused_as}
use Rattle.lc_formats.proofs.Plainly.{line_of_data, checks_plainly, certificate_plainly}
use Rattle.lc_formats.proofs.CertificateExamples.{hamming_with, row, two}
use Rattle.lc_formats.proofs.Evaluated.{certificate_computes, reading_computes}

abbrev accepted_texts_of : List (List ℕ)
accepted_texts_of = (codes "{\"by\":\"levels\",\"distance\":3,\"field\":2,\"rows\":[[1,0,0,0,0,1,1],[0,1,0,0,1,0,1],[0,0,1,0,1,1,0],[0,0,0,1,1,1,1]],\"sets\":[{\"basis\":[0,1,2,3],\"fresh\":[0,1,2,3],\"level\":1},{\"basis\":[0,4,5,6],\"fresh\":[4,5,6],\"level\":1}],\"version\":1,\"word\":[1,0,0,0,0,1,1]}") ∷ (codes "{ \"word\": [1,0,0,0,0,1,1], \"version\":1, \"by\":\"levels\",\"distance\":3,\"field\":2,\"rows\":[[1,0,0,0,0,1,1],[0,1,0,0,1,0,1],[0,0,1,0,1,1,0],[0,0,0,1,1,1,1]],\"sets\":[{\"basis\":[0,1,2,3],\"fresh\":[0,1,2,3],\"level\":1},{\"basis\":[0,4,5,6],\"fresh\":[4,5,6],\"level\":1}] }") ∷ (codes "{\"by\":\"scan\",\"distance\":2,\"field\":2,\"rows\":[[1,1]],\"version\":1,\"word\":[1,1]}") ∷ (codes "{\"by\":\"levels\",\"distance\":4,\"field\":2,\"rows\":[[1,0,0,0,0,1,1,1],[0,1,0,0,1,0,1,1],[0,0,1,0,1,1,0,1],[0,0,0,1,1,1,1,0]],\"sets\":[{\"basis\":[0,1,2,3],\"fresh\":[0,1,2,3],\"level\":0},{\"basis\":[4,5,6,7],\"fresh\":[4,5,6,7],\"level\":0}],\"version\":1,\"word\":[1,0,0,0,0,1,1,1]}") ∷ []

pub accepted_texts : map check_text accepted_texts_of ≡ (codes "accepted distance 3" ++ 10 ∷ []) ∷ (codes "accepted distance 3" ++ 10 ∷ []) ∷ (codes "accepted distance 2" ++ 10 ∷ []) ∷ (codes "accepted distance 4" ++ 10 ∷ []) ∷ []
unfolding certificate_computes reading_computes line_of_data
accepted_texts = checks_plainly accepted_texts_of refl ∙ refl

abbrev no_json_of : List (List ℕ)
no_json_of = [] ∷ (codes "[[[[[[[[[[[[[[[[[[[[[[[[[[[[[[[[[[[[[[[[[[[[[[[[[[[[[[[[[[[[[[[[[[[[[[[[[[[[[[[[[[[[[[[[[[[[[[[[[[[[[[[[[[[[[[[[[[[[[[[[[[[[[[[[[[[[[[[[[[[[[[[[[[[[[[[[[[[[[[[[[[[[[[[[[[[[[[[[[[[[[[[[[[[[[[[[[[[[[[[[") ∷ (codes "{\"by\":\"levels\",\"distance\":3,\"field\":2,\"r") ∷ []

pub no_json : map check_text no_json_of ≡ (codes "rejected 30" ++ 10 ∷ []) ∷ (codes "rejected 30" ++ 10 ∷ []) ∷ (codes "rejected 30" ++ 10 ∷ []) ∷ []
unfolding certificate_computes reading_computes line_of_data
no_json = checks_plainly no_json_of refl ∙ refl

abbrev wrong_shapes_of : List (List ℕ)
wrong_shapes_of = (codes "[]") ∷ (codes "{}") ∷ (codes "{\"version\":1}") ∷ (codes "{\"by\":\"levels\",\"distance\":3,\"field\":6,\"rows\":[[1,0,0,0,0,1,1],[0,1,0,0,1,0,1],[0,0,1,0,1,1,0],[0,0,0,1,1,1,1]],\"sets\":[{\"basis\":[0,1,2,3],\"fresh\":[0,1,2,3],\"level\":1},{\"basis\":[0,4,5,6],\"fresh\":[4,5,6],\"level\":1}],\"version\":1,\"word\":[1,0,0,0,0,1,1]}") ∷ (codes "{\"by\":\"levels\",\"distance\":3,\"field\":25,\"rows\":[[1,0,0,0,0,1,1],[0,1,0,0,1,0,1],[0,0,1,0,1,1,0],[0,0,0,1,1,1,1]],\"sets\":[{\"basis\":[0,1,2,3],\"fresh\":[0,1,2,3],\"level\":1},{\"basis\":[0,4,5,6],\"fresh\":[4,5,6],\"level\":1}],\"version\":1,\"word\":[1,0,0,0,0,1,1]}") ∷ (codes "{\"by\":\"levels\",\"distance\":3,\"field\":2,\"rows\":[],\"sets\":[{\"basis\":[0,1,2,3],\"fresh\":[0,1,2,3],\"level\":1},{\"basis\":[0,4,5,6],\"fresh\":[4,5,6],\"level\":1}],\"version\":1,\"word\":[1,0,0,0,0,1,1]}") ∷ (codes "{\"by\":\"levels\",\"distance\":3,\"field\":2,\"rows\":[[1,0,0,0,0,1,1],[0,1,0,0,1,0,1],[0,0,1,0,1,1,0],[0,0,0,1,1,1,1]],\"sets\":[{\"basis\":[0,1,2,3],\"fresh\":[0,1,2,3],\"level\":1},{\"basis\":[0,4,5,6],\"fresh\":[4,5,6],\"level\":1}],\"version\":1,\"word\":[1,0,0,0,0,1,2]}") ∷ (codes "{\"by\":\"levels\",\"distance\":0,\"field\":2,\"rows\":[[1,0,0,0,0,1,1],[0,1,0,0,1,0,1],[0,0,1,0,1,1,0],[0,0,0,1,1,1,1]],\"sets\":[{\"basis\":[0,1,2,3],\"fresh\":[0,1,2,3],\"level\":1},{\"basis\":[0,4,5,6],\"fresh\":[4,5,6],\"level\":1}],\"version\":1,\"word\":[1,0,0,0,0,1,1]}") ∷ (codes "{\"by\":\"x\",\"distance\":3,\"field\":2,\"rows\":[[1,0,0,0,0,1,1],[0,1,0,0,1,0,1],[0,0,1,0,1,1,0],[0,0,0,1,1,1,1]],\"sets\":[{\"basis\":[0,1,2,3],\"fresh\":[0,1,2,3],\"level\":1},{\"basis\":[0,4,5,6],\"fresh\":[4,5,6],\"level\":1}],\"version\":1,\"word\":[1,0,0,0,0,1,1]}") ∷ (codes "{\"by\":\"scan\",\"distance\":3,\"field\":2,\"rows\":[[1,0,0,0,0,1,1],[0,1,0,0,1,0,1],[0,0,1,0,1,1,0],[0,0,0,1,1,1,1]],\"sets\":[{\"basis\":[0,1,2,3],\"fresh\":[0,1,2,3],\"level\":1},{\"basis\":[0,4,5,6],\"fresh\":[4,5,6],\"level\":1}],\"version\":1,\"word\":[1,0,0,0,0,1,1]}") ∷ (codes "{\"by\":\"levels\",\"distance\":3,\"field\":2,\"rows\":[[1,0,0,0,0,1,1],[0,1,0,0,1,0,1],[0,0,1,0,1,1,0],[0,0,0,1,1,1,1]],\"sets\":[{\"basis\":[0,1,2,3],\"fresh\":[0,1,2,3],\"level\":1},{\"basis\":[0,4,5,6],\"fresh\":[4,6,5],\"level\":1}],\"version\":1,\"word\":[1,0,0,0,0,1,1]}") ∷ (codes "{\"by\":\"levels\",\"distance\":3,\"field\":2,\"rows\":[[1,0,0,0,0,1,1],[0,1,0,0,1,0,1],[0,0,1,0,1,1,0],[0,0,0,1,1,1,1]],\"sets\":[{\"basis\":[0,1,2,3],\"fresh\":[0,1,2,3],\"level\":1},{\"basis\":[0,4,5,6],\"fresh\":[1,4,5],\"level\":1}],\"version\":1,\"word\":[1,0,0,0,0,1,1]}") ∷ (codes "{\"by\":\"levels\",\"distance\":3,\"field\":2,\"note\":0,\"rows\":[[1,0,0,0,0,1,1],[0,1,0,0,1,0,1],[0,0,1,0,1,1,0],[0,0,0,1,1,1,1]],\"sets\":[{\"basis\":[0,1,2,3],\"fresh\":[0,1,2,3],\"level\":1},{\"basis\":[0,4,5,6],\"fresh\":[4,5,6],\"level\":1}],\"version\":1,\"word\":[1,0,0,0,0,1,1]}") ∷ (codes "{\"by\":\"levels\",\"distance\":3,\"field\":2,\"rows\":[[1,0,0,0,0,1,1],[0,1,0,0,1,0,1],[0,0,1,0,1,1,0],[0,0,0,1,1,1,1]],\"sets\":[{\"basis\":[0,1,2,3],\"fresh\":[0,1,2,3],\"level\":1},{\"basis\":[0,4,5,6],\"fresh\":[4,5,6],\"level\":1,\"note\":0}],\"version\":1,\"word\":[1,0,0,0,0,1,1]}") ∷ (codes "{\"by\":\"levels\",\"distance\":3,\"field\":2,\"rows\":[[1,0,0,0,0,1,1],[0,1,0,0,1,0,1],[0,0,1,0,1,1,0],[0,0,0,1,1,1,1]],\"sets\":[{\"basis\":[0,1,2,3],\"fresh\":[0,1,2,3],\"level\":1},{\"basis\":[0,4,5,6],\"fresh\":[4,5,6],\"level\":1}],\"version\":2,\"word\":[1,0,0,0,0,1,1]}") ∷ []

pub wrong_shapes : map check_text wrong_shapes_of ≡ (codes "rejected 31 with 1" ++ 10 ∷ []) ∷ (codes "rejected 31 with 2" ++ 10 ∷ []) ∷ (codes "rejected 31 with 3" ++ 10 ∷ []) ∷ (codes "rejected 31 with 3" ++ 10 ∷ []) ∷ (codes "rejected 31 with 3" ++ 10 ∷ []) ∷ (codes "rejected 31 with 4" ++ 10 ∷ []) ∷ (codes "rejected 31 with 5" ++ 10 ∷ []) ∷ (codes "rejected 31 with 6" ++ 10 ∷ []) ∷ (codes "rejected 31 with 7" ++ 10 ∷ []) ∷ (codes "rejected 31 with 8" ++ 10 ∷ []) ∷ (codes "rejected 31 with 9" ++ 10 ∷ []) ∷ (codes "rejected 31 with 10" ++ 10 ∷ []) ∷ (codes "rejected 31 with 11" ++ 10 ∷ []) ∷ (codes "rejected 31 with 11" ++ 10 ∷ []) ∷ (codes "rejected 31 with 2" ++ 10 ∷ []) ∷ []
unfolding certificate_computes reading_computes line_of_data
wrong_shapes = checks_plainly wrong_shapes_of refl ∙ refl

abbrev rejected_texts_of : List (List ℕ)
rejected_texts_of = (codes "{\"by\":\"levels\",\"distance\":1,\"field\":2,\"rows\":[[1,0,0,0,0,1,1],[0,1,0,0,1,0,1],[0,0,1,0,1,1,0],[0,0,0,1,1,1,1]],\"sets\":[{\"basis\":[0,1,2,3],\"fresh\":[0,1,2,3],\"level\":1},{\"basis\":[0,4,5,6],\"fresh\":[4,5,6],\"level\":1}],\"version\":1,\"word\":[1,0,0,0,0,0,0]}") ∷ (codes "{\"by\":\"levels\",\"distance\":3,\"field\":2,\"rows\":[[1,0,0,0,0,1,1],[0,1,0,0,1,0,1],[0,0,1,0,1,1,0],[0,0,0,1,1,1,1]],\"sets\":[{\"basis\":[0,1,2,3],\"fresh\":[0,1,2,3],\"level\":1},{\"basis\":[0,4,5,6],\"fresh\":[4,5,6],\"level\":1}],\"version\":1,\"word\":[1,1,1,1,1,1,1]}") ∷ (codes "{\"by\":\"levels\",\"distance\":4,\"field\":2,\"rows\":[[1,0,0,0,0,1,1],[0,1,0,0,1,0,1],[0,0,1,0,1,1,0],[0,0,0,1,1,1,1]],\"sets\":[{\"basis\":[0,1,2,3],\"fresh\":[0,1,2,3],\"level\":1},{\"basis\":[0,4,5,6],\"fresh\":[4,5,6],\"level\":1}],\"version\":1,\"word\":[1,0,0,0,0,1,1]}") ∷ (codes "{\"by\":\"levels\",\"distance\":3,\"field\":2,\"rows\":[[1,0,0,0,0,1,1],[0,1,0,0,1,0,1],[0,0,1,0,1,1,0],[0,0,0,1,1,1,1]],\"sets\":[{\"basis\":[0,1,2,3],\"fresh\":[0,1,2,3],\"level\":1},{\"basis\":[0,1,4,5],\"fresh\":[4,5],\"level\":1}],\"version\":1,\"word\":[1,0,0,0,0,1,1]}") ∷ (codes "{\"by\":\"levels\",\"distance\":3,\"field\":2,\"rows\":[[1,0,0,0,0,1,1],[0,1,0,0,1,0,1],[0,0,1,0,1,1,0],[0,0,0,1,1,1,1]],\"sets\":[{\"basis\":[0,1,2,3],\"fresh\":[0,1,2,3],\"level\":1},{\"basis\":[0,4,5,6],\"fresh\":[0,4],\"level\":1}],\"version\":1,\"word\":[1,0,0,0,0,1,1]}") ∷ (codes "{\"by\":\"levels\",\"distance\":3,\"field\":2,\"rows\":[[1,0,0,0,0,1,1],[0,1,0,0,1,0,1],[0,0,1,0,1,1,0],[0,0,0,1,1,1,1]],\"sets\":[{\"basis\":[0,1,2,3],\"fresh\":[0,1,2,3],\"level\":1},{\"basis\":[0,4,5,6],\"fresh\":[4,5,6],\"level\":0}],\"version\":1,\"word\":[1,0,0,0,0,1,1]}") ∷ (codes "{\"by\":\"levels\",\"distance\":7,\"field\":2,\"rows\":[[1,0,0,0,0,1,1],[0,1,0,0,1,0,1],[0,0,1,0,1,1,0],[0,0,0,1,1,1,1]],\"sets\":[{\"basis\":[0,1,2,3],\"fresh\":[0,1,2,3],\"level\":1},{\"basis\":[0,4,5,6],\"fresh\":[4,5,6],\"level\":1}],\"version\":1,\"word\":[1,1,1,1,1,1,1]}") ∷ (codes "{\"by\":\"levels\",\"distance\":7,\"field\":2,\"rows\":[[1,0,0,0,0,1,1],[0,1,0,0,1,0,1],[0,0,1,0,1,1,0],[0,0,0,1,1,1,1]],\"sets\":[{\"basis\":[0,1,2,3],\"fresh\":[0,1,2,3],\"level\":4},{\"basis\":[0,4,5,6],\"fresh\":[4,5,6],\"level\":1}],\"version\":1,\"word\":[1,1,1,1,1,1,1]}") ∷ []

pub rejected_texts : map check_text rejected_texts_of ≡ (codes "rejected 33" ++ 10 ∷ []) ∷ (codes "rejected 34 with 7" ++ 10 ∷ []) ∷ (codes "rejected 34 with 3" ++ 10 ∷ []) ∷ (codes "rejected 35 with 2" ++ 10 ∷ []) ∷ (codes "rejected 36 with 0" ++ 10 ∷ []) ∷ (codes "rejected 38 with 2" ++ 10 ∷ []) ∷ (codes "rejected 38 with 3" ++ 10 ∷ []) ∷ (codes "rejected 37 with 1 0 0 0 0 1 1" ++ 10 ∷ []) ∷ []
unfolding certificate_computes reading_computes line_of_data
rejected_texts = checks_plainly rejected_texts_of refl ∙ refl

abbrev many_rows : List ℕ
many_rows = codes "{\"by\":\"scan\",\"distance\":1,\"field\":2,\"rows\":[" ++ join_with_byte 44 (replicate 256 (codes "[1]")) ++ codes "],\"version\":1,\"word\":[1]}"

pub too_long : certificate_in many_rows ≡ refused_as limit
unfolding certificate_computes reading_computes
too_long = certificate_plainly many_rows refl ∙ refl

pub written : certificate_text (hamming_with row 3 (two 1 1)) ≡ (codes "{\"by\":\"levels\",\"distance\":3,\"field\":2,\"rows\":[[1,0,0,0,0,1,1],[0,1,0,0,1,0,1],[0,0,1,0,1,1,0],[0,0,0,1,1,1,1]],\"sets\":[{\"basis\":[0,1,2,3],\"fresh\":[0,1,2,3],\"level\":1},{\"basis\":[0,4,5,6],\"fresh\":[4,5,6],\"level\":1}],\"version\":1,\"word\":[1,0,0,0,0,1,1]}")
unfolding reading_computes certificate_computes
written = refl
