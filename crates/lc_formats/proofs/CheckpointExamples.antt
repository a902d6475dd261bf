-- Worked checkpoints, by evaluation of the definitions. Their right seals are what the program sha256sum answers.
--   plainly, reads_plainly     bytes of ASCII need no test for UTF-8
--   checkpoint_body            the body of a checkpoint
--   writes, reads              its whole text, with the seal, and the same text read
--   reads_first                the same of version 1
--   reads_loosely              the same object spelled with spaces and with its keys in another order
--   damaged_texts              no bytes, 64 of them, a wrong digit, capital digits, no newline, another version under a wrong seal
--   sealed_nothing             65 bytes are enough for a seal, and then the body is looked at
--   no_version, other_versions     the version comes before all other faults of shape
--   missing_key, further_key, wrong_settled      another shape
--   out_of_range               a weight of 256, a weight of 0, a place of 2^52, more blocks than the budget, a turn past 2^60, a budget
--                              past 2^40, and in a settled record more blocks than the budget and a weight of 0
--   at_the_ends                the greatest numbers that are in range
--   numbers                    the numbers of the refusals
use Rattle.std.proofs.Common.{◌≡◌, refl, ◌∙◌, arith}
use Rattle.std.proofs.lemmas.Bool.{ltb-true, and_parts}
use Rattle.std.proofs.lemmas.Str.{IsUtf8-from_ascii, is_utf8-from_IsUtf8}
use Rattle.std.specs.Prelude.{ℕ, zero, suc, Bool, true, nat_lt, if◌then◌else◌, List, [], ◌∷◌, ◌++◌, map, drop, codes, replicate}
use Rattle.std.specs.List.{list_all}
use Rattle.std.specs.Str.{IsAscii}
use Rattle.serde_json.specs.Read.{read}
use Rattle.lc_formats.specs.Json.{json_in}
use Rattle.lc_formats.specs.Checkpoint.{ReadCheckpoint, Checkpoint, body_of, checkpoint_text, damaged, other_version, shape, checkpoint_refusal_number, point, refused, is_whole, body_in, checkpoint_in}
use Rattle.lc_formats.proofs.Evaluated.{checkpoint_computes}

abbrev pub halfway : Checkpoint
halfway = record { version = 2; script = replicate 32 171; budget = 1048576; turn = 3; settled = record { blocks = 2; weight = 3; place = 0 } ∷ []; blocks = 2; weight = 7; place = 0 }

pub checkpoint_body : body_of halfway ≡ codes "{\"blocks\":2,\"budget\":1048576,\"done\":[[2,3,0]],\"place\":0,\"script\":\"abababababababababababababababababababababababababababababababab\",\"turn\":3,\"version\":2,\"weight\":7}"
unfolding checkpoint_computes
checkpoint_body = refl

pub writes : checkpoint_text halfway ≡ codes "d1cb175f5f984c0819aba1788ed89299cbd63a57881e84b7438d7d15fe490869" ++ 10 ∷ codes "{\"blocks\":2,\"budget\":1048576,\"done\":[[2,3,0]],\"place\":0,\"script\":\"abababababababababababababababababababababababababababababababab\",\"turn\":3,\"version\":2,\"weight\":7}"
unfolding checkpoint_computes
writes = refl

unfoldable pub plainly : List ℕ → ReadCheckpoint
plainly bytes = (if is_whole bytes then body_in (read (drop 65 bytes)) else refused damaged)

abbrev below_128 : List ℕ → Bool
below_128 bytes = list_all (λ b. nat_lt b 128) bytes

pub ascii : (bytes : List ℕ) → below_128 bytes ≡ true → IsAscii bytes
ascii [] e i = omega arith
ascii (b ∷ bytes) e zero = ltb-true _ _ (and_parts _ _ e).0
ascii (b ∷ bytes) e (suc i) = ascii bytes (and_parts _ _ e).1 i

pub reads_plainly : (bytes : List ℕ) → below_128 (drop 65 bytes) ≡ true → checkpoint_in bytes ≡ plainly bytes
unfolding json_in checkpoint_in plainly
reads_plainly bytes e = rw (is_utf8-from_IsUtf8 _ (IsUtf8-from_ascii _ (ascii _ e))) refl

all_read_plainly : (texts : List (List ℕ)) → list_all (λ text. below_128 (drop 65 text)) texts ≡ true → map checkpoint_in texts ≡ map plainly texts
all_read_plainly [] e = refl
all_read_plainly (text ∷ texts) e =
    let parts = and_parts (below_128 (drop 65 text)) (list_all (λ other. below_128 (drop 65 other)) texts) e in
    cc (reads_plainly text parts.0, all_read_plainly texts parts.1)

pub reads : checkpoint_in (codes "d1cb175f5f984c0819aba1788ed89299cbd63a57881e84b7438d7d15fe490869" ++ 10 ∷ codes "{\"blocks\":2,\"budget\":1048576,\"done\":[[2,3,0]],\"place\":0,\"script\":\"abababababababababababababababababababababababababababababababab\",\"turn\":3,\"version\":2,\"weight\":7}") ≡ point halfway
unfolding checkpoint_computes plainly
reads = reads_plainly _ refl ∙ refl

pub reads_first : checkpoint_in (codes "c83cbb10415e93835151e8f3de7ea586a516c33a81c931c9a45c9871f3326c23" ++ 10 ∷ codes "{\"blocks\":2,\"budget\":1048576,\"done\":[[2,3,0]],\"place\":0,\"script\":\"abababababababababababababababababababababababababababababababab\",\"turn\":3,\"version\":1,\"weight\":7}") ≡ point (record halfway { version = 1 })
unfolding checkpoint_computes plainly
reads_first = reads_plainly _ refl ∙ refl

pub reads_loosely : checkpoint_in (codes "f5b40f1a700bc2ae2539b4fcf82a8f66461094d1f6cfc8d13e85c7f372397b87" ++ 10 ∷ codes "{ \"weight\": 7, \"version\":2, \"turn\":3,\"script\":\"abababababababababababababababababababababababababababababababab\",\"place\":0,\"done\":[ [2, 3, 0] ],\"budget\":1048576,\"blocks\":2 }") ≡ point halfway
unfolding checkpoint_computes plainly
reads_loosely = reads_plainly _ refl ∙ refl

abbrev damaged_ones : List (List ℕ)
damaged_ones = [] ∷ (codes "e3b0c44298fc1c149afbf4c8996fb92427ae41e4649b934ca495991b7852b855") ∷ (codes "44136fa355b3678a1146ad16f7e8649e94fb4fc21fe77e8310c060f61caaff8b" ++ 10 ∷ codes "{}") ∷ (codes "44136FA355B3678A1146AD16F7E8649E94FB4FC21FE77E8310C060F61CAAFF8A" ++ 10 ∷ codes "{}") ∷ (codes "44136fa355b3678a1146ad16f7e8649e94fb4fc21fe77e8310c060f61caaff8a" ++ codes "{}") ∷ (codes "44136fa355b3678a1146ad16f7e8649e94fb4fc21fe77e8310c060f61caaff8a" ++ 10 ∷ codes "{\"version\":3}") ∷ []

pub damaged_texts : map checkpoint_in damaged_ones ≡ refused damaged ∷ refused damaged ∷ refused damaged ∷ refused damaged ∷ refused damaged ∷ refused damaged ∷ []
unfolding checkpoint_computes plainly
damaged_texts = all_read_plainly damaged_ones refl ∙ refl

pub sealed_nothing : checkpoint_in (codes "e3b0c44298fc1c149afbf4c8996fb92427ae41e4649b934ca495991b7852b855" ++ 10 ∷ []) ≡ refused shape
unfolding checkpoint_computes plainly
sealed_nothing = reads_plainly _ refl ∙ refl

abbrev without_version : List (List ℕ)
without_version = (codes "44136fa355b3678a1146ad16f7e8649e94fb4fc21fe77e8310c060f61caaff8a" ++ 10 ∷ codes "{}") ∷ (codes "aa5bc61f44d5f633935d04cbccf2654c56806fc924b0083a6cb6b7545369ad64" ++ 10 ∷ codes "{\"version\":\"1\"}") ∷ (codes "4f53cda18c2baa0c0354bb5f9a3ecbe5ed12ab4d8e11ba873c2f11161202b945" ++ 10 ∷ codes "[]") ∷ (codes "55e2116e0fa31b8607f69e92cd3b227c90c5e926f9545ca59b85e3c90218efbd" ++ 10 ∷ codes "{\"version\":-1}") ∷ (codes "41cbfda38a35128baf8ace5e231e922bb256c588e5cd83b0b6a6c6d959c30279" ++ 10 ∷ codes "{\"version\":1") ∷ []

pub no_version : map checkpoint_in without_version ≡ refused shape ∷ refused shape ∷ refused shape ∷ refused shape ∷ refused shape ∷ []
unfolding checkpoint_computes plainly
no_version = all_read_plainly without_version refl ∙ refl

abbrev of_other_version : List (List ℕ)
of_other_version = (codes "9af23cea10a478f3bb916ff35c07a36debe444adf9b56814ab63861ec674ab8b" ++ 10 ∷ codes "{\"version\":3}") ∷ (codes "44b5d2c358367d40f81a41ff19295d5955a4f53b05ff337623e56e18c3d4d4b2" ++ 10 ∷ codes "{\"blocks\":2,\"budget\":1048576,\"done\":[[2,3,0]],\"place\":0,\"script\":\"abababababababababababababababababababababababababababababababab\",\"turn\":3,\"version\":3,\"weight\":0}") ∷ (codes "8a4d9669945dc4f8b42e982d9fd1f7e6bbf70c632969f7986aaad09d9b334a57" ++ 10 ∷ codes "{\"version\":0}") ∷ []

pub other_versions : map checkpoint_in of_other_version ≡ refused (other_version 3) ∷ refused (other_version 3) ∷ refused (other_version 0) ∷ []
unfolding checkpoint_computes plainly
other_versions = all_read_plainly of_other_version refl ∙ refl

abbrev without_a_key : List (List ℕ)
without_a_key = (codes "ad7964cbe2ed6789a3a3d090b52e851a53483b217cc92c52ed40c24e7e41cde0" ++ 10 ∷ codes "{\"blocks\":2,\"budget\":1048576,\"done\":[[2,3,0]],\"place\":0,\"script\":\"abababababababababababababababababababababababababababababababab\",\"version\":2,\"weight\":7}") ∷ (codes "732322c128ed67841ef5aa42c7cd04ffcd74a61b2d17d710cd502b713d62930d" ++ 10 ∷ codes "{\"version\":2}") ∷ (codes "2430f1a2ad2982d0067885488a4c89e21ad1d7c83b115ba8f1b20acc88dfaea8" ++ 10 ∷ codes "{\"version\":1}") ∷ []

pub missing_key : map checkpoint_in without_a_key ≡ refused shape ∷ refused shape ∷ refused shape ∷ []
unfolding checkpoint_computes plainly
missing_key = all_read_plainly without_a_key refl ∙ refl

pub further_key : checkpoint_in (codes "41970cb390b683dfd16696cee134a46591520afb31d5421ea2fbfbf05cb1745d" ++ 10 ∷ codes "{\"also\":0,\"blocks\":2,\"budget\":1048576,\"done\":[[2,3,0]],\"place\":0,\"script\":\"abababababababababababababababababababababababababababababababab\",\"turn\":3,\"version\":2,\"weight\":7}") ≡ refused shape
unfolding checkpoint_computes plainly
further_key = reads_plainly _ refl ∙ refl

abbrev not_settled : List (List ℕ)
not_settled = (codes "4b8d0b602456d49b3c2232f9a92f4d4ad1fac27c293012c5c52971021d746dab" ++ 10 ∷ codes "{\"blocks\":2,\"budget\":1048576,\"done\":[[2,3]],\"place\":0,\"script\":\"abababababababababababababababababababababababababababababababab\",\"turn\":3,\"version\":2,\"weight\":7}") ∷ (codes "9069e6c506335dcfaf284df33585f82596d3e1f984412bbb7bed3ca876a0d118" ++ 10 ∷ codes "{\"blocks\":2,\"budget\":1048576,\"done\":[[2,3,0,0]],\"place\":0,\"script\":\"abababababababababababababababababababababababababababababababab\",\"turn\":3,\"version\":2,\"weight\":7}") ∷ (codes "90970a1c1a21b790aa24a0974c56e6ade15411b919f096030a4d6cfecdc4dfb6" ++ 10 ∷ codes "{\"blocks\":2,\"budget\":1048576,\"done\":[2,3,0],\"place\":0,\"script\":\"abababababababababababababababababababababababababababababababab\",\"turn\":3,\"version\":2,\"weight\":7}") ∷ (codes "f9347c06c89561b86814bf7576b0bc9b0f507ba3072b5dbe0c3bfffa43a9bd6f" ++ 10 ∷ codes "{\"blocks\":2,\"budget\":1048576,\"done\":{},\"place\":0,\"script\":\"abababababababababababababababababababababababababababababababab\",\"turn\":3,\"version\":2,\"weight\":7}") ∷ (codes "bc1d3771f641a5936c1682d24369354ba4aa26795ad97539b0aca5fbe01248f1" ++ 10 ∷ codes "{\"blocks\":2,\"budget\":1048576,\"done\":[[2,3,0]],\"place\":0,\"script\":\"ABABABABABABABABABABABABABABABABABABABABABABABABABABABABABABABAB\",\"turn\":3,\"version\":2,\"weight\":7}") ∷ (codes "f872b82a59ed9d33c98a2c0800d2c322df937ecc855d25084959389de29a792a" ++ 10 ∷ codes "{\"blocks\":2,\"budget\":1048576,\"done\":[[2,3,0]],\"place\":0,\"script\":\"ababababababababababababababababababababababababababababababab\",\"turn\":3,\"version\":2,\"weight\":7}") ∷ []

pub wrong_settled : map checkpoint_in not_settled ≡ refused shape ∷ refused shape ∷ refused shape ∷ refused shape ∷ refused shape ∷ refused shape ∷ []
unfolding checkpoint_computes plainly
wrong_settled = all_read_plainly not_settled refl ∙ refl

abbrev beyond_range : List (List ℕ)
beyond_range = (codes "6ea2f82841d8c7c79f0743aea0b122ce7044633ea983f98094f16d5126b2ff1d" ++ 10 ∷ codes "{\"blocks\":2,\"budget\":1048576,\"done\":[[2,3,0]],\"place\":0,\"script\":\"abababababababababababababababababababababababababababababababab\",\"turn\":3,\"version\":2,\"weight\":256}") ∷ (codes "8dfa4b62d14f4a15c4fe616b6f366f6eec127a93270c7a354b853aff4419bb0f" ++ 10 ∷ codes "{\"blocks\":2,\"budget\":1048576,\"done\":[[2,3,0]],\"place\":0,\"script\":\"abababababababababababababababababababababababababababababababab\",\"turn\":3,\"version\":2,\"weight\":0}") ∷ (codes "140657dba1caeb1eec522a134d47ad901d3185457cd8f1a35bc58144b20670a2" ++ 10 ∷ codes "{\"blocks\":2,\"budget\":1048576,\"done\":[[2,3,0]],\"place\":4503599627370496,\"script\":\"abababababababababababababababababababababababababababababababab\",\"turn\":3,\"version\":2,\"weight\":7}") ∷ (codes "ad7af220888f3e14784f84dd24d978bf489faf445e05822e19acb0500010e8be" ++ 10 ∷ codes "{\"blocks\":1048577,\"budget\":1048576,\"done\":[[2,3,0]],\"place\":0,\"script\":\"abababababababababababababababababababababababababababababababab\",\"turn\":3,\"version\":2,\"weight\":7}") ∷ (codes "3c43e01601ac5764f59eb5023abc3137e6cbd9176a295dd6c688d0fe3d6951f0" ++ 10 ∷ codes "{\"blocks\":2,\"budget\":1048576,\"done\":[[2,3,0]],\"place\":0,\"script\":\"abababababababababababababababababababababababababababababababab\",\"turn\":1152921504606846977,\"version\":2,\"weight\":7}") ∷ (codes "ebff92abfc12e95c413747bd2b4dcc42228353e60bf41885a6c6b6361eb72558" ++ 10 ∷ codes "{\"blocks\":2,\"budget\":1099511627777,\"done\":[[2,3,0]],\"place\":0,\"script\":\"abababababababababababababababababababababababababababababababab\",\"turn\":3,\"version\":2,\"weight\":7}") ∷ (codes "2144de47bff92b91d299a473876194d453fe7353d0dc866b75ce27cfbeb9f517" ++ 10 ∷ codes "{\"blocks\":2,\"budget\":1048576,\"done\":[[1048577,3,0]],\"place\":0,\"script\":\"abababababababababababababababababababababababababababababababab\",\"turn\":3,\"version\":2,\"weight\":7}") ∷ (codes "247d96b1a12ecf7c912aaf29aa169becc21a43508fb32b034607b32020f612a3" ++ 10 ∷ codes "{\"blocks\":2,\"budget\":1048576,\"done\":[[2,0,0]],\"place\":0,\"script\":\"abababababababababababababababababababababababababababababababab\",\"turn\":3,\"version\":2,\"weight\":7}") ∷ []

pub out_of_range : map checkpoint_in beyond_range ≡ refused shape ∷ refused shape ∷ refused shape ∷ refused shape ∷ refused shape ∷ refused shape ∷ refused shape ∷ refused shape ∷ []
unfolding checkpoint_computes plainly
out_of_range = all_read_plainly beyond_range refl ∙ refl

pub at_the_ends : checkpoint_in (codes "1fba4808ad8d9f674b8e02f31d08c695948777737e4cf7393faed69360e4584d" ++ 10 ∷ codes "{\"blocks\":1099511627776,\"budget\":1099511627776,\"done\":[[1099511627776,255,4503599627370495]],\"place\":4503599627370495,\"script\":\"abababababababababababababababababababababababababababababababab\",\"turn\":1152921504606846976,\"version\":2,\"weight\":255}") ≡ point (record { version = 2; script = replicate 32 171; budget = 1099511627776; turn = 1152921504606846976; settled = record { blocks = 1099511627776; weight = 255; place = 4503599627370495 } ∷ []; blocks = 1099511627776; weight = 255; place = 4503599627370495 })
unfolding checkpoint_computes plainly
at_the_ends = reads_plainly _ refl ∙ refl

pub numbers : map checkpoint_refusal_number (damaged ∷ other_version 3 ∷ shape ∷ []) ≡ 20 ∷ 21 ∷ 22 ∷ []
unfolding checkpoint_computes
numbers = refl
