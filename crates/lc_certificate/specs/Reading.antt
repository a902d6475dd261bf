-- What the answers of a reader of certificates mean.
--   number_of_refusal e      the number of a refusal; 0 for want of memory, which has none
--   IsRefusedAs e read       the bytes are refused for this reason; nothing is said for want of memory
--   distance_at ms           the distance of an object: a whole number of at least 1
--   HasArray key ms          the object has an array at the key
--   way_at ms                whether the word at `by` says that the proof is a scan; none if it is neither of the two words
use Rattle.std.specs.Prelude.{◌≡◌, ℕ, ⊤, Bool, List, Option, option_and_then, IsSome, nat_le, codes}
use Rattle.serde_json.specs.Data.{Members}
use Rattle.serde_json.specs.Find.{get_member, as_str, as_array}
use Rattle.lc_certificate.specs.declared.refusal.CertRefusal.{CertRefusal}
use Rattle.lc_certificate.specs.declared.refusal.CertRefusal.TheVariants.{NotJson, Shape, Limit, NoMemory}
use Rattle.lc_formats.specs.Certificate.{reason_number, not_json, shape, limit}
use Rattle.lc_formats.specs.Json.{number_at, provided}
use Rattle.lc_formats.specs.Check.{CertificateRead, refused_as, is_scan}

unfoldable pub number_of_refusal : CertRefusal → ℕ
number_of_refusal NotJson = reason_number not_json
number_of_refusal (Shape rule) = reason_number (shape rule)
number_of_refusal Limit = reason_number limit
number_of_refusal NoMemory = 0

abbrev pub IsRefusedAs : CertRefusal → CertificateRead → Type 0
IsRefusedAs NotJson read = read ≡ refused_as not_json
IsRefusedAs (Shape rule) read = read ≡ refused_as (shape rule)
IsRefusedAs Limit read = read ≡ refused_as limit
IsRefusedAs NoMemory read = ⊤

unfoldable pub HasArray : List ℕ → Members → Type 0
HasArray key ms = IsSome (option_and_then as_array (get_member key ms))

unfoldable pub way_at : Members → Option Bool
way_at ms = option_and_then is_scan (option_and_then as_str (get_member (codes "by") ms))

unfoldable pub distance_at : Members → Option ℕ
distance_at ms = provided (nat_le 1) (number_at (codes "distance") ms)
