-- Parts of claims as a reader takes them, for private clauses.
--   kind_of kind             the kind of claims, as the definitions see it
--   form_in ms               the alternant form that members state
--   part_of most f key ms    the claim over the field at a key; claims more than `most` deep are none
--   kind_claim most f ms kind      the claim of the kind over the field that members are, by its parts
--   are_below limit numbers  whether all numbers are below a limit
use Rattle.std.specs.Prelude.{ℕ, nat_lt, Bool, List, codes, Option, option_map, option_and_then}
use Rattle.std.specs.List.{list_all}
use Rattle.serde_json.specs.Data.{Members}
use Rattle.lc_algebra.specs.declared.FieldName.{FieldName}
use Rattle.lc_formats.specs.Claim.{Claim, alternant}
use Rattle.lc_formats.specs.Json.{number_at}
use Rattle.lc_formats.specs.Document as formats
use Rattle.lc_formats.specs.Document.{object_at, with_keys, bytes_at, claim_of_kind, claim_from}
use Rattle.lc_certificate.specs.Trees.{pair_of, place_of}
use Rattle.lc_documents.specs.declared.kinds.Kind.{Kind}
use Rattle.lc_documents.specs.declared.kinds.Kind.TheVariants.{Search, Form, Pair, Concat, Subcode, Places, Extend}

unfoldable pub kind_of : Kind → formats.Kind
kind_of Search = formats.of_search
kind_of Form = formats.of_form
kind_of (Pair kind) = formats.of_pair (pair_of kind)
kind_of Concat = formats.of_concat
kind_of Subcode = formats.of_subcode
kind_of (Places kind) = formats.of_places (place_of kind)
kind_of Extend = formats.of_extend

unfoldable pub form_in : Members → Option Claim
form_in ms =
    with_keys 5 ms (option_and_then (λ locator. option_and_then (λ points. option_and_then (λ multipliers. option_map (alternant locator points multipliers)
    (number_at (codes "r") ms))
    (bytes_at (codes "multipliers") ms))
    (bytes_at (codes "points") ms))
    (number_at (codes "locator") ms))

unfoldable pub part_of : ℕ → FieldName → List ℕ → Members → Option Claim
part_of most f key ms = option_and_then (claim_from most f) (object_at key ms)

unfoldable pub kind_claim : ℕ → FieldName → Members → formats.Kind → Option Claim
kind_claim most f ms kind = claim_of_kind f ms (λ g key. part_of most g key ms) kind

unfoldable pub are_below : ℕ → List ℕ → Bool
are_below limit numbers = list_all (λ a. nat_lt a limit) numbers
