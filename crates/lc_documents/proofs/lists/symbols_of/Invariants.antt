use Rattle.std.proofs.Common.{◌≡◌, take, nat_lt, true}
use Rattle.std.specs.List.{list_all}
use Rattle.lc_documents.proofs.lists.symbols_of.Given as goal

abbrev pub invariant-loop-number : goal.invariant-loop-number
invariant-loop-number l = (list_all (λ a. nat_lt a l.limit) (take l.number-index l.numbers) ≡ true) × (l.symbols.items ≡ take l.number-index l.numbers)
