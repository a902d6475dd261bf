use Rattle.std.proofs.Common.{◌≡◌, ◌∙◌, ap, sym, length, rules}
use Rattle.lc_io.specs.Memory.{MemoryInput}
use Rattle.lc_io.proofs.Fronts.{drop-given}
use Rattle.lc_io.proofs.input.MemorySourceSource.read.Goals as goal

pub returns-clause-gave : goal.returns-clause-gave
returns-clause-gave c =
    let size : length c.copy_from_slice.new.self ≡ c.min-count.result = search rules in
    sym (ap (λ (s : MemoryInput). s.rest) c.self.view_is)
    ∙ drop-given _ _ _ _ c.self.inside.given c.min-count.result c.deref.ensures.value c.copy_from_slice.ensures.after size
