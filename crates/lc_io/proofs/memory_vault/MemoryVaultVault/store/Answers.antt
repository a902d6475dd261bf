use Rattle.std.proofs.Common.{◌∙◌, ap, refl, take}
use Rattle.lc_io.specs.Memory.{MemorySlots}
use Rattle.lc_io.specs.Vaults.{put}
use Rattle.lc_io.proofs.memory_vault.MemoryVaultVault.store.Goals as goal

pub returns-in-Err-clause-torn : goal.returns-in-Err-clause-torn
returns-in-Err-clause-torn c =
    let bytes = take c.min-left.result c.args.bytes.now in
    (_, refl, (bytes, ap (λ (v : MemorySlots). v.slots) c.keep.ensures ∙ ap (λ (v : MemorySlots). put c.args.slot bytes v.slots) c.self.view_is))
