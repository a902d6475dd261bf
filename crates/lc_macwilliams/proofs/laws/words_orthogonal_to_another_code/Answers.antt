use Rattle.lc_macwilliams.proofs.PairingLaws.{pairing}
use Rattle.lc_macwilliams.proofs.laws.words_orthogonal_to_another_code.Goals as goal

pub returns : goal.returns
returns c = record { law = λ n rows others r s. pairing c.args.field n rows others r s }
