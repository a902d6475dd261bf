use Rattle.lc_field.proofs.field.Field.+value_at.Given as goal

abbrev pub decreases-value_at : goal.decreases-value_at
decreases-value_at l = l.s
