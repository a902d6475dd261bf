use Rattle.lc_field.proofs.RootLaws.{root_is, root_below}
use Rattle.lc_field.proofs.field.Field.root_of.Goals as goal

pub returns-clause-is : goal.returns-clause-is
returns-clause-is c =
    let s = rw c.small.view_is at c.small.invariant.row.degree in
    let l = rw c.self.view_is at c.self.invariant.row.degree in
    let n = rw c.small.view_is at c.small.invariant.row.elements in
    let p = rw c.self.view_is at c.self.invariant.row.characteristic in
    rw c.root_by_size.ensures (root_is c.args.small.now c.args.self.now _ _ _ _ c.requires.subfield s l n p)

pub returns-clause-below : goal.returns-clause-below
returns-clause-below c =
    let s = rw c.small.view_is at c.small.invariant.row.degree in
    let l = rw c.self.view_is at c.self.invariant.row.degree in
    let n = rw c.small.view_is at c.small.invariant.row.elements in
    let p = rw c.self.view_is at c.self.invariant.row.characteristic in
    rw c.root_by_size.ensures (root_below c.args.small.now c.args.self.now _ _ _ _ c.requires.subfield s l n p)
