use Rattle.std.proofs.Common.{◌<◌, ◌≤◌, length, refl, arith}
use Rattle.std.proofs.lemmas.Bool.{false≢true}
use Rattle.lc_algebra.proofs.ColumnLaws.{systematic_columns}
use Rattle.lc_matrix.proofs.FormLaws.{systematic_made, dependent_made}
use Rattle.lc_matrix.proofs.matrix.Matrix.systematic_on.Goals as goal

pub returns-then-len-set-clause-exact : goal.returns-then-len-set-clause-exact
returns-then-len-set-clause-exact c =
    let at = c.in_ok-at.at in
    let few : length at.items < length c.args.set.now = omega (arith, at.ok) in
    let no_form = dependent_made c.args.self.now c.in_ok-matrix.matrix c.reduce.new.self c.args.set.now at.items c.rows-height.ensures.words c.in_ok-matrix.ensures.same c.reduce.ensures.field c.reduce.ensures.columns c.reduce.ensures.words c.reduce.ensures.same c.in_ok-at.ensures.reduced few in
    (λ e. absurd (false≢true e), λ h. absurd (no_form h))

pub returns-clause-systematic : goal.returns-clause-systematic
returns-clause-systematic c =
    let at = c.in_ok-at.at in
    let enough : length c.args.set.now ≤ length at.items = omega (arith, at.ok) in
    systematic_made c.args.self.now c.in_ok-matrix.matrix c.reduce.new.self c.args.set.now at.items c.in_ok-matrix.ensures.same c.reduce.ensures.field c.reduce.ensures.columns c.reduce.ensures.words c.reduce.ensures.same c.reduce.ensures.count c.in_ok-at.ensures.reduced c.requires.count enough

pub returns-clause-exact : goal.returns-clause-exact
returns-clause-exact c =
    let at = c.in_ok-at.at in
    let s = c.args.self.now in
    let enough : length c.args.set.now ≤ length at.items = omega (arith, at.ok) in
    let form = systematic_made c.args.self.now c.in_ok-matrix.matrix c.reduce.new.self c.args.set.now at.items c.in_ok-matrix.ensures.same c.reduce.ensures.field c.reduce.ensures.columns c.reduce.ensures.words c.reduce.ensures.same c.reduce.ensures.count c.in_ok-at.ensures.reduced c.requires.count enough in
    (λ _. systematic_columns s.field s.columns s.rows c.args.set.now c.reduce.new.self.rows c.rows-height.ensures.words form, λ _. refl)
