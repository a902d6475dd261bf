use Rattle.std.proofs.Common.{◌≡◌, sym, ap, rules, map, Some, None, option_map, ◌∙◌}
use Rattle.serde_json.specs.View.{view}
use Rattle.lc_formats.specs.Json.{each}
use Rattle.lc_formats.specs.Check.{claim_in, sets_at}
use Rattle.lc_json.specs.Inside.{members_in}
use Rattle.lc_certificate.specs.Seen.{claim_of, proof_of}
use Rattle.lc_certificate.proofs.SetLaws.{bad_sets, outside_basis, sets_read, read_rise}
use Rattle.lc_certificate.proofs.sets.levels_at.Goals as goal

pub returns-in_default-2-clause-refused : goal.returns-in_default-2-clause-refused
returns-in_default-2-clause-refused c = λ make.
    let seen : None ≡ each (map (λ v. claim_in c.args.n (members_in (view v))) c.deref.result.now) = search rules in
    bad_sets c.args.n make (sets_at (members_in (view c.args.object.now))) c.in-Some.sets.now.items c.in-Some.ensures.is (seen ∙ ap (λ xs. each (map (λ v. claim_in c.args.n (members_in (view v))) xs)) c.deref.ensures.value)

pub are_fresh_in_bases-requires : goal.are_fresh_in_bases-requires
unfolding claim_of
are_fresh_in_bases-requires c =
    let seen : Some (map claim_of c.deref-2.result.now) ≡ each (map (λ v. claim_in c.args.n (members_in (view v))) c.deref.result.now) = ap (λ xs. Some (map claim_of xs)) c.deref-2.ensures.value ∙ ap (option_map (λ v. map claim_of v.items)) (sym c.in-Some-2.is) ∙ c.in_ok-claims.ensures.is in
    record { rise = read_rise claim_of c.args.n c.deref.result.now c.deref-2.result.now seen }

pub returns-then-not-are_fresh_in_bases-clause-refused : goal.returns-then-not-are_fresh_in_bases-clause-refused
returns-then-not-are_fresh_in_bases-clause-refused c = λ make.
    let seen : Some (map claim_of c.deref-2.result.now) ≡ each (map (λ v. claim_in c.args.n (members_in (view v))) c.deref.result.now) = ap (λ xs. Some (map claim_of xs)) c.deref-2.ensures.value ∙ ap (option_map (λ v. map claim_of v.items)) (sym c.in-Some-2.is) ∙ c.in_ok-claims.ensures.is in
    outside_basis c.args.n make (sets_at (members_in (view c.args.object.now))) c.in-Some.sets.now.items (map claim_of c.deref-2.result.now) c.in-Some.ensures.is (seen ∙ ap (λ xs. each (map (λ v. claim_in c.args.n (members_in (view v))) xs)) c.deref.ensures.value) (search rules)

pub returns-clause-is : goal.returns-clause-is
unfolding proof_of
returns-clause-is c = λ make.
    let seen : Some (map claim_of c.in-Some-2.claims.items) ≡ each (map (λ v. claim_in c.args.n (members_in (view v))) c.deref.result.now) = ap (option_map (λ v. map claim_of v.items)) (sym c.in-Some-2.is) ∙ c.in_ok-claims.ensures.is in
    sets_read c.args.n make (sets_at (members_in (view c.args.object.now))) c.in-Some.sets.now.items (map claim_of c.in-Some-2.claims.items) c.in-Some.ensures.is (seen ∙ ap (λ xs. each (map (λ v. claim_in c.args.n (members_in (view v))) xs)) c.deref.ensures.value) (search rules)
