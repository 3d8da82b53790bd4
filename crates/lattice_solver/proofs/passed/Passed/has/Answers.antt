use Rattle.std.proofs.Common.{◌≡◌, ℕ, ◌∙◌, subst}
use Rattle.std.specs.Int.{bit_at}
use Rattle.std.proofs.lemmas.Bool.{eqb-true}
use Rattle.lattice_core.proofs.Bits.{or_right}
use Rattle.lattice_solver.specs.Phases.{HasIn}
use Rattle.lattice_solver.proofs.passed.Passed.has.Goals as goal

-- where the union with a set is the constraint's own set, the constraint has all of it
pub returns : goal.returns
returns c = λ test e has.
    let here : bit_at c.set-set.result e ≡ 1 =
    subst (λ set. bit_at set e ≡ 1) (eqb-true _ _ test) (or_right c.set-set.result c.args.elems e has) in
    subst (λ n. HasIn c.args.self.now c.args.phase n e) (c.new.ensures ∙ c.number.ensures)
    (subst (λ sets. HasIn sets c.args.phase c.new.result e) c.self.view_is
    (subst (λ set. bit_at set e ≡ 1) c.set-set.ensures here))
