use Rattle.std.proofs.Common.{◌≡◌, ℕ, inl, inr, subst, arith}
use Rattle.std.proofs.lemmas.Bool.{cases_lt}
use Rattle.std.proofs.lemmas.Option.{slice_get_within}
use Rattle.flow_graph.specs.declared.constraint.Link.TheVariants.{Const}
use Rattle.flow_graph.specs.System.{Stands}
use Rattle.error_path.proofs.Searching.{grows_then}
use Rattle.error_path.proofs.search.Search.start_at_each.Goals as goal

-- starting at one more constraint leaves the variables of the constants before it marked
pub loop-n-preserved : goal.loop-n-preserved
loop-n-preserved c =
    let so_far = c.loop-n.invariant in
    let step = c.in_ok-start_at.ensures in
    let at : c.new.result ≡ c.loop-n.n = c.new.ensures in
    record {
      good = λ rows good. step.good rows (so_far.good rows good);
      grows = grows_then c.args.self.now c.loop-n.self c.start_at.new.self so_far.grows step.grows;
      done = λ k v lt st. elim (cases_lt k c.loop-n.n) [
        | inl before ↦ step.grows.kept _ v (so_far.done k v before st)
        | inr last ↦
            let is : k ≡ c.new.result = omega arith in
            let At : ℕ → Type 0 = λ m. Stands c.args.graph.now c.args.lattice m (Const c.args.lattice c.args.elem v) in
            step.done v (subst At is st)
      ];
    }

-- when no constraint is left, the variable of each constant of the element is marked
pub returns-clause-started : goal.returns-clause-started
returns-clause-started c = λ m v st.
    let within = slice_get_within c.args.graph.now.constraints m st.constraint st.there in
    c.loop-n.invariant.done m v (omega (arith, within)) st
