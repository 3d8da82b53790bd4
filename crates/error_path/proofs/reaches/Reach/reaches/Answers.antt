use Rattle.std.proofs.Common.{ℕ, Bool, false, IsTrue, not, inl, inr, refl, sym, ◌∙◌, ap, subst, slice_index_or}
use Rattle.std.proofs.lemmas.Bool.Decides.{eqb_tells}
use Rattle.flow_graph.specs.Leading.{GoesTo}
use Rattle.error_path.specs.declared.search.Origin.{Origin}
use Rattle.error_path.specs.Reaches.{LedBy}
use Rattle.error_path.specs.Rooms.{nowhere}
use Rattle.error_path.proofs.Going.{found_goes}
use Rattle.error_path.proofs.reaches.Reach.reaches.Goals as goal

-- a variable has a first place just if the variable of the search goes to it
pub returns : goal.returns
returns c = λ sys lattice start well found.
    let reach = c.args.self.now.found in
    let to = c.args.to in
    let place = c.first_of.result in (
      λ is. elim (eqb_tells place nowhere) [
        | inl same ↦
            let Of : Bool → Type 0 = λ b. IsTrue (not b) in
            let wrong : IsTrue false = subst Of same.0 is in absurd cc
        | inr other ↦ found_goes sys lattice start c.args.self.now well found place to
            (found.is.firsts.right to place (sym c.first_of.ensures) other.1)
      ],
      λ goes. elim (eqb_tells place nowhere) [
        | inl same ↦
            let From : Origin → Type 0 = λ o. LedBy sys reach.lattice o to in
            let At : ℕ → Type 0 = λ l. GoesTo sys l start to in
            let there = found.is.whole to (subst From (sym found.origin_is) (subst At (sym found.lattice_is) goes)) in
            absurd (found.is.firsts.whole there.0 there.1.0 there.1.1
            (ap (λ v. slice_index_or reach.firsts.items v nowhere) there.1.2 ∙ sym c.first_of.ensures ∙ same.1))
        | inr other ↦ rw other.0 refl
      ],
    )
