use Rattle.std.proofs.Common.{inl, refl}
use Rattle.qual_base.specs.declared.places.Owner.TheVariants.{Nobody}
use Rattle.qual_types.specs.Skel.{nodes}
use Rattle.owned_laws.proofs.ElementLaws.Elements.{nobodys, all_nobodys, all_of_nobody}
use Rattle.owned_laws.proofs.ElementLaws.Rows.{Flows}
use Rattle.owned_laws.proofs.ElementLaws.Steps.{elements_are_named, lattices_are_named}
use Rattle.owned_laws.proofs.element_laws.laws.elements_are_named.Goals as goal

-- the constants and bounds of each program's constraints name elements
pub returns : goal.returns
returns c = record {
  named = elements_are_named law c.constraints_are_found.ensures;
  lattices = lattices_are_named law c.constraints_are_found.ensures;
}
  where
    law : Flows
    law = record {
      flown = λ a b. c.flows_stay.ensures.flow nobodys Nobody a b (all_nobodys (nodes a)) (all_nobodys (nodes b));
      made_equal =
          λ a b. c.flows_stay.ensures.equate nobodys Nobody a b (all_nobodys (nodes a)) (all_nobodys (nodes b));
      smashed = λ a e. c.flows_stay.ensures.smash nobodys Nobody a e (all_nobodys (nodes a)) (inl refl);
      unsmashed = λ e b. c.flows_stay.ensures.unsmash nobodys Nobody e b (inl refl) (all_nobodys (nodes b));
      crossed = λ site a b. c.crossings_lead.ensures nobodys Nobody Nobody site a b (all_of_nobody (nodes a))
          (all_of_nobody (nodes b));
    }
