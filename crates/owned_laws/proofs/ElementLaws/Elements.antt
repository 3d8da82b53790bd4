-- Constraints whose constants and bounds name elements.
use Rattle.std.proofs.Common.{◌≡◌, inl, ℕ, zero, suc, ◌<◌, Bool, true, false, List, [], ◌∷◌, ◌++◌, length, Some, refl, sym, ◌∙◌, ap, subst}
use Rattle.std.specs.Prelude.{slice_get, if◌then◌else◌}
use Rattle.std.specs.Option.{option_map}
use Rattle.std.proofs.lemmas.Option.{slice_get-map}
use Rattle.qual_base.specs.declared.places.Owner.{Owner}
use Rattle.qual_base.specs.declared.places.Owner.TheVariants.{Nobody}
use Rattle.qual_base.specs.declared.places.Span.{Span}
use Rattle.lattice_core.specs.Order.{Order, size}
use Rattle.lattice_core.specs.View.{LatticeView, IsElement, AreSized, orders_of}
use Rattle.flow_graph.specs.declared.constraint.Link.{Link}
use Rattle.flow_graph.specs.declared.constraint.Link.TheVariants.{Le, Const, Bound, Enter, Leave}
use Rattle.flow_graph.specs.declared.constraint.Constraint.{Constraint}
use Rattle.flow_graph.specs.System.{System, Has, Stands}
use Rattle.flow_graph.specs.Unfolding.{NamesElements}
use Rattle.flow_rules.specs.Owners.{AllIn, Stays, AllStay, AllOwned, Leads, AllLead}
use Rattle.row_rules.specs.Worlds.{constraints}
use Rattle.constraint_rules.specs.Systems.{AreNamed}

module _ (lattices : List LatticeView) where
  abbrev pub IsNamed : Link → Type 0
  IsNamed (Le u v) = Unit {0}
  IsNamed (Const l e v) = IsElement lattices l e
  IsNamed (Bound v l e) = IsElement lattices l e
  IsNamed (Enter s u v) = Unit {0}
  IsNamed (Leave s u v) = Unit {0}

  abbrev pub AllNamed : List Constraint → Type 0
  AllNamed [] = Unit {0}
  AllNamed (it ∷ others) = IsNamed it.link × AllNamed others

  pub lists_named : (cs ds : List Constraint) → AllNamed cs → AllNamed ds → AllNamed (cs ++ ds)
  lists_named [] ds h k = k
  lists_named (c ∷ cs) ds h k = (h.0, lists_named cs ds h.1 k)

  pub none_where : (b : Bool) (cs : List Constraint) → AllNamed cs → AllNamed (if b then [] else cs)
  none_where true cs h = tt
  none_where false cs h = h

  pub some_where : (b : Bool) (cs : List Constraint) → AllNamed cs → AllNamed (if b then cs else [])
  some_where true cs h = h
  some_where false cs h = tt

  pub either_where : (b : Bool) (cs ds : List Constraint) → AllNamed cs → AllNamed ds → AllNamed (if b then cs else ds)
  either_where true cs ds h k = h
  either_where false cs ds h k = k

  -- flows, calls and returns name none, whatever the owners of their ends

  stays_named : (own : ℕ → Owner) (owner : Owner) (link : Link) → Stays own owner link → IsNamed link
  stays_named own owner (Le u v) h = tt
  stays_named own owner (Const l e v) h = absurd h
  stays_named own owner (Bound v l e) h = absurd h
  stays_named own owner (Enter s u v) h = tt
  stays_named own owner (Leave s u v) h = tt

  pub flows_named : (own : ℕ → Owner) (owner : Owner) (mask : ℕ) (where_ : Span) (links : List Link) →
      AllStay own owner links → AllNamed (constraints mask where_ links)
  flows_named own owner mask where_ [] h = tt
  flows_named own owner mask where_ (link ∷ links) h =
      (stays_named own owner link h.0, flows_named own owner mask where_ links h.1)

  leads_named : (own : ℕ → Owner) (outer inner : Owner) (site : ℕ) (link : Link) → Leads own outer inner site link →
      IsNamed link
  leads_named own outer inner site (Le u v) h = tt
  leads_named own outer inner site (Const l e v) h = absurd h
  leads_named own outer inner site (Bound v l e) h = absurd h
  leads_named own outer inner site (Enter s u v) h = tt
  leads_named own outer inner site (Leave s u v) h = tt

  pub calls_named : (own : ℕ → Owner) (outer inner : Owner) (site mask : ℕ) (where_ : Span) (links : List Link) →
      AllLead own outer inner site links → AllNamed (constraints mask where_ links)
  calls_named own outer inner site mask where_ [] h = tt
  calls_named own outer inner site mask where_ (link ∷ links) h =
      (leads_named own outer inner site link h.0, calls_named own outer inner site mask where_ links h.1)

  -- constraints by their numbers

  named_at : (cs : List Constraint) (n : ℕ) (c : Constraint) → AllNamed cs → slice_get cs n ≡ Some c → IsNamed c.link
  named_at [] n c h e = absurd cc
  named_at (it ∷ cs) zero c h e = let same : it ≡ c = cc in subst (λ (d : Constraint). IsNamed d.link) same h.0
  named_at (it ∷ cs) (suc n) c h e = named_at cs n c h.1 e

  stands_named : (sys : System) (lattice n : ℕ) (link : Link) → AllNamed sys.constraints → Stands sys lattice n link →
      IsNamed link
  stands_named sys lattice n link h it = subst IsNamed it.link_is (named_at sys.constraints n it.constraint h it.there)

  below_size : (n e : ℕ) (view : LatticeView) → AreSized lattices → slice_get lattices n ≡ Some view →
      IsElement lattices n e → e < size view.order
  below_size n e view sized there it =
      let same : it.view ≡ view = cc in
      subst (λ (m : ℕ). e < m) (sym (sized n view there))
      (subst (λ (v : LatticeView). e < length v.entries) same it.within)

  pub system_named : (sys : System) → AreSized lattices → AllNamed sys.constraints → AreNamed lattices sys
  system_named sys sized h n view there = record {
    const = λ k e v it. below_size n e view sized there (stands_named sys n k (Const n e v) h it);
    bound = λ k v b it. below_size n b view sized there (stands_named sys n k (Bound v n b) h it);
  }

  has_named : (sys : System) (n : ℕ) (link : Link) → AllNamed sys.constraints → Has sys n link → IsNamed link
  has_named sys n link h it = subst IsNamed it.link_is (named_at sys.constraints n it.constraint h it.there)

  order_there : (n : ℕ) (view : LatticeView) → slice_get lattices n ≡ Some view →
      slice_get (orders_of lattices) n ≡ Some view.order
  order_there n view e =
      slice_get-map (λ (v : LatticeView). v.order) lattices n ∙ ap (option_map (λ (v : LatticeView). v.order)) e

  order_of : (n e : ℕ) → AreSized lattices → IsElement lattices n e →
      (order : Order) × (slice_get (orders_of lattices) n ≡ Some order) × (e < size order)
  order_of n e sized it =
      (it.view.order, order_there n it.view it.there, below_size n e it.view sized it.there it)

  pub lattices_named : (sys : System) → AreSized lattices → AllNamed sys.constraints →
      NamesElements sys (orders_of lattices)
  lattices_named sys sized h = record {
    const = λ k n e v it. order_of n e sized (has_named sys k (Const n e v) h it);
    bound = λ k n e v it. order_of n e sized (has_named sys k (Bound v n e) h it);
  }

-- variables that are all nobody's

abbrev pub nobodys : ℕ → Owner
nobodys v = Nobody

pub all_nobodys : (vs : List ℕ) → AllIn nobodys Nobody vs
all_nobodys [] = tt
all_nobodys (v ∷ vs) = (inl refl, all_nobodys vs)

pub all_of_nobody : (vs : List ℕ) → AllOwned nobodys Nobody vs
all_of_nobody [] = tt
all_of_nobody (v ∷ vs) = (refl, all_of_nobody vs)
