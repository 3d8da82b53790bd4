-- Where the variables of flow lists belong.
use Rattle.std.specs.Prelude.{◌≡◌, ◌⊎◌, ℕ, List, [], ◌∷◌}
use Rattle.qual_base.specs.declared.places.Owner.{Owner}
use Rattle.qual_base.specs.declared.places.Owner.TheVariants.{Nobody}
use Rattle.flow_graph.specs.declared.constraint.Link.{Link}
use Rattle.flow_graph.specs.declared.constraint.Link.TheVariants.{Le, Const, Bound, Enter, Leave}

-- the variable belongs to an owner, or to nobody
abbrev pub IsIn : (ℕ → Owner) → Owner → ℕ → Type 0
IsIn own owner v = (own v ≡ owner) ⊎ (own v ≡ Nobody)

-- each of the variables belongs to an owner, or to nobody
abbrev pub AllIn : (ℕ → Owner) → Owner → List ℕ → Type 0
AllIn own owner [] = Unit {0}
AllIn own owner (v ∷ vs) = IsIn own owner v × AllIn own owner vs

-- a flow whose ends both belong to an owner or to nobody
abbrev pub Stays : (ℕ → Owner) → Owner → Link → Type 0
Stays own owner (Le u v) = IsIn own owner u × IsIn own owner v
Stays own owner (Const l e v) = ⊥
Stays own owner (Bound v l e) = ⊥
Stays own owner (Enter s u v) = ⊥
Stays own owner (Leave s u v) = ⊥

-- each of the links is a flow whose ends both belong to an owner or to nobody
abbrev pub AllStay : (ℕ → Owner) → Owner → List Link → Type 0
AllStay own owner [] = Unit {0}
AllStay own owner (link ∷ links) = Stays own owner link × AllStay own owner links

-- each of the variables belongs to this owner
abbrev pub AllOwned : (ℕ → Owner) → Owner → List ℕ → Type 0
AllOwned own owner [] = Unit {0}
AllOwned own owner (v ∷ vs) = (own v ≡ owner) × AllOwned own owner vs

-- a call of a site that leads from the outer owner to the inner one, or a return that leads back
abbrev pub Leads : (ℕ → Owner) → Owner → Owner → ℕ → Link → Type 0
Leads own outer inner site (Le u v) = ⊥
Leads own outer inner site (Const l e v) = ⊥
Leads own outer inner site (Bound v l e) = ⊥
Leads own outer inner site (Enter s u v) = (s ≡ site) × (own u ≡ outer) × (own v ≡ inner)
Leads own outer inner site (Leave s u v) = (s ≡ site) × (own u ≡ inner) × (own v ≡ outer)

-- each of the links is a call of a site from the outer owner to the inner one, or a return back
abbrev pub AllLead : (ℕ → Owner) → Owner → Owner → ℕ → List Link → Type 0
AllLead own outer inner site [] = Unit {0}
AllLead own outer inner site (link ∷ links) = Leads own outer inner site link × AllLead own outer inner site links
