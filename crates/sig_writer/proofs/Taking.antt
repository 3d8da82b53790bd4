-- The functions of a library, one after the other.
use Rattle.std.proofs.Common.{◌≡◌, ℕ, ◌+◌, List, [], ◌∷◌, ◌++◌, map, take, drop, Option, None, sym, ◌∙◌, ap}
use Rattle.std.proofs.Common.{subst, append_assoc, take-append-drop}
use Rattle.std.proofs.Common.{◌<◌, length, get_or}
use Rattle.std.specs.List.{flat_map, Contains}
use Rattle.std.proofs.lemmas.List.{drop_more}
use Rattle.std.proofs.lemmas.List.Elements.{Contains-append_left, Contains-append_right}
use Rattle.lattice_core.specs.View.{LatticeView}
use Rattle.name_rules.specs.Spellings.{Place}
use Rattle.sig_writer.specs.declared.says.Known.{Known}
use Rattle.sig_writer.specs.Signatures.{first_refusal, line_of, lines_of, nodes_of, or_refusal, refusal_of, External}
use Rattle.sig_writer.specs.Signatures.{Found, Refusal}
use Rattle.sig_writer.specs.Saying.{IsKnownOf}

-- what is known of nodes is known of some of them
known_part : (known : Known) (vars part : List ℕ) (it : Found) → ((v : ℕ) → Contains part v → Contains vars v) →
    IsKnownOf known vars it → IsKnownOf known part it
known_part known vars part it within all = record {
  join = λ v h. all.join v (within v h);
  meet = λ v h. all.meet v (within v h);
  joins = λ u v h. all.joins u v (within u h);
  least = all.least;
  greatest = all.greatest;
}

-- a node of one of some functions is among the nodes of them all
node_in : (external : Place → External) (before after : List Place) (p : Place) (v : ℕ) →
    Contains (nodes_of (external p)) v →
    Contains (flat_map nodes_of (map external (before ++ p ∷ after))) v
node_in external [] after p v h =
    Contains-append_left (nodes_of (external p)) (flat_map nodes_of (map external after)) v h
node_in external (q ∷ before) after p v h =
    Contains-append_right (nodes_of (external q)) (flat_map nodes_of (map external (before ++ p ∷ after))) v
    (node_in external before after p v h)

pub comes_next : (places : List Place) (i : ℕ) (p : Place) → i < length places → p ≡ get_or places i p →
    drop i places ≡ p ∷ drop (i + 1) places
comes_next places i p less is =
    drop_more places i p less ∙ ap (λ (q : Place). q ∷ drop (i + 1) places) (sym is)

-- of these functions this one comes, and then the others
module _ (external : Place → External) (places : List Place) (i : ℕ) (p : Place)
    (comes : drop i places ≡ p ∷ drop (i + 1) places) where
  pub known_next : (known : Known) (it : Found) → IsKnownOf known (flat_map nodes_of (map external places)) it →
      IsKnownOf known (nodes_of (external p)) it
  known_next known it all =
      let split : take i places ++ p ∷ drop (i + 1) places ≡ places =
      ap (λ (rest : List Place). take i places ++ rest) (sym comes) ∙ take-append-drop i places in
      known_part known (flat_map nodes_of (map external places)) (nodes_of (external p)) it
      (λ v h. subst (λ (all : List Place). Contains (flat_map nodes_of (map external all)) v) split
      (node_in external (take i places) (drop (i + 1) places) p v h)) all

  -- its refusal is the first of those that are left
  pub first_next : (it : Found) (lattice : LatticeView) (all : Option Refusal) →
      all ≡ first_refusal it lattice (map external (drop i places)) →
      all ≡ or_refusal (refusal_of it lattice (external p))
      (first_refusal it lattice (map external (drop (i + 1) places)))
  first_next it lattice all is = is ∙ ap (λ (rest : List Place). first_refusal it lattice (map external rest)) comes

  pub no_refusal : (it : Found) (lattice : LatticeView) (all : Option Refusal) →
      all ≡ first_refusal it lattice (map external (drop i places)) →
      refusal_of it lattice (external p) ≡ None → all ≡ first_refusal it lattice (map external (drop (i + 1) places))
  no_refusal it lattice all is none =
      first_next it lattice all is
      ∙ ap (λ r. or_refusal r (first_refusal it lattice (map external (drop (i + 1) places)))) none

  pub line_next : (it : Found) (lattice : LatticeView) (all text more : List ℕ) →
      all ≡ text ++ lines_of it lattice (map external (drop i places)) →
      more ≡ text ++ line_of it lattice (external p) →
      all ≡ more ++ lines_of it lattice (map external (drop (i + 1) places))
  line_next it lattice all text more is added =
      is ∙ ap (λ (rest : List Place). text ++ lines_of it lattice (map external rest)) comes
      ∙ sym (append_assoc text (line_of it lattice (external p))
      (lines_of it lattice (map external (drop (i + 1) places))))
      ∙ ap (λ (t : List ℕ). t ++ lines_of it lattice (map external (drop (i + 1) places))) (sym added)
