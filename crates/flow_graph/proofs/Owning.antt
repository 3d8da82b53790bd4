-- A table of owners after a write.
use Rattle.std.proofs.Common.{◌≡◌, ◌≢◌, ℕ, ◌<◌, ◌≤◌, ◌^◌, ap, arith, List, length, map, Option, Some, None, option_map, slice_get, get_or, unwrap_or, refl, sym, ◌∙◌, set, get_or-set_same, get_or-set_other}
use Rattle.std.proofs.lemmas.Option.{unwrap_or-slice_get, slice_get-map}
use Rattle.flow_graph.specs.declared.graph.FlowGraph.TheInside.{Inside}
use Rattle.flow_graph.specs.System.{highest}
use Rattle.flow_graph.specs.Owners.{owner_in}
use Rattle.flow_graph.specs.Held.{IsHeld, system_of}
use Rattle.flow_graph.proofs.Bounds.{all_within-sites}
use Rattle.qual_base.specs.declared.places.Owner.{Owner}
use Rattle.qual_base.specs.declared.places.Owner.TheVariants.{Nobody}

-- the owner that is found is that of the cell, and nobody where there is none
owner_at : (cells : List ℕ) (v : ℕ) → unwrap_or (slice_get (map owner_in cells) v) Nobody ≡ owner_in (get_or cells v 0)
owner_at cells v =
    ap (λ (o : Option Owner). unwrap_or o Nobody) (slice_get-map owner_in cells v) ∙ by_cell (slice_get cells v)
    ∙ ap owner_in (unwrap_or-slice_get cells v 0)
  where
    by_cell : (o : Option ℕ) → unwrap_or (option_map owner_in o) Nobody ≡ owner_in (unwrap_or o 0)
    by_cell None = refl
    by_cell (Some cell) = refl

pub owner-set_same : (cells : List ℕ) (at cell : ℕ) (owner : Owner) → owner_in cell ≡ owner → at < length cells
    → unwrap_or (slice_get (map owner_in (set cells at cell)) at) Nobody ≡ owner
owner-set_same cells at cell owner is lt =
    owner_at (set cells at cell) at ∙ ap owner_in (get_or-set_same cells at cell 0 lt) ∙ is

pub owner-set_other : (old new : List ℕ) (at u cell : ℕ) → get_or new u 0 ≡ get_or old u 0 → u ≢ at
    → unwrap_or (slice_get (map owner_in (set new at cell)) u) Nobody
    ≡ unwrap_or (slice_get (map owner_in old) u) Nobody
owner-set_other old new at u cell same other =
    owner_at (set new at cell) u ∙ ap owner_in (get_or-set_other new at u cell 0 other ∙ same) ∙ sym (owner_at old u)

-- a graph's fields keep what is true of them where the table of owners is not too long
pub held_owners : (one other : Inside) → one.constraints.items ≡ other.constraints.items
    → one.sites.items ≡ other.sites.items → one.highest ≡ other.highest →
    length other.owners ≤ 2 ^ 24 → IsHeld one → IsHeld other
held_owners one other same sites high few held =
    let count : length one.constraints.items ≡ length other.constraints.items = ap length same in
    let size : length one.sites.items ≡ length other.sites.items = ap length sites in
    record {
      most = omega (arith, count, held.most);
      few_sites = omega (arith, size, held.few_sites);
      few_owners = few;
      highest_is = sym high ∙ held.highest_is ∙ ap highest same;
      low = omega (arith, high, held.low);
      within = all_within-sites (system_of one) (system_of other) same (omega (arith, size)) held.within;
    }
