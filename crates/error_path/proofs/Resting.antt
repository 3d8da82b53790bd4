-- What a summary rests on.
use Rattle.std.proofs.Common.{◌≡◌, ℕ, ◌<◌, inl, inr, ◌⊎◌, List, Option, Some, IfSome, length, take, slice_get, get_or, sym, ◌∙◌, ap, subst, arith}
use Rattle.std.specs.List.{Contains}
use Rattle.std.proofs.lemmas.List.{length-take, get_or-take}
use Rattle.std.proofs.lemmas.Option.{slice_get_within, slice_get-get_or}
use Rattle.qual_base.specs.declared.places.Owner.TheVariants.{Function}
use Rattle.flow_graph.specs.declared.constraint.Link.{Link}
use Rattle.flow_graph.specs.System.{System, owner_of, Has, Stands}
use Rattle.match_summary.specs.declared.reason.Reason.{Reason}
use Rattle.match_summary.specs.declared.reason.Reason.TheVariants.{Last, Group}
use Rattle.match_summary.specs.declared.reason.Summary.{Summary}
use Rattle.match_summary.specs.Summary.{HasPair, Leads, EndsAt, RestsOn, Summarises}
use Rattle.error_path.specs.Drafts.{rank}
use Rattle.error_path.proofs.Ranks.{rank_most, rank_once}

-- a summary among the first ones is one of all
pub contains_early : (rows : List Summary) (n : ℕ) (row : Summary) → Contains (take n rows) row → Contains rows row
contains_early rows n row there =
    let few = there.1 in
    let size = length-take n rows in
    let lt : there.0 < n = omega (arith, few, size) in
    let within : there.0 < length rows = omega (arith, few, size) in
    (there.0, within, sym (get_or-take n rows there.0 row lt) ∙ there.2)

pub has_early : (rows : List Summary) (n u v : ℕ) → HasPair (take n rows) u v → HasPair rows u v
has_early rows n u v pair = (pair.0, contains_early rows n _ pair.1)

pub leads_early : (rows : List Summary) (n u v : ℕ) → Leads (take n rows) u v → Leads rows u v
leads_early rows n u v (inl same) = inl same
leads_early rows n u v (inr pair) = inr (has_early rows n u v pair)

-- a reason that holds by the first summaries holds by all
pub ends_early : (sys : System) (lattice : ℕ) (rows : List Summary) (n : ℕ) (why : Reason) (v : ℕ)
    → EndsAt sys lattice (take n rows) why v → EndsAt sys lattice rows why v
ends_early sys lattice rows n (Last edge before) v h = h
ends_early sys lattice rows n (Group before enter leave) v h =
    (h.0, h.1, h.2, h.3, leads_early rows n h.1 h.2 h.4, h.5, h.6)

-- a summary rests on the summaries
pub rests : (sys : System) (lattice : ℕ) (rows : List Summary) → Summarises sys lattice rows → (row : Summary)
    → Contains rows row → RestsOn sys lattice rows row
rests sys lattice rows all row there =
    let n = there.0 in
    let is : slice_get rows n ≡ Some row = slice_get-get_or rows n row there.1 ∙ ap (λ (x : Summary). Some x) there.2 in
    let r = all.grounded n row is in record {
      part = ends_early sys lattice rows n row.why row.to r.part;
      front = leads_early rows n row.from _ r.front;
      inside = r.inside;
    }

pub has_of : (sys : System) (lattice n : ℕ) (link : Link) → Stands sys lattice n link → Has sys n link
has_of sys lattice n link st = record { constraint = st.constraint; there = st.there; link_is = st.link_is }

pub within_of : (sys : System) (lattice n : ℕ) (link : Link) → Stands sys lattice n link → n < length sys.constraints
within_of sys lattice n link st = slice_get_within sys.constraints n st.constraint st.there

-- of the reason that was found for a pair
pub rests_by : (sys : System) (lattice : ℕ) (rows : List Summary) → Summarises sys lattice rows
    → (u v : ℕ) (o : Option Reason) (why : Reason) →
    IfSome o (λ w. Contains rows (record { from = u; to = v; why = w })) → o ≡ Some why
    → RestsOn sys lattice rows (record { from = u; to = v; why = why })
rests_by sys lattice rows all u v o why some is =
    let Found : Option Reason → Type 0 = λ x. IfSome x (λ w. Contains rows (record { from = u; to = v; why = w })) in
    rests sys lattice rows all (record { from = u; to = v; why = why }) (subst Found is some)

-- what leads from a variable of a function stays in the function
pub leads_owner : (sys : System) (lattice : ℕ) (rows : List Summary) → Summarises sys lattice rows → (u v f : ℕ)
    → Leads rows u v → owner_of sys u ≡ Function f → owner_of sys v ≡ Function f
leads_owner sys lattice rows all u v f (inl same) o = ap (owner_of sys) (sym same) ∙ o
leads_owner sys lattice rows all u v f (inr pair) o =
    let one = (rests sys lattice rows all _ pair.1).inside in
    one.2 ∙ sym one.1 ∙ o

-- the reason of a pair rests on the summaries that stand before the pair
pub rests_early : (sys : System) (lattice : ℕ) (rows : List Summary) → Summarises sys lattice rows
    → (u v : ℕ) (o : Option Reason) (why : Reason) →
    IfSome o (λ w. Contains rows (record { from = u; to = v; why = w })) → o ≡ Some why →
    RestsOn sys lattice (take (rank rows u v) rows) (record { from = u; to = v; why = why })
rests_early sys lattice rows all u v o why some is =
    let Found : Option Reason → Type 0 = λ x. IfSome x (λ w. Contains rows (record { from = u; to = v; why = w })) in
    let there = subst Found is some in
    let row : Summary = record { from = u; to = v; why = why } in
    let n = there.0 in
    let at : slice_get rows n ≡ Some row = slice_get-get_or rows n row there.1 ∙ ap (λ (x : Summary). Some x) there.2 in
    subst (λ k. RestsOn sys lattice (take k rows) row) (sym (rank_once rows all.once n u v why at))
    (all.grounded n row at)

-- such a pair stands before it
pub rank_early : (rows : List Summary) (n u v : ℕ) → HasPair (take n rows) u v → rank rows u v < n
rank_early rows n u v pair =
    let few = pair.1.1 in
    let size = length-take n rows in
    let lt : pair.1.0 < n = omega (arith, few, size) in
    let row : Summary = record { from = u; to = v; why = pair.0 } in
    let within : pair.1.0 < length rows = omega (arith, few, size) in
    let is : get_or rows pair.1.0 row ≡ row = sym (get_or-take n rows pair.1.0 row lt) ∙ pair.1.2 in
    let at : slice_get rows pair.1.0 ≡ Some row =
    slice_get-get_or rows pair.1.0 row within ∙ ap (λ (x : Summary). Some x) is in
    let most = rank_most rows pair.1.0 u v pair.0 at in
    omega (arith, most, lt)

pub leads_before : (rows : List Summary) (n u v : ℕ) → Leads (take n rows) u v
    → (u ≡ v) ⊎ (HasPair rows u v × (rank rows u v < n))
leads_before rows n u v (inl same) = inl same
leads_before rows n u v (inr pair) = inr (has_early rows n u v pair, rank_early rows n u v pair)
