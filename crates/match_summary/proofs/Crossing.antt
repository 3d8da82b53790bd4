-- Inner ends, their buckets, and the constraints that have them.
use Rattle.std.proofs.Common.{◌≡◌, ℕ, zero, suc, ◌+◌, ◌<◌, ◌≤◌, inl, inr, List, [], ◌∷◌, ◌++◌, Some, length, take, slice_get, refl, sym, ◌∙◌, ap, subst, arith}
use Rattle.std.proofs.lemmas.Bool.{cases_lt}
use Rattle.std.proofs.lemmas.List.{map-append}
use Rattle.std.proofs.lemmas.Option.{slice_get_within}
use Rattle.flow_graph.specs.declared.constraint.Constraint.{Constraint}
use Rattle.flow_graph.specs.declared.constraint.Link.{Link}
use Rattle.flow_graph.specs.declared.constraint.Link.TheVariants.{Le, Const, Bound, Enter, Leave}
use Rattle.flow_graph.specs.Index.{link_site, IsKeyed}
use Rattle.flow_graph.specs.System.{System, Has, Stands}
use Rattle.flow_graph.proofs.Links.{some_constraint}
use Rattle.match_summary.specs.declared.crossings.Way.{Way}
use Rattle.match_summary.specs.declared.crossings.Way.TheVariants.{In, Out}
use Rattle.match_summary.specs.declared.crossings.InnerEnd.{InnerEnd}
use Rattle.match_summary.specs.Crossings.{Crosses, HasEnd, IsLastCrossing, bucket_at, bucket_in, buckets_in}

-- the bucket of a constraint by its place
bucket_there : (count : ℕ) (cs : List Constraint) (n : ℕ) (c : Constraint) → slice_get cs n ≡ Some c
    → slice_get (buckets_in count cs) n ≡ Some (bucket_in count c.link)
bucket_there count [] n c is = absurd cc
bucket_there count (x ∷ cs) zero c is =
    let same : x ≡ c = cc in
    ap (λ (k : Constraint). Some (bucket_in count k.link)) same
bucket_there count (x ∷ cs) (suc n) c is = bucket_there count cs n c is

-- a place that has a bucket is one of a constraint
pub place_within : (count : ℕ) (cs : List Constraint) (n bucket : ℕ) → slice_get (buckets_in count cs) n ≡ Some bucket
    → n < length cs
place_within count [] n bucket is = absurd cc
place_within count (x ∷ cs) zero bucket is = omega arith
place_within count (x ∷ cs) (suc n) bucket is = let deeper = place_within count cs n bucket is in omega (arith, deeper)

-- a link is in the bucket of its inner end
has_bucket : (count : ℕ) (way : Way) (site at : ℕ) (link : Link) → HasEnd way site at link
    → bucket_in count link ≡ bucket_at count way site at
has_bucket count In site at (Le u v) has = absurd has
has_bucket count In site at (Const l e v) has = absurd has
has_bucket count In site at (Bound v l e) has = absurd has
has_bucket count In site at (Enter s u v) has =
    ap (λ x. bucket_at count In x v) has.0 ∙ ap (λ x. bucket_at count In site x) has.1
has_bucket count In site at (Leave s u v) has = absurd has
has_bucket count Out site at (Le u v) has = absurd has
has_bucket count Out site at (Const l e v) has = absurd has
has_bucket count Out site at (Bound v l e) has = absurd has
has_bucket count Out site at (Enter s u v) has = absurd has
has_bucket count Out site at (Leave s u v) has =
    ap (λ x. bucket_at count Out x u) has.0 ∙ ap (λ x. bucket_at count Out site x) has.1

pub crosses_bucket : (count : ℕ) (sys : System) (end : InnerEnd) (n : ℕ) → Crosses sys end n
    → slice_get (buckets_in count sys.constraints) n ≡ Some (bucket_at count end.way end.site end.at)
crosses_bucket count sys end n c =
    bucket_there count sys.constraints n c.constraint c.there
    ∙ ap (λ (x : ℕ). Some x) (has_bucket count end.way end.site end.at c.constraint.link c.has)

-- the first items up to and with one are those before it and then it
take_more : {X : Type 0} (xs : List X) (n : ℕ) (x : X) → slice_get xs n ≡ Some x → take (suc n) xs ≡ take n xs ++ x ∷ []
take_more [] n x is = absurd cc
take_more (y ∷ xs) zero x is = let same : y ≡ x = cc in ap (λ z. z ∷ []) same
take_more (y ∷ xs) (suc n) x is = ap (λ zs. y ∷ zs) (take_more xs n x is)

-- the buckets with that of one constraint more
pub buckets_more : (count : ℕ) (cs : List Constraint) (n : ℕ) (c : Constraint) → slice_get cs n ≡ Some c →
    buckets_in count (take (n + 1) cs) ≡ buckets_in count (take n cs) ++ bucket_in count c.link ∷ []
buckets_more count cs n c is =
    let next : n + 1 ≡ suc n = omega arith in
    ap (λ k. buckets_in count (take k cs)) next ∙ ap (buckets_in count) (take_more cs n c is)
    ∙ map-append (λ (k : Constraint). bucket_in count k.link) (take n cs) (c ∷ [])

-- which site a link with an inner end is of
end_site : (way : Way) (site at : ℕ) (link : Link) → HasEnd way site at link → link_site link ≡ Some site
end_site In site at (Le u v) has = absurd has
end_site In site at (Const l e v) has = absurd has
end_site In site at (Bound v l e) has = absurd has
end_site In site at (Enter s u v) has = ap (λ x. Some x) has.0
end_site In site at (Leave s u v) has = absurd has
end_site Out site at (Le u v) has = absurd has
end_site Out site at (Const l e v) has = absurd has
end_site Out site at (Bound v l e) has = absurd has
end_site Out site at (Enter s u v) has = absurd has
end_site Out site at (Leave s u v) has = ap (λ x. Some x) has.0

pub crosses_site : (sys : System) (end : InnerEnd) (n : ℕ) → Crosses sys end n → IsKeyed sys link_site end.site n
crosses_site sys end n c = record {
  constraint = c.constraint;
  there = c.there;
  keyed = end_site end.way end.site end.at c.constraint.link c.has;
}

-- the links in a lattice and their inner ends
pub enter_crosses : (sys : System) (lattice n s u v : ℕ) → Stands sys lattice n (Enter s u v)
    → Crosses sys (record { way = In; site = s; at = v }) n
enter_crosses sys lattice n s u v st =
    record { constraint = st.constraint; there = st.there; has = subst (HasEnd In s v) (sym st.link_is) (refl, refl) }

pub leave_crosses : (sys : System) (lattice n s u v : ℕ) → Stands sys lattice n (Leave s u v)
    → Crosses sys (record { way = Out; site = s; at = u }) n
leave_crosses sys lattice n s u v st =
    record { constraint = st.constraint; there = st.there; has = subst (HasEnd Out s u) (sym st.link_is) (refl, refl) }

pub buckets_length : (count : ℕ) (cs : List Constraint) → length (buckets_in count cs) ≡ length cs
buckets_length count [] = refl
buckets_length count (c ∷ cs) = ap suc (buckets_length count cs)

-- a constraint that has an inner end has it by its link
pub has_end_at : (sys : System) (end : InnerEnd) (n : ℕ) (constraint : Constraint) → Crosses sys end n
    → slice_get sys.constraints n ≡ Some constraint →
    HasEnd end.way end.site end.at constraint.link
has_end_at sys end n constraint crosses there =
    let same : crosses.constraint ≡ constraint = some_constraint (sym crosses.there ∙ there) in
    subst (λ (c : Constraint). HasEnd end.way end.site end.at c.link) same crosses.has

-- the links with an inner end
pub has_enter : (site at : ℕ) (link : Link) → HasEnd In site at link → (u : ℕ) × (link ≡ Enter site u at)
has_enter site at (Le u v) has = absurd has
has_enter site at (Const l e v) has = absurd has
has_enter site at (Bound v l e) has = absurd has
has_enter site at (Enter s u v) has =
    (u, ap (λ x. let l : Link = Enter x u v in l) has.0 ∙ ap (λ x. let l : Link = Enter site u x in l) has.1)
has_enter site at (Leave s u v) has = absurd has

-- a link that leaves a site from a variable is a `Leave` of them to some variable
pub has_leave : (site at : ℕ) (link : Link) → HasEnd Out site at link → (v : ℕ) × (link ≡ Leave site at v)
has_leave site at (Le u v) has = absurd has
has_leave site at (Const l e v) has = absurd has
has_leave site at (Bound v l e) has = absurd has
has_leave site at (Enter s u v) has = absurd has
has_leave site at (Leave s u v) has =
    (v, ap (λ x. let l : Link = Leave x u v in l) has.0 ∙ ap (λ x. let l : Link = Leave site x v in l) has.1)

pub crosses_within : (sys : System) (end : InnerEnd) (n : ℕ) → Crosses sys end n → n < length sys.constraints
crosses_within sys end n c = slice_get_within sys.constraints n c.constraint c.there

-- the link of a constraint that crosses at an inner end has that inner end
pub has_end_of : (sys : System) (end : InnerEnd) (n : ℕ) (link : Link) → Crosses sys end n → Has sys n link
    → HasEnd end.way end.site end.at link
has_end_of sys end n link c has =
    let same : c.constraint ≡ has.constraint = some_constraint (sym c.there ∙ has.there) in
    subst (HasEnd end.way end.site end.at) (ap (λ (k : Constraint). k.link) same ∙ has.link_is) c.has

-- One turn along the constraints with an inner end, the last first: what holds of the others and of this one holds from
-- the next one on.
pub crossed_more : (sys : System) (end : InnerEnd) (P : ℕ → Type 0) (at link : ℕ) → IsLastCrossing sys end at link
    → ((n : ℕ) → at < n → P n) → P at →
    ((n : ℕ) → (Crosses sys end n → ⊥) → P n) → (n : ℕ) → link ≤ n → P n
crossed_more sys end P at link is after here elsewhere n le = elim (cases_lt at n) [
  | inl lt ↦ after n lt
  | inr early ↦ elim (cases_lt n at) [
    | inl lt ↦ elsewhere n (is.last n le lt)
    | inr late ↦ let same : at ≡ n = omega (arith, early, late) in subst P same here
  ]
]

pub crossed_first : (sys : System) (end : InnerEnd) (P : ℕ → Type 0) (link : ℕ)
    → IsLastCrossing sys end (length sys.constraints) link → ((n : ℕ) → (Crosses sys end n → ⊥) → P n) →
    (n : ℕ) → link ≤ n → P n
crossed_first sys end P link is elsewhere n le =
    elsewhere n (λ crosses. is.last n le (crosses_within sys end n crosses) crosses)
