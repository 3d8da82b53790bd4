-- The numbers of call sites, as sites come.
use Rattle.std.proofs.Common.{◌≡◌, ℕ, suc, ◌+◌, ◌<◌, ◌≤◌, arith, Bool, true, false, List, ◌++◌, length, length-append, append-nil, map, drop, slice_index_or, Option, Some, None, refl, sym, ◌∙◌, ap, if◌then◌else◌}
use Rattle.flow_graph.specs.declared.constraint.Site.{Site}
use Rattle.name_rules.specs.Spellings.{Place}
use Rattle.name_rules.specs.Scopes.{is_place}
use Rattle.name_tables.specs.PlaceMap.Values.{or_else, there}
use Rattle.name_tables.proofs.PlaceMap.Adding.{or_none, or_assoc}
use Rattle.row_rules.specs.Starting.{Start}
use Rattle.row_rules.specs.Sites.{site_of, place_of, site_places}
use Rattle.type_table.specs.declared.row.TypeRow.{TypeRow}
use Rattle.unit_starts.specs.declared.start.Start as code
use Rattle.unit_starts.specs.Views.{start_in}
use Rattle.unit_starts.specs.UnitSkeletons.Numbers.{place_among}
use Rattle.unit_starts.proofs.UnitSkeletons.Placing.{one_left, none_left}

-- what a skeleton adds, in front of what others add
pub sites_on : (functions : List Place) (x : Start) (calls : Option Place) (old new : List Site)
    (before after : Place → Option ℕ) (rest : List Place) → new ≡ old ++ site_of functions x calls
    → ((p : Place) → after p ≡ or_else (before p) (place_among (length old) (place_of x calls) p)) → (p : Place)
    → or_else (after p) (place_among (length new) rest p)
    ≡ or_else (before p) (place_among (length old) (place_of x calls ++ rest) p)
sites_on functions x None old new before after rest is added p =
    ap (λ (o : Option ℕ). or_else o (place_among (length new) rest p)) (added p ∙ or_none (before p))
    ∙ ap (λ (l : List Site). or_else (before p) (place_among (length l) rest p)) (is ∙ append-nil old)
sites_on functions x (Some f) old new before after rest is added p =
    ap (λ (o : Option ℕ). or_else o (place_among (length new) rest p)) (added p)
    ∙ or_assoc (before p) (there x.at (length old) p) (place_among (length new) rest p)
    ∙ ap (λ (n : ℕ). or_else (before p) (or_else (there x.at (length old) p) (place_among n rest p))) count
    ∙ ap (or_else (before p)) (by_test (is_place x.at p))
  where
    count : length new ≡ suc (length old)
    count =
        let e = ap (λ (l : List Site). length l) is in
        let a = length-append old (site_of functions x (Some f)) in omega arith

    by_test : (b : Bool) → or_else (if b then Some (length old) else None) (place_among (suc (length old)) rest p)
        ≡ (if b then Some (length old) else place_among (suc (length old)) rest p)
    by_test true = refl
    by_test false = refl

-- the next of some skeletons
pub sites_next : (types : List TypeRow) (functions : List Place) (starts : List code.Start) (i : ℕ) (x : code.Start)
    (old new : List Site) (before after whole : Place → Option ℕ) → i < length starts → x ≡ slice_index_or starts i x
    → new ≡ old ++ site_of functions (start_in types x) x.calls
    → ((p : Place) → after p ≡ or_else (before p) (place_among (length old) (place_of (start_in types x) x.calls) p))
    → ((p : Place)
    → or_else (before p) (place_among (length old) (site_places (map (start_in types) (drop i starts))) p) ≡ whole p)
    → (p : Place)
    → or_else (after p)
    (place_among (length new) (site_places (map (start_in types) (drop (i + 1) starts))) p) ≡ whole p
sites_next types functions starts i x old new before after whole lt item is added so p =
    sites_on functions (start_in types x) x.calls old new before after
    (site_places (map (start_in types) (drop (i + 1) starts))) is added p
    ∙ ap (λ (l : List Start). or_else (before p) (place_among (length old) (site_places l) p))
    (sym (one_left (start_in types) starts i x lt item))
    ∙ so p

-- none is left
pub sites_end : (types : List TypeRow) (starts : List code.Start) (i n : ℕ) (found whole : Place → Option ℕ)
    → length starts ≤ i
    → ((p : Place) → or_else (found p) (place_among n (site_places (map (start_in types) (drop i starts))) p) ≡ whole p)
    → (p : Place) → found p ≡ whole p
sites_end types starts i n found whole le is p =
    sym (or_none (found p))
    ∙ ap (λ (l : List code.Start). or_else (found p) (place_among n (site_places (map (start_in types) l)) p))
    (sym (none_left starts i le))
    ∙ is p
