-- Links of members by tables, against the rules.
use Rattle.std.proofs.Common.{◌≡◌, ℕ, zero, suc, ◌+◌, ◌<◌, arith, Bool, true, false, not, ◌&&◌, nat_eq, List, [], ◌∷◌, map, slice_get, Option, Some, None, is_some, option_map, refl, sym, ◌∙◌, ap, if◌then◌else◌}
use Rattle.std.specs.Prelude.{option_and_then}
use Rattle.std.proofs.lemmas.Bool.{eq-eqb}
use Rattle.std.proofs.lemmas.Option.{same_Some}
use Rattle.qual_base.proofs.Tests.{and_false, not_equal}
use Rattle.type_table.specs.Types.{CType}
use Rattle.name_rules.specs.Spellings.{Place}
use Rattle.name_rules.specs.Scopes.{is_place, or_place}
use Rattle.name_rules.specs.Scopes as rules
use Rattle.name_rules.specs.Values.{known_named, member_in}
use Rattle.name_rules.specs.Linking.{defines, is_elsewhere, place_of, member_where, member_among, is_found, name_found, linked_in, member_link}
use Rattle.name_rules.proofs.MeaningLaws.Lists.{place_is}
use Rattle.name_tables.specs.declared.name_records.body.Known.{Known}
use Rattle.name_tables.specs.declared.name_records.aggregates.StructKey.{StructKey}
use Rattle.name_tables.specs.declared.name_records.aggregates.Aggregate.{Aggregate}
use Rattle.name_tables.specs.NameRecords.Bodies.{OneBody}
use Rattle.name_tables.specs.PlaceMap.Values.{or_else}
use Rattle.name_tables.proofs.PlaceMap.Adding.{or_none}
use Rattle.name_state.specs.UnitNames.Shown.{key_of, known_of, body_of, aggregate_of}
use Rattle.name_state.specs.declared.name_links.keys.Shared.{Shared}
use Rattle.name_state.specs.declared.name_links.keys.Keys.{Keys}
use Rattle.name_state.specs.NameLinks.Tables.{keyed, key_held, is_keyed_by, AreKeyed, if_elsewhere, keyed_by, shared_by, PlaceTable, member_there, known_in, first_known, own_members, key_members, first_own, first_among, link_where, link_there, first_link, shared_links, all_links, known_behind}
use Rattle.name_state.proofs.NameLinks.Tests.{key_same, key_is}
use Rattle.name_state.proofs.NameLinks.Things.{first_place}
use Rattle.name_state.proofs.NameLinks.Known.{held_is, one_key, known_here}

some_first : (o e : Option Place) → is_some o ≡ true → is_some (or_place o e) ≡ true
some_first None e is = absurd cc
some_first (Some v) e is = refl

some_second : (o e : Option Place) → is_some e ≡ true → is_some (or_place o e) ≡ true
some_second None e is = is
some_second (Some v) e is = refl

-- a struct of another number has none of these
first_other : (m n : ℕ) (known : List Known) (name : ℕ) → nat_eq m n ≡ false → first_known m known (n, name) ≡ None
first_other m n [] name other = refl
first_other m n (k ∷ known) name other =
    ap (λ b. or_else (if b && nat_eq k.name name then Some k.at else None) (first_known m known (n, name))) other
    ∙ first_other m n known name other

own_other : (shared : Option Shared) (m n : ℕ) (known : List Known) (name : ℕ) → nat_eq m n ≡ false
    → own_members shared m known (n, name) ≡ None
own_other None m n known name other = refl
own_other (Some s) m n known name other = first_other m n known name other

-- a link that is at this place
abbrev if_there : Bool → Option Place → Option Place
if_there b None = None
if_there b (Some first) = if b then Some first else None

link_is_there : (o : Option Place) (at p : Place) → link_there o at p ≡ if_there (is_place at p) o
link_is_there None at p = refl
link_is_there (Some first) at p = refl

module _ (t : ℕ → CType) where
  -- the member that a struct finds by a name
  abbrev pub found_in : Option OneBody → ℕ → Option Place
  found_in body name = place_of (member_in (option_map (body_of t) body) name)

  pub first_here : (m : ℕ) (body : Option OneBody) (name : ℕ)
      → first_known m (known_in body) (m, name) ≡ found_in body name
  first_here m None name = refl
  first_here m (Some body) name = of_list body.known
    where
      by_test : (k : Known) (ks : List Known) (b : Bool)
          → first_known m ks (m, name) ≡ place_of (known_named (map (known_of t) ks) name)
          → or_else (if b then Some k.at else None) (first_known m ks (m, name))
          ≡ place_of (if b then Some (known_of t k) else known_named (map (known_of t) ks) name)
      by_test k ks true is = refl
      by_test k ks false is = is

      of_list : (ks : List Known) → first_known m ks (m, name) ≡ place_of (known_named (map (known_of t) ks) name)
      of_list [] = refl
      of_list (k ∷ ks) =
          ap (λ b. or_else (if b && nat_eq k.name name then Some k.at else None) (first_known m ks (m, name)))
          (eq-eqb m m refl)
          ∙ by_test k ks (nat_eq k.name name) (of_list ks)

  -- the first of the members of a key that have a name
  abbrev pub among : rules.StructKey → List Aggregate → ℕ → Option Place
  among key all name = member_among key name (map (aggregate_of t) all)

  -- where one has the name, there is a first one
  pub among_some : (key : rules.StructKey) (it : Aggregate) (name : ℕ) → defines key (aggregate_of t it) ≡ true
      → is_some (found_in it.body name) ≡ true → (all : List Aggregate) (i : ℕ) → slice_get all i ≡ Some it
      → is_some (among key all name) ≡ true
  among_some key it name holds found [] i at = absurd cc
  among_some key it name holds found (x ∷ all) zero at =
      ap (λ (y : Aggregate). is_some (or_place (member_where (defines key (aggregate_of t y)) (aggregate_of t y) name)
      (among key all name))) (same_Some x it at)
      ∙ ap (λ b. is_some (or_place (member_where b (aggregate_of t it) name) (among key all name))) holds
      ∙ some_first (found_in it.body name) (among key all name) found
  among_some key it name holds found (x ∷ all) (suc i) at =
      some_second (member_where (defines key (aggregate_of t x)) (aggregate_of t x) name) (among key all name)
      (among_some key it name holds found all i at)

  module _ (keys : Keys) (all : List Aggregate) (are : AreKeyed all keys) where
    -- by the number of a struct that several sources have, its own members
    past : (m k : ℕ) (some : List Aggregate) (name : ℕ) → k < m → first_own keys m some (k, name) ≡ None
    past m k [] name lt = refl
    past m k (it ∷ some) name lt =
        ap (λ o. or_else o (first_own keys (suc m) some (k, name)))
        (own_other (shared_by keys it) m k (known_in it.body) name (not_equal m k (λ same. omega arith)))
        ∙ past (suc m) k some name (omega arith)

    pub own_here : (m n k : ℕ) (some : List Aggregate) (it : Aggregate) (name : ℕ) → k ≡ m + n
        → slice_get some n ≡ Some it
        → first_own keys m some (k, name) ≡ own_members (shared_by keys it) k (known_in it.body) (k, name)
    own_here m n k [] it name at is = absurd cc
    own_here m zero k (x ∷ some) it name at is =
        let same : m ≡ k = omega arith in
        ap (λ o. or_else (own_members (shared_by keys x) m (known_in x.body) (k, name)) o)
        (past (suc m) k some name (omega arith))
        ∙ or_none (own_members (shared_by keys x) m (known_in x.body) (k, name))
        ∙ ap (λ (j : ℕ). own_members (shared_by keys x) j (known_in x.body) (k, name)) same
        ∙ ap (λ (y : Aggregate). own_members (shared_by keys y) k (known_in y.body) (k, name)) (same_Some x it is)
    own_here m (suc n) k (x ∷ some) it name at is =
        ap (λ o. or_else o (first_own keys (suc m) some (k, name)))
        (own_other (shared_by keys x) m k (known_in x.body) name (not_equal m k (λ same. omega arith)))
        ∙ own_here (suc m) n k some it name (omega arith) is

    module _ (key : rules.StructKey) (s : Shared) (has : keyed keys key ≡ Some s)
        (several : s.is_elsewhere ≡ true) where
      -- a definition of this key has its members by the number of the first one
      of_key : (held : Option StructKey) (known : List Known) (p : Place) → is_keyed_by key held ≡ true
          → key_members (if_elsewhere (keyed_by keys held)) known p ≡ first_known s.first known p
      of_key None known p holds = absurd cc
      of_key (Some other) known p holds =
          ap (λ (k : rules.StructKey). key_members (if_elsewhere (keyed keys k)) known p)
          (key_is (key_of other) key holds)
          ∙ ap (λ (o : Option Shared). key_members (if_elsewhere o) known p) has
          ∙ ap (λ b. key_members (if b then Some s else None) known p) several

      -- one of another key has none there
      of_other : (held : Option StructKey) (known : List Known) (name : ℕ) → is_keyed_by key held ≡ false
          → key_members (if_elsewhere (keyed_by keys held)) known (s.first, name) ≡ None
      of_other None known name apart = refl
      of_other (Some other) known name apart = by_known (keyed keys (key_of other)) refl
        where
          by_flag : (u : Shared) (b : Bool) → nat_eq u.first s.first ≡ false
              → key_members (if b then Some u else None) known (s.first, name) ≡ None
          by_flag u true number = first_other u.first s.first known name number
          by_flag u false number = refl

          by_known : (o : Option Shared) → keyed keys (key_of other) ≡ o
              → key_members (if_elsewhere o) known (s.first, name) ≡ None
          by_known None is = refl
          by_known (Some u) is = by_flag u u.is_elsewhere (not_equal u.first s.first (λ number.
              let same =
              one_key t all (key_of other) key u s (sym (are (key_of other)) ∙ is) (sym (are key) ∙ has) number in
              let no : false ≡ true =
              sym apart ∙ ap (λ (k : rules.StructKey). is_keyed_by k (Some other)) (sym same)
              ∙ key_same (key_of other) in
              cc))

      of_one : (it : Aggregate) (name : ℕ) → key_members (shared_by keys it) (known_in it.body) (s.first, name)
          ≡ member_where (defines key (aggregate_of t it)) (aggregate_of t it) name
      of_one it name =
          by_test (is_keyed_by key (key_held it)) refl
          ∙ ap (λ b. member_where b (aggregate_of t it) name) (held_is t key it)
        where
          by_test : (b : Bool) → is_keyed_by key (key_held it) ≡ b
              → key_members (shared_by keys it) (known_in it.body) (s.first, name)
              ≡ member_where b (aggregate_of t it) name
          by_test true holds =
              of_key (key_held it) (known_in it.body) (s.first, name) holds ∙ first_here s.first it.body name
          by_test false apart = of_other (key_held it) (known_in it.body) name apart

      pub among_here : (some : List Aggregate) (name : ℕ) → first_among keys some (s.first, name) ≡ among key some name
      among_here [] name = refl
      among_here (it ∷ some) name =
          ap (λ (o : Option Place). or_else o (first_among keys some (s.first, name))) (of_one it name)
          ∙ ap (λ (o : Option Place).
          or_else (member_where (defines key (aggregate_of t it)) (aggregate_of t it) name) o)
          (among_here some name)
          ∙ first_place (member_where (defines key (aggregate_of t it)) (aggregate_of t it) name) (among key some name)

  module _ (own firsts : PlaceTable) (n : ℕ) (s : Shared) (body : OneBody) (first : ℕ → Option Place)
      (own_is : (name : ℕ) → member_there own (n, name) ≡ found_in (Some body) name)
      (first_is : (name : ℕ) → member_there firsts (s.first, name) ≡ first name)
      (there_is : (name : ℕ) → is_some (found_in (Some body) name) ≡ true → is_some (first name) ≡ true) where
    -- the links of members of one definition
    pub links_same : (p : Place) (ks : List Known)
        → first_link own firsts n s ks p ≡ option_and_then first (name_found (body_of t body) (map (known_of t) ks) p)
    links_same p [] = refl
    links_same p (k ∷ ks) =
        ap (λ (o : Option Place). or_else (link_there (link_where firsts s k o) k.at p) rest) (own_is k.name)
        ∙ by_found (found_in (Some body) k.name) (there_is k.name) (links_same p ks)
      where
        rest : Option Place
        rest = first_link own firsts n s ks p

        named : Option ℕ
        named = name_found (body_of t body) (map (known_of t) ks) p

        by_first : (o : Option Place) → o ≡ first k.name → is_some (first k.name) ≡ true
            → or_else (if_there true o) rest ≡ first k.name
        by_first None is some = absurd (let no : false ≡ true = ap is_some is ∙ some in cc)
        by_first (Some v) is some = is

        by_same : (b : Bool) → is_some (first k.name) ≡ true → rest ≡ option_and_then first named
            → or_else (if_there true (if b then member_there firsts (s.first, k.name) else None)) rest
            ≡ option_and_then first (if b then Some k.name else named)
        by_same true some behind = by_first (member_there firsts (s.first, k.name)) (first_is k.name) some
        by_same false some behind = behind

        not_there : (o : Option Place) → rest ≡ option_and_then first named
            → or_else (if_there false o) rest ≡ option_and_then first named
        not_there None behind = behind
        not_there (Some v) behind = behind

        by_place : (q : Place) (b : Bool) → is_place k.at p ≡ b → is_some (first k.name) ≡ true
            → rest ≡ option_and_then first named
            → or_else (if_there b (if is_place q k.at then member_there firsts (s.first, k.name) else None)) rest
            ≡ option_and_then first (if b && is_place q p then Some k.name else named)
        by_place q true is some behind =
            ap (λ (r : Place).
            or_else (if_there true (if is_place q r then member_there firsts (s.first, k.name) else None)) rest)
            (place_is k.at p is)
            ∙ by_same (is_place q p) some behind
        by_place q false is some behind =
            not_there (if is_place q k.at then member_there firsts (s.first, k.name) else None) behind

        by_found : (o : Option Place) → (is_some o ≡ true → is_some (first k.name) ≡ true)
            → rest ≡ option_and_then first named
            → or_else (link_there (link_where firsts s k o) k.at p) rest
            ≡ option_and_then first (if is_place k.at p && is_found p o then Some k.name else named)
        by_found None some behind =
            behind ∙ ap (λ b. option_and_then first (if b then Some k.name else named))
            (sym (and_false (is_place k.at p)))
        by_found (Some q) some behind =
            ap (λ (o : Option Place). or_else o rest)
            (link_is_there (if is_place q k.at then member_there firsts (s.first, k.name) else None) k.at p)
            ∙ by_place q (is_place k.at p) refl (some refl) behind

  module _ (keys : Keys) (all : List Aggregate) (are : AreKeyed all keys) (own firsts : PlaceTable)
      (own_is : (p : Place) → member_there own p ≡ first_own keys 0 all p)
      (first_is : (p : Place) → member_there firsts p ≡ first_among keys all p) where
    abbrev pub shown : List rules.Aggregate
    shown = map (aggregate_of t) all

    no_links : (n : ℕ) (known : List Known) (p : Place) (held : Option StructKey) → held ≡ None
        → shared_links own firsts n (if_elsewhere (keyed_by keys held)) known p ≡ None
    no_links n known p held is =
        ap (λ (h : Option StructKey). shared_links own firsts n (if_elsewhere (keyed_by keys h)) known p) is

    none_either : (b : Bool) (held : Option StructKey) → held ≡ None → (if b then held else None) ≡ None
    none_either true held is = is
    none_either false held is = refl

    -- of a definition of a source that has a key
    of_source : (n : ℕ) (it : Aggregate) (key : StructKey) (body : OneBody) (p : Place) → slice_get all n ≡ Some it
        → it.body ≡ Some body → key_held it ≡ Some key
        → shared_links own firsts n (if_elsewhere (keyed_by keys (key_held it))) body.known p
        ≡ (if defines (key_of key) (aggregate_of t it) && is_elsewhere it.at.0 (key_of key) shown
        then option_and_then (λ name. among (key_of key) all name)
        (name_found (body_of t body) (map (known_of t) body.known) p)
        else None)
    of_source n it key body p at body_is held =
        ap (λ (h : Option StructKey). shared_links own firsts n (if_elsewhere (keyed_by keys h)) body.known p) held
        ∙ ap (λ (o : Option Shared). shared_links own firsts n (if_elsewhere o) body.known p) known_is
        ∙ by_flag s.is_elsewhere refl
        ∙ ap (λ b. if b then links else None) (found.2)
        ∙ ap (λ b. if b && is_elsewhere it.at.0 (key_of key) shown then links else None) (sym defined)
      where
        holds : is_keyed_by (key_of key) (key_held it) ≡ true
        holds = ap (is_keyed_by (key_of key)) held ∙ key_same (key_of key)

        defined : defines (key_of key) (aggregate_of t it) ≡ true
        defined = sym (held_is t (key_of key) it) ∙ holds

        found : (s : Shared) × (known_behind (key_of key) None 0 all ≡ Some s)
            × (s.is_elsewhere ≡ is_elsewhere it.at.0 (key_of key) shown)
        found = known_here t (key_of key) it holds 0 all n at

        s : Shared
        s = found.0

        known_is : keyed keys (key_of key) ≡ Some s
        known_is = are (key_of key) ∙ found.1

        links : Option Place
        links = option_and_then (λ name. among (key_of key) all name)
            (name_found (body_of t body) (map (known_of t) body.known) p)

        own_members_are : s.is_elsewhere ≡ true → (name : ℕ) → member_there own (n, name) ≡ found_in (Some body) name
        own_members_are several name =
            own_is (n, name) ∙ own_here keys all are 0 n n all it name (omega arith) at
            ∙ ap
            (λ (h : Option StructKey). own_members (if_elsewhere (keyed_by keys h)) n (known_in it.body) (n, name)) held
            ∙ ap (λ (o : Option Shared). own_members (if_elsewhere o) n (known_in it.body) (n, name)) known_is
            ∙ ap (λ b. own_members (if b then Some s else None) n (known_in it.body) (n, name)) several
            ∙ ap (λ (b : Option OneBody). first_known n (known_in b) (n, name)) body_is
            ∙ first_here n (Some body) name

        some_among : (name : ℕ) → is_some (found_in (Some body) name) ≡ true
            → is_some (among (key_of key) all name) ≡ true
        some_among name some =
            among_some (key_of key) it name defined
            (ap (λ (b : Option OneBody). is_some (found_in b name)) body_is ∙ some) all n at

        by_flag : (b : Bool) → s.is_elsewhere ≡ b
            → shared_links own firsts n (if b then Some s else None) body.known p ≡ (if b then links else None)
        by_flag false is = refl
        by_flag true is =
            links_same own firsts n s body (λ name. among (key_of key) all name) (own_members_are is)
            (λ name. first_is (s.first, name)
            ∙ among_here keys all are (key_of key) s known_is is all name) some_among p body.known

    -- the links of one definition
    of_one_struct : (n : ℕ) (it : Aggregate) (p : Place) → slice_get all n ≡ Some it
        → shared_links own firsts n (shared_by keys it) (known_in it.body) p
        ≡ linked_in shown p (aggregate_of t it) (aggregate_of t it).key (aggregate_of t it).body
    of_one_struct n it p at = by_parts it.key it.body refl refl
      where
        in_source : Bool
        in_source = not (nat_eq it.at.0 0)

        by_source : (key : StructKey) (body : OneBody) (b : Bool) → it.key ≡ Some key → it.body ≡ Some body
            → in_source ≡ b
            → shared_links own firsts n (shared_by keys it) body.known p
            ≡ linked_in shown p (aggregate_of t it) (Some (key_of key)) (Some (body_of t body))
        by_source key body true key_is body_is is =
            of_source n it key body p at body_is
            (ap (λ (o : Option OneBody). if is_some o && in_source then it.key else None) body_is
            ∙ ap (λ b. if b then it.key else None) is ∙ key_is)
        by_source key body false key_is body_is is =
            let held : key_held it ≡ None =
            ap (λ (o : Option OneBody). if is_some o && in_source then it.key else None) body_is
            ∙ ap (λ b. if b then it.key else None) is in
            no_links n body.known p (key_held it) held
            ∙ ap (λ b. if b && is_elsewhere it.at.0 (key_of key) shown
            then option_and_then (λ name. member_among (key_of key) name shown)
            (name_found (body_of t body) (map (known_of t) body.known) p) else None)
            (sym (ap (is_keyed_by (key_of key)) held) ∙ held_is t (key_of key) it)

        by_parts : (key : Option StructKey) (body : Option OneBody) → it.key ≡ key → it.body ≡ body
            → shared_links own firsts n (shared_by keys it) (known_in body) p
            ≡ linked_in shown p (aggregate_of t it) (option_map key_of key) (option_map (body_of t) body)
        by_parts None body key_is body_is =
            no_links n (known_in body) p (key_held it)
            (none_either (is_some it.body && in_source) it.key key_is)
        by_parts (Some key) None key_is body_is =
            no_links n [] p (key_held it)
            (ap (λ (o : Option OneBody). if is_some o && in_source then it.key else None) body_is)
        by_parts (Some key) (Some body) key_is body_is = by_source key body in_source key_is body_is refl

    of_structs : (m : ℕ) (some : List Aggregate) (p : Place)
        → ((i : ℕ) (x : Aggregate) → slice_get some i ≡ Some x → slice_get all (m + i) ≡ Some x)
        → all_links own firsts keys m some p ≡ member_link shown (map (aggregate_of t) some) p
    of_structs m [] p part = refl
    of_structs m (it ∷ some) p part =
        let here : m + 0 ≡ m = omega arith in
        let one = linked_in shown p (aggregate_of t it) (aggregate_of t it).key (aggregate_of t it).body in
        ap (λ (o : Option Place). or_else o (all_links own firsts keys (suc m) some p))
        (of_one_struct m it p (ap (λ (i : ℕ). slice_get all i) (sym here) ∙ part 0 it refl))
        ∙ ap (λ (o : Option Place). or_else one o)
        (of_structs (suc m) some p (λ i x is.
        let there : suc m + i ≡ m + suc i = omega arith in
        ap (λ (j : ℕ). slice_get all j) there ∙ part (suc i) x is))
        ∙ first_place one (member_link shown (map (aggregate_of t) some) p)

    -- all links of members are those of the rules
    pub members_are : (p : Place) → all_links own firsts keys 0 all p ≡ member_link shown shown p
    members_are p =
        of_structs 0 all p (λ i x is. let same : 0 + i ≡ i = omega arith in ap (λ (j : ℕ). slice_get all j) same ∙ is)
