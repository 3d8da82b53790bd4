-- The constraints of all units of a program.
use Rattle.std.proofs.Common.{◌≡◌, ℕ, zero, suc, All, map, true, false, Bool, List, [], ◌∷◌, ◌++◌, Option, None, Some, refl, sym, ◌∙◌, ap, subst, append_assoc, append-nil, arith}
use Rattle.std.specs.List.{Contains}
use Rattle.std.proofs.lemmas.List.Elements.{All-nil, All-cons, All-head, All-tail}
use Rattle.std.specs.Prelude.{◌+◌, ◌≤◌, max, if◌then◌else◌}
use Rattle.std.proofs.lemmas.Option.{same_Some}
use Rattle.flow_graph.specs.System.{IsWellOwned}
use Rattle.qual_types.specs.Skel.{nodes}
use Rattle.flow_rules.specs.Owners.{AllOwned}
use Rattle.tape_ops.specs.declared.op.Op.{Op}
use Rattle.c_tree.specs.declared.lexeme.Lexeme.{Lexeme}
use Rattle.c_tree.specs.Unit.{Item, IsItem, IsUnit, item_height, unit_height}
use Rattle.c_tape.specs.Tape.{item_tape, tape_of}
use Rattle.name_rules.specs.Spellings.{Spelling, Place}
use Rattle.name_rules.specs.Scopes.{Role, function_role, Declared, declared_at, Names, is_place}
use Rattle.name_rules.specs.Linking.{link_of}
use Rattle.type_rules.specs.Program.{Source, names_of}
use Rattle.name_rules.specs.ShapeSteps.State as shapes
use Rattle.row_rules.specs.Starting.{Start, is_function_role}
use Rattle.row_rules.specs.Annotations.{has_access}
use Rattle.row_rules.specs.Worlds.{World, numbered_from, skeleton_among}
use Rattle.row_rules.specs.Sites.{AreDifferent, first_place, functions_among, functions_of, has_place, is_first_function, owner_by}
use Rattle.row_rules.specs.RowSteps.Rounds.{file}
use Rattle.row_rules.specs.RowSteps.State.{nothing}
use Rattle.row_rules.specs.RowSteps.Found.{unit_rows}
use Rattle.row_rules.specs.RowSteps.Starting.{function_at, unit_starts}
use Rattle.constraint_rules.specs.Demands.{item_demand, items_demand}
use Rattle.constraint_rules.specs.Starts.{item_starts, items_starts}
use Rattle.constraint_rules.specs.Systems.{Program, starts_among, starts_of, world_of, demands_among, system_of}
use Rattle.row_laws.specs.Laws.{RowsAreFound}
use Rattle.row_laws.specs.StartLaws.Laws.{StartsAreFound}
use Rattle.name_rules.specs.MeaningLaws.Meanings.{Differ, IsThing, NamesAreFirst, MeaningsAreFirst, ThingsAre}
use Rattle.resolve_laws.specs.NameLaws.NameLaws.{tape_of_source, IsSound, NamesOfTapes}
use Rattle.row_laws.specs.KeyLaws.Keys.{key_places, KeysAreApart}
use Rattle.row_laws.specs.KeyLaws.Differing.{IsRead, UnitsDiffer, keys_among, KeysDiffer}
use Rattle.owned_laws.specs.ScopeLaws.Apart.{AllApart, DeclarationsDiffer, NamesAreApart}
use Rattle.owned_laws.specs.ScopeLaws.Staying.{AreWithin, ItemsStay, SourcesStay, NamesStay}
use Rattle.owned_laws.specs.OwnerLaws.Fitting.{AllFit, FittingIsWellOwned, ListsFit, SkeletonsAtAreOwned, start_at}
use Rattle.owned_laws.specs.OwnerLaws.Laws.{owner_among}
use Rattle.owned_laws.specs.Functions.{FunctionsOwnTheirs, OwnsIts}
use Rattle.owned_laws.specs.TapeLaws.Marks.{function_token, DeclaresIts, ItemsAreBracketed}
use Rattle.owned_laws.specs.Around.{Settled}
use Rattle.owned_laws.specs.Tapes.{TapesFit}
use Rattle.owned_laws.specs.Programs.{SystemsAreOwned}
use Rattle.name_rules.proofs.MeaningLaws.Lists.{place_itself, place_is}
use Rattle.row_laws.proofs.KeyLaws.Sound.{sound_of}
use Rattle.owned_laws.proofs.ScopeLaws.Places.{declared_place, has_itself, has_left, has_right, differ_before, differ_apart, differ_right, keys_joined}
use Rattle.owned_laws.proofs.Places.{Kept, none_kept, joined_kept, none_before, none_behind}
use Rattle.owned_laws.proofs.Begin.{IsPlaced, AllPlaced, placed_at, tape_kept, ExactAlong, exact, regroup}
use Rattle.owned_laws.proofs.Placed.{tape_placed}
use Rattle.owned_laws.proofs.TapeLaws.Turns.{declares_its}
use Rattle.owned_laws.proofs.Contexts.{contexts_along}
use Rattle.owned_laws.proofs.Fits.{Scene, Item as ItemScene, function_there, members, along}
use Rattle.owned_laws.proofs.Functions.{functions_begin}

pub record Laws : Type 0 where
  pub tapes : TapesFit
  pub rows : RowsAreFound
  pub begins : StartsAreFound
  pub lists : ListsFit
  pub whole : FittingIsWellOwned
  pub names : NamesOfTapes
  pub meanings : MeaningsAreFirst
  pub bracketed : ItemsAreBracketed
  pub keys : KeysDiffer
  pub differ : DeclarationsDiffer
  pub apart : NamesAreApart
  pub stays : NamesStay

apart_left : (u : Spelling) (s : Names) (xs ys : List Op) → KeysAreApart u s (xs ++ ys) → KeysAreApart u s xs
apart_left u s [] ys h = tt
apart_left u s (op ∷ xs) ys h = (h.0, apart_left u s xs ys h.1)

apart_right : (u : Spelling) (s : Names) (xs ys : List Op) → KeysAreApart u s (xs ++ ys) → KeysAreApart u s ys
apart_right u s [] ys h = h
apart_right u s (op ∷ xs) ys h = apart_right u s xs ys h.1

nothing_named : (it : ℕ × Place) → Contains (names_of []).things it → ⊥
nothing_named it (i, within, is) = omega (arith, within)

-- what holds of all things holds of each
thing_at : (P : Place → Type 0) (things : List (ℕ × Place)) (it : ℕ × Place) → ThingsAre P things → Contains things it
    → P it.1
thing_at P [] it h (i, within, is) = absurd (omega (arith, within))
thing_at P (x ∷ things) it h (zero, within, is) = subst (λ (y : ℕ × Place). P y.1) is h.0
thing_at P (x ∷ things) it h (suc i, within, is) = thing_at P things it h.1 (i, omega (arith, within), is)

-- what is first declared as a function is one of those that are numbered
first_is : (bodies : List Place) (d : Declared) → d.at ≡ d.first → d.role ≡ function_role
    → is_first_function bodies d ≡ true
first_is bodies d first role =
    ap (λ (b : Bool). if b then (if is_function_role d.role then true else has_place bodies d.at) else false)
    (subst (λ (x : Place). is_place d.at x ≡ true) first (place_itself d.at))
    ∙ ap (λ (r : Role). if is_function_role r then true else has_place bodies d.at) role

-- a function that is numbered among declarations is so with one declaration more in front
one_more : (f : Place → Place) (bodies : List Place) (x : Declared) (ds : List Declared) (q : Place) →
    has_place (map f (functions_among bodies ds)) (f q) ≡ true
    → has_place (map f (functions_among bodies (x ∷ ds))) (f q) ≡ true
one_more f bodies x ds q has = on (is_first_function bodies x)
  where
    on : (b : Bool)
        → has_place (map f (if b then x.at ∷ functions_among bodies ds else functions_among bodies ds)) (f q) ≡ true
    on true = has_right (f x.at ∷ []) (map f (functions_among bodies ds)) (f q) has
    on false = has

-- what is first declared at a place as a function is among the functions that are numbered, by its link
function_numbered : (f : Place → Place) (bodies : List Place) (ds : List Declared) (q : Place) (d : Declared)
    → declared_at ds q ≡ Some d →
    is_first_function bodies d ≡ true → has_place (map f (functions_among bodies ds)) (f q) ≡ true
function_numbered f bodies [] q d e is = absurd cc
function_numbered f bodies (x ∷ ds) q d e is =
    by (is_place x.at q) refl e (λ found. one_more f bodies x ds q (function_numbered f bodies ds q d found is))
  where
    by : (b : Bool) → is_place x.at q ≡ b → (if b then Some x else declared_at ds q) ≡ Some d →
        (declared_at ds q ≡ Some d → has_place (map f (functions_among bodies (x ∷ ds))) (f q) ≡ true) →
        has_place (map f (functions_among bodies (x ∷ ds))) (f q) ≡ true
    by true here found later =
        let same : x ≡ d = cc in
        let at : x.at ≡ q = place_is x.at q here in
        let yes : is_first_function bodies x ≡ true =
        subst (λ (c : Declared). is_first_function bodies c ≡ true) (sym same) is in
        ap (λ (b : Bool). has_place
        (map f (if b then x.at ∷ functions_among bodies ds else functions_among bodies ds)) (f q)) yes
        ∙ subst (λ (y : Place). has_place (f x.at ∷ map f (functions_among bodies ds)) (f y) ≡ true) at
        (has_itself (f x.at) (map f (functions_among bodies ds)))
    by false other found later = later found

-- each skeleton is that of some item
abbrev AllSome : Names → List Start → Type 0
AllSome s [] = Unit {0}
AllSome s (x ∷ xs) = ((g : Option Place) × IsPlaced s g x) × AllSome s xs

some_of : (s : Names) (f : Option Place) (xs : List Start) → AllPlaced s f xs → AllSome s xs
some_of s f [] h = tt
some_of s f (x ∷ xs) h = ((f, h.0), some_of s f xs h.1)

some_joined : (s : Names) (xs ys : List Start) → AllSome s xs → AllSome s ys → AllSome s (xs ++ ys)
some_joined s [] ys h k = k
some_joined s (x ∷ xs) ys h k = (h.0, some_joined s xs ys h.1 k)

-- the first skeleton that begins at a place is placed in some function, where each is
some_at : (s : Names) (xs : List Start) (p : Place) (it : Start) → AllSome s xs → start_at xs p ≡ Some it →
    (g : Option Place) × IsPlaced s g it
some_at s [] p it h is = absurd cc
some_at s (x ∷ xs) p it h is = by (is_place x.at p) is (some_at s xs p it h.1)
  where
    by : (b : Bool) → (if b then Some x else start_at xs p) ≡ Some it →
        (start_at xs p ≡ Some it → (g : Option Place) × IsPlaced s g it) → (g : Option Place) × IsPlaced s g it
    by true is more =
        let same : x ≡ it = cc in (h.0.0, subst (λ (y : Start). IsPlaced s h.0.0 y) same h.0.1)
    by false is more = more is

-- units of one item, and of the items behind the first

one_low : (h k : ℕ) → max h k ≤ 500 → max h 1 ≤ 500
one_low h k low = omega (arith, low)

others_low : (h k : ℕ) → max h k ≤ 500 → k ≤ 500
others_low h k low = omega (arith, low)

-- the first item of a unit is a unit by itself
one_unit : (all : List Lexeme) (item : Item) (items : List Item) → IsUnit all (item ∷ items) → IsUnit all (item ∷ [])
one_unit all item items h = record {
  parts = All-cons (IsItem all) item [] (All-head (IsItem all) item items h.parts) (All-nil (IsItem all));
  low = one_low (item_height item + 1) (unit_height items) h.low;
}

-- the items of a unit behind the first are a unit by themselves
other_units : (all : List Lexeme) (item : Item) (items : List Item) → IsUnit all (item ∷ items) → IsUnit all items
other_units all item items h = record {
  parts = All-tail (IsItem all) item items h.parts;
  low = others_low (item_height item + 1) (unit_height items) h.low;
}

first_item : (all : List Lexeme) (item : Item) (items : List Item) → IsUnit all (item ∷ items) → IsItem all item
first_item all item items h = All-head (IsItem all) item items h.parts

module _ (law : Laws) where
  item_begins : (access : Bool) (u : Spelling) (s : Names) (all : List Lexeme) (item : Item) → IsUnit all (item ∷ []) →
      unit_starts access u s (item_tape item) ≡ item_starts access u s item
  item_begins access u s all item one =
      ap (unit_starts access u s) (sym (append-nil (item_tape item)))
      ∙ (law.begins access u s all (item ∷ []) one ∙ append-nil (item_starts access u s item))

  item_rows : (w : World) (all : List Lexeme) (item : Item) → IsUnit all (item ∷ []) → w.own ≡ None →
      unit_rows w (item_tape item) ≡ item_demand w item
  item_rows w all item one outside =
      ap (unit_rows w) (sym (append-nil (item_tape item)))
      ∙ (law.rows w all (item ∷ []) one outside ∙ append-nil (item_demand w item))

  unit_kept : (access : Bool) (u : Spelling) (s : Names) (all : List Lexeme) (items : List Item) → IsUnit all items →
      Kept (key_places u (tape_of items)) (items_starts access u s items)
  unit_kept access u s all items unit =
      subst (Kept (key_places u (tape_of items))) (law.begins access u s all items unit)
      (tape_kept u s (tape_of items) shapes.nothing (file access))

  item_kept : (access : Bool) (u : Spelling) (s : Names) (all : List Lexeme) (item : Item) → IsUnit all (item ∷ []) →
      Kept (key_places u (item_tape item)) (item_starts access u s item)
  item_kept access u s all item one =
      subst (Kept (key_places u (item_tape item))) (item_begins access u s all item one)
      (tape_kept u s (item_tape item) shapes.nothing (file access))

  sources_kept : (access : Bool) (s : Names) (sources : List Source) → All IsRead sources →
      Kept (keys_among sources) (starts_among access s sources)
  sources_kept access s [] read = none_kept
  sources_kept access s (it ∷ sources) read =
      let unit = All-head IsRead it sources read in
      joined_kept (key_places it.spelling (tape_of it.items)) (keys_among sources)
      (items_starts access it.spelling s it.items)
      (starts_among access s sources) (unit_kept access it.spelling s unit.all it.items unit.rules)
      (sources_kept access s sources (All-tail IsRead it sources read))

  module _ (p : Program) (read : All IsRead p.sources) (units : UnitsDiffer p.sources) where
    abbrev s : Names
    s = names_of p.sources

    -- whether some lattice bounds accesses
    abbrev access : Bool
    access = has_access p.lattices

    abbrev starts : List Start
    starts = starts_of access p.sources

    abbrev functions : List Place
    functions = functions_of s

    sound : All IsSound p.sources
    sound = sound_of p.sources read

    differ : AreDifferent (keys_among p.sources)
    differ = law.keys p.sources read units

    first : NamesAreFirst s
    first =
        subst NamesAreFirst (law.names p.sources sound)
        (law.meanings (map tape_of_source p.sources)
        (subst (λ (names : Names). Differ names.declared) (sym (law.names p.sources sound))
        (law.differ p.sources sound differ)))

    -- the function of an item
    abbrev function_of : Source → Item → Option Place
    function_of it item = function_at it.spelling s (function_token item)

    item_placed : (it : Source) (lexemes : List Lexeme) (item : Item) → IsUnit lexemes (item ∷ []) → DeclaresIts item →
        KeysAreApart it.spelling s (item_tape item)
        → AllPlaced s (function_of it item) (item_starts access it.spelling s item)
    item_placed it lexemes item one declares apart =
        subst (AllPlaced s (function_of it item)) (item_begins access it.spelling s lexemes item one)
        (tape_placed access (world_of p it) (function_token item) (item_tape item) shapes.nothing nothing refl
        (contexts_along law.bracketed (world_of p it) item declares) apart)

    items_some : (it : Source) (all : List Lexeme) (items : List Item) → IsUnit all items →
        KeysAreApart it.spelling s (tape_of items) → AllSome s (items_starts access it.spelling s items)
    items_some it all [] rules apart = tt
    items_some it all (item ∷ items) rules apart =
        some_joined s (item_starts access it.spelling s item) (items_starts access it.spelling s items)
        (some_of s (function_of it item) (item_starts access it.spelling s item)
        (item_placed it all item (one_unit all item items rules)
        (declares_its all item (first_item all item items rules))
        (apart_left it.spelling s (item_tape item) (tape_of items) apart)))
        (items_some it all items (other_units all item items rules)
        (apart_right it.spelling s (item_tape item) (tape_of items) apart))

    sources_some : (sources : List Source) → All IsRead sources → AllApart s sources →
        AllSome s (starts_among access s sources)
    sources_some [] h apart = tt
    sources_some (it ∷ sources) h apart =
        some_joined s (items_starts access it.spelling s it.items) (starts_among access s sources)
        (items_some it (All-head IsRead it sources h).all it.items (All-head IsRead it sources h).rules apart.0)
        (sources_some sources (All-tail IsRead it sources h) apart.1)

    apart_all : AllApart s p.sources
    apart_all = law.apart p.sources sound differ

    abbrev scene : Source → Scene
    scene it = record {
      world = world_of p it;
      starts = starts;
      placed = λ q x is. some_at s starts q x (sources_some p.sources read apart_all) is;
      first = first;
      functions =
          functions_begin s starts law.bracketed law.begins access p.sources sound (law.names p.sources sound) refl;
    }

    settled : (it : Source) → Settled starts (world_of p it)
    settled it = record {
      knows = record { skeletons_are = refl; sites_are = refl };
      sites_differ = (sources_kept access s p.sources read).differ differ;
      members = members (scene it);
    }

    -- an item, with the skeletons before and behind it
    module _ (it : Source) (lexemes : List Lexeme) (item : Item) (one : IsUnit lexemes (item ∷ [])) (xs zs : List Start)
        (ps rs : List Place) (before : Kept ps xs)
        (behind : Kept rs zs) (all : xs ++ (item_starts access it.spelling s item ++ zs) ≡ starts)
        (apart : AreDifferent (ps ++ (key_places it.spelling (item_tape item) ++ rs))) where
      keys : List Place
      keys = key_places it.spelling (item_tape item)

      -- at its places its skeletons alone
      here : (q : Place) → has_place (key_places it.spelling (item_tape item)) q ≡ true →
          start_at starts q ≡ start_at (item_starts access it.spelling s item) q
      here q has =
          ap (λ (ys : List Start). start_at ys q) (sym all)
          ∙ (none_before xs (item_starts access it.spelling s item ++ zs) q
          (before.begins q (differ_before ps (key_places it.spelling (item_tape item) ++ rs) q apart
          (has_left (key_places it.spelling (item_tape item)) rs q has)))
          ∙ none_behind (item_starts access it.spelling s item) zs q
          (behind.begins q (differ_apart (key_places it.spelling (item_tape item)) rs q
          (differ_right ps (key_places it.spelling (item_tape item) ++ rs) apart) has)))

      abbrev item_scene : DeclaresIts item → KeysAreApart it.spelling s (item_tape item) →
          AreWithin it.spelling s (key_places it.spelling (item_tape item)) → ItemScene (scene it)
      item_scene declares keys_apart stays = record {
        token = function_token item;
        keys = key_places it.spelling (item_tape item);
        placed = λ q x has is. placed_at s (function_of it item) (item_starts access it.spelling s item) q x
            (item_placed it lexemes item one declares keys_apart) (sym (here q has) ∙ is);
        stays = stays;
      }

      item_fits : DeclaresIts item → KeysAreApart it.spelling s (item_tape item) →
          AreWithin it.spelling s (key_places it.spelling (item_tape item)) →
          AllFit (system_of p) (unit_rows (world_of p it) (item_tape item))
      item_fits declares keys_apart stays =
          law.tapes functions starts (demands_among p p.sources) (world_of p it) (function_of it item) (item_tape item)
          (settled it)
          (along (scene it) (item_scene declares keys_apart stays) access (item_tape item) shapes.nothing nothing refl
          (λ q has. has) (contexts_along law.bracketed (world_of p it) item declares) tt tt
          (subst (λ (ys : List Start). ExactAlong it.spelling s ys shapes.nothing (file access) (item_tape item))
          (ap (λ (ys : List Start). xs ++ (ys ++ zs)) (item_begins access it.spelling s lexemes item one) ∙ all)
          (exact it.spelling s (item_tape item) shapes.nothing (file access) xs zs ps rs before behind apart)))

    items_fit : (it : Source) (lexemes : List Lexeme) (items : List Item) (xs zs : List Start) (ps rs : List Place) →
        Kept ps xs → Kept rs zs → xs ++ (items_starts access it.spelling s items ++ zs) ≡ starts →
        AreDifferent (ps ++ (key_places it.spelling (tape_of items) ++ rs)) → IsUnit lexemes items →
        KeysAreApart it.spelling s (tape_of items) → ItemsStay it.spelling s items →
        AllFit (system_of p) (items_demand (world_of p it) items)
    items_fit it lexemes [] xs zs ps rs h l e d rules keys_apart stay = tt
    items_fit it lexemes (item ∷ items) xs zs ps rs h l e d rules keys_apart stay =
        law.lists (system_of p) (item_demand w item) (items_demand w items)
        (subst (AllFit (system_of p)) (item_rows w lexemes item one refl)
        (item_fits it lexemes item one xs (more ++ zs) ps (others ++ rs) h
        (joined_kept others rs more zs (unit_kept access u s lexemes items (other_units lexemes item items rules)) l)
        (ap (λ (ys : List Start). xs ++ ys) (sym (append_assoc here_ more zs)) ∙ e)
        (subst AreDifferent (ap (λ (qs : List Place). ps ++ qs) (append_assoc keys_ others rs)) apart)
        (declares_its lexemes item (first_item lexemes item items rules))
        (apart_left u s (item_tape item) (tape_of items) keys_apart) stay.0))
        (items_fit it lexemes items (xs ++ here_) zs (ps ++ keys_) rs
        (joined_kept ps keys_ xs here_ h (item_kept access u s lexemes item one)) l (regroup xs here_ more zs ∙ e)
        (subst AreDifferent (sym (regroup ps keys_ others rs)) apart) (other_units lexemes item items rules)
        (apart_right u s (item_tape item) (tape_of items) keys_apart) stay.1)
      where
        w : World
        w = world_of p it

        u : Spelling
        u = it.spelling

        here_ : List Start
        here_ = item_starts access it.spelling s item

        more : List Start
        more = items_starts access it.spelling s items

        one : IsUnit lexemes (item ∷ [])
        one = one_unit lexemes item items rules

        keys_ : List Place
        keys_ = key_places it.spelling (item_tape item)

        others : List Place
        others = key_places it.spelling (tape_of items)

        apart : AreDifferent (ps ++ ((keys_ ++ others) ++ rs))
        apart = subst (λ (qs : List Place). AreDifferent (ps ++ (qs ++ rs)))
            (keys_joined it.spelling (item_tape item) (tape_of items)) d

    sources_fit : (sources : List Source) (xs : List Start) (ps : List Place) → Kept ps xs →
        xs ++ starts_among access s sources ≡ starts → AreDifferent (ps ++ keys_among sources) → All IsRead sources →
        AllApart s sources → SourcesStay s sources → AllFit (system_of p) (demands_among p sources)
    sources_fit [] xs ps h e d rules keys_apart stay = tt
    sources_fit (it ∷ sources) xs ps h e d rules keys_apart stay =
        law.lists (system_of p) (items_demand (world_of p it) it.items) (demands_among p sources)
        (items_fit it (All-head IsRead it sources rules).all it.items xs (starts_among access s sources) ps
        (keys_among sources) h
        (sources_kept access s sources (All-tail IsRead it sources rules)) e d
        (All-head IsRead it sources rules).rules keys_apart.0 stay.0)
        (sources_fit sources (xs ++ items_starts access it.spelling s it.items)
        (ps ++ key_places it.spelling (tape_of it.items))
        (joined_kept ps (key_places it.spelling (tape_of it.items)) xs (items_starts access it.spelling s it.items) h
        (unit_kept access it.spelling s (All-head IsRead it sources rules).all it.items
        (All-head IsRead it sources rules).rules))
        (append_assoc xs (items_starts access it.spelling s it.items) (starts_among access s sources) ∙ e)
        (subst AreDifferent
        (sym (append_assoc ps (key_places it.spelling (tape_of it.items)) (keys_among sources))) d)
        (All-tail IsRead it sources rules) keys_apart.1 stay.1)

    -- a function's own skeleton, where it was first declared
    own_theirs : SkeletonsAtAreOwned → Source → (name : ℕ) (q : Place) (d : Declared) → Contains s.things (name, q) →
        declared_at s.declared q ≡ Some d → d.role ≡ function_role → OwnsIts p q
    own_theirs skeletons it name q d in_it e role =
        let thing = thing_at (IsThing s.declared) s.things (name, q) first.things in_it in
        let same : thing.it ≡ d = same_Some thing.it d (sym thing.there ∙ e) in
        let here : d.at ≡ q = declared_place s.declared q d e in
        let firstly : d.first ≡ q = subst (λ (c : Declared). c.first ≡ q) same thing.is_first in
        let own : d.owner ≡ Some q =
        subst (λ (c : Declared). c.owner ≡ Some q) same (thing.is_itself (ap (λ (c : Declared). c.role) same ∙ role)) in
        let there = function_there (scene it) q d e role firstly (own ∙ ap (λ (x : Place). Some x) (sym here)) in
        let begins : start_at starts q ≡ Some there.0 =
        subst (λ (x : Place). start_at starts x ≡ Some there.0) here there.1 in
        let owner : there.0.owner ≡ Some (link_of s q) = there.2 ∙ ap (λ (x : Place). Some (link_of s x)) here in
        record {
          numbered = function_numbered (link_of s) (map first_place s.bodies) s.declared q d e
              (first_is (map first_place s.bodies) d (here ∙ sym firstly) role);
          owned = subst (λ (o : Option Place). AllOwned (owner_among functions starts) (owner_by functions o)
              (nodes (skeleton_among (numbered_from 0 starts) q))) owner (skeletons functions starts q there.0 begins);
        }

    owned : IsWellOwned (system_of p)
    owned = law.whole (system_of p)
        (sources_fit p.sources [] [] none_kept refl differ read apart_all (law.stays p.sources sound differ))

  pub systems_are_owned : SystemsAreOwned
  systems_are_owned p read units = owned p read units

  pub functions_own_theirs : SkeletonsAtAreOwned → FunctionsOwnTheirs
  functions_own_theirs skeletons p read units name q d in_it e role = by p.sources refl
    where
      by : (sources : List Source) → p.sources ≡ sources → OwnsIts p q
      by [] none = absurd (nothing_named (name, q)
          (subst (λ (sources : List Source). Contains (names_of sources).things (name, q)) none in_it))
      by (it ∷ sources) some = own_theirs p read units skeletons it name q d in_it e role
