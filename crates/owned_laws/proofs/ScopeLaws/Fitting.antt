-- Names along the tape of an item, by what is begun there: of which places they are.
use Rattle.std.proofs.Common.{◌≡◌, ℕ, Bool, true, false, List, [], ◌∷◌, ◌++◌, length, Option, None, Some, refl}
use Rattle.std.specs.Prelude.{nat_lt}
use Rattle.owned_laws.specs.TapeLaws.Marks.{Mark, in_declaration, in_params, in_tag, in_scope, in_quiet, in_part, in_body}
use Rattle.type_table.specs.Types.{CType}
use Rattle.name_rules.specs.Spellings.{Spelling, Place, place, Named}
use Rattle.name_rules.specs.Scopes.{Scope, Declared, innermost, outer_scopes}
use Rattle.name_rules.specs.Declaring.{scope_kept}
use Rattle.name_rules.specs.Identifiers.{OldParameter}
use Rattle.name_rules.specs.NameSteps.State.{OpenDeclaration, OpenParameters, no_declaration, no_parameters, innermost_or, with_innermost, without_innermost}
use Rattle.row_rules.specs.Sites.{has_place}
use Rattle.name_rules.specs.MeaningLaws.Meanings.{NamesAre, ScopesAre}
use Rattle.name_rules.proofs.MeaningLaws.Growing.{names}
use Rattle.name_rules.proofs.MeaningLaws.Lists.{names_map}

-- places of the file, and places of an item
module _ (N P : Place → Type 0) where
  -- the open scopes: the file's, and that of each list of parameters, block and body
  abbrev pub Around : List Mark → List Scope → Type 0
  Around [] [] = ⊥
  Around [] (file ∷ []) = NamesAre N file.names
  Around [] (file ∷ (scope ∷ scopes)) = ⊥
  Around (in_declaration name last own ∷ m) scopes = Around m scopes
  Around (in_tag ∷ m) scopes = Around m scopes
  Around (in_quiet ∷ m) scopes = Around m scopes
  Around (in_part ∷ m) scopes = Around m scopes
  Around (in_params own ∷ m) [] = ⊥
  Around (in_params own ∷ m) (scope ∷ scopes) = NamesAre P scope.names × Around m scopes
  Around (in_scope ∷ m) [] = ⊥
  Around (in_scope ∷ m) (scope ∷ scopes) = NamesAre P scope.names × Around m scopes
  Around (in_body ∷ m) [] = ⊥
  Around (in_body ∷ m) (scope ∷ scopes) = NamesAre P scope.names × Around m scopes

  -- what the names of the innermost scope mean
  abbrev pub AtTop : List Mark → Place → Type 0
  AtTop [] q = N q
  AtTop (in_declaration name last own ∷ m) q = AtTop m q
  AtTop (in_tag ∷ m) q = AtTop m q
  AtTop (in_quiet ∷ m) q = AtTop m q
  AtTop (in_part ∷ m) q = AtTop m q
  AtTop (in_params own ∷ m) q = P q
  AtTop (in_scope ∷ m) q = P q
  AtTop (in_body ∷ m) q = P q

  pub around_top : (m : List Mark) (scopes : List Scope) → Around m scopes → NamesAre (AtTop m) (innermost scopes).names
  around_top [] [] h = absurd h
  around_top [] (file ∷ []) h = h
  around_top [] (file ∷ (scope ∷ scopes)) h = absurd h
  around_top (in_declaration name last own ∷ m) scopes h = around_top m scopes h
  around_top (in_tag ∷ m) scopes h = around_top m scopes h
  around_top (in_quiet ∷ m) scopes h = around_top m scopes h
  around_top (in_part ∷ m) scopes h = around_top m scopes h
  around_top (in_params own ∷ m) [] h = absurd h
  around_top (in_params own ∷ m) (scope ∷ scopes) h = h.0
  around_top (in_scope ∷ m) [] h = absurd h
  around_top (in_scope ∷ m) (scope ∷ scopes) h = h.0
  around_top (in_body ∷ m) [] h = absurd h
  around_top (in_body ∷ m) (scope ∷ scopes) h = h.0

  pub around_with : (m : List Mark) (scopes : List Scope) (top : Scope) → Around m scopes
      → NamesAre (AtTop m) top.names →
      Around m (top ∷ outer_scopes scopes)
  around_with [] [] top h k = absurd h
  around_with [] (file ∷ []) top h k = k
  around_with [] (file ∷ (scope ∷ scopes)) top h k = absurd h
  around_with (in_declaration name last own ∷ m) scopes top h k = around_with m scopes top h k
  around_with (in_tag ∷ m) scopes top h k = around_with m scopes top h k
  around_with (in_quiet ∷ m) scopes top h k = around_with m scopes top h k
  around_with (in_part ∷ m) scopes top h k = around_with m scopes top h k
  around_with (in_params own ∷ m) [] top h k = absurd h
  around_with (in_params own ∷ m) (scope ∷ scopes) top h k = (k, h.1)
  around_with (in_scope ∷ m) [] top h k = absurd h
  around_with (in_scope ∷ m) (scope ∷ scopes) top h k = (k, h.1)
  around_with (in_body ∷ m) [] top h k = absurd h
  around_with (in_body ∷ m) (scope ∷ scopes) top h k = (k, h.1)

  pub file_at_top : (m : List Mark) (q : Place) → (N q → P q) → N q → AtTop m q
  file_at_top [] q f h = h
  file_at_top (in_declaration name last own ∷ m) q f h = file_at_top m q f h
  file_at_top (in_tag ∷ m) q f h = file_at_top m q f h
  file_at_top (in_quiet ∷ m) q f h = file_at_top m q f h
  file_at_top (in_part ∷ m) q f h = file_at_top m q f h
  file_at_top (in_params own ∷ m) q f h = f h
  file_at_top (in_scope ∷ m) q f h = f h
  file_at_top (in_body ∷ m) q f h = f h

  pub top_within : (m : List Mark) (q : Place) → (N q → P q) → AtTop m q → P q
  top_within [] q f h = f h
  top_within (in_declaration name last own ∷ m) q f h = top_within m q f h
  top_within (in_tag ∷ m) q f h = top_within m q f h
  top_within (in_quiet ∷ m) q f h = top_within m q f h
  top_within (in_part ∷ m) q f h = top_within m q f h
  top_within (in_params own ∷ m) q f h = h
  top_within (in_scope ∷ m) q f h = h
  top_within (in_body ∷ m) q f h = h

  -- in a scope inside that of the file
  pub inside_at_top : (m : List Mark) (scopes : List Scope) (q : Place) → Around m scopes →
      nat_lt (length scopes) 2 ≡ false → P q → AtTop m q
  inside_at_top [] [] q h e k = absurd h
  inside_at_top [] (file ∷ []) q h e k = absurd cc
  inside_at_top [] (file ∷ (scope ∷ scopes)) q h e k = absurd h
  inside_at_top (in_declaration name last own ∷ m) scopes q h e k = inside_at_top m scopes q h e k
  inside_at_top (in_tag ∷ m) scopes q h e k = inside_at_top m scopes q h e k
  inside_at_top (in_quiet ∷ m) scopes q h e k = inside_at_top m scopes q h e k
  inside_at_top (in_part ∷ m) scopes q h e k = inside_at_top m scopes q h e k
  inside_at_top (in_params own ∷ m) scopes q h e k = k
  inside_at_top (in_scope ∷ m) scopes q h e k = k
  inside_at_top (in_body ∷ m) scopes q h e k = k

  pub around_within : (m : List Mark) (scopes : List Scope) → ((q : Place) → N q → P q) → Around m scopes →
      ScopesAre P scopes
  around_within [] [] f h = absurd h
  around_within [] (file ∷ []) f h = (names_map N P f file.names h, tt)
  around_within [] (file ∷ (scope ∷ scopes)) f h = absurd h
  around_within (in_declaration name last own ∷ m) scopes f h = around_within m scopes f h
  around_within (in_tag ∷ m) scopes f h = around_within m scopes f h
  around_within (in_quiet ∷ m) scopes f h = around_within m scopes f h
  around_within (in_part ∷ m) scopes f h = around_within m scopes f h
  around_within (in_params own ∷ m) [] f h = absurd h
  around_within (in_params own ∷ m) (scope ∷ scopes) f h = (h.0, around_within m scopes f h.1)
  around_within (in_scope ∷ m) [] f h = absurd h
  around_within (in_scope ∷ m) (scope ∷ scopes) f h = (h.0, around_within m scopes f h.1)
  around_within (in_body ∷ m) [] f h = absurd h
  around_within (in_body ∷ m) (scope ∷ scopes) f h = (h.0, around_within m scopes f h.1)

  pub params_left : (own : Bool) (m : List Mark) (scopes : List Scope) → Around (in_params own ∷ m) scopes →
      NamesAre P (innermost scopes).names × Around m (outer_scopes scopes)
  params_left own m [] h = absurd h
  params_left own m (scope ∷ scopes) h = h

  pub scope_left : (m : List Mark) (scopes : List Scope) → Around (in_scope ∷ m) scopes → Around m (outer_scopes scopes)
  scope_left m [] h = absurd h
  scope_left m (scope ∷ scopes) h = h.1

  pub body_left : (m : List Mark) (scopes : List Scope) → Around (in_body ∷ m) scopes → Around m (outer_scopes scopes)
  body_left m [] h = absurd h
  body_left m (scope ∷ scopes) h = h.1

-- the scope that is kept for a body, behind a function's own parameters
module _ (P : Place → Type 0) where
  abbrev pub IsKept : Bool → Option Scope → Type 0
  IsKept false kept = Unit {0}
  IsKept true None = ⊥
  IsKept true (Some scope) = NamesAre P scope.names

  abbrev pub IsAlone : List Mark → Type 0
  IsAlone (in_declaration name last own ∷ []) = Unit {0}
  IsAlone m = ⊥

  abbrev pub Keeps : List Mark → Option Scope → Type 0
  Keeps [] kept = Unit {0}
  Keeps (in_declaration name last own ∷ m) kept = IsKept own kept × Keeps m kept
  Keeps (in_body ∷ m) kept = IsAlone m
  Keeps (in_tag ∷ m) kept = Keeps m kept
  Keeps (in_quiet ∷ m) kept = Keeps m kept
  Keeps (in_part ∷ m) kept = Keeps m kept
  Keeps (in_params own ∷ m) kept = Keeps m kept
  Keeps (in_scope ∷ m) kept = Keeps m kept

  some_kept : (own : Bool) (scope : Scope) → NamesAre P scope.names → IsKept own (Some scope)
  some_kept true scope h = h
  some_kept false scope h = tt

  -- another one is kept
  pub keeps_some : (m : List Mark) (old : Option Scope) (scope : Scope) → Keeps m old → NamesAre P scope.names →
      Keeps m (Some scope)
  keeps_some [] old scope h k = tt
  keeps_some (in_declaration name last own ∷ m) old scope h k = (some_kept own scope k, keeps_some m old scope h.1 k)
  keeps_some (in_body ∷ m) old scope h k = h
  keeps_some (in_tag ∷ m) old scope h k = keeps_some m old scope h k
  keeps_some (in_quiet ∷ m) old scope h k = keeps_some m old scope h k
  keeps_some (in_part ∷ m) old scope h k = keeps_some m old scope h k
  keeps_some (in_params own ∷ m) old scope h k = keeps_some m old scope h k
  keeps_some (in_scope ∷ m) old scope h k = keeps_some m old scope h k

  pub body_ends_alone : (name last : Option ℕ) (own : Bool) (m : List Mark) (kept : Option Scope) →
      Keeps (in_body ∷ (in_declaration name last own ∷ m)) kept → Keeps (in_declaration name last false ∷ m) kept
  body_ends_alone name last own [] kept h = (tt, tt)
  body_ends_alone name last own (x ∷ m) kept h = absurd h

pub body_around : (N P : Place → Type 0) (kept : Option Scope) (name last : Option ℕ) (scopes : List Scope) →
    IsKept P true kept → Around N P (in_declaration name last true ∷ []) scopes →
    Around N P (in_body ∷ (in_declaration name last true ∷ [])) (scope_kept kept scopes)
body_around N P None name last scopes h k = absurd h
body_around N P (Some scope) name last scopes h k = (h, k)

-- the functions whose own parameters are read
abbrev pub owns : List OpenParameters → List (Option Place)
owns [] = []
owns (p ∷ ps) = p.own ∷ owns ps

pub owns_same : (ps : List OpenParameters) (its : List OldParameter) →
    owns (with_innermost (record (innermost_or no_parameters ps) { identifiers = its }) ps) ≡ owns ps
owns_same [] its = refl
owns_same (p ∷ ps) its = refl

pub owns_kept : (ps : List OpenParameters) (ts : List CType) →
    owns (with_innermost (record (innermost_or no_parameters ps) { types = ts }) ps) ≡ owns ps
owns_kept [] ts = refl
owns_kept (p ∷ ps) ts = refl

-- whether own parameters have a function: where parameters are own, there is one
abbrev pub OwnIs : Bool → Option Place → Type 0
OwnIs false own = Unit {0}
OwnIs true None = ⊥
OwnIs true (Some p) = Unit {0}

-- each list of own parameters that is open has a function, by the marks and the owners of the lists
abbrev pub Owning : List Mark → List (Option Place) → Type 0
Owning [] ps = Unit {0}
Owning (in_params own ∷ m) [] = ⊥
Owning (in_params own ∷ m) (p ∷ ps) = OwnIs own p × Owning m ps
Owning (in_declaration name last own ∷ m) ps = Owning m ps
Owning (in_tag ∷ m) ps = Owning m ps
Owning (in_quiet ∷ m) ps = Owning m ps
Owning (in_part ∷ m) ps = Owning m ps
Owning (in_scope ∷ m) ps = Owning m ps
Owning (in_body ∷ m) ps = Owning m ps

pub owning_top : (own : Bool) (m : List Mark) (ps : List OpenParameters) → Owning (in_params own ∷ m) (owns ps) →
    OwnIs own (innermost_or no_parameters ps).own × Owning m (owns (without_innermost ps))
owning_top own m [] h = absurd h
owning_top own m (p ∷ ps) h = h

-- the declarators that are read, and whether a name was declared
abbrev pub HasName : Option ℕ → Option Named → Type 0
HasName None name = Unit {0}
HasName (Some token) None = ⊥
HasName (Some token) (Some it) = Unit {0}

-- whether a declaration is there, where a name was declared last
abbrev pub HasLast : Option ℕ → List Declared → Type 0
HasLast None ds = Unit {0}
HasLast (Some token) [] = ⊥
HasLast (Some token) (d ∷ ds) = Unit {0}

-- this is asked for of a declaration of the file only
abbrev pub HasLastIn : List Mark → Option ℕ → List Declared → Type 0
HasLastIn [] last ds = HasLast last ds
HasLastIn (x ∷ m) last ds = Unit {0}

-- a name that was declared last is still there behind further declarations
last_more : (m : List Mark) (last : Option ℕ) (ds more : List Declared) → HasLastIn m last ds
    → HasLastIn m last (ds ++ more)
last_more (x ∷ m) last ds more h = tt
last_more [] None ds more h = tt
last_more [] (Some token) [] more h = absurd h
last_more [] (Some token) (d ∷ ds) more h = tt

pub last_in : (m : List Mark) (last : Option ℕ) (ds : List Declared) → HasLast last ds → HasLastIn m last ds
last_in [] last ds h = h
last_in (x ∷ m) last ds h = tt

module _ (u : Spelling) (keys : List Place) where
  abbrev pub NameIn : Option Named → Type 0
  NameIn None = Unit {0}
  NameIn (Some it) = has_place keys (place u it.token) ≡ true

  abbrev pub Reading : List Mark → List (Option Named) → List Declared → Type 0
  Reading [] xs ds = Unit {0}
  Reading (in_declaration name last own ∷ m) [] ds = ⊥
  Reading (in_declaration name last own ∷ m) (x ∷ xs) ds =
      HasName name x × NameIn x × HasLastIn m last ds × Reading m xs ds
  Reading (in_params own ∷ m) xs ds = Reading m xs ds
  Reading (in_tag ∷ m) xs ds = Reading m xs ds
  Reading (in_quiet ∷ m) xs ds = Reading m xs ds
  Reading (in_part ∷ m) xs ds = Reading m xs ds
  Reading (in_scope ∷ m) xs ds = Reading m xs ds
  Reading (in_body ∷ m) xs ds = Reading m xs ds

  pub reading_more : (m : List Mark) (xs : List (Option Named)) (ds more : List Declared) → Reading m xs ds →
      Reading m xs (ds ++ more)
  reading_more [] xs ds more h = tt
  reading_more (in_declaration name last own ∷ m) [] ds more h = absurd h
  reading_more (in_declaration name last own ∷ m) (x ∷ xs) ds more h =
      (h.0, h.1, last_more m last ds more h.2, reading_more m xs ds more h.3)
  reading_more (in_params own ∷ m) xs ds more h = reading_more m xs ds more h
  reading_more (in_tag ∷ m) xs ds more h = reading_more m xs ds more h
  reading_more (in_quiet ∷ m) xs ds more h = reading_more m xs ds more h
  reading_more (in_part ∷ m) xs ds more h = reading_more m xs ds more h
  reading_more (in_scope ∷ m) xs ds more h = reading_more m xs ds more h
  reading_more (in_body ∷ m) xs ds more h = reading_more m xs ds more h

  pub reading_top : (name last : Option ℕ) (own : Bool) (m : List Mark) (xs : List OpenDeclaration)
      (ds : List Declared) →
      Reading (in_declaration name last own ∷ m) (names xs) ds →
      HasName name (innermost_or no_declaration xs).name × NameIn (innermost_or no_declaration xs).name
      × HasLastIn m last ds × Reading m (names (without_innermost xs)) ds
  reading_top name last own m [] ds h = absurd h
  reading_top name last own m (x ∷ xs) ds h = h

  -- another declarator in place of the innermost one
  pub reading_with : (name last name2 last2 : Option ℕ) (own own2 : Bool) (m : List Mark) (xs : List OpenDeclaration)
      (y : OpenDeclaration) (ds : List Declared) → Reading (in_declaration name last own ∷ m) (names xs) ds →
      HasName name2 y.name → NameIn y.name → HasLastIn m last2 ds →
      Reading (in_declaration name2 last2 own2 ∷ m) (names (with_innermost y xs)) ds
  reading_with name last name2 last2 own own2 m [] y ds h a b c = absurd h
  reading_with name last name2 last2 own own2 m (x ∷ xs) y ds h a b c = (a, b, c, h.3)

  -- whether own parameters are behind it says nothing of names
  pub reading_own : (name last : Option ℕ) (own own2 : Bool) (m : List Mark) (xs : List (Option Named))
      (ds : List Declared) → Reading (in_declaration name last own ∷ m) xs ds →
      Reading (in_declaration name last own2 ∷ m) xs ds
  reading_own name last own own2 m [] ds h = absurd h
  reading_own name last own own2 m (x ∷ xs) ds h = h
