-- Types whose annotation words are all at good places, and names that say nothing else.
use Rattle.std.proofs.Common.{ℕ, Bool, true, false, List, [], ◌∷◌, ◌++◌, Option, None, Some}
use Rattle.std.specs.Prelude.{nat_eq, if◌then◌else◌}
use Rattle.type_table.specs.Types.{Words, CType, base, void, struct, pointer, function, CTypes, no_types, more_types, words_of, words_or_none}
use Rattle.tape_ops.specs.declared.specifier.TagKind.{TagKind}
use Rattle.tape_ops.specs.declared.specifier.TagKind.TheVariants as tags
use Rattle.name_rules.specs.Spellings.{Place, Spelling, place, Named}
use Rattle.name_rules.specs.Faults.{Rule, Fault, fault_where}
use Rattle.name_rules.specs.Scopes.{Meaning, means_type, means_thing, Scope, innermost, outer_scopes, Declared, TypeNamed, Bodied, Names, meaning_in, some_thing, thing_named, or_outer, meaning_through, declared_at, is_place}
use Rattle.name_rules.specs.Pieces.{with_words, decayed, bare_ellipsis, bare, all_bare, Piece, to_pointer, to_function, piece_of, types_in}
use Rattle.name_rules.specs.Declaring.{tag_type, type_by, scope_kept}
use Rattle.name_rules.specs.Uses.{type_named_at}

module _ (S : Place → Type 0) where
  abbrev pub AllWords : Words → Type 0
  AllWords [] = Unit {0}
  AllWords (p ∷ ps) = S p × AllWords ps

  abbrev mutual
    pub Ok : CType → Type 0
    Ok (base ws) = AllWords ws
    Ok (void ws) = AllWords ws
    Ok (struct ws n) = AllWords ws
    Ok (pointer ws t) = AllWords ws × Ok t
    Ok (function ws ps r e) = AllWords ws × Oks ps × Ok r × AllWords (words_or_none e)

    pub Oks : CTypes → Type 0
    Oks no_types = Unit {0}
    Oks (more_types t ts) = Ok t × Oks ts

  abbrev pub SomeOk : Option CType → Type 0
  SomeOk None = Unit {0}
  SomeOk (Some t) = Ok t

  abbrev pub ListOk : List CType → Type 0
  ListOk [] = Unit {0}
  ListOk (t ∷ ts) = Ok t × ListOk ts

  pub words_append : (ps qs : Words) → AllWords ps → AllWords qs → AllWords (ps ++ qs)
  words_append [] qs h i = i
  words_append (p ∷ ps) qs h i = (h.0, words_append ps qs h.1 i)

  pub words_are : (t : CType) → Ok t → AllWords (words_of t)
  words_are (base ws) h = h
  words_are (void ws) h = h
  words_are (struct ws n) h = h
  words_are (pointer ws t) h = h.0
  words_are (function ws ps r e) h = h.0

  pub worded : (more : Words) (t : CType) → AllWords more → Ok t → Ok (with_words more t)
  worded more (base ws) m h = words_append ws more h m
  worded more (void ws) m h = words_append ws more h m
  worded more (struct ws n) m h = words_append ws more h m
  worded more (pointer ws t) m h = (words_append ws more h.0 m, h.1)
  worded more (function ws ps r e) m h = (words_append ws more h.0 m, h.1, h.2, h.3)

  pub decayed_ok : (t : CType) → Ok t → Ok (decayed t)
  decayed_ok (base ws) h = h
  decayed_ok (void ws) h = h
  decayed_ok (struct ws n) h = h
  decayed_ok (pointer ws t) h = h
  decayed_ok (function ws ps r e) h = (tt, h)

  -- a type without words has none at a bad place
  bare_words : (e : Option Words) → AllWords (words_or_none (bare_ellipsis e))
  bare_words None = tt
  bare_words (Some es) = tt

  mutual
    pub bare_ok : (t : CType) → Ok (bare t)
    bare_ok (base ws) = tt
    bare_ok (void ws) = tt
    bare_ok (struct ws n) = tt
    bare_ok (pointer ws t) = (tt, bare_ok t)
    bare_ok (function ws ps r e) = (tt, all_bare_ok ps, bare_ok r, bare_words e)

    all_bare_ok : (ts : CTypes) → Oks (all_bare ts)
    all_bare_ok no_types = tt
    all_bare_ok (more_types t ts) = (bare_ok t, all_bare_ok ts)

  abbrev pub PieceOk : Piece → Type 0
  PieceOk (to_pointer ws) = AllWords ws
  PieceOk (to_function ps e) = Oks ps × AllWords (words_or_none e)

  pub pieced : (p : Piece) (t : CType) → PieceOk p → Ok t → Ok (piece_of p t)
  pieced (to_pointer ws) t p h = (p, h)
  pieced (to_function ps e) t p h = (tt, p.0, decayed_ok t h, p.1)

  pub listed : (ts : List CType) → ListOk ts → Oks (types_in ts)
  listed [] h = tt
  listed (t ∷ ts) h = (h.0, listed ts h.1)

  pub list_append : (ts us : List CType) → ListOk ts → ListOk us → ListOk (ts ++ us)
  list_append [] us h i = i
  list_append (t ∷ ts) us h i = (h.0, list_append ts us h.1 i)

  pub tagged : (kind : TagKind) (n : ℕ) (t : CType) → Ok t → Ok (tag_type kind n t)
  tagged tags.Struct n t h = tt
  tagged tags.Union n t h = tt
  tagged tags.Enum n t h = h

  -- names

  abbrev pub MeansOk : Meaning → Type 0
  MeansOk (means_type t) = Ok t
  MeansOk (means_thing p) = Unit {0}

  abbrev pub SomeMeansOk : Option Meaning → Type 0
  SomeMeansOk None = Unit {0}
  SomeMeansOk (Some m) = MeansOk m

  abbrev pub NamesOk : List (ℕ × Meaning) → Type 0
  NamesOk [] = Unit {0}
  NamesOk (it ∷ names) = MeansOk it.1 × NamesOk names

  abbrev pub ScopesOk : List Scope → Type 0
  ScopesOk [] = Unit {0}
  ScopesOk (scope ∷ outer) = NamesOk scope.names × ScopesOk outer

  abbrev pub KeptOk : Option Scope → Type 0
  KeptOk None = Unit {0}
  KeptOk (Some scope) = NamesOk scope.names

  abbrev pub DeclaredOk : List Declared → Type 0
  DeclaredOk [] = Unit {0}
  DeclaredOk (d ∷ ds) = (S d.at × Ok d.type) × DeclaredOk ds

  abbrev pub SomeDeclaredOk : Option Declared → Type 0
  SomeDeclaredOk None = Unit {0}
  SomeDeclaredOk (Some d) = S d.at × Ok d.type

  abbrev pub TypesNamedOk : List TypeNamed → Type 0
  TypesNamedOk [] = Unit {0}
  TypesNamedOk (it ∷ others) = Ok it.type × TypesNamedOk others

  abbrev pub FaultsOk : List Fault → Type 0
  FaultsOk [] = Unit {0}
  FaultsOk (f ∷ fs) = S f.at × FaultsOk fs

  abbrev pub BodiesOk : List Bodied → Type 0
  BodiesOk [] = Unit {0}
  BodiesOk (b ∷ bs) = S b.at × BodiesOk bs

  -- Of names: where the types have words, where something is declared, where a body stands, and where a fault is.
  pub record Sound (s : Names) : Type 0 where
    pub declared : DeclaredOk s.declared
    pub scopes : ScopesOk s.scopes
    pub kept : KeptOk s.kept
    pub type_names : TypesNamedOk s.type_names
    pub faults : FaultsOk s.faults
    pub bodies : BodiesOk s.bodies

  pub faults_append : (fs gs : List Fault) → FaultsOk fs → FaultsOk gs → FaultsOk (fs ++ gs)
  faults_append [] gs h i = i
  faults_append (f ∷ fs) gs h i = (h.0, faults_append fs gs h.1 i)

  pub fault_ok : (fails : Bool) (at : Place) (rule : Rule) → S at → FaultsOk (fault_where fails at rule)
  fault_ok true at rule h = (h, tt)
  fault_ok false at rule h = tt

  pub declared_append : (ds es : List Declared) → DeclaredOk ds → DeclaredOk es → DeclaredOk (ds ++ es)
  declared_append [] es h i = i
  declared_append (d ∷ ds) es h i = (h.0, declared_append ds es h.1 i)

  pub named_append : (ts us : List TypeNamed) → TypesNamedOk ts → TypesNamedOk us → TypesNamedOk (ts ++ us)
  named_append [] us h i = i
  named_append (t ∷ ts) us h i = (h.0, named_append ts us h.1 i)

  pub inner_names : (scopes : List Scope) → ScopesOk scopes → NamesOk (innermost scopes).names
  inner_names [] h = tt
  inner_names (scope ∷ outer) h = h.0

  pub outer_ok : (scopes : List Scope) → ScopesOk scopes → ScopesOk (outer_scopes scopes)
  outer_ok [] h = tt
  outer_ok (scope ∷ outer) h = h.1

  pub kept_there : (kept : Option Scope) (scopes : List Scope) → KeptOk kept → ScopesOk scopes
      → ScopesOk (scope_kept kept scopes)
  kept_there None scopes k h = h
  kept_there (Some scope) scopes k h = (k, h)

  -- of a name with its token, where there is one
  abbrev pub NamedAt : Spelling → Option Named → Type 0
  NamedAt u None = Unit {0}
  NamedAt u (Some it) = S (place u it.token)

  -- finding

  meant_in : (names : List (ℕ × Meaning)) (name : ℕ) → NamesOk names → SomeMeansOk (meaning_in names name)
  meant_in [] name h = tt
  meant_in (it ∷ names) name h = by (nat_eq it.0 name) (meant_in names name h.1)
    where
      by : (b : Bool) → SomeMeansOk (meaning_in names name)
          → SomeMeansOk (if b then Some it.1 else meaning_in names name)
      by true rest = h.0
      by false rest = rest

  thing_means : (p : Option Place) → SomeMeansOk (some_thing p)
  thing_means None = tt
  thing_means (Some p) = tt

  or_means : (m n : Option Meaning) → SomeMeansOk m → SomeMeansOk n → SomeMeansOk (or_outer m n)
  or_means None n h i = i
  or_means (Some m) n h i = h

  pub meant : (scopes : List Scope) (round : List (ℕ × Place)) (name : ℕ) → ScopesOk scopes →
      SomeMeansOk (meaning_through scopes round name)
  meant [] round name h = thing_means (thing_named round name)
  meant (scope ∷ outer) round name h =
      or_means (meaning_in scope.names name) (meaning_through outer round name) (meant_in scope.names name h.0)
      (meant outer round name h.1)

  pub type_by_ok : (m : Option Meaning) → SomeMeansOk m → Ok (type_by m)
  type_by_ok None h = tt
  type_by_ok (Some (means_type t)) h = h
  type_by_ok (Some (means_thing p)) h = tt

  pub declared_there : (ds : List Declared) (p : Place) → DeclaredOk ds → SomeDeclaredOk (declared_at ds p)
  declared_there [] p h = tt
  declared_there (d ∷ ds) p h = by (is_place d.at p) (declared_there ds p h.1)
    where
      by : (b : Bool) → SomeDeclaredOk (declared_at ds p) → SomeDeclaredOk (if b then Some d else declared_at ds p)
      by true rest = h.0
      by false rest = rest

  pub named_there : (ts : List TypeNamed) (p : Place) → TypesNamedOk ts → SomeOk (type_named_at ts p)
  named_there [] p h = tt
  named_there (it ∷ ts) p h = by (is_place it.at p) (named_there ts p h.1)
    where
      by : (b : Bool) → SomeOk (type_named_at ts p) → SomeOk (if b then Some it.type else type_named_at ts p)
      by true rest = h.0
      by false rest = rest
