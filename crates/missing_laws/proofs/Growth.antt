-- What is known of names grows: declarations, uses, types' names and faults are put behind those that are there.
use Rattle.std.proofs.Common.{◌≡◌, ℕ, Bool, true, false, List, [], ◌++◌, Option, None, Some, refl, sym, ◌∙◌, ap, append_assoc, append-nil}
use Rattle.std.specs.Prelude.{◌&&◌, ◌||◌, if◌then◌else◌}
use Rattle.c_words.specs.declared.kinds.Keyword.{Keyword}
use Rattle.c_words.specs.declared.kinds.Keyword.TheVariants as keywords
use Rattle.tape_ops.specs.declared.specifier.TagKind.{TagKind}
use Rattle.type_table.specs.Types.{CType}
use Rattle.name_rules.specs.Spellings.{Spelling, Place, place, Named}
use Rattle.name_rules.specs.Faults.{Fault}
use Rattle.name_rules.specs.Scopes.{with_faults, Names, Role, object_role, enter, leave, sized, is_at_file, is_place, has_body, body_of, with_key}
use Rattle.name_rules.specs.Pieces.{is_function}
use Rattle.name_rules.specs.Declaring.{used, type_named, Numbered, found_or_new, tag_used, begun_in, begun_body, opened, tag_known, declared_by, declared_here, linked, thing_where, static_where, declared_thing, declared_typedef, typedef_known, declared_some, declared_param, declared_member, unnamed_member, keep, has_word, body_entered, body_left}
use Rattle.name_rules.specs.Units.{unit_begun}

-- the second list is the first one and others behind it
abbrev pub Behind : {A : Type 0} → List A → List A → Type 0
Behind {A} old new = (added : List A) × (new ≡ old ++ added)

pub same : {A : Type 0} (old : List A) → Behind old old
same old = ([], sym (append-nil old))

pub more : {A : Type 0} (old added : List A) → Behind old (old ++ added)
more old added = (added, refl)

pub further : {A : Type 0} (a b c : List A) → Behind a b → Behind b c → Behind a c
further {A} a b c g h =
    (g.0 ++ h.0, h.1 ∙ (ap (λ (xs : List A). xs ++ h.0) g.1 ∙ append_assoc a g.0 h.0))

pub record Grows (s t : Names) : Type 0 where
  pub declared : Behind s.declared t.declared
  pub uses : Behind s.uses t.uses
  pub types : Behind s.type_names t.type_names
  pub faults : Behind s.faults t.faults

-- what is known of names grows by nothing
pub stays : (s : Names) → Grows s s
stays s = record {
  declared = same s.declared;
  uses = same s.uses;
  types = same s.type_names;
  faults = same s.faults;
}

-- what grows to a second and this to a third grows to the third
pub joins : {a b c : Names} → Grows a b → Grows b c → Grows a c
joins {a} {b} {c} g h = record {
  declared = further a.declared b.declared c.declared g.declared h.declared;
  uses = further a.uses b.uses c.uses g.uses h.uses;
  types = further a.type_names b.type_names c.type_names g.types h.types;
  faults = further a.faults b.faults c.faults g.faults h.faults;
}

-- where these four lists are as they were
pub alike : (s t : Names) → t.declared ≡ s.declared → t.uses ≡ s.uses → t.type_names ≡ s.type_names →
    t.faults ≡ s.faults → Grows s t
alike s t d u y f = record {
  declared = ([], d ∙ sym (append-nil s.declared));
  uses = ([], u ∙ sym (append-nil s.uses));
  types = ([], y ∙ sym (append-nil s.type_names));
  faults = ([], f ∙ sym (append-nil s.faults));
}

pub enter_grows : (s : Names) → Grows s (enter s)
enter_grows s = alike s (enter s) refl refl refl refl

pub leave_grows : (s : Names) → Grows s (leave s)
leave_grows s = alike s (leave s) refl refl refl refl

pub keep_grows : (own : Option Place) (s : Names) → Grows s (keep own s)
keep_grows None s = alike s (keep None s) refl refl refl refl
keep_grows (Some f) s = alike s (keep (Some f) s) refl refl refl refl

-- what is known of names grows by a use
pub used_grows : (u : Spelling) (c : Bool) (token name : ℕ) (s : Names) → Grows s (used u c token name s)
used_grows u c token name s = record {
  declared = same s.declared;
  uses = more s.uses _;
  types = same s.type_names;
  faults = more s.faults _;
}

-- what is known of names grows by the fault of a type that is too large, if it is
pub sized_grows : (at : Place) (t : CType) (s : Names) → Grows s (sized at t s)
sized_grows at t s = record {
  declared = same s.declared;
  uses = same s.uses;
  types = same s.type_names;
  faults = more s.faults _;
}

-- what is known of names grows by a type that is named
pub type_grows : (at : Place) (t : CType) (s : Names) → Grows s (type_named at t s)
type_grows at t s = record {
  declared = same s.declared;
  uses = same s.uses;
  types = more s.type_names _;
  faults = more s.faults _;
}

pub found_grows : (found : Option ℕ) (u : Spelling) (kind : TagKind) (token tag : ℕ) (s : Names) →
    Grows s (found_or_new found u kind token tag s).names
found_grows (Some n) u kind token tag s = stays s
found_grows None u kind token tag s = alike s _ refl refl refl refl

pub tag_grows : (u : Spelling) (alone : Bool) (kind : TagKind) (token tag : ℕ) (s : Names) →
    Grows s (tag_used u alone kind token tag s).names
tag_grows u alone kind token tag s = found_grows _ u kind token tag s

-- what is known of names grows by a tag that is known, which adds nothing to these lists
tag_known_grows : (tag : Option ℕ) (n : ℕ) (s : Names) → Grows s (tag_known tag n s)
tag_known_grows None n s = stays s
tag_known_grows (Some tag) n s = by (is_at_file s)
  where
    by : (b : Bool) → Grows s (if b then with_key n false tag s else s)
    by true = alike s (with_key n false tag s) refl refl refl refl
    by false = stays s

-- what is known of names grows by the begin of a body, be it the first of its tag or a second one
pub begun_grows : (b : Bool) (at : Place) (kind : TagKind) (tag : Option ℕ) (it : Numbered) →
    Grows it.names (begun_in b at kind tag it).names
begun_grows true at kind tag it = record {
  declared = same it.names.declared;
  uses = same it.names.uses;
  types = same it.names.type_names;
  faults = more it.names.faults _;
}
begun_grows false at kind tag it = joins (alike it.names (opened it.number it.names) refl refl refl refl)
    (tag_known_grows tag it.number (opened it.number it.names))

pub body_grows : (at : Place) (kind : TagKind) (tag : Option ℕ) (it : Numbered) →
    Grows it.names (begun_body at kind tag it).names
body_grows at kind tag it = begun_grows (has_body (body_of it.names.aggregates it.number)) at kind tag it

-- what is known of names grows by a declaration here
pub here_grows : (at : Place) (name : ℕ) (role : Role) (t : CType) (own : Option Place) (s : Names) →
    Grows s (declared_here at name role t own s)
here_grows at name role t own s = record {
  declared = more s.declared _;
  uses = same s.uses;
  types = same s.type_names;
  faults = same s.faults;
}

new_grows : (is_new : Bool) (name : ℕ) (at : Place) (s : Names) → Grows s (thing_where is_new name at s)
new_grows true name at s = alike s (thing_where true name at s) refl refl refl refl
new_grows false name at s = stays s

static_grows : (is_static : Bool) (unit name : ℕ) (s : Names) → Grows s (static_where is_static unit name s)
static_grows true unit name s = alike s (static_where true unit name s) refl refl refl refl
static_grows false unit name s = stays s

-- what is known of names grows by the declaration of an object or function
pub thing_grows : (words : List Keyword) (at : Place) (name : ℕ) (t : CType) (s : Names) →
    Grows s (declared_thing words at name t s)
thing_grows words at name t s =
    joins (new_grows is_new name at s)
    (joins (static_grows is_static at.0 name (thing_where is_new name at s)) (record {
      declared = more old.declared _;
      uses = same old.uses;
      types = same old.type_names;
      faults = same old.faults;
    }))
  where
    is_new : Bool
    is_new = is_place (linked name at s) at

    is_static : Bool
    is_static = has_word keywords.Static words

    old : Names
    old = static_where is_static at.0 name (thing_where is_new name at s)

-- what is known of names grows by the declaration of a typedef
pub typedef_grows : (at : Place) (name : ℕ) (t : CType) (s : Names) → Grows s (declared_typedef at name t s)
typedef_grows at name t s = record {
  declared = more s.declared _;
  uses = same s.uses;
  types = same s.type_names;
  faults = same s.faults;
}

-- what is known of names grows by a declaration, be it of a typedef, a linked thing or a local object
pub by_grows : (words : List Keyword) (at : Place) (name : ℕ) (t : CType) (s : Names) →
    Grows s (declared_by words at name t s)
by_grows words at name t s =
    by (has_word keywords.Typedef words) (is_at_file s || (is_function t || has_word keywords.Extern words))
  where
    by : (b c : Bool) → Grows s (if b then declared_typedef at name t s
        else if c then declared_thing words at name t s
        else declared_here at name object_role t (if has_word keywords.Static words then None else s.enclosing) s)
    by true c = typedef_grows at name t s
    by false true = thing_grows words at name t s
    by false false = here_grows at name object_role t _ s

-- what is known of names grows by a typedef that is known to name a struct without a tag
pub known_grows : (words : List Keyword) (name : ℕ) (untagged : Option ℕ) (s : Names) →
    Grows s (typedef_known words name untagged s)
known_grows words name None s = stays s
known_grows words name (Some n) s = by (has_word keywords.Typedef words && is_at_file s)
  where
    by : (b : Bool) → Grows s (if b then with_key n true name s else s)
    by true = alike s (with_key n true name s) refl refl refl refl
    by false = stays s

-- what is known of names grows by a declarator, be it with a name or without
pub some_grows : (u : Spelling) (untagged : Option ℕ) (it : Option Named) (words : List Keyword)
    (t : CType) (s : Names) →
    Grows s (declared_some u untagged it words t s)
some_grows u untagged None words t s = stays s
some_grows u untagged (Some it) words t s =
    joins (sized_grows (place u it.token) t s) (joins (by_grows words (place u it.token) (u.key it.name) t _)
    (known_grows words (u.key it.name) untagged _))

-- what is known of names grows by a parameter, be it with a name or without
pub param_grows : (u : Spelling) (it : Option Named) (i : ℕ) (own : Option Place) (t : CType) (s : Names) →
    Grows s (declared_param u it i own t s)
param_grows u None i own t s = stays s
param_grows u (Some it) i own t s =
    joins (sized_grows (place u it.token) t s) (here_grows (place u it.token) (u.key it.name) _ t own _)

-- what is known of names grows by a member, be it with a name or without
pub member_grows : (u : Spelling) (it : Option Named) (n : ℕ) (t : CType) (s : Names) →
    Grows s (declared_member u it n t s)
member_grows u None n t s = stays s
member_grows u (Some it) n t s = record {
  declared = more s.declared _;
  uses = same s.uses;
  types = same s.type_names;
  faults = more s.faults _;
}

-- what is known of names grows by a member without a name
pub unnamed_grows : (at : Place) (n : ℕ) (t : CType) (s : Names) → Grows s (unnamed_member at n t s)
unnamed_grows at n t s = record {
  declared = more s.declared _;
  uses = same s.uses;
  types = same s.type_names;
  faults = same s.faults;
}

-- what is known of names grows by the entry into the body of a function
pub entered_grows : (at first : Place) (is_plain is_counted : Bool) (s : Names) →
    Grows s (body_entered at first is_plain is_counted s)
entered_grows at first is_plain true s = record {
  declared = same s.declared;
  uses = same s.uses;
  types = same s.type_names;
  faults = more s.faults _;
}
entered_grows at first is_plain false s = alike s (body_entered at first is_plain false s) refl refl refl refl

-- what is known of names grows by faults
pub faults_grow : (faults : List Fault) (s : Names) → Grows s (with_faults faults s)
faults_grow faults s = record {
  declared = same s.declared;
  uses = same s.uses;
  types = same s.type_names;
  faults = more s.faults faults;
}

pub grows_where : (b : Bool) (s t other : Names) → Grows s t → Grows s other → Grows s (if b then t else other)
grows_where true s t other g h = g
grows_where false s t other g h = h

pub left_grows : (s : Names) → Grows s (body_left s)
left_grows s = alike s (body_left s) refl refl refl refl

pub unit_grows : (unit : ℕ) (s : Names) → Grows s (unit_begun unit s)
unit_grows unit s = alike s (unit_begun unit s) refl refl refl refl
