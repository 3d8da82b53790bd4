-- What annotation words and the marks of lattices give: constants and bounds.
use Rattle.std.specs.Prelude.{ℕ, suc, ◌+◌, ◌^◌, nat_eq, nat_lt, Bool, true, false, ◌&&◌, ◌||◌, not, List, [], ◌∷◌, ◌++◌, slice_get, Option, None, Some, if◌then◌else◌}
use Rattle.qual_base.specs.declared.places.Span.{Span}
use Rattle.lattice_core.specs.declared.Entry.{Entry}
use Rattle.lattice_core.specs.declared.Deref.{Deref}
use Rattle.lattice_core.specs.declared.Deref.TheVariants as derefs
use Rattle.lattice_core.specs.declared.Level.{Level}
use Rattle.lattice_core.specs.declared.Level.TheVariants as levels
use Rattle.lattice_core.specs.declared.Sign.{Sign}
use Rattle.lattice_core.specs.declared.Sign.TheVariants as kinds_of_sign
use Rattle.lattice_core.specs.View.{LatticeView}
use Rattle.flow_graph.specs.declared.constraint.Link.{Link}
use Rattle.flow_graph.specs.declared.constraint.Link.TheVariants.{Const, Bound}
use Rattle.flow_graph.specs.declared.constraint.Constraint.{Constraint}
use Rattle.type_table.specs.Types.{Words, CType, base, void, struct, pointer, function, CTypes, no_types, more_types, words_of, words_or_none}
use Rattle.qual_types.specs.Skel.{Skel, flat, ref, fun, Skels, no_skels, more_skels, root}
use Rattle.name_rules.specs.Spellings.{Place}
use Rattle.row_rules.specs.Worlds.{World, constraint, word_span}

-- the element of a number in a lattice, where there is such a lattice
abbrev pub entry_of_view : Option LatticeView → ℕ → Option Entry
entry_of_view None e = None
entry_of_view (Some view) e = slice_get view.entries e

-- the element that a mark names, with its attributes
abbrev pub entry_at : World → ℕ × ℕ → Option Entry
entry_at w m = entry_of_view (slice_get w.lattices m.0) m.1

-- whether a level is that of references
abbrev pub is_reference : Level → Bool
is_reference levels.Ref = true
is_reference levels.Value = false

-- whether there is an element, and it stands at references
abbrev pub is_reference_entry : Option Entry → Bool
is_reference_entry None = false
is_reference_entry (Some entry) = is_reference entry.level

-- whether a word names an element that stands at references
abbrev pub is_reference_mark : World → Option (ℕ × ℕ) → Bool
is_reference_mark w None = false
is_reference_mark w (Some m) = is_reference_entry (entry_at w m)

-- whether the annotation word at a place names an element that stands at references
abbrev pub is_reference_word : World → Place → Bool
is_reference_word w p = is_reference_mark w (w.mark p)

-- the words of one level, references or values
abbrev pub words_of_level : World → Bool → Words → Words
words_of_level w true [] = []
words_of_level w false [] = []
words_of_level w true (p ∷ ps) =
    if is_reference_word w p then p ∷ words_of_level w true ps else words_of_level w true ps
words_of_level w false (p ∷ ps) =
    if is_reference_word w p then words_of_level w false ps else p ∷ words_of_level w false ps

-- in the order of the text

-- whether a place is before another in the order of units and of their tokens
abbrev pub is_earlier : Place → Place → Bool
is_earlier p q = nat_lt p.0 q.0 || (nat_eq p.0 q.0 && nat_lt p.1 q.1)

-- words in the order of the text, with one more among them
abbrev pub inserted : Place → Words → Words
inserted p [] = p ∷ []
inserted p (q ∷ ps) = if is_earlier p q then p ∷ q ∷ ps else q ∷ inserted p ps

-- words in the order of the text
abbrev pub sorted : Words → Words
sorted [] = []
sorted (p ∷ ps) = inserted p (sorted ps)

-- A word and the variable that it annotates.
pub record Annotation : Type 0 where
  pub variable : ℕ
  pub word : Place

-- each of these words annotates the variable
abbrev pub annotations_at : ℕ → Words → List Annotation
annotations_at v [] = []
annotations_at v (p ∷ ps) = record { variable = v; word = p } ∷ annotations_at v ps

-- each of these words annotates the variable, where there is one
abbrev pub some_annotations_at : Option ℕ → Words → List Annotation
some_annotations_at None ps = []
some_annotations_at (Some v) ps = annotations_at v ps

-- what a reference holds; of what is none, itself
abbrev pub inner : Skel → Skel
inner (ref v s) = s
inner (flat v k) = flat v k
inner (fun v ps r e) = fun v ps r e

-- the skeletons of a function's parameters, none of what is no function
abbrev pub parameters : Skel → Skels
parameters (fun v ps r e) = ps
parameters (flat v k) = no_skels
parameters (ref v s) = no_skels

-- the skeleton of a function's result; of what is no function, itself
abbrev pub outcome : Skel → Skel
outcome (fun v ps r e) = r
outcome (flat v k) = flat v k
outcome (ref v s) = ref v s

-- the variable for the further arguments of a function, where it takes some
abbrev pub further : Skel → Option ℕ
further (fun v ps r e) = e
further (flat v k) = None
further (ref v s) = None

-- The annotations of a skeleton, by the annotated constructor in pre-order and then by the word. A word of values
-- annotates the constructor that it is written on; a word of references the pointer around that, where there is one.
-- The words before an ellipsis annotate its variable, at either level.
abbrev mutual
  -- the annotation words of a type, each with the variable that it is written on
  pub annotated : World → CType → Skel → List Annotation
  annotated w (base ws) s = annotations_at (root s) (sorted (words_of_level w false ws))
  annotated w (void ws) s = annotations_at (root s) (sorted (words_of_level w false ws))
  annotated w (struct ws n) s = annotations_at (root s) (sorted (words_of_level w false ws))
  annotated w (pointer ws t) s =
      annotations_at (root s) (sorted (words_of_level w false ws ++ words_of_level w true (words_of t)))
      ++ annotated w t (inner s)
  annotated w (function ws ps r e) s = annotations_at (root s) (sorted (words_of_level w false ws))
      ++ (annotated_params w ps (parameters s)
      ++ (annotated w r (outcome s) ++ some_annotations_at (further s) (sorted (words_or_none e))))

  -- those of parameters
  pub annotated_params : World → CTypes → Skels → List Annotation
  annotated_params w no_types ss = []
  annotated_params w (more_types t ts) no_skels = []
  annotated_params w (more_types t ts) (more_skels s ss) = annotated w t s ++ annotated_params w ts ss

-- a constant below the variable, a bound above it, or both
abbrev pub signed : Sign → ℕ × ℕ → ℕ → List Link
signed kinds_of_sign.Pos m v = Const m.0 m.1 v ∷ []
signed kinds_of_sign.Neg m v = Bound v m.0 m.1 ∷ []
signed kinds_of_sign.Eq m v = Const m.0 m.1 v ∷ Bound v m.0 m.1 ∷ []

-- what an element says of a variable that is annotated with it
abbrev pub links_of_entry : Option Entry → ℕ × ℕ → ℕ → List Link
links_of_entry None m v = []
links_of_entry (Some entry) m v = signed entry.sign m v

-- the lattice of a mark alone
abbrev pub alone : ℕ × ℕ → Span → List Link → List Constraint
alone m where_ [] = []
alone m where_ (link ∷ links) = constraint (2 ^ m.0) where_ link ∷ alone m where_ links

-- the constraints of one annotation, by the lattice and the element that its word names
abbrev pub marked : World → Option (ℕ × ℕ) → Annotation → List Constraint
marked w None a = []
marked w (Some m) a = alone m (word_span a.word) (links_of_entry (entry_at w m) m a.variable)

-- the constraints of annotations, one after the other
abbrev pub annotation_constraints : World → List Annotation → List Constraint
annotation_constraints w [] = []
annotation_constraints w (a ∷ others) = marked w (w.mark a.word) a ++ annotation_constraints w others

-- what the annotation words on a type give for a skeleton of it
abbrev pub annotating : World → CType → Skel → List Constraint
annotating w t s = annotation_constraints w (annotated w t s)

-- the elements of an attribute, by lattice and then by element

-- bounds of a variable: the elements of one lattice with an attribute, these having the numbers from n on
abbrev pub bounds_of : (Entry → Bool) → ℕ → Span → ℕ → ℕ → List Entry → List Constraint
bounds_of has v where_ lattice n [] = []
bounds_of has v where_ lattice n (entry ∷ entries) =
    (if has entry then constraint (2 ^ lattice) where_ (Bound v lattice n) ∷ [] else [])
    ++ bounds_of has v where_ lattice (suc n) entries

-- bounds of a variable: the elements with an attribute of these lattices, which have the numbers from n on
abbrev pub bounds_from : (Entry → Bool) → ℕ → Span → ℕ → List LatticeView → List Constraint
bounds_from has v where_ n [] = []
bounds_from has v where_ n (view ∷ views) =
    bounds_of has v where_ n 0 view.entries ++ bounds_from has v where_ (suc n) views

-- what is written to is bounded by each element that says so
abbrev pub write_bounds : World → ℕ → Span → List Constraint
write_bounds w v where_ = bounds_from (λ entry. entry.write) v where_ 0 w.lattices

-- whether an element bounds each pointer that is followed, also where its place is only addressed
abbrev pub is_deref : Deref → Bool
is_deref derefs.No = false
is_deref derefs.Yes = true
is_deref derefs.Access = false

-- whether an element bounds pointers by which places are read or written
abbrev pub is_deref_or_access : Deref → Bool
is_deref_or_access derefs.No = false
is_deref_or_access derefs.Yes = true
is_deref_or_access derefs.Access = true

-- where its place is only addressed, those do not bound it that bound accesses
abbrev pub derefs_where : Bool → Deref → Bool
derefs_where true it = is_deref it
derefs_where false it = is_deref_or_access it

-- the bounds of a pointer that is followed; `aims`: its place is only addressed
abbrev pub deref_bounds : World → ℕ → Bool → Span → List Constraint
deref_bounds w v aims where_ = bounds_from (λ entry. derefs_where aims entry.deref) v where_ 0 w.lattices

-- the lattices with an element that bounds accesses, a bit for each

-- whether an element bounds accesses alone, and not what is only addressed
abbrev pub is_access : Deref → Bool
is_access derefs.No = false
is_access derefs.Yes = false
is_access derefs.Access = true

-- whether a lattice has an element that bounds accesses
abbrev pub bounds_accesses : List Entry → Bool
bounds_accesses [] = false
bounds_accesses (entry ∷ entries) = is_access entry.deref || bounds_accesses entries

-- the lattices with an element that bounds accesses, a bit for each, of those that have the numbers from n on
abbrev pub access_from : ℕ → List LatticeView → ℕ
access_from n [] = 0
access_from n (view ∷ views) = (if bounds_accesses view.entries then 2 ^ n else 0) + access_from (suc n) views

-- all lattices with an element that bounds accesses, a bit for each
abbrev pub access_lattices : List LatticeView → ℕ
access_lattices views = access_from 0 views

-- whether some lattice has an element that bounds accesses
abbrev pub has_access : List LatticeView → Bool
has_access views = not (nat_eq (access_lattices views) 0)

-- whether one of these words names an element of a lattice
abbrev pub names_lattice : World → ℕ → Words → Bool
names_lattice w lattice [] = false
names_lattice w lattice (p ∷ ps) = is_of lattice (w.mark p) || names_lattice w lattice ps where
  is_of : ℕ → Option (ℕ × ℕ) → Bool
  is_of lattice None = false
  is_of lattice (Some m) = nat_eq m.0 lattice

-- the words that are written on a type and on its parts
abbrev mutual
  -- all annotation words of a type
  pub all_words : CType → Words
  all_words (base ws) = ws
  all_words (void ws) = ws
  all_words (struct ws n) = ws
  all_words (pointer ws t) = ws ++ all_words t
  all_words (function ws ps r e) = ws ++ (words_of_all ps ++ (all_words r ++ words_or_none e))

  -- all annotation words of parameters
  pub words_of_all : CTypes → Words
  words_of_all no_types = []
  words_of_all (more_types t ts) = all_words t ++ words_of_all ts

-- of lattices with the numbers from n on those of which no word is among these, a bit for each
abbrev pub uncut_from : World → Words → ℕ → List LatticeView → ℕ
uncut_from w ps n [] = 0
uncut_from w ps n (view ∷ views) = (if names_lattice w n ps then 0 else 2 ^ n) + uncut_from w ps (suc n) views

-- the lattices of which no word is written on a type or its parts, a bit for each
abbrev pub uncut : World → CType → ℕ
uncut w t = uncut_from w (all_words t) 0 w.lattices
