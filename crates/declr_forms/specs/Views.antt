-- The parts of declarators that readers of the program answer, as those of token lists.
use Rattle.std.specs.Prelude.{ℕ, suc, Bool, ◌&&◌, map, option_map, List, Option, Result}
use Rattle.c_nodes.specs.declared.sized.SizedParam.{SizedParam}
use Rattle.c_nodes.specs.declared.sized.SizedSize.{SizedSize}
use Rattle.c_syntax.specs.declared.declarator.Param.{Param}
use Rattle.c_tree.specs.Lists.{some_declr_from, some_size_from}
use Rattle.c_tree.specs.Tree as trees
use Rattle.c_tree.specs.Unit.{spec_words_from}
use Rattle.c_tree.specs.View.{dots_of}
use Rattle.c_reading.specs.Reading.{Reader, Turn, Next, one_more, list_end, CommaList, comma_turn, fits, kind_at, run}
use Rattle.typedef_scope.specs.declared.kind.Kind.{Kind}
use Rattle.c_reading.specs.declared.kinds.Mode.{Mode}
use Rattle.c_reading.specs.Parts.{Declared, ParamItem}
use Rattle.c_reading.specs.Declaring as declaring
use Rattle.c_reading.specs.Knot.{knot}
use Rattle.c_syntax.specs.declared.parts.Attr.{Attr}
use Rattle.c_tree.specs.Height.{some_declr_height}
use Rattle.declr_forms.specs.declared.parameters.NextParam.{NextParam}
use Rattle.declr_forms.specs.declared.parameters.NextParam.TheVariants as nexts
use Rattle.declr_forms.specs.declared.parameters.ParamList.{ParamList}
use Rattle.reader_base.specs.declared.fault.ReadError.{ReadError}
use Rattle.reader_base.specs.declared.cursor.Cursor.{Cursor}
use Rattle.reader_base.specs.Gives.{Reads}

-- the size of an array, if any, is read as the reader of lists gives it
abbrev pub ReadsSize : Cursor → Cursor → Result SizedSize ReadError → Reader trees.SomeSize → Type 0
ReadsSize before after result reader = Reads (λ x. some_size_from x.size) before after result reader

-- a parameter, as it is read
abbrev pub param_of : SizedParam → ParamItem
param_of p = record { words = spec_words_from p.words.items; declr = some_declr_from p.declr; attrs = p.attrs.items }

-- a parameter, as it stands in a list
abbrev pub item_of : Param → ParamItem
item_of p =
    record { words = spec_words_from p.specs.words.items; declr = some_declr_from p.declr; attrs = p.attrs.items }

-- what stands behind a comma in a list of parameters: one more, or `...`
abbrev pub next_of : NextParam → Next ParamItem trees.Dots
next_of (nexts.Param p) = one_more (param_of p)
next_of (nexts.Dots dots) = list_end (dots_of dots)

-- parameters so far, and the `...` that ended their list
abbrev pub list_of : ParamList → CommaList ParamItem trees.Dots
list_of l = record { items = map item_of l.items.items.items; ending = option_map dots_of l.dots }

-- a parameter is read so
abbrev pub ReadsParam : Cursor → Cursor → Result SizedParam ReadError → Reader ParamItem → Type 0
ReadsParam before after result reader = Reads param_of before after result reader

-- what stands behind a comma is read so
abbrev pub ReadsNext : Cursor → Cursor → Result NextParam ReadError → Reader (Next ParamItem trees.Dots) → Type 0
ReadsNext before after result reader = Reads next_of before after result reader

-- a list of parameters is read so
abbrev pub ReadsParams : Cursor → Cursor → Result ParamList ReadError → Reader (CommaList ParamItem trees.Dots) → Type 0
ReadsParams before after result reader = Reads list_of before after result reader

-- what stands behind a further comma in a list of parameters
abbrev pub params_turn : ℕ → ℕ → Turn (CommaList ParamItem trees.Dots)
params_turn depth room = comma_turn (declaring.next_param (knot depth) room)

-- one more pair of brackets or list of parameters behind a declarator
abbrev pub suffixes_turn : ℕ → Bool → ℕ → Turn Declared
suffixes_turn depth flag room = declaring.suffix_turn (knot depth) flag room

-- parameters behind others, as many as stand
abbrev pub more_params : ℕ → ℕ → CommaList ParamItem trees.Dots → Reader (CommaList ParamItem trees.Dots)
more_params depth room state s ts = run (params_turn depth room) state s ts

-- brackets and lists of parameters behind a declarator, as many as stand
abbrev pub more_suffixes : ℕ → Bool → ℕ → Declared → Reader Declared
more_suffixes depth flag room state s ts = run (suffixes_turn depth flag room) state s ts

-- attributes behind a parameter's declarator
abbrev pub attrs_behind : ℕ → trees.SomeDeclr → ℕ → Reader (List Attr)
attrs_behind depth d room s ts = declaring.param_attrs (knot depth) d room s ts

-- a form behind a declarator, where it has room
abbrev pub fitting : Bool → ℕ → Declared → (ℕ → Reader Declared) → Reader Declared
fitting flag room d form s ts =
    fits (suc (some_declr_height d.declr)) (declaring.room_at flag room d (kind_at ts)) ts
    (form (declaring.room_at flag room d (kind_at ts)) s ts)

-- brackets behind a declarator
abbrev pub brackets_at : ℕ → Bool → ℕ → Declared → Reader Declared
brackets_at depth flag room d s ts = fitting flag room d (declaring.array_with (knot depth) d) s ts

-- parameters, or a list of identifiers, behind a declarator
abbrev pub params_at : ℕ → Bool → ℕ → Declared → Reader Declared
params_at depth flag room d s ts = fitting flag room d (declaring.params_behind (knot depth) flag d) s ts

-- a declarator in parentheses, behind these and its attributes
abbrev pub paren_behind : ℕ → Mode → Option Kind → Bool → ℕ → List Attr → ℕ → Reader Declared
paren_behind depth mode wanted flag opening attrs room s ts =
    declaring.paren_with (knot depth) mode wanted flag opening attrs room s ts

-- parameters, or a list of identifiers where one begins, behind what may be a function's declarator and the parenthesis
abbrev pub behind_paren : ℕ → Declared → ℕ → ℕ → Reader Declared
behind_paren depth d opening room s ts =
    declaring.list_behind (knot depth)
    (declaring.is_bare d.declr && declaring.begins_identifiers s (kind_at ts)) d opening room s ts
