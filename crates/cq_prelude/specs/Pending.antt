-- The index words of what is left of a unit.
use Rattle.std.specs.Prelude.{ℕ, List, [], ◌∷◌, ◌++◌, Option, None, Some, map, if◌then◌else◌}
use Rattle.c_tree.specs.Tree.{InitDeclrs, SpecWords}
use Rattle.c_tree.specs.View.{declr_of}
use Rattle.c_tree.specs.Unit.{item_of, spec_words_from}
use Rattle.c_tree.specs.Lists.{init_declrs_from, params_from}
use Rattle.cq_prelude.specs.Placing.{in_array_words, in_declr, in_init_declrs, in_params, in_pointer_words, in_quals, in_specs, index_places, is_of_functions}
use Rattle.cq_prelude.specs.declared.left.Part.{Part}
use Rattle.cq_prelude.specs.declared.left.Part.TheVariants as parts

-- those of one part
abbrev pub in_part : Part → List ℕ
in_part (parts.Declr d) = in_declr (declr_of d.now.value)
in_part (parts.Params ps) = in_params (params_from ps.now)
in_part (parts.Words words) = in_specs (spec_words_from words.now)
in_part (parts.PointerWords words) = in_pointer_words words.now
in_part (parts.ArrayWords words) = in_array_words words.now
in_part (parts.Quals quals) = in_quals quals.now
in_part (parts.InitDeclrs ds) = in_init_declrs (init_declrs_from ds.now)
in_part (parts.Items items) = index_places (map item_of items.now)

-- those of parts the last of which comes first
unfoldable pub pending : List Part → List ℕ
pending [] = []
pending (part ∷ parts) = pending parts ++ in_part part

-- those of the next part, if there is one
abbrev pub in_next : Option Part → List ℕ
in_next None = []
in_next (Some part) = in_part part

-- those of the specifiers and declarators of a declaration
abbrev pub in_parts : SpecWords → InitDeclrs → List ℕ
in_parts ws ds = if is_of_functions ws ds then in_specs ws ++ in_init_declrs ds else []
