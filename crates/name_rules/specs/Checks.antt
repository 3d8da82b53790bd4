-- The faults of operators, of calls and of members, by what their operands are. A rule is judged wherever the types
-- that it needs are known, and never fails for want of a part's type.
use Rattle.std.specs.Prelude.{ℕ, Bool, true, false, ◌&&◌, not, List, [], ◌++◌, Option, None, Some}
use Rattle.c_words.specs.declared.kinds.Punct.{Punct}
use Rattle.c_words.specs.declared.kinds.Punct.TheVariants as signs
use Rattle.type_table.specs.Types.{CType}
use Rattle.name_rules.specs.Spellings.{Place, Spelling, place}
use Rattle.name_rules.specs.Faults.{Fault, not_pointer, not_function, no_member, argument_count, not_place, fault_where}
use Rattle.name_rules.specs.Scopes.{Declared, Names}
use Rattle.name_rules.specs.Values.{Shape, value, points_to_function, takes, lacks_member, is_no_pointer, is_base_value, Target, next_target, named_target}

-- whether the operand of a prefix operator has to be a place: that of `&`, `++` and `--` (6.5.3.1, 6.5.3.2)
abbrev pub wants_place : Punct → Bool
wants_place signs.Ampersand = true
wants_place signs.PlusPlus = true
wants_place signs.MinusMinus = true
wants_place p = false

-- whether a prefix operator is `*`
abbrev pub is_star : Punct → Bool
is_star signs.Star = true
is_star p = false

-- the faults of a prefix operator: an operand that should be a place and is none, or that `*` is applied to and is no
-- pointer
abbrev pub prefix_faults : Place → Punct → Shape → List Fault
prefix_faults at p e =
    fault_where (wants_place p && not e.is_place) at not_place
    ++ fault_where (is_star p && is_no_pointer (value e)) at not_pointer

-- the faults of a call with so many arguments: what is called is no function, or has another number of parameters
-- (6.5.2.2)
abbrev pub call_faults : Place → Option CType → ℕ → List Fault
call_faults at None n = []
call_faults at (Some t) n =
    fault_where (not (points_to_function t)) at not_function ++ fault_where (not (takes t n)) at argument_count

-- the type of a declaration, where there is one
abbrev pub type_declared : Option Declared → Option CType
type_declared None = None
type_declared (Some d) = Some d.type

-- a name is no member of what has this type
abbrev pub member_faults : Spelling → Names → Option CType → ℕ → ℕ → List Fault
member_faults u s t token name = fault_where (lacks_member s.aggregates t (u.key name)) (place u token) no_member

-- neither operand of `[ ]` is a pointer, nor in wider C the left one a vector
abbrev pub index_faults_at : Bool → Place → Shape → Shape → List Fault
index_faults_at wide at e e2 =
    fault_where
    (is_no_pointer (value e) && is_no_pointer (value e2) && not (wide && is_base_value (value e))) at not_pointer

-- what an item of an initialiser in braces initialises: what its designators name, or without any the next member
abbrev pub target_of_item : Names → Option CType → Bool → ℕ → Option (Option CType) → Target
target_of_item s t is_first next None = next_target s.aggregates t is_first next
target_of_item s t is_first next (Some named) = named_target t is_first named
