-- When a path proof holds: no step of it fails, and none is missing at its end.
use Rattle.std.specs.Prelude.{◌≡◌, ℕ, ◌-◌, Bool, true, false, not, ◌&&◌, ◌||◌, ◌==◌, List, [], ◌∷◌, ◌++◌, length, map, slice_get, Option, Some, None, unwrap_or, if◌then◌else◌}
use Rattle.qual_base.specs.declared.places.Owner.{Owner}
use Rattle.qual_base.specs.declared.places.Owner.TheVariants.{Nobody, Function}
use Rattle.lattice_core.specs.Order.{Order}
use Rattle.flow_graph.specs.declared.constraint.Link.{Link}
use Rattle.flow_graph.specs.declared.constraint.Link.TheVariants.{Const}
use Rattle.flow_graph.specs.declared.constraint.Constraint.{Constraint}
use Rattle.flow_graph.specs.declared.proof.PathStep.{PathStep}
use Rattle.flow_graph.specs.declared.proof.PathStep.TheVariants.{Take, Sub as SubStep}
use Rattle.flow_graph.specs.declared.proof.Why.{Why}
use Rattle.flow_graph.specs.declared.proof.Why.TheVariants.{B1}
use Rattle.flow_graph.specs.declared.proof.BadStep.{BadStep}
use Rattle.flow_graph.specs.declared.proof.SubPath.{SubPath}
use Rattle.flow_graph.specs.declared.proof.PathProof.{PathProof}
use Rattle.flow_graph.specs.declared.step.Seen.{Seen}
use Rattle.flow_graph.specs.declared.step.Seen.TheVariants.{Edge, Through, NoSub, NoEdge}
use Rattle.flow_graph.specs.declared.step.Path.{Path}
use Rattle.flow_graph.specs.declared.step.Path.TheVariants.{Main, Sub}
use Rattle.flow_graph.specs.declared.step.StepInPath.{StepInPath}
use Rattle.flow_graph.specs.System.{System, owner_of}
use Rattle.flow_graph.specs.PathRules.{begins, ends, is_unmatched_enter, is_bound, rule_at}

-- the first of a list, where it has one
abbrev pub first_of : {A : Type 0} → List A → Option A
first_of [] = None
first_of (x ∷ xs) = Some x

-- the second of a list, where it has two
abbrev pub second_of : {A : Type 0} → List A → Option A
second_of [] = None
second_of (x ∷ xs) = first_of xs

-- the last of a list, where it has one
abbrev pub last_of : {A : Type 0} → List A → Option A
last_of xs = slice_get xs (length xs - 1)

-- the line of a report at which a step stands
abbrev pub line_of : PathStep → ℕ
line_of (Take edge line) = line
line_of (SubStep number line) = line

-- the constraint of a number
abbrev pub edge_or : Option Constraint → Seen
edge_or (Some c) = Edge c
edge_or None = NoEdge

-- what a step names that is no number of a sub-path
abbrev pub edge_at : System → PathStep → Seen
edge_at sys (Take edge line) = edge_or (slice_get sys.constraints edge)
edge_at sys (SubStep number line) = NoSub

-- a sub-path that joins two variables; where one of them is not there, no sub-path
abbrev pub through : Option ℕ → Option ℕ → Seen
through (Some u) (Some v) = Through u v
through _ _ = NoSub

-- what is said of what a step names, where there is a step
abbrev pub of_step : System → Option PathStep → (Seen → Option ℕ) → Option ℕ
of_step sys (Some s) f = f (edge_at sys s)
of_step sys None f = None

-- a sub-path begins where its first step does and ends where its last does
abbrev pub span_of : System → Option (List PathStep) → Seen
span_of sys (Some steps) = through (of_step sys (first_of steps) begins) (of_step sys (last_of steps) ends)
span_of sys None = NoSub

-- no two of these sub-paths have the same first and last variables
abbrev pub AreApart : System → List (List PathStep) → Type 0
AreApart sys subs =
    (n m : ℕ) (one other : List PathStep) → slice_get subs n ≡ Some one → slice_get subs m ≡ Some other →
    span_of sys (Some one) ≡ span_of sys (Some other) → n ≡ m

-- what a step names, where these sub-paths are the earlier ones: they count from 1
abbrev pub look : System → List (List PathStep) → PathStep → Seen
look sys earlier (Take edge line) = edge_or (slice_get sys.constraints edge)
look sys earlier (SubStep number line) = if number == 0 then NoSub else span_of sys (slice_get earlier (number - 1))

-- nobody owns the variable
abbrev pub is_nobodys : Owner → Bool
is_nobodys Nobody = true
is_nobodys (Function f) = false

-- whether there is a variable, and it belongs to nobody
abbrev pub ends_with_nobody : System → Option ℕ → Bool
ends_with_nobody sys (Some v) = is_nobodys (owner_of sys v)
ends_with_nobody sys None = false

-- an unmatched Enter is a step or stands before it, with no variable of nobody since
abbrev pub stays_in_call : System → StepInPath → Bool
stays_in_call sys p = not (ends_with_nobody sys (ends p.step)) && (is_unmatched_enter p || p.in_call)

-- A step in a path. What comes before it is given with the last step first.
module _ (sys : System) (path : Path) (lattice elem : ℕ) where
  -- a step with the steps before and behind it, inside a call or not
  abbrev pub in_path_with : Bool → List Seen → Seen → List Seen → StepInPath
  in_path_with in_call before step after = record {
    path = path;
    two_before = second_of before;
    one_before = first_of before;
    step = step;
    one_after = first_of after;
    in_call = in_call;
    lattice = lattice;
    elem = elem;
  }

  -- whether a call is open between the steps before and those behind
  abbrev pub in_call_at : List Seen → List Seen → Bool
  in_call_at [] after = false
  in_call_at (step ∷ before) after =
      stays_in_call sys (in_path_with (in_call_at before (step ∷ after)) before step after)

  -- a step with the steps before and behind it
  abbrev pub in_path : List Seen → Seen → List Seen → StepInPath
  in_path before step after = in_path_with (in_call_at before (step ∷ after)) before step after

-- the rule that fails at this line, or else what fails later
abbrev pub fault_or : Option Why → ℕ → Option BadStep → Option BadStep
fault_or (Some why) line rest = Some (record { line = line; why = why })
fault_or None line rest = rest

-- the first of two faults that is there
abbrev pub or_else : Option BadStep → Option BadStep → Option BadStep
or_else (Some b) other = Some b
or_else None other = other

-- the first step of a path that fails, of those that come behind others
abbrev pub first_failing : System → Order → Path → ℕ → ℕ → (PathStep → Seen) → List Seen → List PathStep
    → Option BadStep
first_failing sys order path lattice elem see before [] = None
first_failing sys order path lattice elem see before (s ∷ steps) =
    fault_or (rule_at sys order (in_path sys path lattice elem before (see s) (map see steps))) (line_of s)
    (first_failing sys order path lattice elem see (see s ∷ before) steps)

-- a sub-path's owner is that of its first variable
abbrev pub owner_at : System → Option ℕ → Owner
owner_at sys (Some v) = owner_of sys v
owner_at sys None = Nobody

-- the owner of a sub-path: that of its first variable
abbrev pub home_of : System → List PathStep → Owner
home_of sys steps = owner_at sys (of_step sys (first_of steps) begins)

-- the first step that fails of sub-paths that come behind earlier ones
abbrev pub subs_fault : System → Order → ℕ → ℕ → List (List PathStep) → List (List PathStep) → Option BadStep
subs_fault sys order lattice elem earlier [] = None
subs_fault sys order lattice elem earlier (s ∷ subs) =
    or_else (first_failing sys order (Sub (home_of sys s)) lattice elem (look sys earlier) [] s)
    (subs_fault sys order lattice elem (earlier ++ s ∷ []) subs)

-- a main path ends in a bound
abbrev pub ends_in_bound : System → Option PathStep → Bool
ends_in_bound sys (Some s) = is_bound (edge_at sys s)
ends_in_bound sys None = false

-- a main path that does not end in a bound fails at its end
abbrev pub end_fault : System → List PathStep → ℕ → Option BadStep
end_fault sys main end = if ends_in_bound sys (last_of main) then None else Some (record { line = end; why = B1 })

-- the lattice and the element of a constant
abbrev pub start_of_link : Link → ℕ × ℕ
start_of_link (Const l e v) = (l, e)
start_of_link _ = (0, 0)

-- the lattice and the element of the constant that a step names
abbrev pub start_of : Seen → ℕ × ℕ
start_of (Edge c) = start_of_link c.link
start_of _ = (0, 0)

-- The steps are looked at in this order: the first step of the main path, the sub-paths in order, the main path and its
-- end.
abbrev pub main_fault : System → Order → ℕ → ℕ → List (List PathStep) → PathStep → List PathStep → ℕ → Option BadStep
main_fault sys order lattice elem subs first main end =
    or_else (fault_or (rule_at sys order
    (in_path sys Main lattice elem [] (look sys subs first) (map (look sys subs) main))) (line_of first) None)
    (or_else (subs_fault sys order lattice elem [] subs)
    (or_else (first_failing sys order Main lattice elem (look sys subs) [] (first ∷ main))
    (end_fault sys (first ∷ main) end)))

-- an order without elements, in which nothing is at or below anything
abbrev pub no_order : Order
no_order = record { above = [] }

-- The first step that fails, with the first of its rules. Each constraint is read in the lattice of the main path's
-- first step. A main path without a step fails at its end before all else.
abbrev pub first_fault : System → List Order → List (List PathStep) → List PathStep → ℕ → Option BadStep
first_fault sys orders subs [] end = Some (record { line = end; why = B1 })
first_fault sys orders subs (first ∷ main) end =
    let start = start_of (edge_at sys first) in
    main_fault sys (unwrap_or (slice_get orders start.0) no_order) start.0 start.1 subs first main end

-- the steps of each sub-path
abbrev pub steps_of : List SubPath → List (List PathStep)
steps_of subs = map (λ (s : SubPath). s.steps.items) subs

-- the first step of a path proof that fails
abbrev pub fault_of : System → List Order → PathProof → Option BadStep
fault_of sys orders proof = first_fault sys orders (steps_of proof.subs.items) proof.main.items proof.end

-- a path proof holds where no step and no end fails
abbrev pub Holds : System → List Order → PathProof → Type 0
Holds sys orders proof = fault_of sys orders proof ≡ None
