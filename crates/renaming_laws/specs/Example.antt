-- A function 0 that calls a function 1 with a constant, at site 1, and the same with all numbers exchanged.
use Rattle.std.specs.Prelude.{ℕ, zero, suc, ◌≡◌, refl, [], ◌∷◌}
use Rattle.qual_base.specs.declared.places.Owner.{Owner}
use Rattle.qual_base.specs.declared.places.Owner.TheVariants.{Nobody, Function}
use Rattle.flow_graph.specs.declared.constraint.Link.{Link}
use Rattle.flow_graph.specs.declared.constraint.Link.TheVariants.{Const, Bound, Enter}
use Rattle.flow_graph.specs.declared.constraint.Constraint.{Constraint}
use Rattle.flow_graph.specs.declared.constraint.Site.{Site}
use Rattle.flow_graph.specs.System.{System}
use Rattle.renaming_laws.specs.Renamings.{Numbering, Renaming}

-- a constraint of the first lattice, from this token
abbrev pub constraint : ℕ → Link → Constraint
constraint token link = record { link = link; lattices = 1; span = record { unit = 0; from = token; to = token } }

-- a call site at a token of the first source
abbrev pub site : ℕ → Owner → ℕ → Site
site token owner target = record { unit = 0; token = token; target = target; owner = owner }

-- the system of such a program, with a bound of what the called function is given
abbrev pub sys : System
sys = record {
  constraints = constraint 1 (Const 0 1 0) ∷ constraint 2 (Enter 1 0 1) ∷ constraint 3 (Bound 1 0 0) ∷ [];
  sites = site 4 Nobody 0 ∷ site 5 (Function 0) 1 ∷ [];
  owners = Function 0 ∷ Function 1 ∷ [];
}

-- the same system with 0 and 1 exchanged, as numbers of variables, sites, functions and constraints
abbrev pub other : System
other = record {
  constraints = constraint 7 (Enter 0 1 0) ∷ constraint 6 (Const 0 1 1) ∷ constraint 8 (Bound 0 0 0) ∷ [];
  sites = site 9 (Function 1) 0 ∷ site 8 Nobody 1 ∷ [];
  owners = Function 0 ∷ Function 1 ∷ [];
}

-- 0 and 1 are exchanged
abbrev pub exchanged : ℕ → ℕ
exchanged zero = 1
exchanged (suc zero) = 0
exchanged (suc (suc n)) = suc (suc n)

-- to exchange them twice changes nothing
pub exchanged_twice : (n : ℕ) → exchanged (exchanged n) ≡ n
exchanged_twice zero = refl
exchanged_twice (suc zero) = refl
exchanged_twice (suc (suc n)) = refl

-- the numbering that exchanges them
abbrev pub exchange : Numbering
exchange = record { to = exchanged; from = exchanged; from_to = exchanged_twice; to_from = exchanged_twice }

-- 0 and 1 are exchanged among variables, sites, functions and constraints
abbrev pub renaming : Renaming
renaming = record { vars = exchange; sites = exchange; functions = exchange; constraints = exchange }
