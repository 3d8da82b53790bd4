-- What the lines of a report name has no line feed.
use Rattle.std.proofs.Common.{◌≡◌, ℕ, suc, ◌+◌, true, false, List, [], ◌∷◌, ◌++◌, slice_get, Option, Some, None, refl, arith, codes, decimal, unwrap_or, nat_eq, cond}
use Rattle.c_lexer.specs.declared.token.Token.{Token}
use Rattle.c_lexer.specs.Tokens.{text_of, token_spot}
use Rattle.lattice_core.specs.Entries.{name_at}
use Rattle.lattice_core.specs.View.{LatticeView}
use Rattle.flow_graph.specs.declared.constraint.Link.{Link}
use Rattle.flow_graph.specs.declared.constraint.Link.TheVariants.{Le, Const, Bound, Enter, Leave}
use Rattle.qual_types.specs.declared.position.Step.{Step}
use Rattle.qual_types.specs.declared.position.Step.TheVariants.{Inside, Param, Result, Ellipsis}
use Rattle.qual_types.specs.Positions.{PositionView}
use Rattle.annotate.specs.Texts.{UnitText, Scene, unit_in, file_text, place_at, place_in, bytes_in, place_text, name_text, step_mark, marks_text, position_text, var_text, name_in, elem_text, link_text}
use Rattle.report_laws.specs.Scenes.{HasNoFeeds}
use Rattle.path_checker.proofs.Lacking.{has, lacks_of, lacks_append, decimal_lacks}

abbrev pub Free : List ℕ → Type 0
Free text = has 10 text ≡ false

pub then_free : (xs ys : List ℕ) → Free xs → Free ys → Free (xs ++ ys)
then_free xs ys p q = lacks_append 10 xs ys p q

pub number_free : (n : ℕ) → Free (decimal n)
number_free n = decimal_lacks 10 n (omega arith)

-- the unit that is found by its number is one of the units
unit_found : (units : List UnitText) (number : ℕ) (unit : UnitText) → unit_in units number ≡ Some unit
    → (k : ℕ) × (slice_get units k ≡ Some unit)
unit_found [] number unit is = absurd cc
unit_found (u ∷ units) number unit is =
    (elim (nat_eq u.lexed.unit number) as (λ b. cond b (Some u) (unit_in units number) ≡ Some unit → (k : ℕ)
    × (slice_get (u ∷ units) k ≡ Some unit))
    [ true ↦ λ h. (0, h) | false ↦ λ h. (let deeper = unit_found units number unit h in (suc deeper.0, deeper.1)) ]) is

-- the marks of steps to a variable have no line feed in them
marks_free : (steps : List Step) → Free (marks_text steps)
marks_free [] = refl
marks_free (Inside ∷ steps) = then_free (codes ".in") (marks_text steps) refl (marks_free steps)
marks_free (Param number ∷ steps) =
    then_free (step_mark (Param number)) (marks_text steps)
    (then_free (codes ".") (decimal (number + 1)) refl (number_free (number + 1))) (marks_free steps)
marks_free (Result ∷ steps) = then_free (codes ".res") (marks_text steps) refl (marks_free steps)
marks_free (Ellipsis ∷ steps) = then_free (codes ".etc") (marks_text steps) refl (marks_free steps)

module _ (scene : Scene) (one : HasNoFeeds scene) where
  at_free : (k : ℕ) (unit : UnitText) (token : ℕ) (there : Option Token) → slice_get scene.units k ≡ Some unit
      → Free (place_at unit token there)
  at_free k unit token None is = refl
  at_free k unit token (Some t) is =
      let spot = token_spot unit.lexed token in
      let file = file_text unit.file unit.lexed.bytes spot in
      then_free (file ++ codes ":" ++ decimal spot.line ++ codes ":") (decimal spot.column)
      (then_free (file ++ codes ":" ++ decimal spot.line) (codes ":")
      (then_free (file ++ codes ":") (decimal spot.line)
      (then_free file (codes ":") (lacks_of 10 file (one.files k unit token is)) refl) (number_free spot.line)) refl)
      (number_free spot.column)

  found_free : (number token : ℕ) (unit : Option UnitText) → unit_in scene.units number ≡ unit
      → Free (place_in unit token)
  found_free number token None is = refl
  found_free number token (Some unit) is =
      let there = unit_found scene.units number unit is in
      at_free there.0 unit token (slice_get unit.lexed.tokens token) there.1

  pub place_free : (unit token : ℕ) → Free (place_text scene unit token)
  place_free unit token = found_free unit token (unit_in scene.units unit) refl

  bytes_free : (number token : ℕ) (unit : Option UnitText) → unit_in scene.units number ≡ unit
      → Free (bytes_in unit token)
  bytes_free number token None is = refl
  bytes_free number token (Some unit) is =
      let there = unit_found scene.units number unit is in
      lacks_of 10 (text_of unit.lexed token) (one.tokens there.0 unit token there.1)

  name_free : (unit token : ℕ) → Free (name_text scene unit token)
  name_free unit token =
      then_free (bytes_in (unit_in scene.units unit) token ++ codes "@") (place_text scene unit token)
      (then_free (bytes_in (unit_in scene.units unit) token) (codes "@")
      (bytes_free unit token (unit_in scene.units unit) refl) refl) (place_free unit token)

  position_free : (position : Option PositionView) → Free (position_text scene position)
  position_free None = refl
  position_free (Some p) =
      then_free (name_text scene p.unit p.token) (marks_text p.path) (name_free p.unit p.token) (marks_free p.path)

  var_free : (v : ℕ) → Free (var_text scene v)
  var_free v = position_free (slice_get scene.positions v)

  entry_free : (k : ℕ) (view : LatticeView) (elem : ℕ) (name : Option (List ℕ)) → slice_get scene.lattices k ≡ Some view
      → name_at view.entries elem ≡ name → Free (unwrap_or name [])
  entry_free k view elem None there is = refl
  entry_free k view elem (Some name) there is = lacks_of 10 name (one.names k view elem name there is)

  in_free : (lattice elem : ℕ) (view : Option LatticeView) → slice_get scene.lattices lattice ≡ view
      → Free (name_in view elem)
  in_free lattice elem None is = refl
  in_free lattice elem (Some view) is = entry_free lattice view elem (name_at view.entries elem) is refl

  pub elem_free : (lattice elem : ℕ) → Free (elem_text scene lattice elem)
  elem_free lattice elem = in_free lattice elem (slice_get scene.lattices lattice) refl

  flow_free : (word : List ℕ) (from to : ℕ) → Free word
      → Free (word ++ var_text scene from ++ codes " to " ++ var_text scene to)
  flow_free word from to p =
      then_free (word ++ var_text scene from ++ codes " to ") (var_text scene to)
      (then_free (word ++ var_text scene from) (codes " to ")
      (then_free word (var_text scene from) p (var_free from)) refl) (var_free to)

  pub link_free : (link : Link) → Free (link_text scene link)
  link_free (Const lattice elem var) =
      then_free (codes "const " ++ elem_text scene lattice elem ++ codes " in ") (var_text scene var)
      (then_free (codes "const " ++ elem_text scene lattice elem) (codes " in ")
      (then_free (codes "const ") (elem_text scene lattice elem) refl (elem_free lattice elem)) refl)
      (var_free var)
  link_free (Le from to) = flow_free (codes "flow ") from to refl
  link_free (Enter site from to) = flow_free (codes "enter ") from to refl
  link_free (Leave site from to) = flow_free (codes "leave ") from to refl
  link_free (Bound var lattice elem) =
      then_free (codes "bound " ++ var_text scene var ++ codes " by ") (elem_text scene lattice elem)
      (then_free (codes "bound " ++ var_text scene var) (codes " by ")
      (then_free (codes "bound ") (var_text scene var) refl (var_free var)) refl)
      (elem_free lattice elem)
