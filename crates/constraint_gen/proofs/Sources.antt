-- What is found on the tapes of sources is what the rules say of them.
use Rattle.std.proofs.Common.{◌≡◌, ℕ, Bool, All, List, [], ◌∷◌, ◌++◌, Option, refl, sym, ◌∙◌, ap, length, map, subst}
use Rattle.std.proofs.Math.Path.{fun_ext}
use Rattle.lattice_core.specs.View.{LatticeView}
use Rattle.flow_graph.specs.declared.constraint.Constraint.{Constraint}
use Rattle.flow_graph.specs.System.{System}
use Rattle.c_lexer.specs.Tokens.{Lexed}
use Rattle.c_tape.specs.Tape.{tape_of}
use Rattle.name_rules.specs.Spellings.{Place}
use Rattle.name_rules.specs.Scopes.{Names}
use Rattle.name_rules.specs.NameSteps.Units.{Tape}
use Rattle.resolve_laws.specs.NameLaws.NameLaws.{IsSound, tape_of_source}
use Rattle.type_rules.specs.Program.{Source, names_of}
use Rattle.name_tables.specs.declared.place_map.map.PlaceMap.{PlaceMap}
use Rattle.name_tables.specs.PlaceMap.Values.{value_at}
use Rattle.unit_starts.specs.PositionLaws.Positions.{positions_of, PositionsStand, PositionsAreCounted}
use Rattle.name_rules.specs.ShapeSteps.State.{nothing}
use Rattle.row_rules.specs.Annotations.{has_access}
use Rattle.row_rules.specs.Starting.{Start, Selection}
use Rattle.row_rules.specs.Sites.{functions_of, owners_among, sites_among, variables_among}
use Rattle.row_rules.specs.RowSteps.Found.{unit_rows}
use Rattle.row_rules.specs.RowSteps.Starting.{unit_starts, selections_found}
use Rattle.constraint_rules.specs.Systems as systems
use Rattle.constraint_rules.specs.Systems.{Program, world_of, starts_of, system_of}
use Rattle.row_laws.specs.Laws as row_laws
use Rattle.row_laws.specs.Laws.{ConstraintsAreFound}
use Rattle.row_laws.specs.StartLaws.Laws as start_laws
use Rattle.row_laws.specs.StartLaws.Laws.{StartsOfProgramAreFound, SelectionsOfProgramAreFound, found_on}
use Rattle.index_words.specs.Marks.{IndexMark, index_in}
use Rattle.unit_types.specs.Resolved.{Resolved, tapes_of}
use Rattle.c_types.specs.Sources.{UnitRead, lexed_of, sources_in}
use Rattle.unit_system.specs.SourceMarks.Marks.{mark_among}
use Rattle.unit_system.specs.Sharing.{meant_by}
use Rattle.unit_system.specs.Systems.{AreNumbered, Meant, names_on, starts_on, starts_among, selections_on, selections_among, rows_among, system_by, system_on}
use Rattle.row_laws.proofs.KeyLaws.Sound.{sound_of}
use Rattle.constraint_gen.specs.declared.generating.Generated.{Generated}
use Rattle.constraint_gen.specs.Listing.{is_listed, listed_at}
use Rattle.constraint_gen.specs.Programs.{listed_in, program_in}
use Rattle.constraint_gen.specs.Generating.{IsGenerated, IsProgramOf}

-- along tapes, source by source

-- the skeletons on the tapes of sources are those that the rules find in the sources
starts_by : (access : Bool) (s : Names) (sources : List Source)
    → starts_among access s (map tape_of_source sources) ≡ found_on access s sources
starts_by access s [] = refl
starts_by access s (it ∷ sources) =
    ap (λ (found : List Start). unit_starts access it.spelling s (tape_of it.items) ++ found)
    (starts_by access s sources)

-- the selections on the tapes of sources are those that the rules find in the sources
selections_by : (s : Names) (sources : List Source)
    → selections_among s (map tape_of_source sources) ≡ start_laws.selections_on s sources
selections_by s [] = refl
selections_by s (it ∷ sources) =
    ap (λ (found : List Selection). selections_found it.spelling s nothing (tape_of it.items) ++ found)
    (selections_by s sources)

-- what a program says of words
abbrev meant_of : Program → Meant
meant_of p = record { lattices = p.lattices; mark = p.mark; index = p.index }

-- the selections of a program
abbrev selections_of : List Source → List Selection
selections_of sources = systems.selections_among (names_of sources) sources

-- the constraints on the tapes of a program's sources are those that the rules find in the sources
rows_by : (p : Program) (sources : List Source)
    → rows_among (meant_of p) (names_of p.sources) (starts_of (has_access p.lattices) p.sources)
    (selections_of p.sources)
    (map tape_of_source sources)
    ≡ row_laws.rows_among p sources
rows_by p [] = refl
rows_by p (it ∷ sources) =
    ap (λ (found : List Constraint). unit_rows (world_of p it) (tape_of it.items) ++ found) (rows_by p sources)

-- what the laws of start_laws and row_laws say
pub record Laws : Type 0 where
  pub starts : StartsOfProgramAreFound
  pub selections : SelectionsOfProgramAreFound
  pub rows : ConstraintsAreFound

module _ (it : Resolved) (sources : List Source) (sound : All IsSound sources) (named : names_on it ≡ names_of sources)
    (taped : tapes_of it.units ≡ map tape_of_source sources) where
  -- where skeletons begin
  pub starts_are : StartsOfProgramAreFound → (access : Bool) → starts_on access it ≡ starts_of access sources
  starts_are law access =
      ap (λ (s : Names). starts_among access s (tapes_of it.units)) named
      ∙ ap (λ (tapes : List Tape). starts_among access (names_of sources) tapes) taped
      ∙ starts_by access (names_of sources) sources
      ∙ law access sources sound

  -- the candidates of selections
  selections_are : SelectionsOfProgramAreFound → selections_on it ≡ selections_of sources
  selections_are law =
      ap (λ (s : Names). selections_among s (tapes_of it.units)) named
      ∙ ap (λ (tapes : List Tape). selections_among (names_of sources) tapes) taped
      ∙ selections_by (names_of sources) sources
      ∙ law sources

  -- the variables are as many as their positions
  pub counted : StartsOfProgramAreFound → PositionsAreCounted → (access : Bool)
      → variables_among (starts_on access it) ≡ length (positions_of (starts_of access sources))
  counted starts law access = ap variables_among (starts_are starts access) ∙ sym (law (starts_of access sources))

  module _ (lattices : List LatticeView) (mark : Place → Option (ℕ × ℕ)) (index : Place → List ℕ) where
    abbrev whole : Program
    whole = record { sources = sources; lattices = lattices; mark = mark; index = index }

    abbrev access : Bool
    access = has_access lattices

    system_is : Laws → system_on (meant_of whole) it ≡ system_of whole
    system_is laws =
        ap
        (λ (s : Names). system_by (meant_of whole) s (starts_on access it) (selections_on it) (tapes_of it.units)) named
        ∙ ap (λ (all : List Start).
        system_by (meant_of whole) (names_of sources) all (selections_on it) (tapes_of it.units))
        (starts_are laws.starts access)
        ∙ ap (λ (all : List Selection).
        system_by (meant_of whole) (names_of sources) (starts_of access sources) all (tapes_of it.units))
        (selections_are laws.selections)
        ∙ ap (λ (tapes : List Tape).
        system_by (meant_of whole) (names_of sources) (starts_of access sources) (selections_of sources) tapes) taped
        ∙ ap (λ (cs : List Constraint). let r : System = record {
          constraints = cs;
          sites = sites_among (functions_of (names_of sources)) (starts_of access sources);
          owners = owners_among (functions_of (names_of sources)) (starts_of access sources);
        } in r)
        (rows_by whole sources ∙ laws.rows whole sound)

-- of units as they were read, where the elements that words name are found by their places
module _ (it : Resolved) (all : List UnitRead) (units : List Lexed) (is : IsProgramOf all units it)
    (lattices : List LatticeView)
    (marks : PlaceMap (ℕ × ℕ)) (prelude : List IndexMark)
    (marked : (p : Place) → value_at marks p ≡ mark_among units p) where
  -- the marks are those of the units
  marked_all : (p : Place) → value_at marks p ≡ mark_among (lexed_of all) p
  marked_all p = marked p ∙ ap (λ (ls : List Lexed). mark_among ls p) is.lexed

  pub system_found : Laws → system_on (meant_by lattices marks prelude) it ≡ system_of (program_in lattices prelude all)
  system_found laws =
      ap (λ (m : Place → Option (ℕ × ℕ)).
      let meant : Meant = record { lattices = lattices; mark = m; index = index_in prelude } in
      system_on meant it) (fun_ext marked_all)
      ∙ system_is it (sources_in all) (sound_of (sources_in all) is.read) is.named is.taped lattices
      (mark_among (lexed_of all)) (index_in prelude) laws

-- what is listed, by the tokens, the names and the skeletons that were found
listed_by : (all : List UnitRead) (p : Program) (units : List Lexed) (s : Names) (starts : List Start)
    → units ≡ lexed_of all
    → s ≡ names_of p.sources → starts ≡ starts_of (has_access p.lattices) p.sources
    → listed_at (is_listed units s) 0 (positions_of starts) ≡ listed_in all p
listed_by all p units s starts lexed named begun =
    ap (λ (ls : List Lexed). listed_at (is_listed ls s) 0 (positions_of starts)) lexed
    ∙ ap (λ (ns : Names). listed_at (is_listed (lexed_of all) ns) 0 (positions_of starts)) named
    ∙ ap (λ (ss : List Start). listed_at (is_listed (lexed_of all) (names_of p.sources)) 0 (positions_of ss)) begun

-- all that is said of what was generated
module _ (it : Resolved) (all : List UnitRead) (units : List Lexed) (is : IsProgramOf all units it)
    (lattices : List LatticeView)
    (prelude : List IndexMark) where
  pub generated : StartsOfProgramAreFound → PositionsAreCounted → PositionsStand → (g : Generated)
      → g.graph ≡ system_of (program_in lattices prelude all)
      → AreNumbered (starts_on (has_access lattices) it) g.skeletons
      → g.listed.items ≡ listed_at (is_listed units (names_on it)) 0 (positions_of (starts_on (has_access lattices) it))
      → IsGenerated all (program_in lattices prelude all) g
  generated starts count stand g system numbered listed =
      let access = has_access lattices in
      let begun = starts_are it (sources_in all) (sound_of (sources_in all) is.read) is.named is.taped starts access in
      let are = subst (λ found. AreNumbered found g.skeletons) begun numbered in record {
        system = system;
        count = are.count ∙ sym (count (starts_of access (sources_in all)));
        stand = λ q v stands. stand g.skeletons.vars (starts_of access (sources_in all)) are.marked q v stands;
        skeletons = are;
        listed = listed
            ∙ listed_by all (program_in lattices prelude all) units (names_on it)
            (starts_on access it) is.lexed is.named begun;
      }
