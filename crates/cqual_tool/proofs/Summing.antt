-- The sum of what is found in a source that the tool makes itself.
use Rattle.std.proofs.Common.{◌≡◌, ◌<◌, ◌≤◌, ◌+◌, ◌-◌, ℕ, false, List, [], ◌∷◌, length, codes, refl, sym, ◌∙◌, ap, subst}
use Rattle.lattice_core.specs.View.{LatticeView, orders_of}
use Rattle.c_types.specs.Sources.{UnitRead}
use Rattle.index_words.specs.Marks.{IndexMark}
use Rattle.flow_graph.specs.System.{System}
use Rattle.flow_graph.specs.Unfolding.{IsAccepted}
use Rattle.annotate.specs.Reports.{ErrorCount}
use Rattle.generated_source.specs.declared.summary.Counts.{Counts}
use Rattle.generated_source.specs.Source.{generated_text, lattice_text}
use Rattle.generated_source.specs.Summary.{summary_text}
use Rattle.cqual_tool.specs.declared.answer.Answer.{Answer}
use Rattle.cqual_tool.specs.declared.preparing.Ready.{Ready}
use Rattle.cqual_tool.specs.declared.status.Status.{Status}
use Rattle.cqual_tool.specs.declared.status.Status.TheVariants.{Malformed}
use Rattle.cqual_tool.specs.Statuses.{Says}
use Rattle.cqual_tool.specs.Texts.{malformed_line}
use Rattle.cqual_tool.specs.Words.{FileNames}
use Rattle.cqual_tool.specs.Inputs.{files_with}
use Rattle.cqual_tool.specs.Programs.{Judging, judging_of}
use Rattle.cqual_tool.specs.Preparing.{IsReady}
use Rattle.cqual_tool.specs.Outcome.{IsSummed, LatticesRead, MadeRead, NoSource, NotCounted, NotParsed, OfMade, OfSources, OneSource, Refused, SourceParses, SourceRefused, SourcesParse, SourcesRead, SummedUp, TooLarge, UnitsRefused, made_names, source_limit, sum_status, total_limit}
use Rattle.cqual_tool.proofs.Outcomes.{at_equal}

-- counts are the record of their four numbers
counts_are : (counts : Counts) (v c s e : ℕ) → counts.variables ≡ v → counts.constraints ≡ c → counts.sites ≡ s
    → counts.errors ≡ e
    → counts ≡ record { variables = v; constraints = c; sites = s; errors = e }
counts_are counts v c s e one two three four =
    ap (λ (n : ℕ).
    record { variables = n; constraints = counts.constraints; sites = counts.sites; errors = counts.errors }) one
    ∙ ap (λ (n : ℕ). record { variables = v; constraints = n; sites = counts.sites; errors = counts.errors }) two
    ∙ ap (λ (n : ℕ). record { variables = v; constraints = c; sites = n; errors = counts.errors }) three
    ∙ ap (λ (n : ℕ). record { variables = v; constraints = c; sites = s; errors = n }) four

-- the counts of a program with the number of its errors are its sum, with the status that the errors give
pub summed_as : (number errors : ℕ) (it : Judging) (sys : System) (counts : Counts) (status : Status) (text : List ℕ)
    → it.system ≡ sys
    → status ≡ sum_status errors → text ≡ summary_text number counts → counts.variables ≡ length it.scene.positions
    → counts.constraints ≡ length sys.constraints → counts.sites ≡ length sys.sites → counts.errors ≡ errors
    → ErrorCount it.scene sys (length sys.constraints) errors
    → (errors ≡ 0 → IsAccepted sys (orders_of it.scene.lattices))
    → (0 < errors → IsAccepted sys (orders_of it.scene.lattices) → ⊥) → IsSummed number it status text
summed_as number errors it sys counts status text system same spelled variables constraints sites count found holds
    fails =
    let all = counts_are counts (length it.scene.positions) (length it.system.constraints)
    (length it.system.sites) errors variables
    (constraints ∙ ap (λ (s : System). length s.constraints) (sym system))
    (sites ∙ ap (λ (s : System). length s.sites) (sym system)) count in
    at_equal (IsSummed number it) status (sum_status errors) text _ same (spelled ∙ ap (summary_text number) all)
    (SummedUp errors (subst (λ (s : System). ErrorCount it.scene s (length s.constraints) errors) (sym system) found)
    (subst (λ (s : System). errors ≡ 0 → IsAccepted s (orders_of it.scene.lattices)) (sym system) holds)
    (subst (λ (s : System). 0 < errors → IsAccepted s (orders_of it.scene.lattices) → ⊥) (sym system) fails))

-- what is answered of the source that the tool makes itself, by its bytes

module _ (number : ℕ) (lattices : List LatticeView) (bytes : List ℕ) where
  abbrev OfSource : Status → List ℕ → Type 0
  OfSource =
      OfSources made_names lattices [] [] (IsSummed number) 1 total_limit (files_with made_names.sources (bytes ∷ []))

  pub made_too_large : (answer : Answer) → source_limit < length bytes
      → Says Malformed (malformed_line (codes "generated.c") (codes "F2")) answer
      → OfSource answer.status answer.text.items
  made_too_large answer large says =
      at_equal OfSource answer.status Malformed answer.text.items
      (malformed_line (codes "generated.c") (codes "F2")) says.0 says.1
      (NotParsed _ (TooLarge 1 total_limit (codes "generated.c", bytes) [] large))

  module _ (within : length bytes ≤ source_limit) where
    pub made_unread : (answer : Answer) → answer.status ≡ Malformed
        → SourceRefused false lattices 1 (codes "generated.c") bytes answer.text.items
        → OfSource answer.status answer.text.items
    made_unread answer status is =
        at_equal OfSource answer.status Malformed answer.text.items answer.text.items status refl
        (NotParsed answer.text.items
        (Refused 1 total_limit (codes "generated.c", bytes) [] answer.text.items within is))

    module _ (unit : UnitRead) (parses : SourceParses false lattices 1 bytes unit) where
      made_parse : SourcesParse false lattices 1 total_limit (files_with made_names.sources (bytes ∷ [])) (unit ∷ [])
      made_parse =
          OneSource 1 total_limit (codes "generated.c", bytes) [] unit [] within parses
          (NoSource (1 + 1) (total_limit - length bytes))

      pub made_refused : (named : FileNames) (marks : List IndexMark) (answer : Answer) → named ≡ made_names
          → marks ≡ []
          → (answer.status ≡ Malformed) × UnitsRefused named lattices marks (unit ∷ []) answer.text.items
          → OfSource answer.status answer.text.items
      made_refused named marks answer names none is =
          let text = answer.text.items in
          at_equal OfSource answer.status Malformed text text is.0 refl
          (NotCounted (unit ∷ []) text made_parse
          (subst (λ (ms : List IndexMark). UnitsRefused made_names lattices ms (unit ∷ []) text) none
          (subst (λ (ns : FileNames). UnitsRefused ns lattices marks (unit ∷ []) text) names is.1)))

      pub made_ready : (named : FileNames) (marks : List IndexMark) (ready : Ready) → named ≡ made_names → marks ≡ []
          → IsReady named lattices marks (unit ∷ []) ready → IsReady made_names lattices [] (unit ∷ []) ready
      made_ready named marks ready names none is =
          subst (λ (ms : List IndexMark). IsReady made_names lattices ms (unit ∷ []) ready) none
          (subst (λ (ns : FileNames). IsReady ns lattices marks (unit ∷ []) ready) names is)

      pub made_summed : (ready : Ready) (status : Status) (text : List ℕ)
          → IsReady made_names lattices [] (unit ∷ []) ready
          → IsSummed number (judging_of made_names lattices [] (unit ∷ [])) status text → OfSource status text
      made_summed ready status text is sum = SourcesRead (unit ∷ []) status text made_parse is.counted sum

pub of_its_bytes : (number : ℕ) (lattices : List LatticeView) (bytes : List ℕ) (status : Status) (text : List ℕ)
    → bytes ≡ generated_text number
    → LatticesRead false lattice_text lattices → OfSource number lattices bytes status text → OfMade number status text
of_its_bytes number lattices bytes status text same read is =
    MadeRead lattices status text read (subst (λ (b : List ℕ). OfSource number lattices b status text) same is)
