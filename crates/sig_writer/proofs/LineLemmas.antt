-- What the nodes of a function say gives its line, and why it has none.
use Rattle.std.proofs.Common.{◌≡◌, ℕ, suc, ◌+◌, ◌-◌, ◌<◌, ◌||◌, arith, Bool, true, false, not, List, [], ◌∷◌, ◌++◌}
use Rattle.std.proofs.Common.{codes, Option, None, Some, refl, sym, ◌∙◌, ap, if◌then◌else◌}
use Rattle.std.specs.List.{list_any}
use Rattle.lattice_core.specs.View.{LatticeView}
use Rattle.qual_types.specs.Skel.{root, Skel}
use Rattle.name_rules.specs.Spellings.{Place}
use Rattle.annotate.specs.Texts.{line}
use Rattle.sig_writer.specs.declared.lines.SigFault.{SigFault}
use Rattle.sig_writer.specs.declared.lines.SigFault.TheVariants.{Unwritable, NoSign, NoMemory}
use Rattle.sig_writer.specs.declared.refusals.Refusal as lent
use Rattle.sig_writer.specs.declared.refusals.Refusal.TheVariants as kinds
use Rattle.sig_writer.specs.Signatures.{declared_text, has_line, is_unplaced, is_unsigned, lacks_words, line_of}
use Rattle.sig_writer.specs.Signatures.{nodes_of, refusal_of}
use Rattle.sig_writer.specs.Signatures.{says, says_nothing, unplaced, words_in, words_of, or_refusal, External, Found}
use Rattle.sig_writer.specs.Signatures.{Refusal, NoPlace, NoWord, Says}
use Rattle.sig_writer.specs.Nodes.{numbers}
use Rattle.sig_writer.specs.Saying.{said_at, some_says, AreSaid, Saying}
use Rattle.sig_writer.specs.Refusing.{refusal_at, refusal_in, some_unplaced, some_unsigned}
use Rattle.sig_writer.specs.Library.{line_by, some_fault, FaultOr}
use Rattle.sig_writer.proofs.Agreeing.{any_same, declared_same, placeless_in}

-- ---- whether something is said

-- where nothing is said at a node, the others say what all do
pub says_later : (said : Saying) (n to : ℕ) → n < to → not (says_nothing (said_at said n)) ≡ false →
    some_says said (numbers (to - (n + 1)) (n + 1)) ≡ some_says said (numbers (to - n) n)
says_later said n to less silent =
    let count : to - n ≡ suc (to - (n + 1)) = omega (arith, less) in
    let next : n + 1 ≡ suc n = omega arith in
    sym (ap (λ k. some_says said (numbers k n)) count
    ∙ ap (λ b. b || some_says said (numbers (to - (n + 1)) (suc n))) silent
    ∙ ap (λ m. some_says said (numbers (to - (n + 1)) m)) (sym next))

-- ---- the line

-- the line by an equal test and an equal text is the same
line_if : (b c : Bool) (text other : List ℕ) → b ≡ c → text ≡ other →
    line_by b text ≡ (if c then line (other ++ codes ";") else [])
line_if b c text other test same = ap (λ t. line_by b t) same ∙ ap (λ x. line_by x other) test ∙ by_test c
  where
    by_test : (b : Bool) → line_by b other ≡ (if b then line (other ++ codes ";") else [])
    by_test true = refl
    by_test false = refl

-- some node of a function says something as the code holds it exactly where it does as it is found
speaks : (it : Found) (f : External) (said : Saying) → AreSaid it (nodes_of f) said →
    some_says said said.vars ≡ list_any (λ v. not (says_nothing (says it (nodes_of f) v))) (nodes_of f)
speaks it f said are =
    ap (λ vars. some_says said vars) are.vars_are
    ∙ any_same (λ v. not (says_nothing (said_at said v))) (λ v. not (says_nothing (says it (nodes_of f) v)))
    (nodes_of f)
    (λ v h. ap (λ (s : Says). not (says_nothing s)) (are.says_are v h))

-- the line by what is held of a function's nodes is its line by what is found
pub line_is : (it : Found) (lattice : LatticeView) (f : External) (said : Saying) → AreSaid it (nodes_of f) said →
    line_by (some_says said said.vars)
    (declared_text (λ v. words_of lattice (said_at said v)) f.skel f.name) ≡ line_of it lattice f
line_is it lattice f said are =
    let words : ℕ → List (List ℕ) = λ v. words_of lattice (said_at said v) in
    line_if (some_says said said.vars) (has_line it f) (declared_text words f.skel f.name)
    (declared_text (words_in it lattice f) f.skel f.name)
    (speaks it f said are)
    (declared_same words (words_in it lattice f) f.skel f.name (λ v h. ap (words_of lattice) (are.says_are v h)))

-- ---- the refusal

-- something is held where no word has a place exactly where something is found there
unplaced_is : (it : Found) (f : External) (said : Saying) → AreSaid it (nodes_of f) said →
    some_unplaced said f.skel ≡ is_unplaced it f
unplaced_is it f said are =
    any_same (λ v. not (says_nothing (said_at said v))) (λ v. not (says_nothing (says it (nodes_of f) v)))
    (root f.skel ∷ unplaced f.skel)
    (λ v h. ap (λ (s : Says). not (says_nothing s)) (are.says_are v (placeless_in f.skel v h)))

-- a node wants words by what is held exactly where it does by what is found
unsigned_is : (it : Found) (lattice : LatticeView) (f : External) (said : Saying) → AreSaid it (nodes_of f) said →
    some_unsigned lattice said ≡ is_unsigned it lattice f
unsigned_is it lattice f said are =
    ap (list_any (λ v. lacks_words lattice (said_at said v))) are.vars_are
    ∙ any_same (λ v. lacks_words lattice (said_at said v)) (λ v. lacks_words lattice (says it (nodes_of f) v))
    (nodes_of f)
    (λ v h. ap (lacks_words lattice) (are.says_are v h))

abbrev pub at_place : Place → Option lent.Refusal → Option Refusal
at_place p None = None
at_place p (Some refusal) = Some (refusal_at refusal p)

-- a refusal at a place by two tests is that of the place, first for no place and then for no word
by_tests : (p : Place) (a b : Bool) →
    at_place p (if a then Some kinds.NoPlace else if b then Some kinds.NoWord else None)
    ≡ (if a then Some (NoPlace p) else if b then Some (NoWord p) else None)
by_tests p true b = refl
by_tests p false true = refl
by_tests p false false = refl

-- the refusal by what is held of a function's nodes is the refusal by what is found
pub refusal_is : (it : Found) (lattice : LatticeView) (f : External) (said : Saying) → AreSaid it (nodes_of f) said →
    at_place f.place (refusal_in lattice said f.skel) ≡ refusal_of it lattice f
refusal_is it lattice f said are =
    by_tests f.place (some_unplaced said f.skel) (some_unsigned lattice said)
    ∙ ap (λ a. if a then Some (NoPlace f.place) else if some_unsigned lattice said then Some (NoWord f.place) else None)
    (unplaced_is it f said are)
    ∙ ap (λ b. if is_unplaced it f then Some (NoPlace f.place) else if b then Some (NoWord f.place) else None)
    (unsigned_is it lattice f said are)

-- a fault that says a refusal is that refusal
pub fault_is : (fault : SigFault) (refusal : Option Refusal) → some_fault fault ≡ refusal → FaultOr fault refusal
fault_is (Unwritable p) refusal is = sym is
fault_is (NoSign p) refusal is = sym is
fault_is NoMemory refusal is = tt

-- what a fault says of a function it says of those that begin with it
pub fault_first : (fault : SigFault) (refusal other all : Option Refusal) → FaultOr fault refusal →
    all ≡ or_refusal refusal other →
    FaultOr fault all
fault_first (Unwritable p) refusal other all is first = first ∙ ap (λ r. or_refusal r other) is
fault_first (NoSign p) refusal other all is first = first ∙ ap (λ r. or_refusal r other) is
fault_first NoMemory refusal other all is first = tt

-- ---- as the code has them

module _ (it : Found) (lattice : LatticeView) (f : External) (said : Saying) (are : AreSaid it (nodes_of f) said)
    (s : Skel) (skel : s ≡ f.skel) where
  -- a function that is refused
  pub refused : (found : Option lent.Refusal) (refusal : lent.Refusal) (fault : SigFault) →
      found ≡ refusal_in lattice said s →
      found ≡ Some refusal → some_fault fault ≡ Some (refusal_at refusal f.place) →
      FaultOr fault (refusal_of it lattice f)
  refused found refusal fault is some says = fault_is fault (refusal_of it lattice f)
      (says ∙ ap (at_place f.place) (sym some ∙ is ∙ ap (refusal_in lattice said) skel)
      ∙ refusal_is it lattice f said are)

  pub not_refused : (found : Option lent.Refusal) → found ≡ refusal_in lattice said s → found ≡ None →
      refusal_of it lattice f ≡ None
  not_refused found is none =
      sym (refusal_is it lattice f said are)
      ∙ sym (ap (at_place f.place) (sym none ∙ is ∙ ap (refusal_in lattice said) skel))

  -- its line
  pub lined : (name : List ℕ) → name ≡ f.name →
      line_by (some_says said said.vars)
      (declared_text (λ v. words_of lattice (said_at said v)) s name) ≡ line_of it lattice f
  lined name named =
      ap (λ x. line_by (some_says said said.vars) (declared_text (λ v. words_of lattice (said_at said v)) x name)) skel
      ∙ ap (λ n. line_by (some_says said said.vars)
      (declared_text (λ v. words_of lattice (said_at said v)) f.skel n)) named
      ∙ line_is it lattice f said are
